-- Two reports in which no search was left tell the same, but for the cars.
use Rattle.std.proofs.Common.{◌≡◌, ℕ, suc, ◌+◌, ◌==◌, Bool, true, false, not, ◌&&◌, ◌||◌, cond, inl, inr, List, [], ◌∷◌, Option, Some, None, Result, Ok, Err, length, map, refl, sym, ap, ap₂, subst, ◌∙◌}
use Rattle.std.specs.List.{AllByRecursion, AllZip, list_any}
use Rattle.std.specs.Option.{IfSome, option_map}
use Rattle.std.proofs.lemmas.Bool.{and_from, and_parts, both_ways, eqb-true, false≢true, not-true, not_from_false, or_cases, or_from, or_parts, true≢false}
use Rattle.std.proofs.lemmas.List.{length-map, nil_from_length}
use Rattle.shared_work.proofs.SameLaws.{parts_same}
use Rattle.pb_base.specs.InParts.{InParts}
use Rattle.pb_base.specs.Rule.{Rule}
use Rattle.book_model.specs.Contents.{Contents}
use Rattle.book_model.specs.declared.record.Slice.{Slice}
use Rattle.requirements.specs.declared.requirement.Claim.{Claim}
use Rattle.requirements.specs.declared.requirement.Claim.TheVariants.{Meets, Uses}
use Rattle.requirements.specs.declared.requirement.Requirement.{Requirement}
use Rattle.rules_met.specs.Met.{IsAnswer, meets_rule}
use Rattle.rules_met.specs.declared.answer.RuleAnswer.{RuleAnswer}
use Rattle.rules_met.specs.declared.answer.RuleAnswer.TheVariants.{Met, NotMet, Left}
use Rattle.kept_requirements.specs.Kept.{broken_rule, is_asked}
use Rattle.kept_requirements.specs.Notes.{IsCell, IsMeant, IsPart, IsReport, OwnNotes, added, extended, extends, failing, failing_behind, further, idle_or, is_about_part, is_failing, is_left, is_meant, is_met, is_none, is_undecided, is_unmet, lines_of, note_of, present, runs_of, runs_on, told_by, undecided_on, with_run}
use Rattle.kept_requirements.specs.declared.cells.Part.{Part}
use Rattle.kept_requirements.specs.declared.note.RequirementNote.{RequirementNote}
use Rattle.kept_requirements.specs.declared.note.RequirementNote.TheVariants.{Fails, Idle, Undecided}
use Rattle.requirement_laws.specs.Reports.{AreDecided, TellSame, bare}

abbrev IsDecided : RequirementNote → Type 0
IsDecided note = is_undecided note ≡ false

abbrev AllDecided : List RequirementNote → Type 0
AllDecided notes = AllByRecursion IsDecided notes

each_decided : (notes : List RequirementNote) → AreDecided notes → AllDecided notes
each_decided [] h = tt
each_decided (note ∷ notes) h = let both = or_parts (is_undecided note) (list_any is_undecided notes) h in (both.0, each_decided notes both.1)

-- notes without their cars are joined as the notes are
bare_extends : (before note : RequirementNote) → extends (bare before) (bare note) ≡ extends before note
bare_extends (Fails id first last car) (Fails other from to shown) = refl
bare_extends (Fails id first last car) (Idle other) = refl
bare_extends (Fails id first last car) (Undecided other from to) = refl
bare_extends (Idle id) (Fails other from to shown) = refl
bare_extends (Idle id) (Idle other) = refl
bare_extends (Idle id) (Undecided other from to) = refl
bare_extends (Undecided id first last) (Fails other from to shown) = refl
bare_extends (Undecided id first last) (Idle other) = refl
bare_extends (Undecided id first last) (Undecided other from to) = refl

bare_extended : (before note : RequirementNote) → bare (extended before note) ≡ extended (bare before) (bare note)
bare_extended (Fails id first last car) (Fails other from to shown) = refl
bare_extended (Fails id first last car) (Idle other) = refl
bare_extended (Fails id first last car) (Undecided other from to) = refl
bare_extended (Idle id) note = refl
bare_extended (Undecided id first last) (Fails other from to shown) = refl
bare_extended (Undecided id first last) (Idle other) = refl
bare_extended (Undecided id first last) (Undecided other from to) = refl

bare_pair : (t : Bool) (before note : RequirementNote)
    → map bare (cond t (extended before note ∷ []) (before ∷ note ∷ [])) ≡ cond t (extended (bare before) (bare note) ∷ []) (bare before ∷ bare note ∷ [])
bare_pair true before note = ap (λ (n : RequirementNote). n ∷ []) (bare_extended before note)
bare_pair false before note = refl

bare_added : (notes : List RequirementNote) (note : RequirementNote) → map bare (added notes note) ≡ added (map bare notes) (bare note)
bare_added [] note = refl
bare_added (before ∷ []) note =
    bare_pair (extends before note) before note
    ∙ ap (λ (t : Bool). cond t (extended (bare before) (bare note) ∷ []) (bare before ∷ bare note ∷ [])) (sym (bare_extends before note))
bare_added (before ∷ next ∷ more) note = ap (λ (ns : List RequirementNote). bare before ∷ ns) (bare_added (next ∷ more) note)

-- what is told of one slice after the other, put together
abbrev all_runs : List RequirementNote → List (Option RequirementNote) → List RequirementNote
all_runs notes [] = notes
all_runs notes (told ∷ more) = all_runs (with_run notes told) more

runs_are : (unmet : Bool) (id : List ℕ) (notes : List RequirementNote) (ps : List Part) → runs_on unmet id notes ps ≡ all_runs notes (map (note_of unmet id) ps)
runs_are unmet id notes [] = refl
runs_are unmet id notes (p ∷ ps) = runs_are unmet id (with_run notes (note_of unmet id p)) ps

bare_run : (notes : List RequirementNote) (told : Option RequirementNote) → map bare (with_run notes told) ≡ with_run (map bare notes) (option_map bare told)
bare_run notes None = refl
bare_run notes (Some note) = bare_added notes note

bare_runs : (notes : List RequirementNote) (all : List (Option RequirementNote)) → map bare (all_runs notes all) ≡ all_runs (map bare notes) (map (option_map bare) all)
bare_runs notes [] = refl
bare_runs notes (told ∷ more) =
    bare_runs (with_run notes told) more ∙ ap (λ (ns : List RequirementNote). all_runs ns (map (option_map bare) more)) (bare_run notes told)

-- where no run was left, nothing was left on a slice
extended_decided : (before note : RequirementNote) → extends before note ≡ true → IsDecided (extended before note) → IsDecided before × IsDecided note
extended_decided (Fails id first last car) (Fails other from to shown) e h = (refl, refl)
extended_decided (Fails id first last car) (Idle other) e h = (refl, refl)
extended_decided (Fails id first last car) (Undecided other from to) e h = absurd (false≢true e)
extended_decided (Idle id) (Fails other from to shown) e h = (refl, refl)
extended_decided (Idle id) (Idle other) e h = (refl, refl)
extended_decided (Idle id) (Undecided other from to) e h = absurd (false≢true e)
extended_decided (Undecided id first last) note e h = absurd (true≢false h)

pair_decided : (t : Bool) (before note : RequirementNote) → extends before note ≡ t → AllDecided (cond t (extended before note ∷ []) (before ∷ note ∷ []))
    → IsDecided before × IsDecided note
pair_decided true before note e h = extended_decided before note e h.0
pair_decided false before note e h = (h.0, h.1.0)

added_decided : (notes : List RequirementNote) (note : RequirementNote) → AllDecided (added notes note) → AllDecided notes × IsDecided note
added_decided [] note h = (tt, h.0)
added_decided (before ∷ []) note h = let both = pair_decided (extends before note) before note refl h in ((both.0, tt), both.1)
added_decided (before ∷ next ∷ more) note h = let rest = added_decided (next ∷ more) note h.1 in ((h.0, rest.0), rest.1)

abbrev NoneLeft : List (Option RequirementNote) → Type 0
NoneLeft all = AllByRecursion (λ (told : Option RequirementNote). IfSome told IsDecided) all

runs_decided : (notes : List RequirementNote) (all : List (Option RequirementNote)) → AllDecided (all_runs notes all) → AllDecided notes × NoneLeft all
runs_decided notes [] h = (h, tt)
runs_decided notes (None ∷ more) h = let rest = runs_decided notes more h in (rest.0, (tt, rest.1))
runs_decided notes (Some note ∷ more) h =
    let rest = runs_decided (added notes note) more h in
    let own = added_decided notes note rest.0 in
    (own.0, (own.1, rest.1))

-- what is told of a slice on which nothing was left, without its car
abbrev plain : List ℕ → Part → Option RequirementNote
plain id p = cond (is_met p.broken) (Some (Fails id p.first p.last [])) None

abbrev IsTold : RuleAnswer → Bool → List ℕ → Part → Type 0
IsTold answer unmet id p = IfSome (told_by answer unmet id p) IsDecided

told_plain : (answer : RuleAnswer) (unmet : Bool) (id : List ℕ) (p : Part) → IsTold answer unmet id p
    → option_map bare (told_by answer unmet id p) ≡ cond (is_met answer) (Some (Fails id p.first p.last [])) None
told_plain (Met x) unmet id p h = refl
told_plain Left unmet id p h = absurd (true≢false h)
told_plain NotMet unmet id p h = by (unmet && is_left p.meant) h
  where
    by : (t : Bool) → IfSome (cond t (Some (undecided_on id p)) None) IsDecided → option_map bare (cond t (Some (undecided_on id p)) None) ≡ None
    by true k = absurd (true≢false k)
    by false k = refl

not_left : (answer : RuleAnswer) (unmet : Bool) (id : List ℕ) (p : Part) → IsTold answer unmet id p → is_left answer ≡ false
not_left (Met x) unmet id p h = refl
not_left NotMet unmet id p h = refl
not_left Left unmet id p h = absurd (true≢false h)

meant_not_left : (answer : RuleAnswer) (id : List ℕ) (p : Part) → is_met answer ≡ false → IsTold answer true id p → is_left p.meant ≡ false
meant_not_left (Met x) id p none h = absurd (true≢false none)
meant_not_left Left id p none h = absurd (true≢false h)
meant_not_left NotMet id p none h = by (is_left p.meant) h
  where
    by : (t : Bool) → IfSome (cond t (Some (undecided_on id p)) None) IsDecided → t ≡ false
    by true k = absurd (true≢false k)
    by false k = refl

abbrev AreTold : Bool → List ℕ → List Part → Type 0
AreTold unmet id ps = NoneLeft (map (note_of unmet id) ps)

all_plain : (unmet : Bool) (id : List ℕ) (ps : List Part) → AreTold unmet id ps → map (option_map bare) (map (note_of unmet id) ps) ≡ map (plain id) ps
all_plain unmet id [] h = refl
all_plain unmet id (p ∷ ps) h =
    ap₂ (λ (told : Option RequirementNote) (more : List (Option RequirementNote)). told ∷ more) (told_plain p.broken unmet id p h.0) (all_plain unmet id ps h.1)

runs_plain : (unmet : Bool) (id : List ℕ) (ps : List Part) → AreTold unmet id ps → map bare (runs_on unmet id [] ps) ≡ all_runs [] (map (plain id) ps)
runs_plain unmet id ps h =
    ap (map bare) (runs_are unmet id [] ps) ∙ bare_runs [] (map (note_of unmet id) ps) ∙ ap (all_runs []) (all_plain unmet id ps h)

runs_told : (unmet : Bool) (id : List ℕ) (ps : List Part) → AllDecided (runs_on unmet id [] ps) → AreTold unmet id ps
runs_told unmet id ps h = (runs_decided [] (map (note_of unmet id) ps) (subst AllDecided (runs_are unmet id [] ps) h)).1

-- two answers to one question
module _ (b : Contents) (day budget other : ℕ) where
  same_met : (f : Rule) (a d : RuleAnswer) → IsAnswer b day budget f a → IsAnswer b day other f d → is_left a ≡ false → is_left d ≡ false → is_met a ≡ is_met d
  same_met f (Met x) (Met y) h k l m = refl
  same_met f (Met x) NotMet h k l m = absurd (both_ways (meets_rule b day f x) (k x h.0) h.1)
  same_met f (Met x) Left h k l m = absurd (true≢false m)
  same_met f NotMet (Met y) h k l m = absurd (both_ways (meets_rule b day f y) (h y k.0) k.1)
  same_met f NotMet NotMet h k l m = refl
  same_met f NotMet Left h k l m = absurd (true≢false m)
  same_met f Left d h k l m = absurd (true≢false l)

  never_met : (f : Rule) (a d : RuleAnswer) → IsAnswer b day budget f a → IsAnswer b day other f d → is_met a ≡ false → is_left a ≡ false → is_met d ≡ false
  never_met f (Met x) d h k none l = absurd (true≢false none)
  never_met f Left d h k none l = absurd (true≢false l)
  never_met f NotMet (Met y) h k none l = absurd (both_ways (meets_rule b day f y) (h y k.0) k.1)
  never_met f NotMet NotMet h k none l = refl
  never_met f NotMet Left h k none l = refl

  never_meant : (c : Claim) (a d : RuleAnswer) → is_about_part c ≡ true → IsMeant b day budget c a → IsMeant b day other c d → is_met a ≡ false → is_left a ≡ false
      → is_met d ≡ false
  never_meant (Meets rule) a d about h k none l = absurd (false≢true about)
  never_meant (Uses part rule) a d about h k none l = never_met rule a d h k none l

-- what two reports have of a requirement on one slice
record AreFacing (b : Contents) (r : Requirement) (budget other : ℕ) (p q : Part) : Type 0 where
  slice : Slice
  own : IsPart b budget slice r p
  next : IsPart b other slice r q

facing : (b : Contents) (r : Requirement) (budget other : ℕ) (slices : List Slice) (cells others : List (Option Part))
    → AllZip (λ (s : Slice) (cell : Option Part). IsCell b budget s r cell) slices cells
    → AllZip (λ (s : Slice) (cell : Option Part). IsCell b other s r cell) slices others → AllZip (AreFacing b r budget other) (present cells) (present others)
facing b r budget other [] [] [] h k = tt
facing b r budget other [] [] (d ∷ others) h k = absurd k
facing b r budget other [] (c ∷ cells) others h k = absurd h
facing b r budget other (s ∷ slices) [] others h k = absurd h
facing b r budget other (s ∷ slices) (c ∷ cells) [] h k = absurd k
facing b r budget other (s ∷ slices) (None ∷ cells) (None ∷ others) h k = facing b r budget other slices cells others h.1 k.1
facing b r budget other (s ∷ slices) (None ∷ cells) (Some q ∷ others) h k = absurd (both_ways (is_asked r s) h.0 k.0.0)
facing b r budget other (s ∷ slices) (Some p ∷ cells) (None ∷ others) h k = absurd (both_ways (is_asked r s) k.0 h.0.0)
facing b r budget other (s ∷ slices) (Some p ∷ cells) (Some q ∷ others) h k =
    (record { slice = s; own = h.0.1; next = k.0.1 }, facing b r budget other slices cells others h.1 k.1)

turned : (b : Contents) (r : Requirement) (budget other : ℕ) (ps qs : List Part) → AllZip (AreFacing b r budget other) ps qs → AllZip (AreFacing b r other budget) qs ps
turned b r budget other [] [] h = tt
turned b r budget other [] (q ∷ qs) h = absurd h
turned b r budget other (p ∷ ps) [] h = absurd h
turned b r budget other (p ∷ ps) (q ∷ qs) h = (record { slice = h.0.slice; own = h.0.next; next = h.0.own }, turned b r budget other ps qs h.1)

same_length : {A B : Type 0} (R : A → B → Type 0) (xs : List A) (ys : List B) → AllZip R xs ys → length xs ≡ length ys
same_length R [] [] h = refl
same_length R [] (y ∷ ys) h = absurd h
same_length R (x ∷ xs) [] h = absurd h
same_length R (x ∷ xs) (y ∷ ys) h = ap suc (same_length R xs ys h.1)

same_test : (s t : Bool) → (s ≡ true → t ≡ true) → (t ≡ true → s ≡ true) → s ≡ t
same_test true t f g = sym (f refl)
same_test false true f g = g refl
same_test false false f g = refl

module _ (b : Contents) (r : Requirement) (budget other : ℕ) where
  plain_same : (p q : Part) → AreFacing b r budget other p q → is_left p.broken ≡ false → is_left q.broken ≡ false → plain r.id p ≡ plain r.id q
  plain_same p q f l m =
      let day = f.slice.first in
      let met = same_met b day budget other (broken_rule b day r.claim) p.broken q.broken f.own.broken f.next.broken l m in
      ap (λ (t : Bool). cond t (Some (Fails r.id p.first p.last [])) None) met
      ∙ ap (λ (n : ℕ). cond (is_met q.broken) (Some (Fails r.id n p.last [])) None) (f.own.first ∙ sym f.next.first)
      ∙ ap (λ (n : ℕ). cond (is_met q.broken) (Some (Fails r.id q.first n [])) None) (f.own.last ∙ sym f.next.last)

  all_same : (u v : Bool) (ps qs : List Part) → AllZip (AreFacing b r budget other) ps qs → AreTold u r.id ps → AreTold v r.id qs → map (plain r.id) ps ≡ map (plain r.id) qs
  all_same u v [] [] f h k = refl
  all_same u v [] (q ∷ qs) f h k = absurd f
  all_same u v (p ∷ ps) [] f h k = absurd f
  all_same u v (p ∷ ps) (q ∷ qs) f h k =
      ap₂ (λ (told : Option RequirementNote) (more : List (Option RequirementNote)). told ∷ more)
      (plain_same p q f.0 (not_left p.broken u r.id p h.0) (not_left q.broken v r.id q k.0)) (all_same u v ps qs f.1 h.1 k.1)

  -- where no car was found that meets the rule, and that was shown of each slice, the other report found none
  one_unmeant : (v : Bool) (p q : Part) → AreFacing b r budget other p q → is_about_part r.claim ≡ true → IsTold p.broken true r.id p → IsTold q.broken v r.id q
      → is_meant p ≡ false → is_meant q ≡ false
  one_unmeant v p q f about h k none =
      let day = f.slice.first in
      let parts = or_parts (is_met p.broken) (is_met p.meant) none in
      let broken = same_met b day budget other (broken_rule b day r.claim) p.broken q.broken f.own.broken f.next.broken (not_left p.broken true r.id p h) (not_left q.broken v r.id q k) in
      let meant = never_meant b day budget other r.claim p.meant q.meant about f.own.meant f.next.meant parts.1 (meant_not_left p.broken r.id p parts.0 h) in
      or_from (is_met q.broken) (is_met q.meant) (sym broken ∙ parts.0) meant

  all_unmeant : (v : Bool) (ps qs : List Part) → AllZip (AreFacing b r budget other) ps qs → is_about_part r.claim ≡ true → AreTold true r.id ps → AreTold v r.id qs
      → list_any is_meant ps ≡ false → list_any is_meant qs ≡ false
  all_unmeant v [] [] f about h k none = refl
  all_unmeant v [] (q ∷ qs) f about h k none = absurd f
  all_unmeant v (p ∷ ps) [] f about h k none = absurd f
  all_unmeant v (p ∷ ps) (q ∷ qs) f about h k none =
      let both = or_parts (is_meant p) (list_any is_meant ps) none in
      or_from (is_meant q) (list_any is_meant qs) (one_unmeant v p q f.0 about h.0 k.0 both.0) (all_unmeant v ps qs f.1 about h.1 k.1 both.1)

  unmet_too : (v : Bool) (ps qs : List Part) → AllZip (AreFacing b r budget other) ps qs → AreTold (is_unmet r.claim ps) r.id ps → AreTold v r.id qs
      → is_unmet r.claim ps ≡ true → is_unmet r.claim qs ≡ true
  unmet_too v ps qs f h k unmet =
      let both = and_parts (is_about_part r.claim) (not (list_any is_meant ps)) unmet in
      let told = subst (λ (t : Bool). AreTold t r.id ps) unmet h in
      and_from (is_about_part r.claim) (not (list_any is_meant qs)) both.0
      (not_from_false (list_any is_meant qs) (all_unmeant v ps qs f both.0 told k (not-true (list_any is_meant ps) both.1)))

-- the notes on one requirement
abbrev is_idle : Requirement → List Part → Bool
is_idle r ps = is_none ps || (is_unmet r.claim ps && is_none (runs_of r ps))

bare_idle : (t : Bool) (id : List ℕ) (notes : List RequirementNote) → map bare (idle_or t id notes) ≡ idle_or t id (map bare notes)
bare_idle true id notes = refl
bare_idle false id notes = refl

none_there : {X : Type 0} (xs : List X) → is_none xs ≡ true → xs ≡ []
none_there xs none = nil_from_length xs (eqb-true (length xs) 0 none)

lines_decided : (r : Requirement) (ps : List Part) → AllDecided (lines_of r ps) → AllDecided (runs_of r ps)
lines_decided r ps h = by (is_idle r ps) refl h
  where
    by : (t : Bool) → is_idle r ps ≡ t → AllDecided (idle_or t r.id (runs_of r ps)) → AllDecided (runs_of r ps)
    by false idle k = k
    by true idle k =
        elim (or_cases (is_none ps) (is_unmet r.claim ps && is_none (runs_of r ps)) idle) [
          | inl none ↦ subst (λ (qs : List Part). AllDecided (runs_of r qs)) (sym (none_there ps none)) tt
          | inr both ↦ subst AllDecided (sym (none_there (runs_of r ps) (and_parts (is_unmet r.claim ps) (is_none (runs_of r ps)) both).1)) tt
        ]

none_same : {X Y : Type 0} (xs : List X) (ys : List Y) → length xs ≡ length ys → is_none xs ≡ is_none ys
none_same xs ys same = ap (λ (n : ℕ). n == 0) same

module _ (b : Contents) (budget other : ℕ) (slices : List Slice) where
  same_own : (r : Requirement) (own next : List RequirementNote) → OwnNotes b budget slices r own → OwnNotes b other slices r next → AreDecided own → AreDecided next
      → map bare own ≡ map bare next
  same_own r own next h k d e =
      let ps = present h.cells in
      let qs = present k.cells in
      let faces = facing b r budget other slices h.cells k.cells h.right k.right in
      let told = runs_told (is_unmet r.claim ps) r.id ps (lines_decided r ps (subst AllDecided h.lines (each_decided own d))) in
      let others = runs_told (is_unmet r.claim qs) r.id qs (lines_decided r qs (subst AllDecided k.lines (each_decided next e))) in
      let unmet : is_unmet r.claim ps ≡ is_unmet r.claim qs =
      same_test (is_unmet r.claim ps) (is_unmet r.claim qs) (unmet_too b r budget other (is_unmet r.claim qs) ps qs faces told others)
      (unmet_too b r other budget (is_unmet r.claim ps) qs ps (turned b r budget other ps qs faces) others told) in
      let runs : map bare (runs_of r ps) ≡ map bare (runs_of r qs) =
      runs_plain (is_unmet r.claim ps) r.id ps told
      ∙ ap (all_runs []) (all_same b r budget other (is_unmet r.claim ps) (is_unmet r.claim qs) ps qs faces told others)
      ∙ sym (runs_plain (is_unmet r.claim qs) r.id qs others) in
      let counted : length (runs_of r ps) ≡ length (runs_of r qs) =
      sym (length-map (runs_of r ps) bare) ∙ ap length runs ∙ length-map (runs_of r qs) bare in
      let idle : is_idle r ps ≡ is_idle r qs =
      ap (λ (t : Bool). t || (is_unmet r.claim ps && is_none (runs_of r ps))) (none_same ps qs (same_length (AreFacing b r budget other) ps qs faces))
      ∙ ap (λ (t : Bool). is_none qs || (t && is_none (runs_of r ps))) unmet
      ∙ ap (λ (t : Bool). is_none qs || (is_unmet r.claim qs && t)) (none_same (runs_of r ps) (runs_of r qs) counted) in
      ap (map bare) h.lines ∙ bare_idle (is_idle r ps) r.id (runs_of r ps)
      ∙ ap₂ (λ (t : Bool) (ns : List RequirementNote). idle_or t r.id ns) idle runs
      ∙ sym (bare_idle (is_idle r qs) r.id (runs_of r qs)) ∙ sym (ap (map bare) k.lines)

-- how many fail hangs on no car
bare_failing : (note : RequirementNote) → is_failing note ≡ is_failing (bare note)
bare_failing (Fails id first last car) = refl
bare_failing (Idle id) = refl
bare_failing (Undecided id first last) = refl

bare_fails : (notes : List RequirementNote) → list_any is_failing notes ≡ list_any is_failing (map bare notes)
bare_fails [] = refl
bare_fails (note ∷ notes) = ap₂ (λ (s t : Bool). s || t) (bare_failing note) (bare_fails notes)

bare_count : (before : Option (List ℕ)) (notes : List RequirementNote) → failing_behind before notes ≡ failing_behind before (map bare notes)
bare_count before [] = refl
bare_count before (Fails id first last car ∷ notes) = ap (λ (n : ℕ). further before (Fails id first last car) + n) (bare_count (Some id) notes)
bare_count before (Idle id ∷ notes) = ap (λ (n : ℕ). 0 + n) (bare_count before notes)
bare_count before (Undecided id first last ∷ notes) = ap (λ (n : ℕ). 0 + n) (bare_count before notes)

abbrev listed : {E : Type 0} → Result (List Slice) E → List Slice
listed (Ok slices) = slices
listed (Err e) = []

pub same_report : (b : Contents) (budget other : ℕ) (rs : List Requirement) (one two : List RequirementNote) → IsReport b budget rs one → IsReport b other rs two
    → AreDecided one → AreDecided two → TellSame one two
same_report b budget other rs one two h k d e =
    let slices : h.slices ≡ k.slices = sym (ap listed h.within) ∙ ap listed k.within in
    let parts = subst (λ (ss : List Slice). InParts (OwnNotes b budget ss) rs one) slices h.each in
    let same : map bare one ≡ map bare two =
    parts_same (OwnNotes b budget k.slices) (OwnNotes b other k.slices) is_undecided bare (same_own b budget other k.slices) rs one two parts k.each d e in
    record {
      notes = same;
      fails = bare_fails one ∙ ap (list_any is_failing) same ∙ sym (bare_fails two);
      count = bare_count None one ∙ ap failing same ∙ sym (bare_count None two);
    }
