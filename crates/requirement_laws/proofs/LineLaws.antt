-- Where a report has no note on a requirement, each of its searches showed that no car breaks it.
use Rattle.std.proofs.Common.{◌≡◌, ℕ, zero, suc, Bool, true, false, ◌&&◌, ◌||◌, cond, List, [], ◌∷◌, ◌++◌, Option, Some, None, refl, sym, ap, subst, ◌∙◌}
use Rattle.std.specs.List.{AllByRecursion, AllZip, slice_get}
use Rattle.std.proofs.lemmas.Bool.{true≢false}
use Rattle.pb_base.specs.InParts.{InParts}
use Rattle.book_model.specs.Contents.{Contents}
use Rattle.book_model.specs.declared.record.Slice.{Slice}
use Rattle.requirements.specs.declared.requirement.Requirement.{Requirement}
use Rattle.rules_met.specs.declared.answer.RuleAnswer.{RuleAnswer}
use Rattle.rules_met.specs.declared.answer.RuleAnswer.TheVariants.{Met, NotMet, Left}
use Rattle.kept_requirements.specs.Kept.{is_asked}
use Rattle.kept_requirements.specs.Notes.{IsCell, IsPart, OwnNotes, added, extended, extends, idle_or, is_left, is_none, is_unmet, lines_of, note_of, present, runs_of, runs_on, told_by, with_run}
use Rattle.kept_requirements.specs.declared.cells.Part.{Part}
use Rattle.kept_requirements.specs.declared.note.RequirementNote.{RequirementNote}
use Rattle.kept_requirements.specs.declared.note.RequirementNote.TheVariants.{Fails, Idle, Undecided}
use Rattle.requirement_laws.specs.Laws.{HasNoLine, note_id}

abbrev AllOn : List ℕ → List RequirementNote → Type 0
AllOn id notes = AllByRecursion (λ (note : RequirementNote). note_id note ≡ id) notes

extended_id : (before note : RequirementNote) → note_id (extended before note) ≡ note_id before
extended_id (Fails id first last car) note = refl
extended_id (Undecided id first last) note = refl
extended_id (Idle id) note = refl

joined_on : (id : List ℕ) (t : Bool) (before note : RequirementNote) → note_id before ≡ id → note_id note ≡ id
    → AllOn id (cond t (extended before note ∷ []) (before ∷ note ∷ []))
joined_on id true before note h g = (extended_id before note ∙ h, tt)
joined_on id false before note h g = (h, (g, tt))

added_on : (id : List ℕ) (notes : List RequirementNote) (note : RequirementNote) → AllOn id notes → note_id note ≡ id → AllOn id (added notes note)
added_on id [] note h g = (g, tt)
added_on id (before ∷ []) note h g = joined_on id (extends before note) before note h.0 g
added_on id (before ∷ next ∷ more) note h g = (h.0, added_on id (next ∷ more) note h.1 g)

-- what is told of a slice is on the requirement
told_on : (answer : RuleAnswer) (unmet : Bool) (id : List ℕ) (p : Part) (note : RequirementNote) → told_by answer unmet id p ≡ Some note → note_id note ≡ id
told_on (Met x) unmet id p note h = let same : Fails id p.first p.last x ≡ note = cc in sym (ap note_id same)
told_on Left unmet id p note h = let same : Undecided id p.first p.last ≡ note = cc in sym (ap note_id same)
told_on NotMet unmet id p note h = by (unmet && is_left p.meant) h
  where
    by : (t : Bool) → cond t (Some (Undecided id p.first p.last)) None ≡ Some note → note_id note ≡ id
    by true e = let same : Undecided id p.first p.last ≡ note = cc in sym (ap note_id same)
    by false e = absurd (cc)

run_on : (id : List ℕ) (notes : List RequirementNote) (o : Option RequirementNote) → AllOn id notes → ((note : RequirementNote) → o ≡ Some note → note_id note ≡ id)
    → AllOn id (with_run notes o)
run_on id notes None h g = h
run_on id notes (Some note) h g = added_on id notes note h (g note refl)

runs_are_on : (unmet : Bool) (id : List ℕ) (notes : List RequirementNote) (parts : List Part) → AllOn id notes → AllOn id (runs_on unmet id notes parts)
runs_are_on unmet id notes [] h = h
runs_are_on unmet id notes (p ∷ parts) h =
    runs_are_on unmet id (with_run notes (note_of unmet id p)) parts (run_on id notes (note_of unmet id p) h (told_on p.broken unmet id p))

lines_on : (t : Bool) (id : List ℕ) (notes : List RequirementNote) → AllOn id notes → AllOn id (idle_or t id notes)
lines_on true id notes h = (refl, tt)
lines_on false id notes h = h

none_on : (id : List ℕ) (own : List RequirementNote) → AllOn id own → HasNoLine id own → own ≡ []
none_on id [] h g = refl
none_on id (note ∷ own) h g = absurd (g.0 h.0)

-- notes stay where there are some
record IsSome (notes : List RequirementNote) : Type 0 where
  first : RequirementNote
  more : List RequirementNote
  are : notes ≡ first ∷ more

cond_some : (t : Bool) (before note : RequirementNote) → IsSome (cond t (extended before note ∷ []) (before ∷ note ∷ []))
cond_some true before note = record { first = extended before note; more = []; are = refl }
cond_some false before note = record { first = before; more = note ∷ []; are = refl }

added_some : (before : RequirementNote) (notes : List RequirementNote) (note : RequirementNote) → IsSome (added (before ∷ notes) note)
added_some before [] note = cond_some (extends before note) before note
added_some before (next ∷ more) note = record { first = before; more = added (next ∷ more) note; are = refl }

run_some : (before : RequirementNote) (notes : List RequirementNote) (o : Option RequirementNote) → IsSome (with_run (before ∷ notes) o)
run_some before notes None = record { first = before; more = notes; are = refl }
run_some before notes (Some note) = added_some before notes note

runs_some : (unmet : Bool) (id : List ℕ) (before : RequirementNote) (notes : List RequirementNote) (parts : List Part) → runs_on unmet id (before ∷ notes) parts ≡ [] → ⊥
runs_some unmet id before notes [] h = absurd (cc)
runs_some unmet id before notes (p ∷ parts) h =
    let some : IsSome (with_run (before ∷ notes) (note_of unmet id p)) = run_some before notes (note_of unmet id p) in
    runs_some unmet id some.first some.more parts (subst (λ (ns : List RequirementNote). runs_on unmet id ns parts ≡ []) some.are h)

none_told : (answer : RuleAnswer) (unmet : Bool) (id : List ℕ) (p : Part) → told_by answer unmet id p ≡ None → answer ≡ NotMet
none_told (Met x) unmet id p h = absurd (cc)
none_told Left unmet id p h = absurd (cc)
none_told NotMet unmet id p h = refl

abbrev AllUnbroken : List Part → Type 0
AllUnbroken parts = AllByRecursion (λ (p : Part). p.broken ≡ NotMet) parts

first_none : (unmet : Bool) (id : List ℕ) (o : Option RequirementNote) (parts : List Part) → runs_on unmet id (with_run [] o) parts ≡ [] → o ≡ None
first_none unmet id None parts h = refl
first_none unmet id (Some note) parts h = absurd (runs_some unmet id note [] parts h)

runs_none : (unmet : Bool) (id : List ℕ) (parts : List Part) → runs_on unmet id [] parts ≡ [] → AllUnbroken parts
runs_none unmet id [] h = tt
runs_none unmet id (p ∷ parts) h =
    let none : note_of unmet id p ≡ None = first_none unmet id (note_of unmet id p) parts h in
    (none_told p.broken unmet id p none, runs_none unmet id parts (subst (λ (o : Option RequirementNote). runs_on unmet id (with_run [] o) parts ≡ []) none h))

no_idle : (t : Bool) (id : List ℕ) (notes : List RequirementNote) → idle_or t id notes ≡ [] → notes ≡ []
no_idle true id notes h = absurd (cc)
no_idle false id notes h = h

unbroken : (r : Requirement) (parts : List Part) → lines_of r parts ≡ [] → AllUnbroken parts
unbroken r parts h =
    runs_none (is_unmet r.claim parts) r.id parts
    (no_idle (is_none parts || (is_unmet r.claim parts && is_none (runs_of r parts))) r.id (runs_of r parts) h)

-- where none of the notes is on a requirement, none of the first ones or of the rest is
first_part : (id : List ℕ) (xs ys : List RequirementNote) → HasNoLine id (xs ++ ys) → HasNoLine id xs
first_part id [] ys g = tt
first_part id (x ∷ xs) ys g = (g.0, first_part id xs ys g.1)

last_part : (id : List ℕ) (xs ys : List RequirementNote) → HasNoLine id (xs ++ ys) → HasNoLine id ys
last_part id [] ys g = g
last_part id (x ∷ xs) ys g = last_part id xs ys g.1

module _ (b : Contents) (budget : ℕ) (slices : List Slice) where
  own_of : (rs : List Requirement) (notes : List RequirementNote) (place : ℕ) (r : Requirement) → InParts (OwnNotes b budget slices) rs notes → slice_get rs place ≡ Some r
      → HasNoLine r.id notes → (own : List RequirementNote) × OwnNotes b budget slices r own × HasNoLine r.id own
  own_of [] notes place r h there none = absurd (cc)
  own_of (q ∷ rs) notes zero r h there none =
      let same : q ≡ r = cc in
      (h.0, subst (λ (t : Requirement). OwnNotes b budget slices t h.0) same h.3, first_part r.id h.0 h.1 (subst (HasNoLine r.id) h.2 none))
  own_of (q ∷ rs) notes (suc place) r h there none = own_of rs h.1 place r h.4 there (last_part r.id h.0 h.1 (subst (HasNoLine r.id) h.2 none))

  -- on a slice where it is asked
  pub record Unbroken (s : Slice) (r : Requirement) : Type 0 where
    pub part : Part
    pub right : IsPart b budget s r part
    pub none : part.broken ≡ NotMet

  found : (ss : List Slice) (cells : List (Option Part)) (k : ℕ) (s : Slice) (r : Requirement) → AllZip (λ (t : Slice) (cell : Option Part). IsCell b budget t r cell) ss cells
      → AllUnbroken (present cells) → slice_get ss k ≡ Some s → is_asked r s ≡ true → Unbroken s r
  found [] cells k s r h none there asked = absurd (cc)
  found (t ∷ ss) [] k s r h none there asked = absurd h
  found (t ∷ ss) (None ∷ cells) zero s r h none there asked =
      let same : t ≡ s = cc in
      absurd (true≢false (sym asked ∙ ap (is_asked r) (sym same) ∙ h.0))
  found (t ∷ ss) (Some p ∷ cells) zero s r h none there asked =
      let same : t ≡ s = cc in
      record { part = p; right = subst (λ (u : Slice). IsPart b budget u r p) same h.0.1; none = none.0 }
  found (t ∷ ss) (None ∷ cells) (suc k) s r h none there asked = found ss cells k s r h.1 none there asked
  found (t ∷ ss) (Some p ∷ cells) (suc k) s r h none there asked = found ss cells k s r h.1 none.1 there asked

  pub unbroken_on : (rs : List Requirement) (notes : List RequirementNote) (place : ℕ) (r : Requirement) → InParts (OwnNotes b budget slices) rs notes → slice_get rs place ≡ Some r
      → HasNoLine r.id notes → (k : ℕ) (s : Slice) → slice_get slices k ≡ Some s → is_asked r s ≡ true → Unbroken s r
  unbroken_on rs notes place r h there none k s is_there asked =
      let own = own_of rs notes place r h there none in
      let o : OwnNotes b budget slices r own.0 = own.1 in
      let on : AllOn r.id own.0 =
      subst (AllOn r.id) (sym o.lines)
      (lines_on (is_none (present o.cells) || (is_unmet r.claim (present o.cells) && is_none (runs_of r (present o.cells)))) r.id (runs_of r (present o.cells))
      (runs_are_on (is_unmet r.claim (present o.cells)) r.id [] (present o.cells) tt)) in
      found slices o.cells k s r o.right (unbroken r (present o.cells) (sym o.lines ∙ none_on r.id own.0 on own.2)) is_there asked
