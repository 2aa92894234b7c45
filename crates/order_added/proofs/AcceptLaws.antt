-- Whether an order passes, by its codes and the rules alone.
use Rattle.std.proofs.Common.{◌≡◌, ℕ, zero, suc, ◌+◌, Bool, true, false, ◌<◌, cond, List, [], ◌∷◌, Option, Some, None, Ok, length, get_or, refl, sym, ap, subst, ◌∙◌, arith}
use Rattle.std.specs.List.{list_any, position_from, remove}
use Rattle.std.specs.Option.{is_none}
use Rattle.std.specs.Prelude.{◌&&◌, ◌||◌, not, if◌then◌else◌}
use Rattle.std.proofs.lemmas.Bool.{false_from_ne_true, false≢true}
use Rattle.std.proofs.lemmas.List.{length-map}
use Rattle.pb_base.specs.Names.{same_name}
use Rattle.pb_base.specs.NamedSet.{named}
use Rattle.pb_base.specs.Results.{unless}
use Rattle.book_model.specs.Good.{breaks}
use Rattle.book_model.specs.declared.record.Construct.{Construct}
use Rattle.book_model.specs.Contents.{Contents}
use Rattle.book_model.specs.Parts.{PartsLine, parts}
use Rattle.parts_usage.specs.Broken.{first_broken_of}
use Rattle.parts_usage.specs.Fault.{order_fault}
use Rattle.parts_usage.specs.Ordered.{unless_fault, ordered_of}
use Rattle.parts_usage.proofs.OrderedLaws.{ordered_is}
use Rattle.parts_usage.specs.Outcome.{judged, outcome_of_set}
use Rattle.parts_usage.specs.Unfit.{first_unfit_of}
use Rattle.parts_usage.specs.declared.fault.OrderFault.{OrderFault}
use Rattle.parts_usage.specs.declared.judgement.Outcome.TheVariants as outcome
use Rattle.parts_usage.specs.declared.unfit.Unfit.{Unfit}
use Rattle.supplement.specs.Completing.{Completing}
use Rattle.supplement.specs.Completion.{completion_of}
use Rattle.supplement.specs.declared.completed.Completed.{Completed}
use Rattle.order_added.specs.Accepted.{is_acceptance, is_accepted, is_unbroken, is_constructible}
use Rattle.order_added.specs.Judging.{Judging, is_buildable, passes, passes_set, passes_with, with_codes, IsFew}
use Rattle.order_added.specs.Settled.{broken_after}

-- the codes of an order

pub length-ordered : (b : Contents) (day : ℕ) (names : List (List ℕ)) (set : List Bool) → ordered_of b day names ≡ Some set → length set ≡ length b.codes
length-ordered b day names set h = ap length (ordered_is b day names set h).is ∙ length-map b.codes (λ code. list_any (same_name code) names)

-- what it comes to

judged_passes : (positions : Bool) (broken : Option ℕ) (unfit : Option Unfit) (y : List Bool) (list : List PartsLine)
    → (if positions then is_acceptance (Ok (judged broken unfit (outcome.Accepted y list))) else is_unbroken (Ok (judged broken unfit (outcome.Accepted y list))))
    ≡ (is_none broken && (not positions || is_none unfit))
judged_passes true None None y list = refl
judged_passes true None (Some u) y list = refl
judged_passes true (Some rule) None y list = refl
judged_passes true (Some rule) (Some u) y list = refl
judged_passes false None None y list = refl
judged_passes false None (Some u) y list = refl
judged_passes false (Some rule) None y list = refl
judged_passes false (Some rule) (Some u) y list = refl

pub faulty : (j : Judging) (names : List (List ℕ)) → ordered_of j.book j.day names ≡ None → passes j names ≡ false
unfolding passes is_accepted is_constructible
faulty j names h = by j.positions (order_fault j.book j.day names) h
  where
    by : (positions : Bool) (fault : Option OrderFault) → unless_fault fault (named j.book.codes names) ≡ None
        → (if positions then is_acceptance (unless fault (Ok (outcome_of_set j.book j.day (completion_of j.book j.day (named j.book.codes names)).set)))
        else is_unbroken (unless fault (Ok (outcome_of_set j.book j.day (completion_of j.book j.day (named j.book.codes names)).set))))
        ≡ false
    by positions None none = absurd (cc)
    by true (Some fault) none = refl
    by false (Some fault) none = refl

-- a judge's completer is that of its book and day
pub same_completing : (b : Contents) (day : ℕ) (ordered : List Bool) (positions : Bool) (w : Completing) (j : Judging) → w ≡ record { book = b; day = day }
    → record { book = b; day = day; ordered = ordered; positions = positions } ≡ j → w ≡ record { book = j.book; day = j.day }
same_completing b day ordered positions w j is view = subst (λ (k : Judging). w ≡ record { book = k.book; day = k.day }) view is

-- a set by its completion
pub passes_when_done : (j : Judging) (w : Completing) (x : List Bool) (done : Completed) → w ≡ record { book = j.book; day = j.day }
    → done ≡ completion_of w.book w.day x → is_buildable j done.set ≡ passes_set j (Some x)
passes_when_done j w x done is completed =
    ap (λ (d : Completed). is_buildable j d.set) (completed ∙ ap (λ (k : Completing). completion_of k.book k.day x) is)

pub passes_by : (j : Judging) (names : List (List ℕ)) (w : Completing) (ordered : List Bool) (done : Completed)
    → w ≡ record { book = j.book; day = j.day } → ordered_of j.book j.day names ≡ Some ordered → done ≡ completion_of w.book w.day ordered
    → is_buildable j done.set ≡ passes j names
unfolding passes is_accepted is_constructible
passes_by j names w ordered done is h completed =
    let o = ordered_is j.book j.day names ordered h in
    let y : List Bool = (completion_of j.book j.day (named j.book.codes names)).set in
    let same : done ≡ completion_of j.book j.day (named j.book.codes names) =
    completed ∙ ap (λ (k : Completing). completion_of k.book k.day ordered) is ∙ ap (completion_of j.book j.day) o.is in
    ap (λ (d : Completed). is_buildable j d.set) same
    ∙ sym (judged_passes j.positions (first_broken_of j.book j.day y) (first_unfit_of j.book j.day y) y (parts j.book j.day y))
    ∙ sym (ap (λ fault. if j.positions then is_acceptance (unless fault (Ok (outcome_of_set j.book j.day y))) else is_unbroken (unless fault (Ok (outcome_of_set j.book j.day y)))) o.faultless)

-- what breaks a rule doesn't pass
pub refused_when_broken : (b : Contents) (day : ℕ) (ordered : List Bool) (positions : Bool) (j : Judging) (x : List Bool)
    → record { book = b; day = day; ordered = ordered; positions = positions } ≡ j → is_none (broken_after b day x) ≡ false → false ≡ passes_set j (Some x)
refused_when_broken b day ordered positions j x view broken =
    let y : List Bool = (completion_of j.book j.day x).set in
    let broken_here : is_none (broken_after j.book j.day x) ≡ false = subst (λ (k : Judging). is_none (broken_after k.book k.day x) ≡ false) view broken in
    sym (ap (λ t. t && (not j.positions || is_none (first_unfit_of j.book j.day y))) broken_here)

-- codes that are put to a set
pub passes_when_put : (b : Contents) (day : ℕ) (ordered : List Bool) (positions : Bool) (j : Judging) (added : List ℕ) (set : Option (List Bool))
    → record { book = b; day = day; ordered = ordered; positions = positions } ≡ j → with_codes ordered added ≡ set → passes_set j set ≡ passes_with j added
unfolding passes_with
passes_when_put b day ordered positions j added set view put =
    ap (passes_set j) (sym put ∙ ap (λ (k : Judging). with_codes k.ordered added) view)

-- the added codes by their places, and all by their names
pub passes_named : (j : Judging) (names : List (List ℕ)) (added : List ℕ) → with_codes j.ordered added ≡ ordered_of j.book j.day names
    → passes_with j added ≡ passes j names
unfolding passes_with
passes_named j names added same = by (ordered_of j.book j.day names) refl
  where
    by : (set : Option (List Bool)) → ordered_of j.book j.day names ≡ set → passes_set j (with_codes j.ordered added) ≡ passes j names
    by None none = ap (passes_set j) (same ∙ none) ∙ sym (faulty j names none)
    by (Some x) some =
        ap (passes_set j) (same ∙ some)
        ∙ passes_by j names (record { book = j.book; day = j.day }) x (completion_of j.book j.day x) refl some refl

module _ (b : Contents) (day : ℕ) (ordered : List Bool) where
  abbrev pub by_all : Judging
  by_all = record { book = b; day = day; ordered = ordered; positions = true }

  pub accepted_when : (names : List (List ℕ)) → passes by_all names ≡ is_accepted b day names
  unfolding passes
  accepted_when names = refl

-- the same where the codes are told by their places
pub unbroken_when : (j : Judging) (added : List ℕ) → j.positions ≡ true → passes_with j added ≡ true
    → passes_with (record { book = j.book; day = j.day; ordered = j.ordered; positions = false }) added ≡ true
unfolding passes_with
unbroken_when j added counted passed = by (with_codes j.ordered added) passed
  where
    first : (s t : Bool) → (s && t) ≡ true → s ≡ true
    first true t h = refl
    first false t h = absurd (false≢true h)

    both : (s : Bool) → s ≡ true → (s && true) ≡ true
    both s h = rw h refl

    by : (set : Option (List Bool)) → passes_set j set ≡ true → passes_set (record { book = j.book; day = j.day; ordered = j.ordered; positions = false }) set ≡ true
    by None h = absurd (false≢true h)
    by (Some x) h = both (is_none (broken_after j.book j.day x)) (first (is_none (broken_after j.book j.day x)) _ h)

pub refused_when : (j : Judging) (added : List ℕ) → j.positions ≡ true
    → passes_with (record { book = j.book; day = j.day; ordered = j.ordered; positions = false }) added ≡ false → passes_with j added ≡ false
refused_when j added counted broken = false_from_ne_true (passes_with j added) (λ passed. false≢true (sym broken ∙ unbroken_when j added counted passed))

-- few by the rules are few by the positions too, where the order passes with them
pub few_counted : (old rules all : Judging) (few : List ℕ) → old.positions ≡ true → rules ≡ record { book = old.book; day = old.day; ordered = old.ordered; positions = false }
    → all ≡ record { book = rules.book; day = rules.day; ordered = rules.ordered; positions = true } → passes_with all few ≡ true → IsFew rules few → IsFew old few
few_counted old rules all few counted by_rules by_all passed are =
    let same : all ≡ old =
    by_all
    ∙ ap (λ (k : Judging). record { book = k.book; day = k.day; ordered = k.ordered; positions = true }) by_rules
    ∙ ap (λ (t : Bool). record { book = old.book; day = old.day; ordered = old.ordered; positions = t }) (sym counted) in
    record {
      passes = ap (λ (k : Judging). passes_with k few) (sym same) ∙ passed;
      needed = λ place within. refused_when old (remove few place) counted (ap (λ (k : Judging). passes_with k (remove few place)) (sym by_rules) ∙ are.needed place within);
    }

-- a rule that is broken at some place
module _ (day : ℕ) (y : List Bool) (c : Construct) where
  broken_from : (rules : List Construct) (place i : ℕ) → place < length rules → breaks day y (get_or rules place c) ≡ true
      → is_none (position_from (breaks day y) i rules) ≡ false
  broken_from [] place i within broken = absurd (omega arith)
  broken_from (d ∷ ds) zero i within broken = ap (λ (t : Bool). is_none (cond t (Some i) (position_from (breaks day y) (i + 1) ds))) broken
  broken_from (d ∷ ds) (suc place) i within broken = by (breaks day y d) (broken_from ds place (i + 1) (omega arith) broken)
    where
      by : (t : Bool) → is_none (position_from (breaks day y) (i + 1) ds) ≡ false → is_none (cond t (Some i) (position_from (breaks day y) (i + 1) ds)) ≡ false
      by true later = refl
      by false later = later

  pub broken_at : (b : Contents) (rules : List Construct) (place : ℕ) → rules ≡ b.constructs → place < length rules → c ≡ get_or rules place c → breaks day y c ≡ true
      → is_none (first_broken_of b day y) ≡ false
  broken_at b rules place same within is broken =
      subst (λ (ds : List Construct). is_none (position_from (breaks day y) 0 ds) ≡ false) same
      (broken_from rules place 0 within (sym (ap (breaks day y) is) ∙ broken))
