-- An order against a book that can be released: where its completed codes break no rule, they have a parts list without a gap
-- or a choice, and a rule that is broken is one of the book's.
use Rattle.std.proofs.Common.{◌≡◌, ℕ, suc, ◌+◌, ◌<◌, Bool, true, false, cond, ◌||◌, List, [], ◌∷◌, length, Option, Some, None, Ok, refl, sym, ap, subst, ◌∙◌, inl, inr, arith, All}
use Rattle.std.specs.List.{list_any, position_from}
use Rattle.std.specs.Prelude.{nat_le}
use Rattle.std.proofs.lemmas.Bool.{and_parts, and_from, not_from_false, cases_Bool, leb-true, eq-eqb}
use Rattle.std.proofs.lemmas.Option.{none-some, same_Some}
use Rattle.std.proofs.lemmas.List.{length-map}
use Rattle.pb_base.specs.Names.{same_name}
use Rattle.pb_base.specs.NamedSet.{named}
use Rattle.pb_base.specs.Results.{unless}
use Rattle.book_model.specs.Activity.{is_within}
use Rattle.book_model.specs.Book.{IsBook, SupplementFits}
use Rattle.book_model.specs.Contents.{Contents}
use Rattle.book_model.specs.Good.{breaks, is_good}
use Rattle.book_model.specs.Parts.{parts, selected}
use Rattle.book_model.specs.Sound.{is_fit, are_fit_from, IsReleasable}
use Rattle.book_model.specs.declared.record.Position.{Position}
use Rattle.supplement.specs.Completion.{completion_of}
use Rattle.supplement.proofs.Laws.{is_completed-completion}
use Rattle.parts_usage.specs.Broken.{first_broken_of}
use Rattle.parts_usage.specs.Fault.{order_fault}
use Rattle.parts_usage.specs.Outcome.{judged, outcome_of, outcome_of_set}
use Rattle.parts_usage.specs.Unfit.{first_unfit_from, first_unfit_of}
use Rattle.parts_usage.specs.declared.fault.OrderFault.{OrderFault}
use Rattle.parts_usage.specs.declared.judgement.Outcome.{Outcome}
use Rattle.parts_usage.specs.declared.judgement.Outcome.TheVariants as outcome
use Rattle.parts_usage.specs.declared.unfit.Unfit.{Unfit}
use Rattle.release.specs.Judged.{fitting_outcome}

-- where none is found, none passes
pub none_passes : {X : Type 0} (test : X → Bool) (i : ℕ) (xs : List X) → position_from test i xs ≡ None → list_any test xs ≡ false
none_passes test i [] h = refl
none_passes test i (x ∷ xs) h =
    let cases = λ (c : Bool). cond c (Some i) (position_from test (i + 1) xs) in
    elim (cases_Bool (test x)) [
      | inl yes_ ↦ absurd (none-some i (sym h ∙ ap cases yes_))
      | inr no_ ↦ ap (λ c. c || list_any test xs) no_ ∙ none_passes test (i + 1) xs (sym (ap cases no_) ∙ h)
    ]

-- what is found is in range
found_in_range : {X : Type 0} (test : X → Bool) (i k : ℕ) (xs : List X) → position_from test i xs ≡ Some k → k < i + length xs
found_in_range test i k [] h = absurd (cc)
found_in_range test i k (x ∷ xs) h =
    let cases = λ (c : Bool). cond c (Some i) (position_from test (i + 1) xs) in
    elim (cases_Bool (test x)) [
      | inl yes_ ↦ omega (arith, same_Some i k (sym (ap cases yes_) ∙ h))
      | inr no_ ↦ omega (arith, found_in_range test (i + 1) k xs (sym (ap cases no_) ∙ h))
    ]

-- where all positions fit, none is the first that doesn't
fits_all : (i : ℕ) (b : Contents) (day : ℕ) (x : List Bool) (ps : List Position) → are_fit_from i b day x ps ≡ true → first_unfit_from i b day x ps ≡ None
fits_all i b day x [] fit = refl
fits_all i b day x (p ∷ ps) fit =
    let parts = and_parts (is_fit b day x i p) (are_fit_from (suc i) b day x ps) fit in
    let unfit : Option Unfit = Some (record { position = i; count = length (selected b day x i p) }) in
    ap (λ c. cond c (first_unfit_from (suc i) b day x ps) unfit) parts.0 ∙ fits_all (suc i) b day x ps parts.1

abbrev pub completed : Contents → ℕ → List (List ℕ) → List Bool
completed b day names = (completion_of b day (named b.codes names)).set

-- completed codes that break no rule are a good set
pub good_completed : (b : Contents) (day : ℕ) (names : List (List ℕ)) → IsBook b → first_broken_of b day (completed b day names) ≡ None → is_good b day (completed b day names) ≡ true
good_completed b day names book unbroken =
    let ordered = named b.codes names in
    let y = completed b day names in
    let same : length ordered ≡ length b.codes = length-map b.codes (λ code. list_any (same_name code) names) in
    let whole = is_completed-completion b.supplements day ordered (subst (λ n. All (SupplementFits n) b.supplements) (sym same) book.supplements_fit) in
    and_from _ _
    (and_from _ _ whole.closed (not_from_false _ (none_passes (breaks day y) 0 b.constructs unbroken)))
    (eq-eqb _ _ (whole.same_codes ∙ same))

-- and so each position has a permitted number of variants
pub fits_when_unbroken : (b : Contents) (day : ℕ) (names : List (List ℕ)) → IsBook b → IsReleasable b → is_within b.first b.last day ≡ true
    → first_broken_of b day (completed b day names) ≡ None → first_unfit_of b day (completed b day names) ≡ None
fits_when_unbroken b day names book releasable within unbroken =
    let y = completed b day names in
    let days = and_parts (nat_le b.first day) (nat_le day b.last) within in
    let good = good_completed b day names book unbroken in
    fits_all 0 b day y b.positions (releasable.sound day (leb-true _ _ days.0) (leb-true _ _ days.1) y good)

-- what is answered behind the test for a fault
pub ok_behind : {A E : Type 0} (fault : Option E) (o o' : A) → unless fault (Ok o) ≡ Ok o' → (fault ≡ None) × (o ≡ o')
ok_behind None o o' h = (refl, cc)
ok_behind (Some fault) o o' h = absurd (cc)

no_fault_within : (within : Bool) (names : Option OrderFault) (outside : OrderFault) → cond within names (Some outside) ≡ None → within ≡ true
no_fault_within true names outside h = refl
no_fault_within false names outside h = absurd (cc)

-- so an order without a fault comes to what its completed set comes to, fit or not
pub outcome_faultless : (b : Contents) (day : ℕ) (names : List (List ℕ)) (ordered : List Bool) → IsBook b → IsReleasable b
    → unless (order_fault b day names) (Ok (named b.codes names)) ≡ Ok ordered
    → outcome_of b day names ≡ Ok (fitting_outcome b day (completion_of b day ordered).set)
outcome_faultless b day names ordered book releasable is =
    let y = completed b day names in
    let behind = ok_behind (order_fault b day names) (named b.codes names) ordered is in
    let within = no_fault_within (is_within b.first b.last day) _ _ behind.0 in
    ap (λ (fault : Option OrderFault). unless fault (Ok (outcome_of_set b day y))) behind.0
    ∙ ap Ok (fitting (first_broken_of b day y) (first_unfit_of b day y) (outcome.Accepted y (parts b day y)) (fits_when_unbroken b day names book releasable within))
    ∙ ap (λ (x : List Bool). Ok (fitting_outcome b day (completion_of b day x).set)) behind.1
  where
    fitting : (broken : Option ℕ) (unfit : Option Unfit) (accepted : Outcome) → (broken ≡ None → unfit ≡ None) → judged broken unfit accepted ≡ judged broken None accepted
    fitting (Some rule) unfit accepted fits = refl
    fitting None unfit accepted fits = ap (λ (u : Option Unfit). judged None u accepted) (fits refl)

pub length-ordered : (b : Contents) (day : ℕ) (names : List (List ℕ)) (ordered : List Bool)
    → unless (order_fault b day names) (Ok (named b.codes names)) ≡ Ok ordered → length ordered ≡ length b.codes
length-ordered b day names ordered is =
    ap length (sym (ok_behind (order_fault b day names) (named b.codes names) ordered is).1)
    ∙ length-map b.codes (λ code. list_any (same_name code) names)

-- the rule that is broken first stands in the book
pub broken_in_range : (b : Contents) (day : ℕ) (x : List Bool) (rule : ℕ) → first_broken_of b day x ≡ Some rule → rule < length b.constructs
broken_in_range b day x rule is = omega (arith, found_in_range (breaks day x) 0 rule b.constructs is)
