-- What an accepted order comes to is good; and at a book that can be released, a well-formed order that can be built is accepted.
use Rattle.std.proofs.Common.{◌≡◌, ℕ, suc, ◌+◌, Bool, true, false, cond, not, ◌||◌, List, [], ◌∷◌, length, Option, Some, None, Ok, refl, sym, ap, subst, ◌∙◌, inl, inr, All}
use Rattle.std.specs.Prelude.{nat_le, if◌then◌else◌}
use Rattle.std.specs.List.{list_any, position_from}
use Rattle.std.specs.Option.{option_map}
use Rattle.std.proofs.lemmas.Bool.{and_parts, and_from, not_from_false, cases_Bool, eq-eqb, false≢true, leb-true, le-leb}
use Rattle.std.proofs.lemmas.List.{length-map}
use Rattle.std.proofs.lemmas.Option.{none-some}
use Rattle.pb_base.proofs.Faultless.{no_fault}
use Rattle.pb_base.specs.Names.{same_name}
use Rattle.pb_base.specs.NamedSet.{named}
use Rattle.pb_base.specs.Results.{unless}
use Rattle.book_model.specs.Activity.{is_within}
use Rattle.book_model.specs.Book.{IsBook, SupplementFits}
use Rattle.book_model.specs.Contents.{Contents}
use Rattle.book_model.specs.Good.{breaks, is_constructible, is_good}
use Rattle.book_model.specs.Parts.{PartsLine, parts, selected}
use Rattle.book_model.specs.Sound.{is_fit, are_fit_from, IsReleasable}
use Rattle.book_model.specs.declared.record.Position.{Position}
use Rattle.parts_usage.specs.Broken.{first_broken_of}
use Rattle.parts_usage.specs.Fault.{fault_of_name, order_fault}
use Rattle.parts_usage.specs.Outcome.{judged, outcome_of_set}
use Rattle.parts_usage.specs.Unfit.{first_unfit_from, first_unfit_of}
use Rattle.parts_usage.specs.declared.fault.OrderFault.{OrderFault}
use Rattle.parts_usage.specs.declared.fault.OrderFault.TheVariants.{DayOutsideTerm}
use Rattle.parts_usage.specs.declared.judgement.Outcome.TheVariants as outcome
use Rattle.parts_usage.specs.declared.unfit.Unfit.{Unfit}
use Rattle.release.specs.Accepting.{accepts, is_accepted}
use Rattle.release.specs.Orders.{IsWellFormed, supplemented}
use Rattle.supplement.proofs.Laws.{is_completed-completion}

-- where none is found, none passes
none_passes : {X : Type 0} (test : X → Bool) (i : ℕ) (xs : List X) → position_from test i xs ≡ None → list_any test xs ≡ false
none_passes test i [] h = refl
none_passes test i (x ∷ xs) h =
    let cases = λ (c : Bool). cond c (Some i) (position_from test (i + 1) xs) in
    elim (cases_Bool (test x)) [
      | inl yes_ ↦ absurd (none-some i (sym h ∙ ap cases yes_))
      | inr no_ ↦ ap (λ c. c || list_any test xs) no_ ∙ none_passes test (i + 1) xs (sym (ap cases no_) ∙ h)
    ]

-- where all positions fit, none is the first that doesn't
fits_all : (i : ℕ) (b : Contents) (day : ℕ) (x : List Bool) (ps : List Position) → are_fit_from i b day x ps ≡ true → first_unfit_from i b day x ps ≡ None
fits_all i b day x [] fit = refl
fits_all i b day x (p ∷ ps) fit =
    let parts = and_parts (is_fit b day x i p) (are_fit_from (suc i) b day x ps) fit in
    let unfit : Option Unfit = Some (record { position = i; count = length (selected b day x i p) }) in
    ap (λ c. cond c (first_unfit_from (suc i) b day x ps) unfit) parts.0 ∙ fits_all (suc i) b day x ps parts.1

-- completed codes that break no rule are a good set
good_completed : (b : Contents) (day : ℕ) (names : List (List ℕ)) → IsBook b → first_broken_of b day (supplemented b day names) ≡ None → is_good b day (supplemented b day names) ≡ true
good_completed b day names book unbroken =
    let ordered = named b.codes names in
    let y = supplemented b day names in
    let same : length ordered ≡ length b.codes = length-map b.codes (λ code. list_any (same_name code) names) in
    let whole = is_completed-completion b.supplements day ordered (subst (λ n. All (SupplementFits n) b.supplements) (sym same) book.supplements_fit) in
    and_from _ _
    (and_from _ _ whole.closed (not_from_false _ (none_passes (breaks day y) 0 b.constructs unbroken)))
    (eq-eqb _ _ (whole.same_codes ∙ same))

-- and so each position has a permitted number of variants
fits_when_unbroken : (b : Contents) (day : ℕ) (names : List (List ℕ)) → IsBook b → IsReleasable b → is_within b.first b.last day ≡ true
    → first_broken_of b day (supplemented b day names) ≡ None → first_unfit_of b day (supplemented b day names) ≡ None
fits_when_unbroken b day names book releasable within unbroken =
    let y = supplemented b day names in
    let days = and_parts (nat_le b.first day) (nat_le day b.last) within in
    let good = good_completed b day names book unbroken in
    fits_all 0 b day y b.positions (releasable.sound day (leb-true _ _ days.0) (leb-true _ _ days.1) y good)

unbroken_accepted : (fault : Option OrderFault) (broken : Option ℕ) (unfit : Option Unfit) (x : List Bool) (list : List PartsLine)
    → is_accepted (unless fault (Ok (judged broken unfit (outcome.Accepted x list)))) ≡ true → broken ≡ None
unbroken_accepted None None unfit x list h = refl
unbroken_accepted None (Some rule) unfit x list h = let clash : false ≡ true = h in cc
unbroken_accepted (Some fault) broken unfit x list h = let clash : false ≡ true = h in cc

pub accepted_good : (b : Contents) (day : ℕ) (names : List (List ℕ)) → IsBook b → accepts b day names ≡ true → is_good b day (supplemented b day names) ≡ true
unfolding accepts
accepted_good b day names book h =
    let x = supplemented b day names in
    good_completed b day names book (unbroken_accepted (order_fault b day names) (first_broken_of b day x) (first_unfit_of b day x) x (parts b day x) h)

some_passes : {X : Type 0} (test : X → Bool) (i k : ℕ) (xs : List X) → position_from test i xs ≡ Some k → list_any test xs ≡ true
some_passes test i k [] h = absurd (cc)
some_passes test i k (x ∷ xs) h = by (test x) refl h (some_passes test (i + 1) k xs)
  where
    by : (t : Bool) → test x ≡ t → cond t (Some i) (position_from test (i + 1) xs) ≡ Some k
        → (position_from test (i + 1) xs ≡ Some k → list_any test xs ≡ true) → list_any test (x ∷ xs) ≡ true
    by true is found later = ap (λ t. t || list_any test xs) is
    by false is found later = ap (λ t. t || list_any test xs) is ∙ later found

unbroken : (b : Contents) (day : ℕ) (x : List Bool) → is_constructible b day x ≡ true → first_broken_of b day x ≡ None
unbroken b day x built = by (first_broken_of b day x) refl
  where
    by : (o : Option ℕ) → first_broken_of b day x ≡ o → first_broken_of b day x ≡ None
    by None is = is
    by (Some rule) is = absurd (false≢true (sym (ap not (some_passes (breaks day x) 0 rule b.constructs is)) ∙ built))

within_term : (b : Contents) (day : ℕ) (names : List (List ℕ)) → IsWellFormed b day names → is_within b.first b.last day ≡ true
within_term b day names formed =
    and_from (nat_le b.first day) (nat_le day b.last) (le-leb b.first day formed.first) (le-leb day b.last formed.last)

faultless : (b : Contents) (day : ℕ) (names : List (List ℕ)) → IsWellFormed b day names → order_fault b day names ≡ None
faultless b day names formed =
    let outside : Option OrderFault = Some DayOutsideTerm in
    ap (λ o. if is_within b.first b.last day then option_map fault_of_name o else outside) (no_fault b.codes names formed.known formed.distinct)
    ∙ ap (λ w. if w then None else outside) (within_term b day names formed)

pub good_accepted : (b : Contents) (day : ℕ) (names : List (List ℕ)) → IsBook b → IsReleasable b → IsWellFormed b day names
    → is_constructible b day (supplemented b day names) ≡ true → accepts b day names ≡ true
unfolding accepts
good_accepted b day names book releasable formed built =
    let x = supplemented b day names in
    let none : first_broken_of b day x ≡ None = unbroken b day x built in
    ap (λ fault. is_accepted (unless fault (Ok (outcome_of_set b day x)))) (faultless b day names formed)
    ∙ ap (λ rule. is_accepted (Ok (judged rule (first_unfit_of b day x) (outcome.Accepted x (parts b day x))))) none
    ∙ ap (λ unfit. is_accepted (Ok (judged None unfit (outcome.Accepted x (parts b day x)))))
    (fits_when_unbroken b day names book releasable (within_term b day names formed) none)
