-- What an order comes to, by its codes and the rules alone.
use Rattle.std.proofs.Common.{All, ◌≡◌, ℕ, suc, Bool, true, false, cond, List, [], ◌∷◌, Option, Some, None, Ok, Err, length, refl, sym, ap, subst, ◌∙◌}
use Rattle.std.specs.List.{list_any}
use Rattle.std.specs.Prelude.{is_ok, nat_le}
use Rattle.std.proofs.lemmas.Bool.{and_from, and_parts, eq-eqb, leb-true, not_from_false, false≢true}
use Rattle.std.proofs.lemmas.List.{length-map}
use Rattle.pb_base.specs.Names.{same_name}
use Rattle.pb_base.specs.NamedSet.{named}
use Rattle.pb_base.specs.Results.{unless}
use Rattle.book_model.specs.Activity.{is_within}
use Rattle.book_model.specs.Book.{IsBook, SupplementFits}
use Rattle.book_model.specs.Contents.{Contents}
use Rattle.book_model.specs.Good.{breaks, is_good}
use Rattle.book_model.specs.Parts.{parts, selected}
use Rattle.book_model.specs.Sound.{IsReleasable, is_fit, are_fit_from}
use Rattle.book_model.specs.declared.record.Position.{Position}
use Rattle.parts_usage.specs.Broken.{first_broken_of}
use Rattle.parts_usage.specs.Fault.{order_fault}
use Rattle.parts_usage.specs.Outcome.{judged, outcome_of, outcome_of_set}
use Rattle.parts_usage.specs.Unfit.{first_unfit_from, first_unfit_of}
use Rattle.parts_usage.specs.declared.fault.OrderFault.{OrderFault}
use Rattle.parts_usage.specs.declared.judgement.Outcome.{Outcome}
use Rattle.parts_usage.specs.declared.judgement.Outcome.TheVariants as outcome
use Rattle.parts_usage.specs.declared.unfit.Unfit.{Unfit}
use Rattle.release.specs.Accepting.{accepts, is_accepted}
use Rattle.release.specs.Orders.{supplemented}
use Rattle.supplement.specs.Completion.{completion_of}
use Rattle.chosen_parts.specs.Chosen.{AreFew}
use Rattle.supplement.proofs.Laws.{is_completed-completion}
use Rattle.chosen_parts.proofs.FewLaws.{few_from_sound}
use Rattle.chosen_parts.proofs.PlaceLaws.{none_found}
use Rattle.order_again.specs.Again.{IsSameAgain, IsAgain, IsAgainBy}
use Rattle.parts_usage.specs.Ordered.{unless_fault, ordered_of}
use Rattle.order_again.specs.declared.outcome.Again.{Again}
use Rattle.order_again.specs.declared.outcome.Again.TheVariants.{Refused}

-- the codes of an order

pub fault_found : (b : Contents) (day : ℕ) (names : List (List ℕ)) → ordered_of b day names ≡ None → (fault : OrderFault) × (outcome_of b day names ≡ Err fault)
fault_found b day names h = by (order_fault b day names) refl h
  where
    by : (fault : Option OrderFault) → order_fault b day names ≡ fault → unless_fault fault (named b.codes names) ≡ None → (f : OrderFault) × (outcome_of b day names ≡ Err f)
    by None found none = absurd (cc)
    by (Some fault) found none = (fault, ap (λ f. unless f (Ok (outcome_of_set b day (supplemented b day names)))) found)

pub never_ok : (b : Contents) (day : ℕ) (names : List (List ℕ)) (o : Outcome) → ordered_of b day names ≡ None → outcome_of b day names ≡ Ok o → ⊥
never_ok b day names o none ok = false≢true (sym (ap is_ok (fault_found b day names none).1) ∙ ap is_ok ok)

pub length-named : (b : Contents) (names : List (List ℕ)) (set : List Bool) → set ≡ named b.codes names → length set ≡ length b.codes
length-named b names set is = ap length is ∙ length-map b.codes (λ code. list_any (same_name code) names)

-- what it comes to where it has no fault

-- completed codes that break no rule are a good set
good_completed : (b : Contents) (day : ℕ) (names : List (List ℕ)) → IsBook b → first_broken_of b day (supplemented b day names) ≡ None → is_good b day (supplemented b day names) ≡ true
good_completed b day names book unbroken =
    let ordered = named b.codes names in
    let same : length ordered ≡ length b.codes = length-map b.codes (λ code. list_any (same_name code) names) in
    let whole = is_completed-completion b.supplements day ordered (subst (λ n. All (SupplementFits n) b.supplements) (sym same) book.supplements_fit) in
    and_from _ _
    (and_from _ _ whole.closed (not_from_false _ (none_found (breaks day (supplemented b day names)) 0 b.constructs unbroken)))
    (eq-eqb _ _ (whole.same_codes ∙ same))

within_when : (within : Bool) (names : Option OrderFault) (out : OrderFault) → cond within names (Some out) ≡ None → within ≡ true
within_when true names out h = refl
within_when false names out h = absurd (cc)

fits_all : (i : ℕ) (b : Contents) (day : ℕ) (x : List Bool) (ps : List Position) → are_fit_from i b day x ps ≡ true → first_unfit_from i b day x ps ≡ None
fits_all i b day x [] fit = refl
fits_all i b day x (p ∷ ps) fit =
    let both = and_parts (is_fit b day x i p) (are_fit_from (suc i) b day x ps) fit in
    let unfit : Option Unfit = Some (record { position = i; count = length (selected b day x i p) }) in
    ap (λ c. cond c (first_unfit_from (suc i) b day x ps) unfit) both.0 ∙ fits_all (suc i) b day x ps both.1

module _ (b : Contents) (day : ℕ) (names : List (List ℕ)) (faultless : order_fault b day names ≡ None) where
  abbrev x : List Bool
  x = supplemented b day names

  pub comes_to : outcome_of b day names ≡ Ok (outcome_of_set b day (supplemented b day names))
  comes_to = ap (λ fault. unless fault (Ok (outcome_of_set b day (supplemented b day names)))) faultless

  pub is_refused : (rule : ℕ) → first_broken_of b day (supplemented b day names) ≡ Some rule → outcome_of b day names ≡ Ok (outcome.Refused rule)
  is_refused rule is = comes_to ∙ ap (λ broken. Ok (judged broken (first_unfit_of b day x) (outcome.Accepted x (parts b day x)))) is

  -- the rules of a book that can be released leave no position unfit
  module _ (book : IsBook b) (releasable : IsReleasable b) (unbroken : first_broken_of b day (supplemented b day names) ≡ None) where
    within : is_within b.first b.last day ≡ true
    within = within_when (is_within b.first b.last day) _ _ faultless

    sound : are_fit_from 0 b day x b.positions ≡ true
    sound =
        let days = and_parts (nat_le b.first day) (nat_le day b.last) within in
        releasable.sound day (leb-true _ _ days.0) (leb-true _ _ days.1) x (good_completed b day names book unbroken)

    pub is_accepted_by : outcome_of b day names ≡ Ok (outcome.Accepted (supplemented b day names) (parts b day (supplemented b day names)))
    is_accepted_by =
        comes_to
        ∙ ap (λ broken. Ok (judged broken (first_unfit_of b day x) (outcome.Accepted x (parts b day x)))) unbroken
        ∙ ap (λ unfit. Ok (judged None unfit (outcome.Accepted x (parts b day x)))) (fits_all 0 b day x b.positions sound)

    pub few_selected : AreFew b day (supplemented b day names)
    few_selected = few_from_sound b day x sound

-- an answer, by what the other book answers
pub again_refused : (own to : Contents) (day : ℕ) (names : List (List ℕ)) (rule : ℕ) → outcome_of to day names ≡ Ok (outcome.Refused rule) → IsAgain own to day names (Refused rule)
again_refused own to day names rule is = subst (λ o. IsAgainBy own to day (supplemented own day names) o (Refused rule)) (sym is) refl

pub again_by : (own to : Contents) (day : ℕ) (names : List (List ℕ)) (y : List Bool) (again : Again) → outcome_of to day names ≡ Ok (outcome.Accepted y (parts to day y))
    → IsSameAgain own to day (supplemented own day names) y again → IsAgain own to day names again
again_by own to day names y again is h = subst (λ o. IsAgainBy own to day (supplemented own day names) o again) (sym is) h

-- a book finds no fault in an order that it accepts, and the order breaks none of its rules

accepted_is : (b : Contents) (day : ℕ) (names : List (List ℕ)) → accepts b day names ≡ true → is_accepted (outcome_of b day names) ≡ true
unfolding accepts
accepted_is b day names accepted = accepted

pub accepts_ordered : (b : Contents) (day : ℕ) (names : List (List ℕ)) → accepts b day names ≡ true → ordered_of b day names ≡ None → ⊥
accepts_ordered b day names accepted none =
    let found = fault_found b day names none in
    false≢true (sym (ap is_accepted found.1) ∙ accepted_is b day names accepted)

pub accepts_unbroken : (b : Contents) (day : ℕ) (names : List (List ℕ)) → accepts b day names ≡ true → order_fault b day names ≡ None → first_broken_of b day (supplemented b day names) ≡ None
accepts_unbroken b day names accepted faultless = by (first_broken_of b day (supplemented b day names)) refl
  where
    by : (broken : Option ℕ) → first_broken_of b day (supplemented b day names) ≡ broken → first_broken_of b day (supplemented b day names) ≡ None
    by None is = is
    by (Some rule) is = absurd (false≢true (sym (ap is_accepted (is_refused b day names faultless rule is)) ∙ accepted_is b day names accepted))

-- the set with which a book accepts an order
pub few_accepted : (b : Contents) (day : ℕ) (names : List (List ℕ)) → accepts b day names ≡ true → order_fault b day names ≡ None → IsBook b → IsReleasable b → AreFew b day (supplemented b day names)
few_accepted b day names accepted faultless book releasable = few_selected b day names faultless book releasable (accepts_unbroken b day names accepted faultless)

pub set_is : (b : Contents) (day : ℕ) (names : List (List ℕ)) (ordered set : List Bool) → ordered ≡ named b.codes names → set ≡ (completion_of b day ordered).set → set ≡ supplemented b day names
set_is b day names ordered set is completed = completed ∙ ap (λ (x : List Bool). (completion_of b day x).set) is

-- the first rule that it breaks
pub broken_is : (b : Contents) (day : ℕ) (names : List (List ℕ)) (ordered set : List Bool) (broken : Option ℕ) → ordered ≡ named b.codes names → set ≡ (completion_of b day ordered).set
    → broken ≡ first_broken_of b day set → first_broken_of b day (supplemented b day names) ≡ broken
broken_is b day names ordered set broken is completed found =
    ap (first_broken_of b day) (sym (set_is b day names ordered set is completed)) ∙ sym found
