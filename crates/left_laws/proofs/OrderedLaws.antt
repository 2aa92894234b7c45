-- Accepted orders come to cars that are left, and each such car can be ordered as it stands.
use Rattle.std.proofs.Common.{◌≡◌, ℕ, suc, ◌<◌, ◌≤◌, Bool, true, false, ◌&&◌, ◌||◌, ◌==◌, List, [], ◌∷◌, length, refl, sym, ap, subst, ◌∙◌, arith, All, IsTrue, inl, inr}
use Rattle.std.specs.Prelude.{nat_le}
use Rattle.std.specs.List.{list_all, list_any, IsDistinct}
use Rattle.std.proofs.lemmas.Bool.{and_parts, and_from, cases_Bool, eqb-true, leb-true, true≢false}
use Rattle.std.proofs.lemmas.List.{length-map}
use Rattle.blame.specs.Blame.{IsTold}
use Rattle.blame.specs.declared.blamed.Told.{Told}
use Rattle.blame.specs.declared.blamed.Told.TheVariants as told
use Rattle.pb_base.specs.Names.{same_name}
use Rattle.pb_base.specs.NamedSet.{named}
use Rattle.pb_base.specs.Rule.{Rule}
use Rattle.pb_base.specs.Sets.{has}
use Rattle.pb_base.specs.Picked.{picked}
use Rattle.pb_base.proofs.PickLaws.{named-picked, picked_distinct, picked_named}
use Rattle.book_model.specs.Activity.{is_within}
use Rattle.book_model.specs.Book.{SupplementFits}
use Rattle.book_model.specs.Contents.{Contents}
use Rattle.book_model.specs.Good.{is_closed, is_constructible, is_good}
use Rattle.book_model.specs.Slices.{IsSteady}
use Rattle.book_model.specs.Sound.{IsReleasable}
use Rattle.book_model.specs.declared.record.Slice.{Slice}
use Rattle.book_model.proofs.DaysAlike.{good_on_slice}
use Rattle.left_cars.specs.Freedom.{IsFree, IsState}
use Rattle.left_cars.specs.Left.{is_chosen, is_left, IsOpen, IsShown}
use Rattle.left_cars.specs.declared.states.CodeState.{CodeState}
use Rattle.left_cars.specs.declared.states.CodeState.TheVariants as state
use Rattle.left_cars.specs.declared.states.Freedom.{Freedom}
use Rattle.left_cars.specs.declared.states.Freedom.TheVariants.{NoneLeft, NotDecided, Codes}
use Rattle.left_cars.proofs.LeftLaws.{good_of_left, length_of_left}
use Rattle.left_laws.specs.Laws.{IsNamedBook, IsAcceptedWith, IsOrdered, IsOrderFor, OrdersFor, IsSoOfOrders, OrdersAreSo, OrdersMeet}
use Rattle.left_laws.proofs.AcceptLaws.{accepted_good, good_accepted}
use Rattle.release.specs.Orders.{IsWellFormed, supplemented}
use Rattle.supplement.specs.Completion.{Includes, completion_of}
use Rattle.supplement.proofs.Laws.{completion-closed, is_completed-completion}

includes_all : (x y : List Bool) → Includes x y → (chosen : List ℕ) → list_all (has x) chosen ≡ true → list_all (has y) chosen ≡ true
includes_all x y more [] h = refl
includes_all x y more (c ∷ cs) h =
    let parts = and_parts (has x c) (list_all (has x) cs) h in
    and_from (has y c) (list_all (has y) cs) (more c parts.0) (includes_all x y more cs parts.1)

-- sets of one length that have the same codes are equal
same_sets : (x y : List Bool) → length x ≡ length y → ((i : ℕ) → i < length x → has x i ≡ has y i) → x ≡ y
same_sets [] [] counted same = refl
same_sets [] (b ∷ y) counted same = absurd (omega arith)
same_sets (a ∷ x) [] counted same = absurd (omega arith)
same_sets (a ∷ x) (b ∷ y) counted same =
    let head : a ≡ b = same 0 (omega arith) in
    let tail : x ≡ y = same_sets x y (omega arith) (λ i low. same (suc i) (omega arith)) in
    ap (λ (c : Bool). c ∷ x) head ∙ ap (λ (z : List Bool). b ∷ z) tail

-- the names of a set name it
named_is_set : (codes : List (List ℕ)) (x : List Bool) → IsDistinct same_name codes → length x ≡ length codes → named codes (picked codes x) ≡ x
named_is_set codes x apart counted =
    let size : length (named codes (picked codes x)) ≡ length codes = length-map codes (λ code. list_any (same_name code) (picked codes x)) in
    sym (same_sets x (named codes (picked codes x)) (counted ∙ sym size) (λ i low. named-picked codes x apart i (omega (arith, counted))))

-- what has each chosen code has this one
chosen_has : (x : List Bool) (chosen : List ℕ) (place : ℕ) → list_all (has x) chosen ≡ true → is_chosen chosen place ≡ true → has x place ≡ true
chosen_has x [] place all there = let clash : false ≡ true = there in cc
chosen_has x (c ∷ cs) place all there =
    let parts = and_parts (has x c) (list_all (has x) cs) all in
    elim (cases_Bool (c == place)) [
      | inl same ↦ ap (has x) (sym (eqb-true c place same)) ∙ parts.0
      | inr other ↦ chosen_has x cs place parts.1 (sym (ap (λ (t : Bool). t || is_chosen cs place) other) ∙ there)
    ]

module _ (b : Contents) (known : IsNamedBook b) (day : ℕ) where
  includes_named : (names : List (List ℕ)) → Includes (named b.codes names) (supplemented b day names)
  includes_named names =
      let same : length (named b.codes names) ≡ length b.codes = length-map b.codes (λ code. list_any (same_name code) names) in
      (is_completed-completion b.supplements day (named b.codes names) (subst (λ n. All (SupplementFits n) b.supplements) (sym same) known.book.supplements_fit)).includes

  -- an accepted order that names the chosen codes comes to a car that is left
  pub comes_left : (names : List (List ℕ)) (chosen : List ℕ) → IsAcceptedWith b day chosen names → is_left b day chosen (supplemented b day names) ≡ true
  comes_left names chosen h =
      and_from (is_good b day (supplemented b day names)) (list_all (has (supplemented b day names)) chosen) (accepted_good b day names known.book h.accepted)
      (includes_all (named b.codes names) (supplemented b day names) (includes_named names) chosen h.names_all)

  -- such a car, ordered as it stands, is accepted and comes to itself
  pub left_ordered : (chosen : List ℕ) (x : List Bool) → IsReleasable b → is_within b.first b.last day ≡ true → is_left b day chosen x ≡ true → IsOrdered b day chosen x
  left_ordered chosen x releasable within left =
      let days = and_parts (nat_le b.first day) (nat_le day b.last) within in
      let names : List (List ℕ) = picked b.codes x in
      let good : is_good b day x ≡ true = good_of_left b day chosen x left in
      let chosen_there : list_all (has x) chosen ≡ true = (and_parts (is_good b day x) (list_all (has x) chosen) left).1 in
      let is : named b.codes names ≡ x = named_is_set b.codes x known.distinct (length_of_left b day chosen x left) in
      let rules = (and_parts (is_closed b day x && is_constructible b day x) _ good).0 in
      let kinds = and_parts (is_closed b day x) (is_constructible b day x) rules in
      let comes : supplemented b day names ≡ x =
      ap (λ (y : List Bool). (completion_of b day y).set) is ∙ ap (λ c. c.set) (completion-closed b day x kinds.0) in
      let formed : IsWellFormed b day names =
      record {
        first = leb-true b.first day days.0;
        last = leb-true day b.last days.1;
        known = picked_named 0 x b.codes;
        distinct = picked_distinct 0 x b.codes known.distinct;
      } in
      record {
        accepted = record {
          formed = formed;
          names_all = ap (λ (y : List Bool). list_all (has y) chosen) is ∙ chosen_there;
          accepted = good_accepted b day names known.book releasable formed (ap (is_constructible b day) comes ∙ kinds.1);
        };
        comes = comes;
      }

  order_for : (chosen : List ℕ) (place : ℕ) (value : Bool) → IsReleasable b → is_within b.first b.last day ≡ true → IsShown b day chosen place value
      → IsOrderFor b day chosen place value
  order_for chosen place value releasable within shown =
      let ordered : IsOrdered b day chosen shown.car = left_ordered chosen shown.car releasable within shown.left in
      record {
        names = picked b.codes shown.car;
        accepted = ordered.accepted;
        shows = ap (λ (y : List Bool). has y place) ordered.comes ∙ shown.shows;
      }

  orders_for : (chosen : List ℕ) (place : ℕ) → IsReleasable b → is_within b.first b.last day ≡ true → IsOpen b day chosen place → OrdersFor b day chosen place
  orders_for chosen place releasable within both = record {
    with_it = order_for chosen place true releasable within both.with_it;
    without = order_for chosen place false releasable within both.without;
  }

  -- ---- what is told of codes

  code_so : (chosen : List ℕ) (budget place : ℕ) (s : CodeState) → is_within b.first b.last day ≡ true → IsState b day chosen budget place s
      → IsSoOfOrders b day chosen place s
  code_so chosen budget place state.Ordered within h = λ names accepted.
      chosen_has (supplemented b day names) chosen place
      (and_parts (is_good b day (supplemented b day names)) (list_all (has (supplemented b day names)) chosen) (comes_left names chosen accepted)).1 h
  code_so chosen budget place state.Forced within h = λ names accepted. h.1 (supplemented b day names) (comes_left names chosen accepted)
  code_so chosen budget place state.Excluded within h = λ names accepted. h.1 (supplemented b day names) (comes_left names chosen accepted)
  code_so chosen budget place state.Open within h = λ releasable. orders_for chosen place releasable within h.1
  code_so chosen budget place (state.Undecided learnt) within h = λ releasable. (h.1.value, order_for chosen place h.1.value releasable within h.1.shown)

  pub orders_so : (chosen : List ℕ) (budget : ℕ) (f : Freedom) → is_within b.first b.last day ≡ true → IsFree b day chosen budget f → OrdersAreSo b day chosen f
  orders_so chosen budget NoneLeft within h = λ names accepted.
      true≢false (sym (comes_left names chosen accepted) ∙ h (supplemented b day names))
  orders_so chosen budget (NotDecided learnt) within h = tt
  orders_so chosen budget (Codes states) within h = λ place s is. code_so chosen budget place s within (h.each place s is)

  -- ---- what is told of a rule

  pub orders_meet : (rule : Rule) (budget : ℕ) (t : Told) → is_within b.first b.last day ≡ true → IsTold b day [] rule budget t → OrdersMeet b day rule t
  orders_meet rule budget (told.Car x) within h = λ releasable. left_ordered [] x releasable within (and_from (is_good b day x) true h.good refl)
  orders_meet rule budget (told.NoCar m) within h = λ names accepted.
      h.no_car (supplemented b day names) (good_of_left b day [] (supplemented b day names) (comes_left names [] accepted)) refl
  orders_meet rule budget (told.Undecided learnt) within h = tt

pub left_on_slice : (b : Contents) (s : Slice) (day : ℕ) (chosen : List ℕ) (x : List Bool) → IsSteady b s → IsTrue (is_within s.first s.last day)
    → is_left b day chosen x ≡ is_left b s.first chosen x
left_on_slice b s day chosen x steady within = ap (λ (t : Bool). t && list_all (has x) chosen) (good_on_slice b s day x steady within)
