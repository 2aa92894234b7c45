-- A well-formed order at a released book is accepted exactly where it can be built, and then has one complete parts list.
use Rattle.std.proofs.Common.{◌≡◌, ℕ, zero, suc, ◌+◌, ◌<◌, ◌≤◌, ◌==◌, Bool, true, false, cond, not, ◌||◌, List, [], ◌∷◌, ◌++◌, length, Option, Some, None, Ok, refl, sym, ap, subst, ◌∙◌, arith, append-nil}
use Rattle.std.specs.Prelude.{nat_le, slice_get, if◌then◌else◌}
use Rattle.std.specs.List.{list_any, position_from}
use Rattle.std.specs.Option.{option_map}
use Rattle.std.proofs.lemmas.Bool.{and_from, and_parts, eqb-true, eq-eqb, ne_eqb, false≢true, true≢false, leb-true, le-leb}
use Rattle.pb_base.proofs.Faultless.{no_fault}
use Rattle.pb_base.specs.Results.{unless}
use Rattle.book_model.specs.Activity.{is_within}
use Rattle.book_model.specs.Book.{IsBook}
use Rattle.book_model.specs.Contents.{Contents}
use Rattle.book_model.specs.Good.{breaks, is_constructible, is_good}
use Rattle.book_model.specs.Parts.{PartsLine, is_active_position, lines_at, parts, parts_from, selected, selected_of}
use Rattle.book_model.specs.Sound.{is_fit, are_fit_from, permits}
use Rattle.book_model.specs.declared.record.Position.{Position}
use Rattle.book_text.proofs.BookLaw.{book_of-book}
use Rattle.parts_usage.specs.Broken.{first_broken_of}
use Rattle.parts_usage.specs.Fault.{fault_of_name, order_fault}
use Rattle.parts_usage.specs.Outcome.{judged, outcome_of, outcome_of_set}
use Rattle.parts_usage.specs.Unfit.{first_unfit_of}
use Rattle.parts_usage.specs.declared.fault.OrderFault.{OrderFault}
use Rattle.parts_usage.specs.declared.fault.OrderFault.TheVariants.{DayOutsideTerm}
use Rattle.parts_usage.specs.declared.judgement.Outcome.TheVariants as outcome
use Rattle.release.specs.Accepting.{accepts, is_accepted}
use Rattle.release.specs.Orders.{IsWellFormed, supplemented, can_be_built, HasOneList, lines_of, IsBuilt, IsTurnedAway}
use Rattle.release.specs.Release.{Release, IsRelease}
use Rattle.release.proofs.NeverUnfit.{fits_when_unbroken, good_completed, none_passes}

-- ---- rules that are broken

some_passes : {X : Type 0} (test : X → Bool) (i k : ℕ) (xs : List X) → position_from test i xs ≡ Some k → list_any test xs ≡ true
some_passes test i k [] h = absurd (cc)
some_passes test i k (x ∷ xs) h = by (test x) refl h (some_passes test (i + 1) k xs)
  where
    by : (t : Bool) → test x ≡ t → cond t (Some i) (position_from test (i + 1) xs) ≡ Some k
        → (position_from test (i + 1) xs ≡ Some k → list_any test xs ≡ true) → list_any test (x ∷ xs) ≡ true
    by true is found later = ap (λ t. t || list_any test xs) is
    by false is found later = ap (λ t. t || list_any test xs) is ∙ later found

unbroken : (b : Contents) (day : ℕ) (x : List Bool) → is_constructible b day x ≡ true → first_broken_of b day x ≡ None
unbroken b day x built = by (first_broken_of b day x) refl
  where
    by : (o : Option ℕ) → first_broken_of b day x ≡ o → first_broken_of b day x ≡ None
    by None is = is
    by (Some rule) is = absurd (false≢true (sym (ap not (some_passes (breaks day x) 0 rule b.constructs is)) ∙ built))

broken : (b : Contents) (day : ℕ) (x : List Bool) → is_constructible b day x ≡ false → (rule : ℕ) × (first_broken_of b day x ≡ Some rule)
broken b day x unbuilt = by (first_broken_of b day x) refl
  where
    by : (o : Option ℕ) → first_broken_of b day x ≡ o → (rule : ℕ) × (first_broken_of b day x ≡ Some rule)
    by None is = absurd (true≢false (sym (ap not (none_passes (breaks day x) 0 b.constructs is)) ∙ unbuilt))
    by (Some rule) is = (rule, is)

-- ---- an order without a fault

within_term : (b : Contents) (day : ℕ) (names : List (List ℕ)) → IsWellFormed b day names → is_within b.first b.last day ≡ true
within_term b day names formed =
    and_from (nat_le b.first day) (nat_le day b.last) (le-leb b.first day formed.first) (le-leb day b.last formed.last)

faultless : (b : Contents) (day : ℕ) (names : List (List ℕ)) → IsWellFormed b day names → order_fault b day names ≡ None
faultless b day names formed =
    let outside : Option OrderFault = Some DayOutsideTerm in
    ap (λ o. if is_within b.first b.last day then option_map fault_of_name o else outside) (no_fault b.codes names formed.known formed.distinct)
    ∙ ap (λ w. if w then None else outside) (within_term b day names formed)

comes_to : (b : Contents) (day : ℕ) (names : List (List ℕ)) → IsWellFormed b day names
    → outcome_of b day names ≡ Ok (outcome_of_set b day (supplemented b day names))
comes_to b day names formed =
    ap (λ fault. unless fault (Ok (outcome_of_set b day (supplemented b day names)))) (faultless b day names formed)

-- ---- one complete list

fit_at : (b : Contents) (day : ℕ) (x : List Bool) (ps : List Position) (i place : ℕ) (p : Position) → are_fit_from i b day x ps ≡ true
    → slice_get ps place ≡ Some p → is_fit b day x (i + place) p ≡ true
fit_at b day x [] i place p fit is = cc
fit_at b day x (q ∷ ps) i zero p fit is =
    let same : q ≡ p = cc in
    let here : i ≡ i + zero = omega arith in
    subst (λ k. is_fit b day x k p ≡ true) here (subst (λ r. is_fit b day x i r ≡ true) same
    (and_parts (is_fit b day x i q) (are_fit_from (suc i) b day x ps) fit).0)
fit_at b day x (q ∷ ps) i (suc place) p fit is =
    let here : suc i + place ≡ i + suc place = omega arith in
    subst (λ k. is_fit b day x k p ≡ true) here
    (fit_at b day x ps (suc i) place p (and_parts (is_fit b day x i q) (are_fit_from (suc i) b day x ps) fit).1 is)

one_of : (variants : List ℕ) → (length variants == 1) ≡ true → (variant : ℕ) × (variants ≡ variant ∷ [])
one_of [] one = absurd (false≢true one)
one_of (v ∷ []) one = (v, refl)
one_of (v ∷ w ∷ vs) one = absurd (omega (arith, eqb-true (length (v ∷ w ∷ vs)) 1 one))

few_permitted : (p : Position) (count : ℕ) → permits p count ≡ true → count ≤ 1
few_permitted p count fit = by p.mandatory fit
  where
    by : (mandatory : Bool) → (if mandatory then count == 1 else nat_le count 1) ≡ true → count ≤ 1
    by true one = omega (arith, eqb-true count 1 one)
    by false few = leb-true count 1 few

permitted : (b : Contents) (day : ℕ) (x : List Bool) (place : ℕ) (p : Position) → is_fit b day x place p ≡ true
    → is_active_position day p ≡ true → permits p (length (selected b day x place p)) ≡ true
permitted b day x place p fit active = sym (ap (λ a. not a || permits p (length (selected b day x place p))) active) ∙ fit

one_list : (b : Contents) (day : ℕ) (x : List Bool) → are_fit_from 0 b day x b.positions ≡ true → HasOneList b day x
one_list b day x fit = record {
  mandatory = λ place p is active mandatory.
      one_of (selected b day x place p)
      (sym (ap (λ m. if m then length (selected b day x place p) == 1 else nat_le (length (selected b day x place p)) 1) mandatory)
      ∙ permitted b day x place p (fits place p is) active);
  nowhere_two = λ place p is. two place p (fits place p is) (is_active_position day p) refl;
}
  where
    fits : (place : ℕ) (p : Position) → slice_get b.positions place ≡ Some p → is_fit b day x place p ≡ true
    fits place p is =
        let here : 0 + place ≡ place = omega arith in
        subst (λ k. is_fit b day x k p ≡ true) here (fit_at b day x b.positions 0 place p fit is)

    two : (place : ℕ) (p : Position) → is_fit b day x place p ≡ true → (active : Bool) → is_active_position day p ≡ active
        → length (selected b day x place p) ≤ 1
    two place p so true is = few_permitted p (length (selected b day x place p)) (permitted b day x place p so is)
    two place p so false is =
        let none : length (selected b day x place p) ≡ 0 = ap (λ a. length (if a then selected_of b day x place else [])) is in
        omega (arith, none)

-- ---- the laws

module _ (r : Release) (day : ℕ) (names : List (List ℕ)) (release : IsRelease r) (formed : IsWellFormed r.book day names) where
  book : IsBook r.book
  book = book_of-book r.text r.book release.reads

  abbrev x : List Bool
  x = supplemented r.book day names

  pub built : can_be_built r.book day names ≡ true → IsBuilt r.book day names
  built can = record {
    accepted =
        comes_to r.book day names formed
        ∙ ap (λ rule. Ok (judged rule (first_unfit_of r.book day x) (outcome.Accepted x (parts r.book day x)))) none
        ∙ ap (λ unfit. Ok (judged None unfit (outcome.Accepted x (parts r.book day x))))
        (fits_when_unbroken r.book day names book release.releasable (within_term r.book day names formed) none);
    good = good;
    one_list = one_list r.book day x (release.releasable.sound day formed.first formed.last x good);
  }
    where
      none : first_broken_of r.book day x ≡ None
      none = unbroken r.book day x can

      good : is_good r.book day x ≡ true
      good = good_completed r.book day names book none

  pub turned_away : can_be_built r.book day names ≡ false → IsTurnedAway r.book day names
  turned_away cannot = record {
    rule = found.0;
    first = found.1;
    refused =
        comes_to r.book day names formed
        ∙ ap (λ rule. Ok (judged rule (first_unfit_of r.book day x) (outcome.Accepted x (parts r.book day x)))) found.1;
  }
    where
      found : (rule : ℕ) × (first_broken_of r.book day x ≡ Some rule)
      found = broken r.book day x cannot

  pub accepted_as_built : accepts r.book day names ≡ can_be_built r.book day names
  unfolding accepts
  accepted_as_built = by (can_be_built r.book day names) refl
    where
      by : (b : Bool) → can_be_built r.book day names ≡ b → is_accepted (outcome_of r.book day names) ≡ can_be_built r.book day names
      by true is = ap is_accepted (built is).accepted ∙ sym is
      by false is = ap is_accepted (turned_away is).refused ∙ sym is

-- ---- the lines of a list

own_lines : (place : ℕ) (variants : List ℕ) (rest : List PartsLine) → lines_of place (lines_at place variants ++ rest) ≡ lines_at place variants ++ lines_of place rest
own_lines place [] rest = refl
own_lines place (v ∷ vs) rest =
    let line : PartsLine = record { position = place; variant = v } in
    ap (λ own. cond own (line ∷ lines_of place (lines_at place vs ++ rest)) (lines_of place (lines_at place vs ++ rest))) (eq-eqb place place refl)
    ∙ ap (λ lines. line ∷ lines) (own_lines place vs rest)

other_lines : (place other : ℕ) (variants : List ℕ) (rest : List PartsLine) → (other == place) ≡ false
    → lines_of place (lines_at other variants ++ rest) ≡ lines_of place rest
other_lines place other [] rest apart = refl
other_lines place other (v ∷ vs) rest apart =
    let line : PartsLine = record { position = other; variant = v } in
    ap (λ own. cond own (line ∷ lines_of place (lines_at other vs ++ rest)) (lines_of place (lines_at other vs ++ rest))) apart
    ∙ other_lines place other vs rest apart

none_later : (b : Contents) (day : ℕ) (x : List Bool) (place i : ℕ) (ps : List Position) → place < i → lines_of place (parts_from i b day x ps) ≡ []
none_later b day x place i [] before = refl
none_later b day x place i (p ∷ ps) before =
    other_lines place i (selected b day x i p) (parts_from (suc i) b day x ps) (ne_eqb i place (λ same. omega (arith, same, before)))
    ∙ none_later b day x place (suc i) ps (omega (arith, before))

lines_from : (b : Contents) (day : ℕ) (x : List Bool) (ps : List Position) (i k : ℕ) (p : Position) → slice_get ps k ≡ Some p
    → lines_of (i + k) (parts_from i b day x ps) ≡ lines_at (i + k) (selected b day x (i + k) p)
lines_from b day x [] i k p is = cc
lines_from b day x (q ∷ ps) i zero p is =
    let same : q ≡ p = cc in
    let here : i ≡ i + zero = omega arith in
    subst (λ place. lines_of place (parts_from i b day x (q ∷ ps)) ≡ lines_at place (selected b day x place p)) here
    (own_lines i (selected b day x i q) (parts_from (suc i) b day x ps)
    ∙ ap (λ rest. lines_at i (selected b day x i q) ++ rest) (none_later b day x i (suc i) ps (omega arith))
    ∙ append-nil (lines_at i (selected b day x i q))
    ∙ ap (λ r. lines_at i (selected b day x i r)) same)
lines_from b day x (q ∷ ps) i (suc k) p is =
    let here : suc i + k ≡ i + suc k = omega arith in
    other_lines (i + suc k) i (selected b day x i q) (parts_from (suc i) b day x ps) (ne_eqb i (i + suc k) (λ same. omega (arith, same)))
    ∙ subst (λ place. lines_of place (parts_from (suc i) b day x ps) ≡ lines_at place (selected b day x place p)) here
    (lines_from b day x ps (suc i) k p is)

pub lines_are_selected : (b : Contents) (day : ℕ) (x : List Bool) (place : ℕ) (p : Position) → slice_get b.positions place ≡ Some p
    → lines_of place (parts b day x) ≡ lines_at place (selected b day x place p)
lines_are_selected b day x place p is =
    let here : 0 + place ≡ place = omega arith in
    subst (λ at. lines_of at (parts b day x) ≡ lines_at at (selected b day x at p)) here (lines_from b day x b.positions 0 place p is)
