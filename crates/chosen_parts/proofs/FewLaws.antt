-- Where each position fits a set, at most one variant is selected at each, and a list of at most one item is its first one.
use Rattle.std.proofs.Common.{◌≡◌, ℕ, zero, suc, ◌+◌, ◌≤◌, Bool, true, false, not, ◌||◌, ◌==◌, List, [], ◌∷◌, Option, Some, None, length, map, refl, sym, ap, subst, ◌∙◌, arith, if◌then◌else◌}
use Rattle.std.specs.Prelude.{nat_le}
use Rattle.std.specs.List.{slice_get}
use Rattle.std.specs.Option.{option_map_or, option_to_list}
use Rattle.std.proofs.lemmas.Bool.{and_parts, eqb-true, leb-true}
use Rattle.std.proofs.lemmas.List.{length-map}
use Rattle.book_model.specs.Contents.{Contents}
use Rattle.book_model.specs.Parts.{is_active_position, selected, selected_of}
use Rattle.book_model.specs.Sound.{permits, is_fit, are_fit_from, is_sound}
use Rattle.book_model.specs.declared.record.Position.{Position}
use Rattle.chosen_parts.specs.Chosen.{part_use, selected_at, chosen_at, AreFew}

few_permitted : (p : Position) (count : ℕ) → permits p count ≡ true → count ≤ 1
few_permitted p count fit = by p.mandatory fit
  where
    by : (mandatory : Bool) → (if mandatory then count == 1 else nat_le count 1) ≡ true → count ≤ 1
    by true one = omega (arith, eqb-true count 1 one)
    by false few = leb-true count 1 few

few_where_fit : (b : Contents) (day : ℕ) (x : List Bool) (place : ℕ) (p : Position) → is_fit b day x place p ≡ true → length (selected b day x place p) ≤ 1
few_where_fit b day x place p fit = by (is_active_position day p) refl
  where
    by : (active : Bool) → is_active_position day p ≡ active → length (selected b day x place p) ≤ 1
    by true is = few_permitted p (length (selected b day x place p)) (sym (ap (λ a. not a || permits p (length (selected b day x place p))) is) ∙ fit)
    by false is =
        let none : length (selected b day x place p) ≡ 0 = ap (λ a. length (if a then selected_of b day x place else [])) is in
        omega (arith, none)

abbrev pub AllFitting : Contents → ℕ → List Bool → Type 0
AllFitting b day x = (place : ℕ) (p : Position) → slice_get b.positions place ≡ Some p → is_fit b day x place p ≡ true

pub few_from_fit : (b : Contents) (day : ℕ) (x : List Bool) → AllFitting b day x → AreFew b day x
few_from_fit b day x fit = λ place. by place (slice_get b.positions place) refl
  where
    by : (place : ℕ) (o : Option Position) → slice_get b.positions place ≡ o → length (selected_at b day x place) ≤ 1
    by place None is =
        let none : length (selected_at b day x place) ≡ 0 = ap (λ o. length (option_map_or (selected b day x place) o [])) is in
        omega (arith, none)
    by place (Some p) is =
        let one : length (selected_at b day x place) ≡ length (selected b day x place p) = ap (λ o. length (option_map_or (selected b day x place) o [])) is in
        let few : length (selected b day x place p) ≤ 1 = few_where_fit b day x place p (fit place p is) in
        omega (arith, one, few)

fit_at : (b : Contents) (day : ℕ) (x : List Bool) (ps : List Position) (i place : ℕ) (p : Position) → are_fit_from i b day x ps ≡ true
    → slice_get ps place ≡ Some p → is_fit b day x (i + place) p ≡ true
fit_at b day x [] i place p fit is = cc
fit_at b day x (q ∷ ps) i zero p fit is =
    let same : q ≡ p = cc in
    let here : i ≡ i + zero = omega arith in
    subst (λ k. is_fit b day x k p ≡ true) here (subst (λ r. is_fit b day x i r ≡ true) same
    (and_parts (is_fit b day x i q) (are_fit_from (suc i) b day x ps) fit).0)
fit_at b day x (q ∷ ps) i (suc place) p fit is =
    let here : suc i + place ≡ i + suc place = omega arith in
    subst (λ k. is_fit b day x k p ≡ true) here
    (fit_at b day x ps (suc i) place p (and_parts (is_fit b day x i q) (are_fit_from (suc i) b day x ps) fit).1 is)

-- a sound set selects at most one at each position
pub few_from_sound : (b : Contents) (day : ℕ) (x : List Bool) → is_sound b day x ≡ true → AreFew b day x
few_from_sound b day x sound =
    few_from_fit b day x (λ place p is.
    let here : 0 + place ≡ place = omega arith in
    subst (λ k. is_fit b day x k p ≡ true) here (fit_at b day x b.positions 0 place p sound is))

pub first_alone : {X : Type 0} (xs : List X) → length xs ≤ 1 → option_to_list (slice_get xs 0) ≡ xs
first_alone [] few = refl
first_alone (x ∷ []) few = refl
first_alone (x ∷ y ∷ xs) few = absurd (omega arith)

pub few_chosen : (b : Contents) (day : ℕ) (x : List Bool) (place : ℕ) → AreFew b day x → length (chosen_at b day x place) ≤ 1
few_chosen b day x place few = omega (arith, length-map (selected_at b day x place) (part_use b), few place)

pub option_to_list-apart : {X : Type 0} (o p : Option X) → option_to_list o ≡ option_to_list p → o ≡ p
option_to_list-apart None None same = refl
option_to_list-apart None (Some y) same = cc
option_to_list-apart (Some x) None same = cc
option_to_list-apart (Some x) (Some y) same = cc
