-- How orders are judged while codes are taken out. Codes are told by their places in the book.
--     with_codes x places    the set with the codes at these places put to it; None where one is there already, or is none of its codes
--     passes_set j x         an order of just these codes is accepted, or breaks no rule at least, where positions don't count
--     passes_with j added    the same of the order with these codes added
--     passes j names         the same of an order of codes by their names
--     is_buildable j y       a completed set breaks no rule and fits each position, where these count
--     IsFew j added          with these codes the order passes, and with all of them but one it doesn't
--     AreNeeded j from until added    the second of these holds for each place from one up to another
--     IsPassed j old new needed       what a pass comes to behind which so many of the first codes are known to be needed
--     IsStep j at old new removed     what a pass does at one place
use Rattle.std.specs.Prelude.{◌≡◌, ℕ, ◌<◌, ◌≤◌, Bool, true, false, not, ◌&&◌, ◌||◌, List, [], ◌∷◌, Option, Some, None, length, nat_lt, slice_set, is_none, refl, if◌then◌else◌}
use Rattle.std.specs.List.{remove}
use Rattle.std.specs.Coded.{Coded, code_by, coded×, coded_bool, coded_list, coded_ℕ}
use Rattle.pb_base.specs.Sets.{has}
use Rattle.book_model.specs.Contents.{Contents}
use Rattle.book_model.specs.ContentsCode.{contents_code}
use Rattle.supplement.specs.Completion.{completion_of}
use Rattle.parts_usage.specs.Broken.{first_broken_of}
use Rattle.parts_usage.specs.Unfit.{first_unfit_of}
use Rattle.order_added.specs.Accepted.{is_accepted, is_constructible}

-- `ordered` has the order's own codes
pub record Judging : Type 0 where
  pub book : Contents
  pub day : ℕ
  pub ordered : List Bool
  pub positions : Bool

abbrev pub judging_code : Coded Judging
judging_code =
    code_by (Contents × (ℕ × (List Bool × Bool))) (coded× contents_code (coded× coded_ℕ (coded× (coded_list coded_bool) coded_bool)))
    (λ j. (j.book, (j.day, (j.ordered, j.positions))))
    (λ t. record { book = t.0; day = t.1.0; ordered = t.1.1.0; positions = t.1.1.1 }) (λ _. refl)

abbrev pub is_new : List Bool → ℕ → Bool
is_new x place = nat_lt place (length x) && not (has x place)

abbrev pub with_codes : List Bool → List ℕ → Option (List Bool)
with_codes x [] = Some x
with_codes x (place ∷ places) = if is_new x place then with_codes (slice_set x place true) places else None

abbrev pub is_buildable : Judging → List Bool → Bool
is_buildable j y = is_none (first_broken_of j.book j.day y) && (not j.positions || is_none (first_unfit_of j.book j.day y))

abbrev pub passes_set : Judging → Option (List Bool) → Bool
passes_set j None = false
passes_set j (Some x) = is_buildable j (completion_of j.book j.day x).set

unfoldable pub passes_with : Judging → List ℕ → Bool
passes_with j added = passes_set j (with_codes j.ordered added)

unfoldable pub passes : Judging → List (List ℕ) → Bool
passes j names = if j.positions then is_accepted j.book j.day names else is_constructible j.book j.day names

abbrev pub AreNeeded : Judging → ℕ → ℕ → List ℕ → Type 0
AreNeeded j from until added = (place : ℕ) → from ≤ place → place < until → place < length added → passes_with j (remove added place) ≡ false

pub record IsFew (j : Judging) (added : List ℕ) : Type 0 where
  pub passes : passes_with j added ≡ true
  pub needed : (place : ℕ) → place < length added → passes_with j (remove added place) ≡ false

-- where others are not known to be needed, there are fewer codes than before
pub record IsPassed (j : Judging) (old new : List ℕ) (needed : ℕ) : Type 0 where
  pub are_needed : AreNeeded j 0 needed new
  pub fewer : needed < length new → length new < length old

-- the code is taken out, or it is needed
pub record IsStep (j : Judging) (at : ℕ) (old new : List ℕ) (removed : Bool) : Type 0 where
  pub passes : passes_with j new ≡ true
  pub is : new ≡ (if removed then remove old at else old)
  pub needed : removed ≡ false → passes_with j (remove old at) ≡ false
