-- Which sets have a parts list without a gap or a choice, and which books can be released.
--     permits p n              a position may have n selected variants
--     is_sound b day x         each active position has a permitted number of them
--     IsReleasable b           on every day of the term some set is good, and every good set is sound
use Rattle.std.specs.Prelude.{ℕ, suc, ◌≤◌, Bool, true, not, ◌&&◌, ◌||◌, ◌==◌, List, [], ◌∷◌, length, nat_le, IsTrue, if◌then◌else◌}
use Rattle.book_model.specs.Contents.{Contents}
use Rattle.book_model.specs.Good.{is_good}
use Rattle.book_model.specs.Parts.{selected, is_active_position}
use Rattle.book_model.specs.declared.record.Position.{Position}

-- exactly one variant of a mandatory position, at most one of an optional one
abbrev pub permits : Position → ℕ → Bool
permits p count = if p.mandatory then count == 1 else nat_le count 1

abbrev pub is_fit : Contents → ℕ → List Bool → ℕ → Position → Bool
is_fit b day x place p = not (is_active_position day p) || permits p (length (selected b day x place p))

-- the same of positions of which the first has the place i
abbrev pub are_fit_from : ℕ → Contents → ℕ → List Bool → List Position → Bool
are_fit_from i b day x [] = true
are_fit_from i b day x (p ∷ ps) = is_fit b day x i p && are_fit_from (suc i) b day x ps

abbrev pub is_sound : Contents → ℕ → List Bool → Bool
is_sound b day x = are_fit_from 0 b day x b.positions

pub record IsReleasable (b : Contents) : Type 0 where
  pub not_void : (day : ℕ) → b.first ≤ day → day ≤ b.last → (x : List Bool) × IsTrue (is_good b day x)
  pub sound : (day : ℕ) → b.first ≤ day → day ≤ b.last → (x : List Bool) → IsTrue (is_good b day x) → IsTrue (is_sound b day x)
