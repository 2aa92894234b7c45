-- Positions with the same variants in two books, whatever their ids are.
--     variants_at b day id                         the active variants of the position of an id, where it is active
--     IsSameUsage numbers first second u w         the same part, as many of it, and the same formula, over one numbering
--     AreSameUsages numbers first us second ws     the same of two lists of variants, one by one
use Rattle.std.specs.Prelude.{◌≡◌, ℕ, ◌<◌, List, [], Some, length, slice_get, if◌then◌else◌}
use Rattle.std.specs.Option.{option_map_or}
use Rattle.pb_base.specs.Leaves.{with_places}
use Rattle.book_model.specs.Contents.{Contents}
use Rattle.book_model.specs.Parts.{is_active_position}
use Rattle.book_model.specs.declared.record.Position.{Position}
use Rattle.book_model.specs.declared.record.Variant.{Variant}
use Rattle.clausify.specs.Choices.{active_variants, usage}
use Rattle.chosen_parts.specs.Chosen.{position_place, use_of, part_use}
use Rattle.book_compare.specs.JointItems.{renamed_usage}

-- what a position has that day
abbrev pub active_of : Contents → ℕ → ℕ → Position → List ℕ
active_of b day place p = if is_active_position day p then active_variants b day place else []

abbrev pub variants_on : Contents → ℕ → ℕ → List ℕ
variants_on b day place = option_map_or (active_of b day place) (slice_get b.positions place) []

abbrev pub variants_at : Contents → ℕ → List ℕ → List ℕ
variants_at b day id = option_map_or (variants_on b day) (position_place b id) []

pub record IsSameVariant (numbers : List ℕ) (v w : Variant) : Type 0 where
  pub part : use_of v ≡ use_of w
  pub rule : v.rule ≡ with_places numbers w.rule

pub record IsSameUsage (numbers : List ℕ) (first second : Contents) (u w : ℕ) : Type 0 where
  pub part : part_use first u ≡ part_use second w
  pub rule : usage first u ≡ renamed_usage numbers second w

-- those at the first places, so many of them
abbrev pub AreSameBelow : List ℕ → Contents → List ℕ → Contents → List ℕ → ℕ → Type 0
AreSameBelow numbers first us second ws count =
    (k u w : ℕ) → k < count → slice_get us k ≡ Some u → slice_get ws k ≡ Some w → IsSameUsage numbers first second u w

pub record AreSameUsages (numbers : List ℕ) (first : Contents) (us : List ℕ) (second : Contents) (ws : List ℕ) : Type 0 where
  pub count : length us ≡ length ws
  pub each : AreSameBelow numbers first us second ws (length us)
