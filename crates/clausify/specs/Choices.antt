-- The choices of a day: its active positions, each with its active variants.
--     usage b variant               the formula of the variant at this place
--     active_variants b day place   the places of a position's active variants, in record order
--     choices b day                 the active positions, in record order
use Rattle.std.specs.Prelude.{ℕ, suc, Bool, false, List, [], ◌∷◌, filter, slice_get, if◌then◌else◌}
use Rattle.std.specs.Option.{option_map_or}
use Rattle.pb_base.specs.Rule.{Rule, never}
use Rattle.book_model.specs.Activity.{is_within}
use Rattle.book_model.specs.Contents.{Contents}
use Rattle.book_model.specs.Parts.{variants_of, is_active_position}
use Rattle.book_model.specs.declared.record.Position.{Position}

pub record Choice : Type 0 where
  pub position : ℕ
  pub mandatory : Bool
  pub variants : List ℕ

abbrev pub usage : Contents → ℕ → Rule
usage b variant = option_map_or (λ v. v.rule) (slice_get b.variants variant) never

abbrev pub is_active_variant : Contents → ℕ → ℕ → Bool
is_active_variant b day variant = option_map_or (λ v. is_within v.from v.until day) (slice_get b.variants variant) false

abbrev pub active_variants : Contents → ℕ → ℕ → List ℕ
active_variants b day place = filter (is_active_variant b day) (variants_of place b.variants)

-- the same of positions of which the first has the place i
abbrev pub choices_from : ℕ → Contents → ℕ → List Position → List Choice
choices_from i b day [] = []
choices_from i b day (p ∷ ps) =
    if is_active_position day p
    then record { position = i; mandatory = p.mandatory; variants = active_variants b day i } ∷ choices_from (suc i) b day ps
    else choices_from (suc i) b day ps

abbrev pub choices : Contents → ℕ → List Choice
choices b day = choices_from 0 b day b.positions
