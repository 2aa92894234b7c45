-- Which variants a set of codes selects on a day.
--     variants_of place vs       the places of a position's variants, in record order
--     is_selected day x v        the variant is active and its formula is true
--     is_selected_at b day x v   the same of the variant at the place v
--     selected_of b day x place  the selected variants of a position that is active
--     selected b day x place p   the same of any position: none where it is not active
--     parts b day x              all of them, as lines of position and variant
use Rattle.std.specs.Prelude.{ℕ, suc, Bool, false, ◌&&◌, ◌==◌, List, [], ◌∷◌, ◌++◌, filter, map, slice_get, if◌then◌else◌}
use Rattle.std.specs.Option.{option_map_or}
use Rattle.pb_base.specs.Rule.{holds}
use Rattle.book_model.specs.Activity.{is_within}
use Rattle.book_model.specs.Contents.{Contents}
use Rattle.book_model.specs.declared.record.Position.{Position}
use Rattle.book_model.specs.declared.record.Variant.{Variant}

-- the places of the variants of this position, where the first variant of the list has the place i
abbrev pub variants_from : ℕ → ℕ → List Variant → List ℕ
variants_from i place [] = []
variants_from i place (v ∷ vs) = if v.position == place then i ∷ variants_from (suc i) place vs else variants_from (suc i) place vs

abbrev pub variants_of : ℕ → List Variant → List ℕ
variants_of place variants = variants_from 0 place variants

abbrev pub is_selected : ℕ → List Bool → Variant → Bool
is_selected day x v = is_within v.from v.until day && holds v.rule x

abbrev pub is_selected_at : Contents → ℕ → List Bool → ℕ → Bool
is_selected_at b day x v = option_map_or (is_selected day x) (slice_get b.variants v) false

abbrev pub is_active_position : ℕ → Position → Bool
is_active_position day p = is_within p.from p.until day

abbrev pub selected_of : Contents → ℕ → List Bool → ℕ → List ℕ
selected_of b day x place = filter (is_selected_at b day x) (variants_of place b.variants)

abbrev pub selected : Contents → ℕ → List Bool → ℕ → Position → List ℕ
selected b day x place p = if is_active_position day p then selected_of b day x place else []

-- a line of a parts list: the places of a position and of its variant
pub record PartsLine : Type 0 where
  pub position : ℕ
  pub variant : ℕ

abbrev pub lines_at : ℕ → List ℕ → List PartsLine
lines_at place variants = map (λ v. record { position = place; variant = v }) variants

-- the lines of these positions, of which the first has the place i
abbrev pub parts_from : ℕ → Contents → ℕ → List Bool → List Position → List PartsLine
parts_from i b day x [] = []
parts_from i b day x (p ∷ ps) = lines_at i (selected b day x i p) ++ parts_from (suc i) b day x ps

abbrev pub parts : Contents → ℕ → List Bool → List PartsLine
parts b day x = parts_from 0 b day x b.positions
