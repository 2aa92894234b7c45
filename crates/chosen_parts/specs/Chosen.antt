-- Which parts stand at a position of the parts list, whatever its variants are called.
--     is_same_use p q              the same part, and as many of it
--     part_use b variant           what the variant at a place uses
--     position_place b id          the place of the position of an id
--     chosen_at b day x place      what the set selects at the position at a place, in record order
--     chosen b day id x            the same at the position of an id; nothing where the book has no such position
--     ids_of_either first second   the ids of the first book's positions, then those of positions that only the second has
--     AreFew b day x               at most one variant is selected at each position
--     HaveSameParts first second day x y
--                                  at each position the one set has, by the one book, the parts that the other has by the other
--     HaveOtherParts ..            at some position it has others
use Rattle.std.specs.Prelude.{◌≡◌, ℕ, ◌<◌, ◌≤◌, ◌==◌, Bool, ◌&&◌, List, [], ◌++◌, Option, None, Some, false, filter, is_none, length, map, slice_get}
use Rattle.std.specs.List.{position_from}
use Rattle.std.specs.Option.{option_map_or}
use Rattle.pb_base.specs.Names.{same_name}
use Rattle.book_model.specs.Contents.{Contents}
use Rattle.book_model.specs.Parts.{selected}
use Rattle.book_model.specs.declared.record.Position.{Position}
use Rattle.book_model.specs.declared.record.Variant.{Variant}
use Rattle.chosen_parts.specs.declared.part_use.PartUse.{PartUse}

abbrev pub use_of : Variant → PartUse
use_of v = record { part = v.part; quantity = v.quantity }

abbrev pub is_same_use : PartUse → PartUse → Bool
is_same_use p q = same_name p.part q.part && p.quantity == q.quantity

-- there is no variant beyond the last
abbrev pub part_use : Contents → ℕ → PartUse
part_use b variant = option_map_or use_of (slice_get b.variants variant) (record { part = []; quantity = 0 })

abbrev pub position_place : Contents → List ℕ → Option ℕ
position_place b id = position_from (λ p. same_name p.id id) 0 b.positions

-- whether the position at a place has the id
abbrev pub is_at : Contents → List ℕ → ℕ → Bool
is_at b id place = option_map_or (λ p. same_name p.id id) (slice_get b.positions place) false

abbrev pub selected_at : Contents → ℕ → List Bool → ℕ → List ℕ
selected_at b day x place = option_map_or (selected b day x place) (slice_get b.positions place) []

abbrev pub chosen_at : Contents → ℕ → List Bool → ℕ → List PartUse
chosen_at b day x place = map (part_use b) (selected_at b day x place)

abbrev pub chosen : Contents → ℕ → List ℕ → List Bool → List PartUse
chosen b day id x = option_map_or (chosen_at b day x) (position_place b id) []

abbrev pub position_ids : Contents → List (List ℕ)
position_ids b = map (λ p. p.id) b.positions

-- of the positions that the first book lacks
abbrev pub added_ids : Contents → Contents → List (List ℕ)
added_ids first second = filter (λ id. is_none (position_place first id)) (position_ids second)

abbrev pub ids_of_either : Contents → Contents → List (List ℕ)
ids_of_either first second = position_ids first ++ added_ids first second

abbrev pub AreFew : Contents → ℕ → List Bool → Type 0
AreFew b day x = (place : ℕ) → length (selected_at b day x place) ≤ 1

abbrev pub HaveSameParts : Contents → Contents → ℕ → List Bool → List Bool → Type 0
HaveSameParts first second day x y = (id : List ℕ) → chosen first day id x ≡ chosen second day id y

pub record HaveOtherParts (first second : Contents) (day : ℕ) (x y : List Bool) : Type 0 where
  pub id : List ℕ
  pub differ : chosen first day id x ≡ chosen second day id y → ⊥

-- the same at the first positions of the first book, so many of them
abbrev pub AreSameAt : Contents → Contents → ℕ → List Bool → List Bool → ℕ → Type 0
AreSameAt first second day x y count =
    (place : ℕ) (p : Position) → place < count → slice_get first.positions place ≡ Some p → chosen first day p.id x ≡ chosen second day p.id y

-- only the second book has the position, and something is selected there
pub record IsAdded (first second : Contents) (day : ℕ) (y : List Bool) (id : List ℕ) : Type 0 where
  pub only : position_place first id ≡ None
  pub some : chosen second day id y ≡ [] → ⊥

-- of the first positions of the second book, so many of them, none is added
abbrev pub HaveNoneAdded : Contents → Contents → ℕ → List Bool → ℕ → Type 0
HaveNoneAdded first second day y count =
    (place : ℕ) (p : Position) → place < count → slice_get second.positions place ≡ Some p → position_place first p.id ≡ None → chosen second day p.id y ≡ []
