-- The ids of a book's records and the names of its codes, by their places; there are no bytes where the book has nothing at a place.
use Rattle.std.specs.Prelude.{ℕ, List, [], Option, codes, slice_get}
use Rattle.std.specs.Option.{option_map_or, option_and_then}
use Rattle.book_model.specs.Contents.{Contents}

abbrev pub code_name : Contents → ℕ → List ℕ
code_name b place = option_map_or (λ name. name) (slice_get b.codes place) []

abbrev pub supplement_id : Contents → ℕ → List ℕ
supplement_id b place = option_map_or (λ s. s.id) (slice_get b.supplements place) []

abbrev pub construct_id : Contents → ℕ → List ℕ
construct_id b place = option_map_or (λ c. c.id) (slice_get b.constructs place) []

abbrev pub variant_id : Contents → ℕ → List ℕ
variant_id b place = option_map_or (λ v. v.id) (slice_get b.variants place) []

abbrev pub position_id : Contents → ℕ → List ℕ
position_id b place = option_map_or (λ p. p.id) (slice_get b.positions place) []

-- the module in which the position at a place stands
abbrev pub module_of : Contents → ℕ → Option ℕ
module_of b place = option_and_then (λ p. p.«module») (slice_get b.positions place)

-- its id, or `-` for none
abbrev pub module_id : Contents → ℕ → List ℕ
module_id b place = option_map_or (λ m. m.id) (option_and_then (λ m. slice_get b.modules m) (module_of b place)) (codes "-")
