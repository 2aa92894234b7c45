-- The row of each record, over the names of the book: names in place of places, rules printed, and no days, which stands for
-- the whole term.
--     heading_row h        the `book` record
--     row_of names item    a further one
use Rattle.std.specs.Prelude.{ℕ, Bool, true, false, List, [], ◌∷◌, Option, None, Some, slice_index_or, codes}
use Rattle.std.specs.Fmt.{decimal}
use Rattle.rule_text.specs.Printing.{printed}
use Rattle.book_text.specs.Rows.{Row}
use Rattle.book_text.specs.declared.entry.Heading.{Heading}
use Rattle.book_text.specs.declared.names.Names.{Names}
use Rattle.book_sample.specs.Item.{Item, a_code, a_supplement, a_construct, a_module, a_position, a_variant}

abbrev pub name_at : List (List ℕ) → ℕ → List ℕ
name_at names place = slice_index_or names place []

abbrev pub on_text : List (List ℕ) → Option ℕ → List ℕ
on_text names None = codes "*"
on_text names (Some place) = name_at names place

abbrev pub module_text : List (List ℕ) → Option ℕ → List ℕ
module_text names None = []
module_text names (Some place) = name_at names place

abbrev pub mandatory_text : Bool → List ℕ
mandatory_text true = codes "mandatory"
mandatory_text false = codes "optional"

abbrev pub heading_row : Heading → Row
heading_row h = codes "book" ∷ h.name ∷ decimal h.term.from ∷ decimal h.term.until ∷ []

abbrev pub row_of : Names → Item → Row
row_of n (a_code name) = codes "code" ∷ name ∷ [] ∷ []
row_of n (a_supplement id rank code rule) =
    codes "supplement" ∷ id ∷ decimal rank ∷ name_at n.codes code ∷ printed n.codes rule ∷ [] ∷ [] ∷ []
row_of n (a_construct id on rule) = codes "construct" ∷ id ∷ on_text n.codes on ∷ printed n.codes rule ∷ [] ∷ [] ∷ []
row_of n (a_module id) = codes "module" ∷ id ∷ [] ∷ []
row_of n (a_position id group mandatory) =
    codes "position" ∷ id ∷ module_text n.modules group ∷ mandatory_text mandatory ∷ [] ∷ [] ∷ []
row_of n (a_variant id position part quantity rule) =
    codes "variant" ∷ id ∷ name_at n.positions position ∷ part ∷ decimal quantity ∷ printed n.codes rule ∷ [] ∷ [] ∷ []
