-- What a book that is to be written holds, and its text.
--     names_of items         the names that the records give
--     contents_of h items    the book
--     text_of h items        its text
use Rattle.std.specs.Prelude.{ℕ, ◌+◌, List, [], ◌∷◌, ◌++◌, map}
use Rattle.book_model.specs.Contents.{Contents}
use Rattle.book_model.specs.declared.demand.Demand.TheVariants as demand
use Rattle.book_text.specs.ConstructIds.{ConstructNames}
use Rattle.book_text.specs.Names.{no_names}
use Rattle.book_text.specs.Records.{Records, no_records, book_with}
use Rattle.book_text.specs.declared.entry.Heading.{Heading}
use Rattle.book_text.specs.declared.fields.Days.{Days}
use Rattle.book_text.specs.declared.names.Names.{Names}
use Rattle.book_sample.specs.Item.{Item, a_code, a_supplement, a_construct, a_module, a_position, a_variant}
use Rattle.book_sample.specs.Rows.{heading_row, row_of}
use Rattle.book_sample.specs.Text.{text_of_rows}

abbrev pub with_construct : ConstructNames → List ℕ → ConstructNames
with_construct c id = record c { ids = c.ids ++ id ∷ []; rules = c.rules + 1 }

-- the names with that of a record
abbrev pub with_name : Names → Item → Names
with_name n (a_code name) = record n { codes = n.codes ++ name ∷ [] }
with_name n (a_supplement id rank code rule) = record n { supplements = n.supplements ++ id ∷ [] }
with_name n (a_construct id on rule) = record n { constructs = with_construct n.constructs id }
with_name n (a_module id) = record n { modules = n.modules ++ id ∷ [] }
with_name n (a_position id group mandatory) = record n { positions = n.positions ++ id ∷ [] }
with_name n (a_variant id position part quantity rule) = record n { variants = n.variants ++ id ∷ [] }

abbrev pub names_after : Names → List Item → Names
names_after n [] = n
names_after n (item ∷ items) = names_after (with_name n item) items

abbrev pub names_of : List Item → Names
names_of items = names_after no_names items

-- the records with one more, in force on these days
abbrev pub with_record : Days → Records → Item → Records
with_record days r (a_code name) = r
with_record days r (a_supplement id rank code rule) =
    record r { supplements = r.supplements ++ record { id = id; rank = rank; code = code; rule = rule; from = days.from; until = days.until } ∷ [] }
with_record days r (a_construct id on rule) =
    record r { constructs = r.constructs ++ record { id = id; demand = demand.Rule on rule; from = days.from; until = days.until } ∷ [] }
with_record days r (a_module id) = record r { modules = r.modules ++ record { id = id } ∷ [] }
with_record days r (a_position id group mandatory) =
    record r { positions = r.positions ++ record { id = id; «module» = group; mandatory = mandatory; from = days.from; until = days.until } ∷ [] }
with_record days r (a_variant id position part quantity rule) =
    record r { variants = r.variants ++ record { id = id; position = position; part = part; quantity = quantity; rule = rule; from = days.from; until = days.until } ∷ [] }

abbrev pub records_after : Days → Records → List Item → Records
records_after days r [] = r
records_after days r (item ∷ items) = records_after days (with_record days r item) items

abbrev pub records_of : Heading → List Item → Records
records_of h items = records_after h.term no_records items

abbrev pub contents_of : Heading → List Item → Contents
contents_of h items = book_with h (names_of items) (records_of h items)

abbrev pub text_of : Heading → List Item → List ℕ
text_of h items = text_of_rows (heading_row h ∷ map (row_of (names_of items)) items)
