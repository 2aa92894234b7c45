-- What a heading and records have to meet so that their text reads back as their book: names are names and each is given once,
-- places are those of records, numbers are in range, and the limits of a book's text are kept.
--     HeadingFits h             the heading
--     AreNames names            the names of all records
--     ItemFits names item       a record, beside these names
--     IsWritten h items         all of it
use Rattle.std.specs.Prelude.{◌≡◌, ℕ, ◌<◌, ◌≤◌, true, List, ◌++◌, IfSome, length}
use Rattle.std.specs.List.{IsDistinct, AllByRecursion}
use Rattle.pb_base.specs.Names.{is_name, is_code_name, is_part, same_name}
use Rattle.pb_base.specs.Rule.{Rule, codes_below, nodes}
use Rattle.pb_base.specs.declared.limits.TheConstants.{LAST_DAY, MOST_CHOICES, MOST_CODES, MOST_CONSTRUCTS, MOST_MODULES, MOST_NESTING, MOST_NODES, MOST_POSITIONS, MOST_SUPPLEMENTS, MOST_TEXT_BYTES, MOST_VARIANTS}
use Rattle.rule_text.specs.Printing.{printed_depth}
use Rattle.book_model.specs.Parts.{variants_of}
use Rattle.book_text.specs.declared.entry.Heading.{Heading}
use Rattle.book_text.specs.declared.fields.Form.TheVariants as form
use Rattle.book_text.specs.declared.names.Names.{Names}
use Rattle.book_sample.specs.Item.{Item, a_code, a_supplement, a_construct, a_module, a_position, a_variant}
use Rattle.book_sample.specs.Book.{names_of, records_of, text_of}

-- a form without groups
pub record HeadingFits (h : Heading) : Type 0 where
  pub name : is_name h.name ≡ true
  pub form : h.form ≡ form.One
  pub first : 1 ≤ h.term.from
  pub order : h.term.from ≤ h.term.until
  pub last : h.term.until ≤ LAST_DAY

pub record ListFits (most : ℕ) (names : List (List ℕ)) : Type 0 where
  pub within : length names ≤ most
  pub distinct : IsDistinct same_name names

-- supplementing and constructibility rules share their ids
pub record AreNames (n : Names) : Type 0 where
  pub codes : ListFits MOST_CODES n.codes
  pub supplements : length n.supplements ≤ MOST_SUPPLEMENTS
  pub constructs : n.constructs.rules ≤ MOST_CONSTRUCTS
  pub rules : IsDistinct same_name (n.supplements ++ n.constructs.ids)
  pub modules : ListFits MOST_MODULES n.modules
  pub positions : ListFits MOST_POSITIONS n.positions
  pub variants : ListFits MOST_VARIANTS n.variants

-- a rule over so many codes, as long and as deep as it may be printed
pub record RuleFits (codes : ℕ) (rule : Rule) : Type 0 where
  pub in_range : codes_below codes rule ≡ true
  pub depth : printed_depth rule ≤ MOST_NESTING
  pub size : nodes rule ≤ MOST_NODES

abbrev pub ItemFits : Names → Item → Type 0
ItemFits n (a_code name) = is_code_name name ≡ true
ItemFits n (a_supplement id rank code rule) =
    (is_name id ≡ true) × (rank ≤ 9999) × (code < length n.codes) × RuleFits (length n.codes) rule
ItemFits n (a_construct id on rule) =
    (is_name id ≡ true) × IfSome on (λ code. code < length n.codes) × RuleFits (length n.codes) rule
ItemFits n (a_module id) = is_name id ≡ true
ItemFits n (a_position id group mandatory) = (is_name id ≡ true) × IfSome group (λ place. place < length n.modules)
ItemFits n (a_variant id position part quantity rule) =
    (is_name id ≡ true) × (position < length n.positions) × (is_part part ≡ true) × (1 ≤ quantity) × (quantity ≤ 999)
    × RuleFits (length n.codes) rule

pub record IsWritten (h : Heading) (items : List Item) : Type 0 where
  pub heading : HeadingFits h
  pub names : AreNames (names_of items)
  pub each : AllByRecursion (ItemFits (names_of items)) items
  pub choices : (place : ℕ) → length (variants_of place (records_of h items).variants) ≤ MOST_CHOICES
  pub size : length (text_of h items) ≤ MOST_TEXT_BYTES
