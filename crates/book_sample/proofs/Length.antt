-- How long the text of a book may be, by its records.
--     line_most item      the most bytes of the line of a record
--     lines_most items    the same of all of them
use Rattle.std.proofs.Common.{◌≡◌, ℕ, zero, suc, ◌+◌, ◌*◌, ◌≤◌, Bool, true, false, ◌&&◌, List, [], ◌∷◌, Option, Some, None, length, get_or, refl, length-append, arith}
use Rattle.std.specs.Prelude.{nat_le, map}
use Rattle.std.specs.List.{list_all, AllByRecursion}
use Rattle.std.specs.Fmt.{decimal}
use Rattle.std.proofs.lemmas.Bool.{and_parts, leb-true}
use Rattle.std.proofs.lemmas.Fmt.{length-decimal-le}
use Rattle.pb_base.specs.Names.{is_name, is_code_name, is_name_byte, is_word}
use Rattle.pb_base.specs.Rule.{Rule, code, negation, both, either, always, never, nodes}
use Rattle.rule_text.specs.Printing.{printed, bracketed, is_either, is_pair}
use Rattle.book_text.specs.Rows.{Row}
use Rattle.book_text.specs.declared.entry.Heading.{Heading}
use Rattle.book_text.specs.declared.names.Names.{Names}
use Rattle.book_sample.specs.Item.{Item, a_code, a_supplement, a_construct, a_module, a_position, a_variant}
use Rattle.book_sample.specs.Rows.{name_at, on_text, module_text, mandatory_text, row_of, heading_row}
use Rattle.book_sample.specs.Text.{fields_behind, line_of, text_of_rows}
use Rattle.book_sample.specs.Book.{names_of, text_of}
use Rattle.book_sample.specs.Written.{HeadingFits, ItemFits}
use Rattle.book_sample.proofs.RowSaid.{AreSpelled, name_of_code}
use Rattle.book_sample.proofs.BookBack.{spelled}

word_length : (longest : ℕ) (word : List ℕ) → is_word longest word ≡ true → length word ≤ longest
word_length longest word h =
    let count = (and_parts (nat_le 1 (length word) && nat_le (length word) longest) (list_all is_name_byte word) h).0 in
    leb-true (length word) longest (and_parts (nat_le 1 (length word)) (nat_le (length word) longest) count).1

code_length : (names : List (List ℕ)) (place : ℕ) → list_all is_code_name names ≡ true → length (get_or names place []) ≤ 8
code_length [] place h = omega arith
code_length (name ∷ names) zero h = word_length 8 name (name_of_code name (and_parts (is_code_name name) (list_all is_code_name names) h).0)
code_length (name ∷ names) (suc place) h = code_length names place (and_parts (is_code_name name) (list_all is_code_name names) h).1

name_length : (names : List (List ℕ)) (place : ℕ) → list_all is_name names ≡ true → length (get_or names place []) ≤ 8
name_length [] place h = omega arith
name_length (name ∷ names) zero h = word_length 8 name (and_parts (is_name name) (list_all is_name names) h).0
name_length (name ∷ names) (suc place) h = name_length names place (and_parts (is_name name) (list_all is_name names) h).1

on_length : (names : List (List ℕ)) (on : Option ℕ) → list_all is_code_name names ≡ true → length (on_text names on) ≤ 8
on_length names None h = omega arith
on_length names (Some place) h = code_length names place h

module_length : (names : List (List ℕ)) (group : Option ℕ) → list_all is_name names ≡ true → length (module_text names group) ≤ 8
module_length names None h = omega arith
module_length names (Some place) h = name_length names place h

mandatory_length : (mandatory : Bool) → length (mandatory_text mandatory) ≤ 9
mandatory_length true = omega arith
mandatory_length false = omega arith

bracketed_length : (b : Bool) (text : List ℕ) → length (bracketed b text) ≤ length text + 2
bracketed_length true text = omega (arith, length-append text (41 ∷ []))
bracketed_length false text = omega arith

-- a code takes at most eight bytes, and a connective one and two pairs of brackets
rule_length : (names : List (List ℕ)) (rule : Rule) → list_all is_code_name names ≡ true → length (printed names rule) ≤ 11 * nodes rule
rule_length names (code place) h = omega (arith, code_length names place h)
rule_length names (negation r) h = omega (arith, bracketed_length (is_pair r) (printed names r), rule_length names r h)
rule_length names (both l r) h =
    omega (
      arith,
      length-append (bracketed (is_either l) (printed names l)) (43 ∷ bracketed (is_pair r) (printed names r)),
      bracketed_length (is_either l) (printed names l),
      bracketed_length (is_pair r) (printed names r),
      rule_length names l h,
      rule_length names r h,
    )
rule_length names (either l r) h =
    omega (
      arith,
      length-append (printed names l) (47 ∷ bracketed (is_either r) (printed names r)),
      bracketed_length (is_either r) (printed names r),
      rule_length names l h,
      rule_length names r h,
    )
rule_length names always h = omega arith
rule_length names never h = omega arith

-- the fields of a row, with a byte behind each
row_length : Row → ℕ
row_length [] = 1
row_length (field ∷ fields) = length field + 1 + row_length fields

behind_is : (fields : Row) → length (fields_behind fields) ≡ row_length fields
unfolding row_length
behind_is [] = refl
behind_is (field ∷ fields) = omega (arith, length-append field (fields_behind fields), behind_is fields)

line_within : (field : List ℕ) (fields : Row) → length (line_of (field ∷ fields)) ≤ row_length (field ∷ fields)
unfolding row_length
line_within field fields = omega (arith, length-append field (fields_behind fields), behind_is fields)

abbrev pub line_most : Item → ℕ
line_most (a_code name) = 16
line_most (a_supplement id rank adds rule) = 11 * nodes rule + 39
line_most (a_construct id on rule) = 11 * nodes rule + 33
line_most (a_module id) = 18
line_most (a_position id group mandatory) = 41
line_most (a_variant id position part quantity rule) = 11 * nodes rule + 52

abbrev pub lines_most : List Item → ℕ
lines_most [] = 0
lines_most (item ∷ items) = line_most item + lines_most items

module _ (n : Names) (s : AreSpelled n) where
  line_length : (item : Item) → ItemFits n item → length (line_of (row_of n item)) ≤ line_most item
  unfolding row_length
  line_length (a_code name) fits = omega (arith, line_within (99 ∷ 111 ∷ 100 ∷ 101 ∷ []) (name ∷ [] ∷ []), word_length 8 name (name_of_code name fits))
  line_length (a_supplement id rank adds rule) (is, small, _, _) =
      let fields = decimal rank ∷ name_at n.codes adds ∷ printed n.codes rule ∷ [] ∷ [] ∷ [] in
      omega (
        arith,
        line_within (115 ∷ 117 ∷ 112 ∷ 112 ∷ 108 ∷ 101 ∷ 109 ∷ 101 ∷ 110 ∷ 116 ∷ []) (id ∷ fields),
        word_length 8 id is,
        length-decimal-le 4 rank (omega arith) (omega arith) (omega arith),
        code_length n.codes adds s.codes,
        rule_length n.codes rule s.codes,
      )
  line_length (a_construct id on rule) (is, _, _) =
      omega (
        arith,
        line_within (99 ∷ 111 ∷ 110 ∷ 115 ∷ 116 ∷ 114 ∷ 117 ∷ 99 ∷ 116 ∷ []) (id ∷ on_text n.codes on ∷ printed n.codes rule ∷ [] ∷ [] ∷ []),
        word_length 8 id is,
        on_length n.codes on s.codes,
        rule_length n.codes rule s.codes,
      )
  line_length (a_module id) fits = omega (arith, line_within (109 ∷ 111 ∷ 100 ∷ 117 ∷ 108 ∷ 101 ∷ []) (id ∷ [] ∷ []), word_length 8 id fits)
  line_length (a_position id group mandatory) (is, _) =
      omega (
        arith,
        line_within (112 ∷ 111 ∷ 115 ∷ 105 ∷ 116 ∷ 105 ∷ 111 ∷ 110 ∷ []) (id ∷ module_text n.modules group ∷ mandatory_text mandatory ∷ [] ∷ [] ∷ []),
        word_length 8 id is,
        module_length n.modules group s.modules,
        mandatory_length mandatory,
      )
  line_length (a_variant id position part quantity rule) (is, _, is_a_part, _, few, _) =
      omega (
        arith,
        line_within (118 ∷ 97 ∷ 114 ∷ 105 ∷ 97 ∷ 110 ∷ 116 ∷ []) (id ∷ name_at n.positions position ∷ part ∷ decimal quantity ∷ printed n.codes rule ∷ [] ∷ [] ∷ []),
        word_length 8 id is,
        name_length n.positions position s.positions,
        word_length 16 part is_a_part,
        length-decimal-le 3 quantity (omega arith) (omega arith) (omega arith),
        rule_length n.codes rule s.codes,
      )

  lines_length : (items : List Item) → AllByRecursion (ItemFits n) items → length (text_of_rows (map (row_of n) items)) ≤ lines_most items
  lines_length [] fits = omega arith
  lines_length (item ∷ items) fits =
      omega (arith, length-append (line_of (row_of n item)) (text_of_rows (map (row_of n) items)), line_length item fits.0, lines_length items fits.1)

-- a text with its heading
pub text_length : (h : Heading) (items : List Item) → HeadingFits h → AllByRecursion (ItemFits (names_of items)) items → length (text_of h items) ≤ 28 + lines_most items
unfolding row_length
text_length h items fits each =
    let n = names_of items in
    omega (
      arith,
      length-append (line_of (heading_row h)) (text_of_rows (map (row_of n) items)),
      line_within (98 ∷ 111 ∷ 111 ∷ 107 ∷ []) (h.name ∷ decimal h.term.from ∷ decimal h.term.until ∷ []),
      word_length 8 h.name fits.name,
      length-decimal-le 5 h.term.from (omega arith) (omega (arith, fits.order, fits.last)) (omega (arith, fits.order, fits.last)),
      length-decimal-le 5 h.term.until (omega arith) (omega (arith, fits.last)) (omega (arith, fits.last)),
      lines_length n (spelled items each) items each,
    )
