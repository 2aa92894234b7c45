-- What the row of a record says: the record, with names in place of places, and the text of its rule beside it.
use Rattle.std.proofs.Common.{◌≡◌, ◌==◌, ℕ, zero, suc, ◌<◌, Bool, true, false, not, ◌&&◌, List, [], ◌∷◌, ◌++◌, Option, Some, None, Ok, length, get_or, refl, ◌∙◌, arith}
use Rattle.std.specs.Prelude.{nat_eq, nat_le, IfSome, codes}
use Rattle.std.specs.Option.{option_map}
use Rattle.std.specs.List.{list_all, AllByRecursion}
use Rattle.std.proofs.lemmas.Bool.{and_from, and_parts, and_left, and_right, ne_eqb}
use Rattle.std.proofs.lemmas.Bool.Decides.{nat_tests}
use Rattle.std.proofs.lemmas.List.Folds.{list_all-append}
use Rattle.pb_base.specs.Names.{is_name, is_code_name, is_name_byte, same_name, true_word, false_word}
use Rattle.book_text.specs.Fields.{code_or_star_in, module_in}
use Rattle.book_text.specs.Entry.{entry_of}
use Rattle.book_text.specs.declared.entry.Heading.{Heading}
use Rattle.book_text.specs.declared.entry.Entry.{Entry}
use Rattle.book_text.specs.declared.entry.Entry.TheVariants as e
use Rattle.book_text.specs.declared.fields.Days.{Days}
use Rattle.book_text.specs.declared.names.Names.{Names}
use Rattle.book_sample.specs.Item.{Item, a_code, a_supplement, a_construct, a_module, a_position, a_variant}
use Rattle.book_sample.specs.Rows.{name_at, on_text, module_text, mandatory_text, row_of}
use Rattle.book_sample.specs.Book.{with_name, names_after}
use Rattle.book_sample.specs.Written.{ItemFits}
use Rattle.book_sample.proofs.Plain.{is_plain, ArePlain, plain_word, plain_number, plain_rule, plain_at}
use Rattle.book_sample.proofs.RowsBack.{IsPlainRow}
use Rattle.book_sample.proofs.FieldsBack.{name_back, code_name_back, part_back, number_back}

-- the names that records are named by are names
pub record AreSpelled (n : Names) : Type 0 where
  pub codes : list_all is_code_name n.codes ≡ true
  pub modules : list_all is_name n.modules ≡ true
  pub positions : list_all is_name n.positions ≡ true

all_push : {X : Type 0} (test : X → Bool) (xs : List X) (x : X) → list_all test xs ≡ true → test x ≡ true → list_all test (xs ++ x ∷ []) ≡ true
all_push test xs x h g = list_all-append test xs (x ∷ []) ∙ and_from (list_all test xs) (list_all test (x ∷ [])) h (and_from (test x) true g refl)

spelled_with : (n all : Names) (item : Item) → AreSpelled n → ItemFits all item → AreSpelled (with_name n item)
spelled_with n all (a_code name) h g = record { codes = all_push is_code_name n.codes name h.codes g; modules = h.modules; positions = h.positions }
spelled_with n all (a_supplement id rank code rule) h g = record { codes = h.codes; modules = h.modules; positions = h.positions }
spelled_with n all (a_construct id on rule) h g = record { codes = h.codes; modules = h.modules; positions = h.positions }
spelled_with n all (a_module id) h g = record { codes = h.codes; modules = all_push is_name n.modules id h.modules g; positions = h.positions }
spelled_with n all (a_position id group mandatory) h g = record { codes = h.codes; modules = h.modules; positions = all_push is_name n.positions id h.positions g.0 }
spelled_with n all (a_variant id position part quantity rule) h g = record { codes = h.codes; modules = h.modules; positions = h.positions }

pub spelled_after : (n all : Names) (items : List Item) → AreSpelled n → AllByRecursion (ItemFits all) items → AreSpelled (names_after n items)
spelled_after n all [] h g = h
spelled_after n all (item ∷ items) h g = spelled_after (with_name n item) all items (spelled_with n all item h g.0) g.1

test_at : {X : Type 0} (test : X → Bool) (xs : List X) (place : ℕ) (d : X) → list_all test xs ≡ true → place < length xs → test (get_or xs place d) ≡ true
test_at test [] place d h inside = absurd (omega arith)
test_at test (x ∷ xs) zero d h inside = (and_parts (test x) (list_all test xs) h).0
test_at test (x ∷ xs) (suc place) d h inside = test_at test xs place d (and_parts (test x) (list_all test xs) h).1 (omega arith)

pub code_at : (names : List (List ℕ)) (place : ℕ) → list_all is_code_name names ≡ true → place < length names → is_code_name (name_at names place) ≡ true
code_at names place h inside = test_at is_code_name names place [] h inside

pub name_of_code : (name : List ℕ) → is_code_name name ≡ true → is_name name ≡ true
name_of_code name h =
    (and_parts (is_name name) (not (same_name name true_word)) (and_parts (is_name name && not (same_name name true_word)) (not (same_name name false_word)) h).0).0

name_has_byte : (name : List ℕ) → is_name name ≡ true → (length name == 0) ≡ false
name_has_byte [] h = cc
name_has_byte (b ∷ name) h = ne_eqb (length (b ∷ name)) 0 (λ none. omega arith)

name_no_star : (name : List ℕ) → is_name name ≡ true → same_name name (codes "*") ≡ false
name_no_star [] h = refl
name_no_star (b ∷ c ∷ rest) h = and_right (nat_eq b 42) false refl
name_no_star (b ∷ []) h =
    let bytes = (and_parts (nat_le 1 (length (b ∷ [])) && nat_le (length (b ∷ [])) 8) (list_all is_name_byte (b ∷ [])) h).1 in
    let byte = (and_parts (is_name_byte b) true bytes).0 in
    let other : nat_eq b 42 ≡ false = grind (arith, nat_tests) in
    and_left (nat_eq b 42) true other

on_back : (names : List (List ℕ)) (on : Option ℕ) → list_all is_code_name names ≡ true → IfSome on (λ code. code < length names)
    → code_or_star_in (on_text names on) ≡ Ok (option_map (name_at names) on)
on_back names None h inside = refl
on_back names (Some place) h inside =
    let is = code_at names place h inside in
    rw (name_no_star (name_at names place) (name_of_code (name_at names place) is), code_name_back (name_at names place) is) refl

group_back : (names : List (List ℕ)) (group : Option ℕ) → list_all is_name names ≡ true → IfSome group (λ place. place < length names)
    → module_in (module_text names group) ≡ Ok (option_map (name_at names) group)
group_back names None h inside = refl
group_back names (Some place) h inside =
    let is = test_at is_name names place [] h inside in
    rw (name_has_byte (name_at names place) is, name_back (name_at names place) is) refl

-- the record of a row
abbrev pub said : Names → Days → Item → Entry
said n term (a_code name) = e.Code name
said n term (a_supplement id rank code rule) = e.Supplement id rank (name_at n.codes code) term
said n term (a_construct id on rule) = e.Construct id (option_map (name_at n.codes) on) term
said n term (a_module id) = e.Module id
said n term (a_position id group mandatory) = e.Position id (option_map (name_at n.modules) group) mandatory term
said n term (a_variant id position part quantity rule) = e.Variant id (name_at n.positions position) part quantity term

pub row_says : (h : Heading) (n : Names) (item : Item) → AreSpelled n → ItemFits n item → entry_of h (row_of n item) ≡ Ok (said n h.term item)
row_says h n (a_code name) s fits = rw (code_name_back name fits) refl
row_says h n (a_supplement id rank code rule) s (is, small, inside, _) =
    rw (name_back id is, number_back 0 9999 rank (omega arith) small (omega arith), code_name_back (name_at n.codes code) (code_at n.codes code s.codes inside)) refl
row_says h n (a_construct id on rule) s (is, inside, _) = rw (name_back id is, on_back n.codes on s.codes inside) refl
row_says h n (a_module id) s fits = rw (name_back id fits) refl
row_says h n (a_position id group true) s (is, inside) = rw (name_back id is, group_back n.modules group s.modules inside) refl
row_says h n (a_position id group false) s (is, inside) = rw (name_back id is, group_back n.modules group s.modules inside) refl
row_says h n (a_variant id position part quantity rule) s (is, inside, is_a_part, some, few, _) =
    let at = test_at is_name n.positions position [] s.positions inside in
    rw (name_back id is, name_back (name_at n.positions position) at, part_back part is_a_part, number_back 1 999 quantity some few (omega arith)) refl

-- ---- each row is plain

plain_codes : (names : List (List ℕ)) → list_all is_code_name names ≡ true → ArePlain names
plain_codes [] h = tt
plain_codes (name ∷ names) h =
    let parts = and_parts (is_code_name name) (list_all is_code_name names) h in (plain_word 8 name (name_of_code name parts.0), plain_codes names parts.1)

plain_names : (names : List (List ℕ)) → list_all is_name names ≡ true → ArePlain names
plain_names [] h = tt
plain_names (name ∷ names) h =
    let parts = and_parts (is_name name) (list_all is_name names) h in (plain_word 8 name parts.0, plain_names names parts.1)

plain_on : (names : List (List ℕ)) (on : Option ℕ) → ArePlain names → is_plain (on_text names on) ≡ true
plain_on names None h = refl
plain_on names (Some place) h = plain_at names place h

plain_module : (names : List (List ℕ)) (group : Option ℕ) → ArePlain names → is_plain (module_text names group) ≡ true
plain_module names None h = refl
plain_module names (Some place) h = plain_at names place h

plain_mandatory : (mandatory : Bool) → is_plain (mandatory_text mandatory) ≡ true
plain_mandatory true = refl
plain_mandatory false = refl

pub row_plain : (n : Names) (item : Item) → AreSpelled n → ItemFits n item → IsPlainRow (row_of n item)
row_plain n (a_code name) s fits = (refl, (plain_word 8 name (name_of_code name fits), (refl, tt)))
row_plain n (a_supplement id rank code rule) s (is, small, _, _) =
    let codes_plain = plain_codes n.codes s.codes in
    (refl, (plain_word 8 id is, (plain_number rank (omega arith), (plain_at n.codes code codes_plain, (plain_rule n.codes rule codes_plain, (refl, (refl, tt)))))))
row_plain n (a_construct id on rule) s (is, _, _) =
    let codes_plain = plain_codes n.codes s.codes in
    (refl, (plain_word 8 id is, (plain_on n.codes on codes_plain, (plain_rule n.codes rule codes_plain, (refl, (refl, tt))))))
row_plain n (a_module id) s fits = (refl, (plain_word 8 id fits, (refl, tt)))
row_plain n (a_position id group mandatory) s (is, _) =
    (refl, (plain_word 8 id is, (plain_module n.modules group (plain_names n.modules s.modules), (plain_mandatory mandatory, (refl, (refl, tt))))))
row_plain n (a_variant id position part quantity rule) s (is, _, is_a_part, _, few, _) = (
  refl,
  (
    plain_word 8 id is,
    (
      plain_at n.positions position (plain_names n.positions s.positions),
      (
        plain_word 16 part is_a_part,
        (plain_number quantity (omega arith), (plain_rule n.codes rule (plain_codes n.codes s.codes), (refl, (refl, tt)))),
      ),
    ),
  ),
)
