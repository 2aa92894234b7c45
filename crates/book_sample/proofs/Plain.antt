-- Plain bytes: those of names, numbers, rules and the words of the format. None needs quotes, and all are ASCII.
use Rattle.std.proofs.Common.{◌≡◌, ℕ, zero, suc, ◌+◌, ◌%◌, ◌^◌, ◌<◌, Bool, true, false, ◌&&◌, ◌||◌, List, [], ◌∷◌, ◌++◌, length, get_or, refl, ◌∙◌, arith}
use Rattle.std.specs.Prelude.{nat_le}
use Rattle.std.specs.List.{list_all, list_any, AllByRecursion}
use Rattle.std.specs.Fmt.{decimal}
use Rattle.std.proofs.lemmas.Bool.{and_from, and_parts, or_from}
use Rattle.std.proofs.lemmas.Bool.Decides.{nat_tests}
use Rattle.std.proofs.lemmas.Fmt.{decimal_by_steps}
use Rattle.std.proofs.lemmas.List.Folds.{list_all-append}
use Rattle.csv.specs.Writing.{default_writer, needs_byte}
use Rattle.pb_base.specs.Names.{is_name_byte, is_word}
use Rattle.pb_base.specs.Rule.{Rule, code, negation, both, either, always, never}
use Rattle.rule_text.specs.Printing.{printed, bracketed, is_either, is_pair}

-- `(` to `z` without the comma
abbrev pub is_plain_byte : ℕ → Bool
is_plain_byte b = (nat_le 40 b && nat_le b 43) || (nat_le 45 b && nat_le b 122)

abbrev pub is_plain : List ℕ → Bool
is_plain text = list_all is_plain_byte text

plain_needs_none : (b : ℕ) → is_plain_byte b ≡ true → needs_byte default_writer b ≡ false
plain_needs_none b h = grind (arith, nat_tests)

pub no_quotes : (text : List ℕ) → is_plain text ≡ true → list_any (needs_byte default_writer) text ≡ false
no_quotes [] h = refl
no_quotes (b ∷ text) h =
    let parts = and_parts (is_plain_byte b) (is_plain text) h in
    or_from (needs_byte default_writer b) (list_any (needs_byte default_writer) text) (plain_needs_none b parts.0) (no_quotes text parts.1)

pub plain_below : (b : ℕ) → is_plain_byte b ≡ true → b < 128
plain_below b h = grind (arith, nat_tests)

pub plain_append : (a b : List ℕ) → is_plain a ≡ true → is_plain b ≡ true → is_plain (a ++ b) ≡ true
plain_append a b h g = list_all-append is_plain_byte a b ∙ and_from (is_plain a) (is_plain b) h g

name_byte_plain : (b : ℕ) → is_name_byte b ≡ true → is_plain_byte b ≡ true
name_byte_plain b h = grind (arith, nat_tests)

name_bytes_plain : (name : List ℕ) → list_all is_name_byte name ≡ true → is_plain name ≡ true
name_bytes_plain [] h = refl
name_bytes_plain (b ∷ name) h =
    let parts = and_parts (is_name_byte b) (list_all is_name_byte name) h in
    and_from (is_plain_byte b) (is_plain name) (name_byte_plain b parts.0) (name_bytes_plain name parts.1)

pub plain_word : (longest : ℕ) (word : List ℕ) → is_word longest word ≡ true → is_plain word ≡ true
plain_word longest word h =
    name_bytes_plain word (and_parts (nat_le 1 (length word) && nat_le (length word) longest) (list_all is_name_byte word) h).1

pub plain_number : (n : ℕ) → n < 2 ^ 64 → is_plain (decimal n) ≡ true
plain_number n below =
    let digit : (d : ℕ) → d < 10 → is_plain ((48 + d) ∷ []) ≡ true = λ d small. grind (arith, nat_tests) in
    decimal_by_steps (λ n ds. is_plain ds ≡ true) digit (λ n ds _ front. plain_append ds ((48 + n % 10) ∷ []) front (digit (n % 10) (omega arith))) n below

plain_bracketed : (b : Bool) (text : List ℕ) → is_plain text ≡ true → is_plain (bracketed b text) ≡ true
plain_bracketed true text h = plain_append text (41 ∷ []) h refl
plain_bracketed false text h = h

-- each name is plain
abbrev pub ArePlain : List (List ℕ) → Type 0
ArePlain names = AllByRecursion (λ name. is_plain name ≡ true) names

pub plain_at : (names : List (List ℕ)) (place : ℕ) → ArePlain names → is_plain (get_or names place []) ≡ true
plain_at [] place h = refl
plain_at (name ∷ names) zero h = h.0
plain_at (name ∷ names) (suc place) h = plain_at names place h.1

pub plain_rule : (names : List (List ℕ)) (rule : Rule) → ArePlain names → is_plain (printed names rule) ≡ true
plain_rule names (code place) h = plain_at names place h
plain_rule names (negation r) h = plain_bracketed (is_pair r) (printed names r) (plain_rule names r h)
plain_rule names (both l r) h =
    plain_append (bracketed (is_either l) (printed names l)) (43 ∷ bracketed (is_pair r) (printed names r))
    (plain_bracketed (is_either l) (printed names l) (plain_rule names l h)) (plain_bracketed (is_pair r) (printed names r) (plain_rule names r h))
plain_rule names (either l r) h =
    plain_append (printed names l) (47 ∷ bracketed (is_either r) (printed names r))
    (plain_rule names l h) (plain_bracketed (is_either r) (printed names r) (plain_rule names r h))
plain_rule names always h = refl
plain_rule names never h = refl
