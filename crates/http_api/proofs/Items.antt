-- The bytes of a name and of a number.
use Rattle.std.proofs.Common.{◌≡◌, ◌≢◌, ℕ, ◌<◌, List, [], ◌∷◌, length, Some, None, Bool, true, false, nat_le, ◌==◌, ◌&&◌, slice_index, refl, arith, if◌then◌else◌}
use Rattle.std.proofs.lemmas.Bool.{and_parts}
use Rattle.std.proofs.lemmas.Bool.Decides.{nat_tests}
use Rattle.std.specs.List.{list_all}
use Rattle.pb_base.specs.Names.{is_name, is_name_byte}
use Rattle.pb_base.specs.Digits.{is_digit, is_number, value_of}
use Rattle.http_api.specs.Route.{path_number}
use Rattle.http_api.proofs.Seeking.{IsPlain}

-- one byte or more, none a slash
abbrev pub IsItem : List ℕ → Type 0
IsItem [] = ⊥
IsItem (b ∷ bs) = IsPlain (b ∷ bs)

name_byte : (b : ℕ) → is_name_byte b ≡ true → (b < 128) × (b ≢ 47)
name_byte b h = (grind (arith, nat_tests), λ e. grind (arith, nat_tests))

digit_byte : (b : ℕ) → is_digit b ≡ true → (b < 128) × (b ≢ 47)
digit_byte b h = (grind (arith, nat_tests), λ e. grind (arith, nat_tests))

plain_bytes : (is_right : ℕ → Bool) → ((b : ℕ) → is_right b ≡ true → (b < 128) × (b ≢ 47)) → (bs : List ℕ) → list_all is_right bs ≡ true → IsPlain bs
plain_bytes is_right each [] h = tt
plain_bytes is_right each (b ∷ bs) h =
    let here = each b (and_parts (is_right b) (list_all is_right bs) h).0 in
    (here.0, here.1, plain_bytes is_right each bs (and_parts (is_right b) (list_all is_right bs) h).1)

pub name_item : (name : List ℕ) → is_name name ≡ true → IsItem name
name_item [] h = cc
name_item (b ∷ bs) h = plain_bytes is_name_byte name_byte (b ∷ bs) (and_parts (nat_le 1 (length (b ∷ bs)) && nat_le (length (b ∷ bs)) 8) (list_all is_name_byte (b ∷ bs)) h).1

is_item : (digits : List ℕ) → is_number 9 digits ≡ true → IsItem digits
is_item [] h = cc
is_item (b ∷ bs) h = plain_bytes is_digit digit_byte (b ∷ bs) (and_parts (nat_le 1 (length (b ∷ bs)) && nat_le (length (b ∷ bs)) 9) (list_all is_digit (b ∷ bs)) h).1

pub number_item : (digits : List ℕ) (n : ℕ) → path_number digits ≡ Some n → IsItem digits
number_item digits n h = by (slice_index digits 0 == 48) (is_number 9 digits) refl h
  where
    by : (zero_first number : Bool) → is_number 9 digits ≡ number
        → (if zero_first then None else (if number then Some (value_of digits) else None)) ≡ Some n → IsItem digits
    by true number is h = cc
    by false true is h = is_item digits is
    by false false is h = cc

-- a number begins with a digit
pub number_digit : (b : ℕ) (bs : List ℕ) (n : ℕ) → path_number (b ∷ bs) ≡ Some n → b < 97
number_digit b bs n h = by (slice_index (b ∷ bs) 0 == 48) (is_number 9 (b ∷ bs)) refl h
  where
    by : (zero_first number : Bool) → is_number 9 (b ∷ bs) ≡ number
        → (if zero_first then None else (if number then Some (value_of (b ∷ bs)) else None)) ≡ Some n → b < 97
    by true number is h = cc
    by false true is h =
        let digits = (and_parts (nat_le 1 (length (b ∷ bs)) && nat_le (length (b ∷ bs)) 9) (list_all is_digit (b ∷ bs)) is).1 in
        let digit = (and_parts (is_digit b) (list_all is_digit bs) digits).0 in
        grind (arith, nat_tests)
    by false false is h = cc
