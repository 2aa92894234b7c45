-- The fields that are written read as what they say.
use Rattle.std.proofs.Common.{◌≡◌, ℕ, ◌+◌, ◌-◌, ◌*◌, ◌/◌, ◌%◌, ◌^◌, ◌<◌, ◌≤◌, true, ◌&&◌, List, [], ◌∷◌, ◌++◌, Some, Ok, length, refl, ap, ◌∙◌, arith}
use Rattle.std.specs.Prelude.{nat_le}
use Rattle.std.specs.List.{list_all}
use Rattle.std.specs.Fmt.{decimal}
use Rattle.std.proofs.lemmas.Bool.{and_from, le-leb}
use Rattle.std.proofs.lemmas.Fmt.{decimal_by_steps, decimal_nonempty, length-decimal-le}
use Rattle.std.proofs.lemmas.List.Folds.{list_all-append}
use Rattle.pb_base.specs.Digits.{is_digit, is_number, value_from, short_number}
use Rattle.pb_base.specs.Names.{is_name, is_code_name, is_part}
use Rattle.book_text.specs.Fields.{name_in, code_name_in, part_in, number_in}

pub name_back : (name : List ℕ) → is_name name ≡ true → name_in name ≡ Ok name
name_back name h = rw h refl

pub code_name_back : (name : List ℕ) → is_code_name name ≡ true → code_name_in name ≡ Ok name
code_name_back name h = rw h refl

pub part_back : (part : List ℕ) → is_part part ≡ true → part_in part ≡ Ok part
part_back part h = rw h refl

value_more : (v : ℕ) (ds : List ℕ) (d : ℕ) → value_from v (ds ++ d ∷ []) ≡ 10 * value_from v ds + (d - 48)
value_more v [] d = refl
value_more v (b ∷ bs) d = value_more (10 * v + (b - 48)) bs d

digit_is : (d : ℕ) → d < 10 → is_digit (48 + d) ≡ true
digit_is d below = and_from (nat_le 48 (48 + d)) (nat_le (48 + d) 57) (le-leb 48 (48 + d) (omega arith)) (le-leb (48 + d) 57 (omega arith))

-- the digits write the number
abbrev Writes : ℕ → List ℕ → Type 0
Writes n ds = (list_all is_digit ds ≡ true) × (value_from 0 ds ≡ n)

one_digit : (n : ℕ) → n < 10 → Writes n ((48 + n) ∷ [])
one_digit n below = (and_from (is_digit (48 + n)) true (digit_is n below) refl, omega arith)

one_more : (n : ℕ) (ds : List ℕ) → 10 ≤ n → Writes (n / 10) ds → Writes n (ds ++ (48 + n % 10) ∷ [])
one_more n ds more front =
    let last : is_digit (48 + n % 10) ≡ true = digit_is (n % 10) (omega arith) in (
      list_all-append is_digit ds ((48 + n % 10) ∷ []) ∙ and_from (list_all is_digit ds) (list_all is_digit ((48 + n % 10) ∷ [])) front.0 (and_from (is_digit (48 + n % 10)) true last refl),
      value_more 0 ds (48 + n % 10) ∙ (let sum : 10 * value_from 0 ds + ((48 + n % 10) - 48) ≡ n = omega (arith, front.1) in sum),
    )

short_back : (n : ℕ) → n < 10 ^ 5 → short_number (decimal n) ≡ Some n
short_back n below =
    let is : Writes n (decimal n) = decimal_by_steps Writes one_digit one_more n (omega arith) in
    let form : is_number 5 (decimal n) ≡ true =
    and_from (nat_le 1 (length (decimal n)) && nat_le (length (decimal n)) 5) (list_all is_digit (decimal n))
    (and_from (nat_le 1 (length (decimal n))) (nat_le (length (decimal n)) 5)
    (le-leb 1 (length (decimal n)) (omega (arith, decimal_nonempty n (omega arith)))) (le-leb (length (decimal n)) 5 (length-decimal-le 5 n (omega arith) below (omega arith)))) is.0 in
    rw form (ap (λ v. Some v) is.1)

pub number_back : (low high n : ℕ) → low ≤ n → n ≤ high → high < 10 ^ 5 → number_in low high (decimal n) ≡ Ok n
number_back low high n above below small = rw (short_back n (omega arith), le-leb low n above, le-leb n high below) refl
