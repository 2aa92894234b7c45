-- A number or a literal reads back as it was written.
use Rattle.std.proofs.Common.{◌≡◌, ℕ, ◌+◌, ◌-◌, ◌*◌, ◌&&◌, ◌/◌, ◌%◌, ◌<◌, ◌≤◌, ◌^◌, Bool, true, false, not, eqb, ltb, leb, ◌||◌, List, [], ◌∷◌, ◌++◌, None, Some, length, get_or, inl, inr, ◌⊎◌, refl, ap, ◌∙◌, arith}
use Rattle.std.specs.List.{list_all}
use Rattle.std.specs.Option.{option_map}
use Rattle.std.specs.Fmt.{decimal}
use Rattle.std.proofs.lemmas.Bool.{and_from, cond-true, cases_Bool, eq-eqb, eqb-true, eqb-false, le-leb, lt-ltb, ne_eqb, not_from_false, or_left, or_right}
use Rattle.std.proofs.lemmas.Fmt.{decimal_by_steps, decimal_digit, first_decimal, decimal_nonempty, length-decimal-le}
use Rattle.std.proofs.lemmas.List.Folds.{list_all-append}
use Rattle.pb_base.specs.Digits.{is_digit, value_from, value_of}
use Rattle.clause_pool.specs.Literal.{literal}
use Rattle.derivation.specs.Words.{has_number_form, cert_number, cert_literal}
use Rattle.derivation.specs.Written.{literal_word}

-- no space, and nothing else that ends a word or a line
abbrev pub is_plain : List ℕ → Bool
is_plain word = list_all (λ b. ltb 32 b) word

pub value_more : (v : ℕ) (ds : List ℕ) (d : ℕ) → value_from v (ds ++ d ∷ []) ≡ 10 * value_from v ds + (d - 48)
value_more v [] d = refl
value_more v (b ∷ bs) d = value_more (10 * v + (b - 48)) bs d

digit_is : (d : ℕ) → d < 10 → is_digit (48 + d) ≡ true
digit_is d below = and_from (leb 48 (48 + d)) (leb (48 + d) 57) (le-leb 48 (48 + d) (omega arith)) (le-leb (48 + d) 57 (omega arith))

-- the digits write the number
abbrev IsWritten : ℕ → List ℕ → Type 0
IsWritten n ds = (list_all is_digit ds ≡ true) × (value_from 0 ds ≡ n)

one_digit : (n : ℕ) → n < 10 → IsWritten n ((48 + n) ∷ [])
one_digit n below = (and_from (is_digit (48 + n)) true (digit_is n below) refl, omega arith)

one_more : (n : ℕ) (ds : List ℕ) → 10 ≤ n → IsWritten (n / 10) ds → IsWritten n (ds ++ (48 + n % 10) ∷ [])
one_more n ds more front =
    let last : is_digit (48 + n % 10) ≡ true = digit_is (n % 10) (omega arith) in (
      list_all-append is_digit ds ((48 + n % 10) ∷ []) ∙ and_from (list_all is_digit ds) (list_all is_digit ((48 + n % 10) ∷ [])) front.0 (and_from (is_digit (48 + n % 10)) true last refl),
      value_more 0 ds (48 + n % 10) ∙ (let sum : 10 * value_from 0 ds + ((48 + n % 10) - 48) ≡ n = omega (arith, front.1) in sum),
    )

has_form : (word : List ℕ) → 0 < length word → length word ≤ 20 → (48 < get_or word 0 0) ⊎ (length word ≡ 1) → has_number_form word ≡ true
has_form [] some short first = absurd (omega arith)
has_form (b ∷ bs) some short first =
    and_from (not (eqb b 48) || eqb (length bs) 0) (leb (length bs) 19)
    (elim first [
      | inl above ↦ or_left (not (eqb b 48)) (eqb (length bs) 0) (not_from_false (eqb b 48) (ne_eqb b 48 (λ same. omega arith)))
      | inr alone ↦ or_right (not (eqb b 48)) (eqb (length bs) 0) (eq-eqb (length bs) 0 (omega arith))
    ])
    (le-leb (length bs) 19 (omega arith))

first_of_decimal : (n : ℕ) → n < 2 ^ 64 → (48 < get_or (decimal n) 0 0) ⊎ (length (decimal n) ≡ 1)
first_of_decimal n below =
    elim (cases_Bool (eqb n 0)) [
      | inl zero_is ↦ inr (let small : n < 10 = omega (arith, eqb-true n 0 zero_is) in ap length (decimal_digit n small))
      | inr more ↦ inl (first_decimal n (let ne = eqb-false n 0 more in omega arith) below)
    ]

pub number_back : (n : ℕ) → n < 2 ^ 64 → cert_number (decimal n) ≡ Some n
number_back n below =
    let is : IsWritten n (decimal n) = decimal_by_steps IsWritten one_digit one_more n below in
    cond-true (has_number_form (decimal n) && list_all is_digit (decimal n)) (Some (value_of (decimal n))) None
    (and_from (has_number_form (decimal n)) (list_all is_digit (decimal n))
    (has_form (decimal n) (decimal_nonempty n below) (length-decimal-le 20 n (omega arith) (omega arith) below) (first_of_decimal n below)) is.0)
    ∙ ap Some is.1

plain_digit : (d : ℕ) → is_plain ((48 + d) ∷ []) ≡ true
plain_digit d = and_from (ltb 32 (48 + d)) true (lt-ltb 32 (48 + d) (omega arith)) refl

plain_append : (xs ys : List ℕ) → is_plain xs ≡ true → is_plain ys ≡ true → is_plain (xs ++ ys) ≡ true
plain_append xs ys p q = list_all-append (λ b. ltb 32 b) xs ys ∙ and_from (is_plain xs) (is_plain ys) p q

pub plain_number : (n : ℕ) → n < 2 ^ 64 → is_plain (decimal n) ≡ true
plain_number n below =
    decimal_by_steps (λ n ds. is_plain ds ≡ true) (λ n _. plain_digit n) (λ n ds _ front. plain_append ds ((48 + n % 10) ∷ []) front (plain_digit (n % 10))) n below

abbrev signed_by : Bool → ℕ → ℕ
signed_by positive v = literal v positive

pub literal_back : (l : ℕ) → l < 2 ^ 33 → cert_literal (literal_word l) ≡ Some l
literal_back l below =
    let number : cert_number (decimal (l / 2)) ≡ Some (l / 2) = number_back (l / 2) (omega arith) in
    elim (cases_Bool (eqb (l % 2) 0)) [
      | inl even ↦
          let rest : l % 2 ≡ 0 = eqb-true (l % 2) 0 even in
          let same : signed_by true (l / 2) ≡ l = omega arith in
          rw even (ap (option_map (signed_by true)) number ∙ ap Some same)
      | inr odd ↦
          let rest = eqb-false (l % 2) 0 odd in
          let same : signed_by false (l / 2) ≡ l = omega arith in
          rw odd (ap (option_map (signed_by false)) number ∙ ap Some same)
    ]

pub plain_literal : (l : ℕ) → l < 2 ^ 33 → is_plain (literal_word l) ≡ true
plain_literal l below =
    let number : is_plain (decimal (l / 2)) ≡ true = plain_number (l / 2) (omega arith) in
    elim (cases_Bool (eqb (l % 2) 0)) [ inl even ↦ rw even number | inr odd ↦ rw odd number ]
