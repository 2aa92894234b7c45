-- A number or a literal in front of a text, read digit by digit.
use Rattle.std.proofs.Common.{◌≡◌, ℕ, ◌+◌, ◌-◌, ◌*◌, ◌<◌, ◌≤◌, ◌^◌, Bool, true, false, cond, leb, List, [], ◌∷◌, Option, None, Some, length, take, drop, get_or, lit<, inl, inr, sym, ap, ◌∙◌, arith, zero, suc}
use Rattle.std.specs.List.{list_all}
use Rattle.std.specs.Option.{option_map}
use Rattle.std.proofs.Math.Nat.{pow-le-pow_right}
use Rattle.std.proofs.lemmas.Bool.{and_from, and_parts, cases_Bool, cond-true, leb-true}
use Rattle.std.proofs.lemmas.Grind.{pow_more}
use Rattle.std.proofs.lemmas.List.{length-take, take_all, take_more, get_or-take}
use Rattle.std.proofs.lemmas.List.Folds.{list_all_more, list_all_at}
use Rattle.pb_base.specs.Digits.{is_digit, value_of}
use Rattle.derivation.specs.declared.word.FrontNumber.{FrontNumber}
use Rattle.derivation.specs.Kept.{kept, digits_kept, number_kept, literal_at, literal_kept, first_as}
use Rattle.derivation.specs.Pieces.{pieces_left, EndsPiece}
use Rattle.derivation.specs.Reading.{AreLeading}
use Rattle.derivation.specs.Words.{has_number_form}
use Rattle.derivation.proofs.KeptLaws.{digits_are}
use Rattle.derivation.proofs.PieceLaws.{first_piece, last_piece}
use Rattle.derivation.proofs.WordLaws.{value_more}

power_up_to : (i j : ℕ) → i ≤ j → 10 ^ i ≤ 10 ^ j
power_up_to i j h = pow-le-pow_right {n = 10} (lit< tt) h

-- at most 18 digits leave room for one more
pub room_for_digit : (value end : ℕ) → value < 10 ^ end → end < 19 → 10 * value + 9 < 2 ^ 64
room_for_digit value end small few =
    let longer : 10 ^ (end + 1) ≡ 10 ^ end * 10 = pow_more 10 end in
    let below : 10 ^ (end + 1) ≤ 10 ^ 19 = power_up_to (end + 1) 19 (omega (arith, few)) in
    let top : 10 ^ 19 < 2 ^ 64 = lit< tt in
    omega (arith, small, longer, below, top)

pub power_next : (value end digit : ℕ) → value < 10 ^ end → digit < 10 → 10 * value + digit < 10 ^ (end + 1)
power_next value end digit small low = let longer : 10 ^ (end + 1) ≡ 10 ^ end * 10 = pow_more 10 end in omega (arith, small, low, longer)

pub digit_is : (b : ℕ) → is_digit b ≡ true → (48 ≤ b) × (b ≤ 57)
digit_is b met = let parts = and_parts (leb 48 b) (leb b 57) met in (leb-true 48 b parts.0, leb-true b 57 parts.1)

-- one digit more
pub digits_more : (text : List ℕ) (end : ℕ) → end < length text → list_all is_digit (take end text) ≡ true → is_digit (get_or text end 0) ≡ true → list_all is_digit (take (end + 1) text) ≡ true
digits_more text end inside digits digit =
    list_all_more is_digit text end 0 inside ∙ and_from (list_all is_digit (take end text)) (is_digit (get_or text end 0)) digits digit

pub value_next : (text : List ℕ) (end value : ℕ) → end < length text → value_of (take end text) ≡ value → value_of (take (end + 1) text) ≡ 10 * value + (get_or text end 0 - 48)
value_next text end value inside is =
    ap value_of (take_more text end 0 inside) ∙ value_more 0 (take end text) (get_or text end 0) ∙ ap (λ v. 10 * v + (get_or text end 0 - 48)) is

-- no digit is a separator
pub digit_at : (text : List ℕ) (end k : ℕ) → end ≤ length text → k < end → list_all is_digit (take end text) ≡ true → 48 ≤ get_or text k 0
digit_at text end k within below digits =
    elim (cases_Bool (is_digit (get_or text k 0))) [
      | inl met ↦ (digit_is (get_or text k 0) met).0
      | inr unmet ↦
          let same : get_or (take end text) k 0 ≡ get_or text k 0 = get_or-take end text k 0 below in
          let inside : k < length (take end text) = omega (arith, length-take end text) in
          let none : list_all is_digit (take end text) ≡ false = list_all_at is_digit (take end text) k 0 inside (ap is_digit same ∙ unmet) in
          absurd (cc)
    ]

pub ends_digits : (separator : ℕ) (text : List ℕ) (front : FrontNumber) → separator < 48 → AreLeading text front → (front.end < length text → get_or text front.end 0 ≡ separator) → EndsPiece separator text front.end
ends_digits separator text front low are found = record {
  within = are.within;
  before = λ k below is. let high : 48 ≤ get_or text k 0 = digit_at text front.end k are.within below are.digits in omega arith;
  found = found;
}

pub number_is_kept : (text : List ℕ) (front : FrontNumber) → AreLeading text front → front.value < 2 ^ 64 → has_number_form (take front.end text) ≡ true → number_kept (take front.end text) ≡ Some front.value
number_is_kept text front are below form =
    let word : List ℕ = take front.end text in
    let same : kept (value_of word) ≡ front.value = omega (arith, are.value) in
    cond-true (has_number_form word) (digits_kept 0 word) None form ∙ digits_are 0 word
    ∙ ap (λ t. cond t (Some (kept (value_of word))) None) are.digits ∙ ap Some same

-- a sign before a number
pub ends_signed : (separator : ℕ) (text : List ℕ) (end : ℕ) → 0 < length text → separator < 43 → 43 ≤ get_or text 0 0 → EndsPiece separator (drop 1 text) end → EndsPiece separator text (end + 1)
ends_signed separator [] end some low high ends = absurd (omega arith)
ends_signed separator (sign ∷ digits) end some low high ends = record {
  within = let within : end ≤ length digits = ends.within in omega arith;
  before = before;
  found = λ below. let next : end + 1 ≡ suc end = omega arith in ap (λ n. get_or (sign ∷ digits) n 0) next ∙ ends.found (omega arith);
}
  where
    before : (k : ℕ) → k < end + 1 → get_or (sign ∷ digits) k 0 ≡ separator → ⊥
    before zero below is = let above : 43 ≤ sign = high in let same : sign ≡ separator = is in omega (arith, above, same, low)
    before (suc k) below is = ends.before k (omega arith) is

-- the digits behind the sign, of a text that is taken whole
pub behind_sign : (text : List ℕ) (end n value : ℕ) → number_kept (take end (take n (drop 1 text))) ≡ Some value → length (drop 1 text) ≤ n → number_kept (take end (drop 1 text)) ≡ Some value
behind_sign text end n value number all = ap (λ ds. number_kept (take end ds)) (sym (take_all n (drop 1 text) all)) ∙ number

pub plus_kept : (text : List ℕ) (end value : ℕ) → 0 < length text → get_or text 0 0 ≡ 43 → number_kept (take end (drop 1 text)) ≡ Some value → literal_kept (take (end + 1) text) ≡ Some (literal_at true value)
plus_kept [] end value some plus number = absurd (omega arith)
plus_kept (sign ∷ digits) end value some plus number =
    let next : end + 1 ≡ suc end = omega arith in
    ap (λ n. literal_kept (take n (sign ∷ digits))) next ∙ ap (λ s. literal_kept (s ∷ take end digits)) plus ∙ ap (option_map (literal_at true)) number

pub minus_kept : (text : List ℕ) (end value : ℕ) → 0 < length text → get_or text 0 0 ≡ 45 → number_kept (take end (drop 1 text)) ≡ Some value → literal_kept (take (end + 1) text) ≡ Some (literal_at false value)
minus_kept [] end value some minus number = absurd (omega arith)
minus_kept (sign ∷ digits) end value some minus number =
    let next : end + 1 ≡ suc end = omega arith in
    ap (λ n. literal_kept (take n (sign ∷ digits))) next ∙ ap (λ s. literal_kept (s ∷ take end digits)) minus ∙ ap (option_map (literal_at false)) number

-- the first word of what is left, where a number or a literal was read in front of it
pub word_last : (read : List ℕ → Option ℕ) (now : List (List ℕ)) (done : Bool) (separator : ℕ) (text : List ℕ) (end value : ℕ) → pieces_left done separator text ≡ now → done ≡ false
    → end ≡ length text → EndsPiece separator text end → read (take end text) ≡ Some value → first_as read now ≡ Some (value, [])
word_last read now done separator text end value is more all ends word =
    let whole : take end text ≡ text = take_all end text (omega (arith, all)) in
    let there : read text ≡ Some value = ap read (sym whole) ∙ word in
    ap (first_as read) (last_piece now done separator text end is more all ends) ∙ ap (option_map {U = ℕ × List (List ℕ)} (λ v. (v, []))) there

pub word_first : (read : List ℕ → Option ℕ) (now : List (List ℕ)) (done : Bool) (separator : ℕ) (text : List ℕ) (end value : ℕ) → pieces_left done separator text ≡ now → done ≡ false
    → (end ≡ length text → ⊥) → EndsPiece separator text end → read (take end text) ≡ Some value
    → first_as read now ≡ Some (value, pieces_left done separator (drop (end + 1) text))
word_first read now done separator text end value is more inside ends word =
    ap (first_as read) (first_piece now done separator text end is more inside ends)
    ∙ ap (option_map {U = ℕ × List (List ℕ)} (λ v. (v, pieces_left done separator (drop (end + 1) text)))) word
