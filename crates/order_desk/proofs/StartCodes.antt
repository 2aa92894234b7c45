-- Code names are told by their text.
use Rattle.std.proofs.Common.{◌≡◌, ℕ, ◌==◌, Bool, true, false, not, ◌&&◌, List, [], ◌∷◌, length, refl, sym, ap, ◌∙◌, append-nil}
use Rattle.std.specs.Prelude.{nat_le}
use Rattle.std.specs.List.{All, AllByRecursion, list_all, slice_split}
use Rattle.std.proofs.lemmas.Bool.{eqb-true}
use Rattle.std.proofs.lemmas.List.Elements.{All-from_recursion, recursion_from_All}
use Rattle.std.proofs.lemmas.List.Splits.{slice_split_at, slice_split_none}
use Rattle.pb_base.specs.Names.{false_word, is_code_name, is_name, is_name_byte, same_name, true_word}
use Rattle.order_desk.specs.RightRows.{codes_in}
use Rattle.order_desk.specs.Rows.{codes_text}
use Rattle.order_desk.proofs.Conjunction.{left_of, right_of}

abbrev is_space : ℕ → Bool
is_space byte = byte == 32

no_space : (b : ℕ) → is_name_byte b ≡ true → is_space b ≡ false
no_space b named = by (is_space b) refl
  where
    by : (space : Bool) → is_space b ≡ space → is_space b ≡ false
    by false is = is
    by true is = let wrong : is_name_byte 32 ≡ true = ap is_name_byte (sym (eqb-true b 32 is)) ∙ named in cc

no_spaces : (name : List ℕ) → list_all is_name_byte name ≡ true → AllByRecursion (λ b. is_space b ≡ false) name
no_spaces [] all = tt
no_spaces (b ∷ bs) all =
    (no_space b (left_of (is_name_byte b) (list_all is_name_byte bs) all), no_spaces bs (right_of (is_name_byte b) (list_all is_name_byte bs) all))

is_one_part : (code : List ℕ) → is_code_name code ≡ true → All (λ b. is_space b ≡ false) code
is_one_part code named =
    let name = is_name code in
    let first = left_of name (not (same_name code true_word)) (left_of (name && not (same_name code true_word)) (not (same_name code false_word)) named) in
    let bytes = right_of (nat_le 1 (length code) && nat_le (length code) 8) (list_all is_name_byte code) first in
    All-from_recursion (λ b. is_space b ≡ false) code (no_spaces code bytes)

split : (code : List ℕ) (codes : List (List ℕ)) → AllByRecursion (λ c. is_code_name c ≡ true) (code ∷ codes)
    → slice_split is_space (codes_text (code ∷ codes)) ≡ code ∷ codes
split code [] named =
    ap (slice_split is_space) (append-nil code) ∙ slice_split_none is_space code (is_one_part code named.0)
split code (next ∷ codes) named =
    slice_split_at is_space code 32 (codes_text (next ∷ codes)) (is_one_part code named.0) refl
    ∙ ap (λ parts. code ∷ parts) (split next codes named.1)

codes_by : (codes : List (List ℕ)) → AllByRecursion (λ c. is_code_name c ≡ true) codes → codes_in (codes_text codes) ≡ codes
codes_by [] named = refl
codes_by ([] ∷ codes) named = let none : is_code_name [] ≡ true = named.0 in cc
codes_by ((b ∷ bs) ∷ codes) named = split (b ∷ bs) codes named

pub codes_same : (codes : List (List ℕ)) → All (λ code. is_code_name code ≡ true) codes → codes_in (codes_text codes) ≡ codes
codes_same codes named = codes_by codes (recursion_from_All (λ code. is_code_name code ≡ true) codes named)
