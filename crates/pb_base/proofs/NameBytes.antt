-- A table that says of each byte whether it is a byte of names.
use Rattle.std.proofs.Common.{◌≡◌, ℕ, zero, suc, ◌+◌, ◌<◌, Bool, true, false, ◌&&◌, List, [], ◌∷◌, length, get_or, refl, ap, ◌∙◌, arith}
use Rattle.pb_base.specs.Names.{is_name_byte}

abbrev pub same : Bool → Bool → Bool
same true b = b
same false true = false
same false false = true

-- whether the table is right from this byte on
abbrev pub tells : ℕ → List Bool → Bool
tells at [] = true
tells at (x ∷ xs) = same x (is_name_byte at) && tells (suc at) xs

same_is : (a b : Bool) (rest : Bool) → (same a b && rest) ≡ true → a ≡ b
same_is true true rest e = refl
same_is false false rest e = refl
same_is true false rest e = cc
same_is false true rest e = cc

rest_is : (a rest : Bool) → (a && rest) ≡ true → rest ≡ true
rest_is true rest e = e
rest_is false rest e = cc

told : (at k : ℕ) (xs : List Bool) (d : Bool) → tells at xs ≡ true → k < length xs → get_or xs k d ≡ is_name_byte (k + at)
told at zero (x ∷ xs) d e inside =
    let place : at ≡ 0 + at = omega arith in
    same_is x (is_name_byte at) (tells (suc at) xs) e ∙ ap is_name_byte place
told at (suc k) (x ∷ xs) d e inside =
    let place : k + suc at ≡ suc k + at = omega arith in
    told (suc at) k xs d (rest_is (same x (is_name_byte at)) (tells (suc at) xs) e) (omega arith) ∙ ap is_name_byte place
told at k [] d e inside = let no : ⊥ = omega arith in absurd no

pub is_told : (xs : List Bool) (b : ℕ) (d : Bool) → tells 0 xs ≡ true → b < length xs → get_or xs b d ≡ is_name_byte b
is_told xs b d right inside =
    let place : b + 0 ≡ b = omega arith in
    told 0 b xs d right inside ∙ ap is_name_byte place
