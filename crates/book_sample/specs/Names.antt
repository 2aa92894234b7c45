-- A name is a letter and a number in four digits.
--     name letter i          one
--     names letter n i       n of them, of which the first has the number i
use Rattle.std.specs.Prelude.{ℕ, zero, suc, ◌+◌, ◌*◌, ◌/◌, ◌%◌, List, [], ◌∷◌}

abbrev pub name : ℕ → ℕ → List ℕ
name letter i = letter ∷ (48 + i / 1000 % 10) ∷ (48 + i / 100 % 10) ∷ (48 + i / 10 % 10) ∷ (48 + i % 10) ∷ []

abbrev pub names : ℕ → ℕ → ℕ → List (List ℕ)
names letter zero i = []
names letter (suc n) i = name letter i ∷ names letter n (suc i)

-- K
abbrev pub code_name : ℕ → List ℕ
code_name i = name 75 i

-- the place of one of the four codes of a group
abbrev pub place : ℕ → ℕ → ℕ
place group code = 4 * group + code
