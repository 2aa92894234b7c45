-- Lines of text.
use Rattle.std.specs.Prelude.{ℕ, List, [], ◌∷◌, ◌++◌, Option, None, Some, codes}
use Rattle.std.specs.Fmt.{decimal}

-- a text as a line
abbrev pub line : List ℕ → List ℕ
line text = text ++ 10 ∷ []

-- a space and a number
abbrev pub number_behind : ℕ → List ℕ
number_behind number = 32 ∷ decimal number

-- the same where there is a number
abbrev pub optional_number : Option ℕ → List ℕ
optional_number None = []
optional_number (Some number) = number_behind number

-- the days of a slice
abbrev pub days_text : ℕ → ℕ → List ℕ
days_text first last = line (codes "slice" ++ number_behind first ++ number_behind last)
