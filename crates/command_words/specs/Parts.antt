-- The words behind the command word: some operands, with at most one option among them.
--     is_plain word                    whether the word doesn't begin with `-`
--     IsOption budget words            the words give this budget: none, `--budget N` or `--budget=N`
--     HasParts words budget operands   the words are these operands, and give this budget
-- The first `--` ends the options. It is no operand itself.
use Rattle.std.specs.Prelude.{◌≡◌, ◌⊎◌, ◌++◌, ◌==◌, ℕ, Bool, true, not, List, [], ◌∷◌, Option, None, Some, codes}
use Rattle.std.specs.List.{list_all}

abbrev pub Words : Type 0
Words = List (List ℕ)

abbrev pub is_plain : List ℕ → Bool
is_plain [] = true
is_plain (b ∷ bs) = not (b == 45)

-- the word `--`
abbrev pub dashes : List ℕ
dashes = 45 ∷ 45 ∷ []

abbrev pub budget_word : List ℕ
budget_word = codes "--budget"

abbrev pub IsOption : Option (List ℕ) → Words → Type 0
IsOption None words = words ≡ []
IsOption (Some text) words = ((words ≡ budget_word ∷ text ∷ []) × (is_plain text ≡ true)) ⊎ (words ≡ (budget_word ++ 61 ∷ text) ∷ [])

pub record HasParts (words : Words) (budget : Option (List ℕ)) (operands : Words) : Type 0 where
  pub before : Words
  pub option : Words
  pub after : Words
  pub ending : Words
  pub further : Words
  pub words_are : words ≡ before ++ (option ++ (after ++ (ending ++ further)))
  pub operands_are : operands ≡ before ++ (after ++ further)
  pub gives : IsOption budget option
  pub ends : (ending ≡ []) ⊎ (ending ≡ dashes ∷ [])
  pub plain : list_all is_plain operands ≡ true
