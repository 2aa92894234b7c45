-- The grammar of rules, as a relation between tokens and the rule that they spell. It stands apart from every reader.
--     text   = expr [ ";" ]
--     expr   = term { "/" term }
--     term   = factor { "+" factor }
--     factor = "-" factor | "(" expr ")" | "TRUE" | "FALSE" | code
-- Each form has a bound on how deep it nests: how many brackets and minus signs stand round a factor in it.
use Rattle.std.specs.Prelude.{◌≡◌, ℕ, suc, List, [], ◌∷◌, ◌++◌, Option, Some, None, option_map, if◌then◌else◌}
use Rattle.pb_base.specs.Rule.{Rule, code, negation, both, either, always, never}
use Rattle.pb_base.specs.Names.{is_code_name, place_in, same_name, true_word, false_word}
use Rattle.rule_text.specs.Token.{Placed, word, plus, slash, minus, opening, closing, semicolon}

-- the constants TRUE and FALSE
abbrev pub constant_rule : List ℕ → Option Rule
constant_rule w = if same_name w true_word then Some always else (if same_name w false_word then Some never else None)

-- what a word means: the code of that name, or a constant
abbrev pub word_rule : List (List ℕ) → List ℕ → Option Rule
word_rule names w = if is_code_name w then option_map code (place_in names w) else constant_rule w

mutual
  pub data IsFactor (names : List (List ℕ)) : ℕ → List Placed → Rule → Type 0 where
    a_word : (depth at : ℕ) (w : List ℕ) (rule : Rule) → word_rule names w ≡ Some rule → IsFactor names depth ((at, word w) ∷ []) rule
    a_minus : (depth at : ℕ) (ts : List Placed) (rule : Rule) → IsFactor names depth ts rule → IsFactor names (suc depth) ((at, minus) ∷ ts) (negation rule)
    a_bracket : (depth at end : ℕ) (ts all : List Placed) (rule : Rule) → IsExpr names depth ts rule
        → all ≡ (at, opening) ∷ (ts ++ (end, closing) ∷ []) → IsFactor names (suc depth) all rule

  pub data IsTerm (names : List (List ℕ)) : ℕ → List Placed → Rule → Type 0 where
    a_factor : (depth : ℕ) (ts : List Placed) (rule : Rule) → IsFactor names depth ts rule → IsTerm names depth ts rule
    a_plus : (depth at : ℕ) (left right all : List Placed) (l r : Rule) → IsTerm names depth left l → IsFactor names depth right r
        → all ≡ left ++ (at, plus) ∷ right → IsTerm names depth all (both l r)

  pub data IsExpr (names : List (List ℕ)) : ℕ → List Placed → Rule → Type 0 where
    a_term : (depth : ℕ) (ts : List Placed) (rule : Rule) → IsTerm names depth ts rule → IsExpr names depth ts rule
    a_slash : (depth at : ℕ) (left right all : List Placed) (l r : Rule) → IsExpr names depth left l → IsTerm names depth right r
        → all ≡ left ++ (at, slash) ∷ right → IsExpr names depth all (either l r)

pub data IsText (names : List (List ℕ)) : ℕ → List Placed → Rule → Type 0 where
  plain : (depth : ℕ) (ts : List Placed) (rule : Rule) → IsExpr names depth ts rule → IsText names depth ts rule
  ended : (depth at : ℕ) (ts all : List Placed) (rule : Rule) → IsExpr names depth ts rule
      → all ≡ ts ++ (at, semicolon) ∷ [] → IsText names depth all rule
