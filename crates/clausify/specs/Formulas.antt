-- The clauses that give a formula a literal, true just where the formula is. Variable i below n is code i, variable n is
-- always true, and each `+` and `/` takes the next variable once both its sides have theirs.
--     connectives f          how many variables the formula takes
--     formula_literal n v f       its literal, where v is the first variable that it takes
--     literals_from n v fs   the literals of several, one after another
--     formula_clauses n v f     the clauses that tie the variables to what they stand for
use Rattle.std.specs.Prelude.{ℕ, ◌+◌, true, false, List, [], ◌∷◌, ◌++◌}
use Rattle.pb_base.specs.Rule.{Rule, code, negation, both, either, always, never}
use Rattle.clause_pool.specs.Literal.{literal, complement}
use Rattle.clause_pool.specs.Clause.{clause_of}

abbrev pub connectives : Rule → ℕ
connectives (code place) = 0
connectives (negation f) = connectives f
connectives (both f g) = connectives f + connectives g + 1
connectives (either f g) = connectives f + connectives g + 1
connectives always = 0
connectives never = 0

abbrev pub formula_literal : ℕ → ℕ → Rule → ℕ
formula_literal n v (code place) = literal place true
formula_literal n v (negation f) = complement (formula_literal n v f)
formula_literal n v (both f g) = literal (v + connectives f + connectives g) true
formula_literal n v (either f g) = literal (v + connectives f + connectives g) true
formula_literal n v always = literal n true
formula_literal n v never = literal n false

abbrev pub literals_from : ℕ → ℕ → List Rule → List ℕ
literals_from n v [] = []
literals_from n v (f ∷ fs) = formula_literal n v f ∷ literals_from n (v + connectives f) fs

-- the variable v stands for both literals
abbrev pub both_clauses : ℕ → ℕ → ℕ → List (List ℕ)
both_clauses v a b =
    clause_of (literal v false ∷ a ∷ []) ∷ clause_of (literal v false ∷ b ∷ [])
    ∷ clause_of (literal v true ∷ complement a ∷ complement b ∷ []) ∷ []

-- the variable v stands for one of the literals
abbrev pub either_clauses : ℕ → ℕ → ℕ → List (List ℕ)
either_clauses v a b =
    clause_of (literal v false ∷ a ∷ b ∷ []) ∷ clause_of (literal v true ∷ complement a ∷ [])
    ∷ clause_of (literal v true ∷ complement b ∷ []) ∷ []

abbrev pub formula_clauses : ℕ → ℕ → Rule → List (List ℕ)
formula_clauses n v (both f g) =
    formula_clauses n v f ++ formula_clauses n (v + connectives f) g
    ++ both_clauses (v + connectives f + connectives g) (formula_literal n v f) (formula_literal n (v + connectives f) g)
formula_clauses n v (either f g) =
    formula_clauses n v f ++ formula_clauses n (v + connectives f) g
    ++ either_clauses (v + connectives f + connectives g) (formula_literal n v f) (formula_literal n (v + connectives f) g)
formula_clauses n v (negation f) = formula_clauses n v f
formula_clauses n v (code place) = []
formula_clauses n v always = []
formula_clauses n v never = []
