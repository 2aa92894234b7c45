-- The clauses that ask whether two books choose other parts at a position. A key is a part with its quantity. For each key there
-- is a literal that is true where the first book chooses it, and one where the second does; of two variables the one may be
-- true only where the first book chooses it and not the second, and the other the other way round. One last variable is true
-- only where one of those is.
--     either_all v ls               the clauses that make the literals one, true where one of them is
--     KeyLiterals                   the usages' literals that have a key, of the first book and of the second
--     keys_clauses n v ks           the clauses of the keys, where v is the first variable that they take
--     position_clauses n v ks       the same with those of the last variable
--     position_goal v ks            its literal
use Rattle.std.specs.Prelude.{ℕ, ◌+◌, true, false, List, [], ◌∷◌, ◌++◌, length}
use Rattle.clause_pool.specs.Literal.{literal, complement}
use Rattle.clause_pool.specs.Clause.{clause_of}
use Rattle.clausify.specs.Formulas.{either_clauses}

-- what has the literal l or one of these: each takes the next variable
abbrev pub any_clauses : ℕ → ℕ → List ℕ → List (List ℕ)
any_clauses v l [] = []
any_clauses v l (k ∷ ks) = either_clauses v l k ++ any_clauses (v + 1) (literal v true) ks

abbrev pub any_literal : ℕ → ℕ → List ℕ → ℕ
any_literal v l [] = l
any_literal v l (k ∷ ks) = any_literal (v + 1) (literal v true) ks

abbrev pub either_all : ℕ → List ℕ → List (List ℕ)
either_all v [] = []
either_all v (l ∷ ls) = any_clauses v l ls

-- variable n is always true
abbrev pub either_literal : ℕ → ℕ → List ℕ → ℕ
either_literal n v [] = literal n false
either_literal n v (l ∷ ls) = any_literal v l ls

abbrev pub joins : List ℕ → ℕ
joins [] = 0
joins (l ∷ ls) = length ls

pub record KeyLiterals : Type 0 where
  pub first : List ℕ
  pub second : List ℕ

abbrev pub key_variables : KeyLiterals → ℕ
key_variables k = joins k.first + joins k.second + 2

-- where v is the first variable that the key takes: the literals of the one book and of the other, and the variables of the two
-- ways in which they may differ
abbrev pub first_literal : ℕ → ℕ → KeyLiterals → ℕ
first_literal n v k = either_literal n v k.first

abbrev pub second_literal : ℕ → ℕ → KeyLiterals → ℕ
second_literal n v k = either_literal n (v + joins k.first) k.second

abbrev pub lost_variable : ℕ → KeyLiterals → ℕ
lost_variable v k = v + joins k.first + joins k.second

abbrev pub won_variable : ℕ → KeyLiterals → ℕ
won_variable v k = lost_variable v k + 1

-- a variable that is true only where the one literal is and the other isn't
abbrev pub only_clauses : ℕ → ℕ → ℕ → List (List ℕ)
only_clauses v l other = clause_of (literal v false ∷ l ∷ []) ∷ clause_of (literal v false ∷ complement other ∷ []) ∷ []

-- the same the other way round: the literal is false, and the other is true
abbrev pub not_clauses : ℕ → ℕ → ℕ → List (List ℕ)
not_clauses v l other = clause_of (literal v false ∷ complement l ∷ []) ∷ clause_of (literal v false ∷ other ∷ []) ∷ []

abbrev pub key_clauses : ℕ → ℕ → KeyLiterals → List (List ℕ)
key_clauses n v k =
    either_all v k.first ++ (either_all (v + joins k.first) k.second
    ++ (only_clauses (lost_variable v k) (first_literal n v k) (second_literal n v k)
    ++ not_clauses (won_variable v k) (first_literal n v k) (second_literal n v k)))

abbrev pub keys_clauses : ℕ → ℕ → List KeyLiterals → List (List ℕ)
keys_clauses n v [] = []
keys_clauses n v (k ∷ ks) = key_clauses n v k ++ keys_clauses n (v + key_variables k) ks

abbrev pub keys_variables : List KeyLiterals → ℕ
keys_variables [] = 0
keys_variables (k ∷ ks) = key_variables k + keys_variables ks

-- the literals of which one has to be true
abbrev pub ways : ℕ → List KeyLiterals → List ℕ
ways v [] = []
ways v (k ∷ ks) = literal (lost_variable v k) true ∷ literal (won_variable v k) true ∷ ways (v + key_variables k) ks

abbrev pub goal_clause : ℕ → List KeyLiterals → List ℕ
goal_clause v ks = clause_of (literal (v + keys_variables ks) false ∷ ways v ks)

abbrev pub position_clauses : ℕ → ℕ → List KeyLiterals → List (List ℕ)
position_clauses n v ks = keys_clauses n v ks ++ goal_clause v ks ∷ []

abbrev pub position_goal : ℕ → List KeyLiterals → ℕ
position_goal v ks = literal (v + keys_variables ks) true
