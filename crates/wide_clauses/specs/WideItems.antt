-- The clauses of items (clausify) with one variable for each chain.
--     taken_by is              how many variables the items take
--     wide_literals n v fs     the literals of several formulas, one after another
--     wide_item_clauses n v is       the clauses of items, where v is the first variable that they take
--     wide_items n is          the whole, behind the clause that variable n is true
use Rattle.std.specs.Prelude.{ℕ, ◌+◌, true, List, [], ◌∷◌, ◌++◌}
use Rattle.pb_base.specs.Rule.{Rule}
use Rattle.clause_pool.specs.Literal.{literal}
use Rattle.clause_pool.specs.Clause.{clause_of}
use Rattle.clausify.specs.Items.{Item, claim_clauses}
use Rattle.wide_clauses.specs.Chains.{alone, wide_clauses, wide_literal, wide_variables}

abbrev pub taken_by : List Item → ℕ
taken_by [] = 0
taken_by (i ∷ is) = wide_variables i.rule + taken_by is

abbrev pub wide_literals : ℕ → ℕ → List Rule → List ℕ
wide_literals n v [] = []
wide_literals n v (f ∷ fs) = wide_literal n v f ∷ wide_literals n (v + wide_variables f) fs

abbrev pub wide_own : ℕ → ℕ → Item → List (List ℕ)
wide_own n v i = wide_clauses n v i.rule alone ++ claim_clauses i.claim (wide_literal n v i.rule)

abbrev pub wide_item_clauses : ℕ → ℕ → List Item → List (List ℕ)
wide_item_clauses n v [] = []
wide_item_clauses n v (i ∷ is) = wide_own n v i ++ wide_item_clauses n (v + wide_variables i.rule) is

abbrev pub wide_items : ℕ → List Item → List (List ℕ)
wide_items n is = clause_of (literal n true ∷ []) ∷ wide_item_clauses n (n + 1) is
