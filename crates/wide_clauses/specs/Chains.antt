-- Clauses that give a formula a literal, true just where the formula is, with one variable for each chain of `/` or of `+`, however
-- long it is. Variable i below n is code i, and variable n is always true. Of a chain the last part comes first, then the others, and
-- then the chain's own variable.
--     taken f at               how many variables the formula takes, where it stands alone or is the left side of a longer chain
--     wide_literal n v f       its literal, where v is the first variable that it takes
--     any_literals n v f       the literals of the parts of a chain of `/`, the last part first
--     all_literals n v f       those of the parts of a chain of `+`, each complemented
--     one_of_clauses l ls      the literal l stands for one of the literals ls
--     wide_clauses n v f at    the clauses that tie the variables to what they stand for
use Rattle.std.specs.Prelude.{ℕ, ◌+◌, true, false, List, [], ◌∷◌, ◌++◌, map}
use Rattle.pb_base.specs.Rule.{Rule, code, negation, both, either, always, never}
use Rattle.clause_pool.specs.Literal.{literal, complement}
use Rattle.clause_pool.specs.Clause.{clause_of}

-- a formula stands alone, or it is the left side of a chain of `/` or of `+`
pub data Place : Type 0 where
  alone : Place
  in_any : Place
  in_all : Place

-- a chain that is a part of a longer one takes no variable of its own
abbrev pub of_any : Place → ℕ
of_any alone = 1
of_any in_any = 0
of_any in_all = 1

abbrev pub of_all : Place → ℕ
of_all alone = 1
of_all in_any = 1
of_all in_all = 0

abbrev pub taken : Rule → Place → ℕ
taken (code place) at = 0
taken (negation f) at = taken f alone
taken (both f g) at = taken g alone + taken f in_all + of_all at
taken (either f g) at = taken g alone + taken f in_any + of_any at
taken always at = 0
taken never at = 0

abbrev pub wide_variables : Rule → ℕ
wide_variables f = taken f alone

abbrev pub wide_literal : ℕ → ℕ → Rule → ℕ
wide_literal n v (code place) = literal place true
wide_literal n v (negation f) = complement (wide_literal n v f)
wide_literal n v (both f g) = literal (v + taken g alone + taken f in_all) true
wide_literal n v (either f g) = literal (v + taken g alone + taken f in_any) true
wide_literal n v always = literal n true
wide_literal n v never = literal n false

abbrev pub any_literals : ℕ → ℕ → Rule → List ℕ
any_literals n v (code place) = wide_literal n v (code place) ∷ []
any_literals n v (negation f) = wide_literal n v (negation f) ∷ []
any_literals n v (both f g) = wide_literal n v (both f g) ∷ []
any_literals n v (either f g) = wide_literal n v g ∷ any_literals n (v + taken g alone) f
any_literals n v always = wide_literal n v always ∷ []
any_literals n v never = wide_literal n v never ∷ []

abbrev pub all_literals : ℕ → ℕ → Rule → List ℕ
all_literals n v (code place) = complement (wide_literal n v (code place)) ∷ []
all_literals n v (negation f) = complement (wide_literal n v (negation f)) ∷ []
all_literals n v (both f g) = complement (wide_literal n v g) ∷ all_literals n (v + taken g alone) f
all_literals n v (either f g) = complement (wide_literal n v (either f g)) ∷ []
all_literals n v always = complement (wide_literal n v always) ∷ []
all_literals n v never = complement (wide_literal n v never) ∷ []

abbrev pub with_each : ℕ → List ℕ → List (List ℕ)
with_each l ls = map (λ k. clause_of (l ∷ complement k ∷ [])) ls

abbrev pub one_of_clauses : ℕ → List ℕ → List (List ℕ)
one_of_clauses l ls = clause_of (complement l ∷ ls) ∷ with_each l ls

abbrev pub any_tied : Place → ℕ → List ℕ → List (List ℕ)
any_tied alone w ls = one_of_clauses (literal w true) ls
any_tied in_any w ls = []
any_tied in_all w ls = one_of_clauses (literal w true) ls

abbrev pub all_tied : Place → ℕ → List ℕ → List (List ℕ)
all_tied alone w ls = one_of_clauses (literal w false) ls
all_tied in_any w ls = one_of_clauses (literal w false) ls
all_tied in_all w ls = []

abbrev pub wide_clauses : ℕ → ℕ → Rule → Place → List (List ℕ)
wide_clauses n v (code place) at = []
wide_clauses n v (negation f) at = wide_clauses n v f alone
wide_clauses n v (both f g) at =
    wide_clauses n v g alone ++ wide_clauses n (v + taken g alone) f in_all
    ++ all_tied at (v + taken g alone + taken f in_all) (all_literals n v (both f g))
wide_clauses n v (either f g) at =
    wide_clauses n v g alone ++ wide_clauses n (v + taken g alone) f in_any
    ++ any_tied at (v + taken g alone + taken f in_any) (any_literals n v (either f g))
wide_clauses n v always at = []
wide_clauses n v never at = []
