use Rattle.std.proofs.Common.{ℕ, not, ◌++◌, ap, rules, tests}
use Rattle.std.proofs.lemmas.Iterator.{YieldsList-from_slice}
use Rattle.std.proofs.lemmas.Iterator.Search.{any_from_yields_List}
use Rattle.clause_pool.specs.Clause.{has}
use Rattle.clause_pool.specs.Literal.{complement}
use Rattle.findings.proofs.assuming.are_complements.Goals as goal

pub returns : goal.returns
returns c =
    ap not
    (any_from_yields_List (λ (l : ℕ). not (has (c.args.these.now ++ c.args.those.now) (complement l))) _ _ c.any.result c.any.ensures.ran (YieldsList-from_slice c.args.clause.now cc)
    (λ x b q called. search (rules, tests)))
