use Rattle.std.proofs.Common.{rules, ◌≡◌, ℕ, ◌*◌, ◌<◌, List, [], length, get_or, ap, sym, subst, ◌∙◌, arith}
use Rattle.clause_pool.specs.Clause.{has}
use Rattle.solver.proofs.MarkLaws.{chain_begins}
use Rattle.solver.specs.declared.resolution.Resolution.{Resolution}
use Rattle.solver.specs.Marks.{IsChain}
use Rattle.solver.proofs.PoolLaws.{clause_below}
use Rattle.solver.proofs.LearnLaws.{kept_after, core_of, literals_by_start, literals_by_last, none_there}
use Rattle.solver.proofs.closing.derive_closing.Goals as goal

pub resolve_all-requires-clause-chain : goal.resolve_all-requires-clause-chain
resolve_all-requires-clause-chain c =
    let clauses : List (List ℕ) = c.pool-2.result.now.clauses in
    let same : c.pool.result.now.clauses ≡ clauses = c.pool.ensures.clauses ∙ sym c.pool-2.ensures.clauses in
    chain_begins clauses c.begin.new.self c.args.at (subst (λ (cs : List (List ℕ)). c.args.at < length cs) (c.requires.ready.attached ∙ sym c.pool-2.ensures.clauses) c.requires.closing.attached)
    c.begin.ensures.start c.begin.ensures.pairs (λ l. c.in_ok-begin.ensures.marks l ∙ ap (λ (cs : List (List ℕ)). has (get_or cs c.args.at []) l) same) c.in_ok-begin.ensures.touched

pub returns-clause-kept : goal.returns-clause-kept
returns-clause-kept c =
    kept_after c.args.kernel.now.clauses c.append.new.kernel.clauses c.args.engine.now c.args.resolution.now.marks.items c.resolve_all.new.resolution.marks.items c.in_ok-closed.ensures.appended.clause
    c.requires.ready c.in_ok-closed.ensures.appended.clauses c.in_ok-closed.ensures.bounds c.resolve_all.ensures.table

pub begin-requires-clause-below : goal.begin-requires-clause-below
begin-requires-clause-below c = λ l is_in.
    let low = clause_below (2 * c.args.engine.now.vars) c.args.kernel.now.clauses c.args.at l c.requires.ready.below (ap (λ (cs : List (List ℕ)). has (get_or cs c.args.at []) l) (sym c.pool.ensures.clauses) ∙ is_in) in
    let table = c.requires.ready.table in
    omega (arith, low, table)

pub returns-clause-core : goal.returns-clause-core
returns-clause-core c =
    core_of c.append.new.kernel c.resolve_all.new.resolution.marks.items c.args.assumptions.now c.in_ok-closed.closed
    (literals_by_last c.args.kernel.now c.append.new.kernel c.resolve_all.new.resolution.marks.items c.in_ok-closed.closed c.in_ok-closed.ensures.appended c.in_ok-closed.ensures.place) c.in_ok-resolve_all.ensures.blamed

pub returns-then-is_empty-clause-literals : goal.returns-then-is_empty-clause-literals
returns-then-is_empty-clause-literals c =
    let r : Resolution = c.resolve_all.new.resolution in
    let none : length c.resolve_all.new.resolution.pairs.items ≡ 0 = search rules in
    literals_by_start c.args.kernel.now.clauses r (subst (λ (cs : List (List ℕ)). IsChain cs r) c.pool-2.ensures.clauses c.in_ok-resolve_all.ensures.chain)
    (none_there r.pairs.items none)
