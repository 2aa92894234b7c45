use Rattle.std.proofs.Common.{List, ℕ, ◌≡◌, ◌<◌, ◌++◌, length, sym, ap, subst, ◌∙◌, arith}
use Rattle.chains.specs.Growth.{given_of}
use Rattle.findings.specs.Answering.{inquiry}
use Rattle.findings.specs.Core.{Asks, Assumes, OwnOf, periods_of}
use Rattle.findings.specs.Outcomes.{notes_of}
use Rattle.findings.specs.declared.outcome.Outcome.{Outcome}
use Rattle.findings.proofs.CoreLaws.{asks_by, meets_found_core}
use Rattle.findings.proofs.CoreTold.{none_told, set_told}
use Rattle.findings.proofs.core_report.answer.Goals as goal

pub seek-requires-clause-asks : goal.seek-requires-clause-asks
seek-requires-clause-asks c =
    let b = c.args.book.now in
    let s = c.args.asking.task.slice in
    let given = given_of c.args.solver.now.kernel in
    let vars = c.args.solver.now.vars in
    let known = c.requires.known in
    let few : length b.codes < vars = omega (arith, known.over.periods) in
    let assumes : Assumes b given vars s.first c.args.question c.assume.new.assumed.items = c.in_ok-is_known.ensures given vars few known.usages c.if-not-is_known.false in
    let are : c.in_ok-all.all.items ≡ periods_of b c.args.asking.periods.now s ++ c.assume.new.assumed.items =
    c.in_ok-all.ensures ∙ ap (λ (ls : List ℕ). c.args.asking.on.now ++ ls) c.deref-2.ensures.value
    ∙ ap (λ (ls : List ℕ). ls ++ c.assume.new.assumed.items) c.requires.asking.on in
    subst (Asks b s c.args.question given vars) (sym c.deref-4.ensures.value)
    (asks_by b c.args.asking.periods.now s c.args.question given vars c.assume.new.assumed.items c.in_ok-all.all.items known.over.clauses known.over.periods
    c.requires.asking.task.slice assumes are)

pub returns-in-Some-clause-told : goal.returns-in-Some-clause-told
returns-in-Some-clause-told c =
    let b = c.args.book.now in
    let s = c.args.asking.task.slice in
    let q = c.args.question in
    let found = c.in-Some.ensures.found in
    let x = c.in-Some.found.now.set in
    subst (λ (o : Outcome). OwnOf (inquiry b c.args.asking.task.effort) s q (notes_of o)) (sym c.in_ok-outcome-in-Some.ensures)
    (set_told (inquiry b c.args.asking.task.effort) s q x c.requires.asking.task.slice.order c.requires.fits
    (meets_found_core b s q x c.requires.asking.task.slice found.good_then c.in-Some.ensures.met))

pub returns-then-is_refuted-clause-told : goal.returns-then-is_refuted-clause-told
returns-then-is_refuted-clause-told c =
    let b = c.args.book.now in
    let s = c.args.asking.task.slice in
    let q = c.args.question in
    let given = given_of c.args.solver.now.kernel in
    let vars = c.args.solver.now.vars in
    let known = c.requires.known in
    let few : length b.codes < vars = omega (arith, known.over.periods) in
    let assumes : Assumes b given vars s.first q c.assume.new.assumed.items = c.in_ok-is_known.ensures given vars few known.usages c.if-not-is_known.false in
    let are : c.args.asking.on.now ++ c.deref.result.now ≡ periods_of b c.args.asking.periods.now s ++ c.assume.new.assumed.items =
    ap (λ (ls : List ℕ). c.args.asking.on.now ++ ls) c.deref.ensures.value ∙ ap (λ (ls : List ℕ). ls ++ c.assume.new.assumed.items) c.requires.asking.on in
    let asks : Asks b s q given vars (c.args.asking.on.now ++ c.deref.result.now) =
    asks_by b c.args.asking.periods.now s q given vars c.assume.new.assumed.items (c.args.asking.on.now ++ c.deref.result.now) known.over.clauses known.over.periods
    c.requires.asking.task.slice assumes are in
    subst (λ (o : Outcome). OwnOf (inquiry b c.args.asking.task.effort) s q (notes_of o)) (sym c.from_none.ensures)
    (none_told (inquiry b c.args.asking.task.effort) s q (c.is_refuted.ensures c.if-is_refuted.true asks))
