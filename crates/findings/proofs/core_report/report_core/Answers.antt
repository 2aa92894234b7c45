use Rattle.std.proofs.Common.{List, ℕ, ◌≡◌, length, sym, subst}
use Rattle.chains.specs.Growth.{given_of}
use Rattle.propagate.specs.Quiet.{IsConsistent}
use Rattle.clausify.specs.declared.question.Question.TheVariants.{Void}
use Rattle.findings.specs.Findings.{MeetsThrough}
use Rattle.findings.proofs.Lifting.{has_from_meets}
use Rattle.solver.specs.Answer.{Begins}
use Rattle.findings.proofs.CoreLaws.{begins_onwards, found_by_meets, known_onwards, periods_consistent, void_asks, void_met}
use Rattle.findings.proofs.core_report.report_core.Goals as goal

pub search-requires-clause-below : goal.search-requires-clause-below
search-requires-clause-below c =
    let over = c.requires.known.over in
    (void_asks c.args.book.now c.args.asking.periods.now c.args.asking.task.slice (given_of c.args.solver.now.kernel) c.args.solver.now.vars c.args.asking.on.now over.clauses over.periods
    c.requires.asking.task.slice c.requires.asking.on).below

pub search-requires-clause-consistent : goal.search-requires-clause-consistent
search-requires-clause-consistent c =
    subst (λ (ls : List ℕ). IsConsistent ls) (sym c.requires.asking.on)
    (periods_consistent (length c.args.book.now.codes) c.args.asking.task.slice.first c.args.asking.periods.now)

pub tell_behind-requires-in-Set-clause-known : goal.tell_behind-requires-in-Set-clause-known
tell_behind-requires-in-Set-clause-known c =
    let b = c.args.book.now in
    let s = c.args.asking.task.slice in
    let x = c.in-Set.set in
    let old = c.args.solver.now in
    let now = c.search.new.solver in
    let known = c.requires.known in
    let begins : Begins (given_of now.kernel) c.args.asking.on.now now.codes x = rw c.in-Set.is at c.in_ok-searched.ensures.answer in
    let meets : MeetsThrough b s Void x = void_met b c.args.asking c.args.sets.now old now x c.requires.asking known c.search.ensures.onwards begins in
    let counted : length x ≡ length b.codes = (begins_onwards b c.args.asking.periods.now c.args.asking.on.now x old now known.over c.search.ensures.onwards begins).counted in
    known_onwards b c.args.asking c.args.sets.now c.put.new.self old now known c.search.ensures.onwards
    (c.put.ensures b s.first known.found
    (found_by_meets b s x c.in_ok-found_with-in-Set.field-0 c.requires.asking.task.slice.order meets counted c.in_ok-found_with-in-Set.ensures.set c.in_ok-found_with-in-Set.ensures.usages))

pub tell_behind-requires-in-Set-clause-some : goal.tell_behind-requires-in-Set-clause-some
tell_behind-requires-in-Set-clause-some c =
    let b = c.args.book.now in
    let s = c.args.asking.task.slice in
    let x = c.in-Set.set in
    let old = c.args.solver.now in
    let now = c.search.new.solver in
    let begins : Begins (given_of now.kernel) c.args.asking.on.now now.codes x = rw c.in-Set.is at c.in_ok-searched.ensures.answer in
    has_from_meets b s Void x c.requires.asking.task.slice.order
    (void_met b c.args.asking c.args.sets.now old now x c.requires.asking c.requires.known c.search.ensures.onwards begins)
