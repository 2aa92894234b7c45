use Rattle.std.proofs.Common.{None, length, refl, subst}
use Rattle.clause_pool.specs.Derivation.{Derivation, AllFollow}
use Rattle.clausify.specs.Goals.{void_asked}
use Rattle.clausify.specs.declared.question.Question.TheVariants.{Void}
use Rattle.findings.specs.Answering.{inquiry}
use Rattle.findings.specs.declared.report.Note.TheVariants.{Finding}
use Rattle.findings.proofs.SliceLaws.{void_notes, void_stops}
use Rattle.findings.proofs.SolverLaws.{none_by_solver}
use Rattle.findings.proofs.slice.void_closed.Goals as goal

pub returns : goal.returns
returns c =
    let b = c.args.book.now in
    let s = c.args.task.slice in
    let now = c.args.solver.now in
    let follow : AllFollow now.kernel = subst (λ (k : Derivation). AllFollow k) c.kernel.ensures c.pool.ensures.follow in
    let none = none_by_solver b s 0 (void_asked (length b.codes)) now c.args.at c.requires.facts refl c.requires.given follow c.requires.closed in
    record {
      notes = void_notes (inquiry b c.args.task.effort) s c.only_void.result (Finding Void None) (refl, (refl, none)) c.only_void.ensures.notes;
      stopped = void_stops s c.only_void.result (Finding Void None) refl c.only_void.ensures.notes;
      none = c.only_void.ensures.none;
    }
