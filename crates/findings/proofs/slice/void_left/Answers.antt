use Rattle.std.proofs.Common.{refl}
use Rattle.clausify.specs.declared.question.Question.TheVariants.{Void}
use Rattle.findings.specs.Answering.{inquiry}
use Rattle.findings.specs.declared.report.Note.TheVariants.{Undecided}
use Rattle.findings.proofs.SliceLaws.{void_notes, void_stops}
use Rattle.findings.proofs.slice.void_left.Goals as goal

pub returns : goal.returns
returns c =
    let b = c.args.book.now in
    let s = c.args.task.slice in
    let note = Undecided Void c.args.learnt in
    record {
      notes = void_notes (inquiry b c.args.task.effort) s c.only_void.result note (refl, c.requires.spent) c.only_void.ensures.notes;
      stopped = void_stops s c.only_void.result note refl c.only_void.ensures.notes;
      none = c.only_void.ensures.none;
    }
