use Rattle.findings.proofs.CoreLaws.{known_onwards}
use Rattle.findings.proofs.core_report.answer_from.Goals as goal

pub answer_open-requires-clause-known : goal.answer_open-requires-clause-known
answer_open-requires-clause-known c =
    known_onwards c.args.book.now c.args.asking c.args.sets.now c.args.sets.now c.args.solver.now c.refute_alone.new.solver c.requires.known c.refute_alone.ensures
    c.requires.known.found
