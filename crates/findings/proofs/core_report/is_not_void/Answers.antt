use Rattle.findings.proofs.CoreLaws.{some_not_void}
use Rattle.findings.proofs.core_report.is_not_void.Goals as goal

pub returns : goal.returns
returns c = λ some. some_not_void c.args.book.now c.args.asking.task.slice c.args.sets.now c.is_empty.result c.is_empty.ensures some c.requires.asking.task.slice c.requires.found
