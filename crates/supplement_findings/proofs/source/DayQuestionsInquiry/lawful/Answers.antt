use Rattle.supplement_findings.proofs.SourceLaws.{source_lawful}
use Rattle.supplement_findings.proofs.source.DayQuestionsInquiry.lawful.Goals as goal

pub returns : goal.returns
returns c =
    source_lawful c.args.self.now.book.now c.args.self.now.day c.args.self.now.codes.now c.requires.ready.book c.requires.ready.few
