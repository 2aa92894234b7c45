use Rattle.rules_met.proofs.SourceLaws.{lawful}
use Rattle.rules_met.proofs.source.DayRulesInquiry.lawful.Goals as goal

pub returns : goal.returns
returns c = lawful c.args.self.now.book.now c.args.self.now.day c.args.self.now.rules.now c.requires.ready
