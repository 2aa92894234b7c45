use Rattle.book_compare.proofs.SourceLaws.{lawful}
use Rattle.book_compare.proofs.source.ComparingInquiry.lawful.Goals as goal

pub returns : goal.returns
returns c = lawful c.args.self.now.first.now c.args.self.now.second.now c.args.self.now.day c.requires.ready.books c.requires.ready.distinct
