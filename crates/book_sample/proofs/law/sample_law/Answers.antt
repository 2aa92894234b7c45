use Rattle.book_sample.proofs.Whole.{whole_law}
use Rattle.book_sample.proofs.law.sample_law.Goals as goal

pub returns : goal.returns
returns c = whole_law c.args.start c.args.codes c.requires
