use Rattle.requirement_laws.proofs.KeptLaws.{kept}
use Rattle.requirement_laws.proofs.laws.kept_law.Goals as goal

pub returns : goal.returns
returns c = λ budget rs notes place r report there none day in_term asked x good.
    kept c.args.book.now budget rs notes place r c.codes.ensures.book report there none day in_term asked x good
