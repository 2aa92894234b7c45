use Rattle.std.proofs.Common.{sym, ◌∙◌}
use Rattle.order_stays.proofs.ClashLaws.{none_beyond}
use Rattle.order_stays.proofs.clash.find_beside.Goals as goal

pub returns-then-are_among-clause-found : goal.returns-then-are_among-clause-found
returns-then-are_among-clause-found c =
    none_beyond c.args.book.now c.args.day c.args.codes.now c.args.kept.now c.requires.clash (sym c.are_among.ensures ∙ c.if-are_among.true)
