use Rattle.std.proofs.Common.{[]}
use Rattle.book_model.specs.Activity.{is_within}
use Rattle.pb_base.specs.NamedSet.{first_fault}
use Rattle.order_repair.specs.Repair.{accepts}
use Rattle.order_repair.proofs.MendLaws.{mended}
use Rattle.order_repair.proofs.OrderLaws.{within_term}
use Rattle.order_repair.proofs.why.mends.Goals as goal

pub returns : goal.returns
returns c =
    let b = c.args.book.now in
    let parts = within_term (is_within b.first b.last c.args.day) (first_fault b.codes [] c.args.names.now) c.requires.faultless in
    mended b c.args.day c.args.chosen.now c.args.budget (accepts c.args.judged.now) c.args.repair.now parts.0 c.requires.repair
