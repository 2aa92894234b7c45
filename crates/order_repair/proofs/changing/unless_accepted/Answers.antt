use Rattle.std.proofs.Common.{◌∙◌, sym}
use Rattle.order_repair.proofs.RepairLaws.{nothing_to_add}
use Rattle.order_repair.proofs.changing.unless_accepted.Goals as goal

pub returns-then-branch : goal.returns-then-branch
returns-then-branch c =
    nothing_to_add c.args.book.now c.args.day c.args.kept.now c.args.names.now c.new.result.items c.requires.names c.new.ensures.items (sym c.in_ok-is_accepted.ensures ∙ c.if-branch.true)
