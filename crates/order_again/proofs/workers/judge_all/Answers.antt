use Rattle.std.proofs.Common.{refl}
use Rattle.order_again.proofs.GatheredLaws.{gathered_each}
use Rattle.order_again.proofs.workers.judge_all.Goals as goal

pub returns : goal.returns
returns g c =
    gathered_each c.args.to.now.book c.args.stock.now c.judge_each.new.told c.judge_each.new.told c.in_ok-all.all.items refl c.in_ok-all.ensures c.judge_each.ensures.same c.judge_each.ensures.each
