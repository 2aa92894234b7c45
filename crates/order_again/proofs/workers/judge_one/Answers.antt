use Rattle.order_again.proofs.workers.judge_one.Goals as goal

pub returns : goal.returns
returns c = simp (c.deref-own.ensures, c.as_slice-codes.ensures) at c.judge_again.ensures
