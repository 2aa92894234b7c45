use Rattle.clause_pool.proofs.MarkLaws.{begun}
use Rattle.clause_pool.proofs.running.Running.begin.Goals as goal

pub returns : goal.returns
returns c = begun _ c.put_all.new.marks.items c.put_all.new.touched.items c.args.lits.now c.wipe.ensures.marks c.put_all.ensures.touched c.in_ok-put_all.ensures.joined
