use Rattle.order_stays.proofs.clash.find_unless.Goals as goal

pub find_beside-requires-clause-clash : goal.find_beside-requires-clause-clash
find_beside-requires-clause-clash c = rw c.in-Some.is at c.requires.clash
