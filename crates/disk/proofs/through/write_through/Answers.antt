use Rattle.std.proofs.lemmas.Result.{on_ok_weaker}
use Rattle.disk.proofs.through.write_through.Goals as goal

pub returns-clause-durable : goal.returns-clause-durable
returns-clause-durable g c =
    on_ok_weaker c.sync.result (λ durable image left.
    let from = c.in_ok-write_at.ensures.synced image (durable image left) in
    (from.0, g.met.D.Disk.synced_now c.args.disk.now from.0 from.1, from.2)) c.sync.ensures.durable
