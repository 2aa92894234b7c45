use Rattle.std.proofs.Common.{length, Some, ap}
use Rattle.disk.specs.Tape.{Wrote, TriedWrite}
use Rattle.disk.proofs.Torn.{untouched}
use Rattle.disk.proofs.Disks.{content_grew, write_synced, image_from, grew_time}
use Rattle.disk.proofs.memory_disk.MemoryDiskDisk.write_at.Goals as goal

pub returns-in-Goes-clause-written : goal.returns-in-Goes-clause-written
returns-in-Goes-clause-written c = rw (← c.self.view_is)
    (ap Some (content_grew _ _ _ _ (Wrote c.args.at c.args.bytes.now) (record { first_is = c.write.ensures.first; calls_are = c.write.ensures.calls })))

pub returns-in-Goes-clause-synced : goal.returns-in-Goes-clause-synced
returns-in-Goes-clause-synced c = rw (← c.self.view_is)
    (write_synced _ _ _ _ c.args.at c.args.bytes.now (record { first_is = c.write.ensures.first; calls_are = c.write.ensures.calls }))

pub returns-in-Goes-clause-crash : goal.returns-in-Goes-clause-crash
returns-in-Goes-clause-crash c = rw (← c.self.view_is)
    (image_from _ _ _ _ (Wrote c.args.at c.args.bytes.now) (record { first_is = c.write.ensures.first; calls_are = c.write.ensures.calls }))

pub returns-in-Goes-clause-time : goal.returns-in-Goes-clause-time
returns-in-Goes-clause-time c = rw (← c.self.view_is)
    (grew_time _ _ _ _ (Wrote c.args.at c.args.bytes.now) (record { first_is = c.write.ensures.first; calls_are = c.write.ensures.calls }))

pub returns-in-Fails-clause-torn : goal.returns-in-Fails-clause-torn
returns-in-Fails-clause-torn c = rw (← c.self.view_is)
    (_, ap Some (content_grew _ _ _ _ (TriedWrite c.args.at (length c.args.bytes.now)) (record { first_is = c.record.ensures.first; calls_are = c.record.ensures.calls })), untouched c.args.at (length c.args.bytes.now) _)

pub returns-in-Fails-clause-crash : goal.returns-in-Fails-clause-crash
returns-in-Fails-clause-crash c = rw (← c.self.view_is)
    (image_from _ _ _ _ (TriedWrite c.args.at (length c.args.bytes.now)) (record { first_is = c.record.ensures.first; calls_are = c.record.ensures.calls }))

pub returns-in-Fails-clause-time : goal.returns-in-Fails-clause-time
returns-in-Fails-clause-time c = rw (← c.self.view_is)
    (grew_time _ _ _ _ (TriedWrite c.args.at (length c.args.bytes.now)) (record { first_is = c.record.ensures.first; calls_are = c.record.ensures.calls }))
