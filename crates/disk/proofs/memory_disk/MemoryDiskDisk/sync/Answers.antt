use Rattle.std.proofs.Common.{Some, ap}
use Rattle.disk.specs.Tape.{Synced, TriedSync}
use Rattle.disk.proofs.Disks.{content_grew, image_from, grew_time, sync_shrinks}
use Rattle.disk.proofs.memory_disk.MemoryDiskDisk.sync.Goals as goal

pub returns-in-Goes-clause-durable : goal.returns-in-Goes-clause-durable
returns-in-Goes-clause-durable c = rw (← c.self.view_is)
    (image_from _ _ _ _ Synced (record { first_is = c.record.ensures.first; calls_are = c.record.ensures.calls }))

pub returns-in-Goes-clause-kept : goal.returns-in-Goes-clause-kept
returns-in-Goes-clause-kept c = rw (← c.self.view_is)
    (ap Some (content_grew _ _ _ _ Synced (record { first_is = c.record.ensures.first; calls_are = c.record.ensures.calls })))

pub returns-in-Goes-clause-crash : goal.returns-in-Goes-clause-crash
returns-in-Goes-clause-crash c = rw (← c.self.view_is)
    (sync_shrinks _ _ _ _ (record { first_is = c.record.ensures.first; calls_are = c.record.ensures.calls }))

pub returns-in-Goes-clause-time : goal.returns-in-Goes-clause-time
returns-in-Goes-clause-time c = rw (← c.self.view_is)
    (grew_time _ _ _ _ Synced (record { first_is = c.record.ensures.first; calls_are = c.record.ensures.calls }))

pub returns-in-Fails-clause-kept : goal.returns-in-Fails-clause-kept
returns-in-Fails-clause-kept c = rw (← c.self.view_is)
    (ap Some (content_grew _ _ _ _ TriedSync (record { first_is = c.record-in-Fails.ensures.first; calls_are = c.record-in-Fails.ensures.calls })))

pub returns-in-Fails-clause-crash : goal.returns-in-Fails-clause-crash
returns-in-Fails-clause-crash c = rw (← c.self.view_is)
    (image_from _ _ _ _ TriedSync (record { first_is = c.record-in-Fails.ensures.first; calls_are = c.record-in-Fails.ensures.calls }))

pub returns-in-Fails-clause-time : goal.returns-in-Fails-clause-time
returns-in-Fails-clause-time c = rw (← c.self.view_is)
    (grew_time _ _ _ _ TriedSync (record { first_is = c.record-in-Fails.ensures.first; calls_are = c.record-in-Fails.ensures.calls }))
