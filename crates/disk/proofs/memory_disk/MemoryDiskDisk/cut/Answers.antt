use Rattle.std.proofs.Common.{inl, Some, refl, ap}
use Rattle.disk.specs.Tape.{Cut, TriedCut}
use Rattle.disk.proofs.Disks.{content_grew, cut_synced, image_from, grew_time}
use Rattle.disk.proofs.memory_disk.MemoryDiskDisk.cut.Goals as goal

pub returns-in-Goes-clause-cut : goal.returns-in-Goes-clause-cut
returns-in-Goes-clause-cut c = rw (← c.self.view_is)
    (ap Some (content_grew _ _ _ _ (Cut c.args.len) (record { first_is = c.shorten.ensures.first; calls_are = c.shorten.ensures.calls })))

pub returns-in-Goes-clause-synced : goal.returns-in-Goes-clause-synced
returns-in-Goes-clause-synced c = rw (← c.self.view_is)
    (cut_synced _ _ _ _ c.args.len (record { first_is = c.shorten.ensures.first; calls_are = c.shorten.ensures.calls }))

pub returns-in-Goes-clause-crash : goal.returns-in-Goes-clause-crash
returns-in-Goes-clause-crash c = rw (← c.self.view_is)
    (image_from _ _ _ _ (Cut c.args.len) (record { first_is = c.shorten.ensures.first; calls_are = c.shorten.ensures.calls }))

pub returns-in-Goes-clause-time : goal.returns-in-Goes-clause-time
returns-in-Goes-clause-time c = rw (← c.self.view_is)
    (grew_time _ _ _ _ (Cut c.args.len) (record { first_is = c.shorten.ensures.first; calls_are = c.shorten.ensures.calls }))

pub returns-in-Fails-clause-torn : goal.returns-in-Fails-clause-torn
returns-in-Fails-clause-torn c = rw (← c.self.view_is)
    (_, ap Some (content_grew _ _ _ _ (TriedCut c.args.len) (record { first_is = c.record.ensures.first; calls_are = c.record.ensures.calls })), inl refl)

pub returns-in-Fails-clause-crash : goal.returns-in-Fails-clause-crash
returns-in-Fails-clause-crash c = rw (← c.self.view_is)
    (image_from _ _ _ _ (TriedCut c.args.len) (record { first_is = c.record.ensures.first; calls_are = c.record.ensures.calls }))

pub returns-in-Fails-clause-time : goal.returns-in-Fails-clause-time
returns-in-Fails-clause-time c = rw (← c.self.view_is)
    (grew_time _ _ _ _ (TriedCut c.args.len) (record { first_is = c.record.ensures.first; calls_are = c.record.ensures.calls }))

pub returns-in-Refused-clause-crash : goal.returns-in-Refused-clause-crash
returns-in-Refused-clause-crash c = rw (← c.self.view_is)
    (λ image left. (image, left, inl refl))
