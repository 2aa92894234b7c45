use Rattle.journal_keeper.proofs.Stages.{sound_stands}
use Rattle.journal_keeper.proofs.Answered.{counts_disk}
use Rattle.journal_keeper.proofs.keeping.JournalKeeperKeeper.begin.Goals as goal

pub returns-clause-count : goal.returns-clause-count
returns-clause-count g c =
    rw (← c.self.view_is) (counts_disk c.begin.result (g.D.Disk.failures c.self.inside.disk) (g.D.Disk.failures c.begin.new.disk) c.self.inside.refusals c.begin.ensures.count)

pub returns-clause-stands : goal.returns-clause-stands
returns-clause-stands g c =
    sound_stands c.begin.new.stage (g.D.Disk.content c.begin.new.disk) (g.D.Disk.may_leave c.begin.new.disk) c.begin.ensures.sound

pub begin-requires-clause-sure : goal.begin-requires-clause-sure
begin-requires-clause-sure g c =
    let begins = rw (← c.self.view_is) at c.requires in
    g.met.D.Disk.begins_sure c.self.inside.disk _ begins
