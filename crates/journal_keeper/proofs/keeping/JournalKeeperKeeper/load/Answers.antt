use Rattle.journal_keeper.proofs.Stages.{sound_stands}
use Rattle.journal_keeper.proofs.Answered.{counts_disk}
use Rattle.journal_keeper.proofs.keeping.JournalKeeperKeeper.load.Goals as goal

pub returns-clause-count : goal.returns-clause-count
returns-clause-count g c =
    rw (← c.self.view_is) (counts_disk c.load.result (g.D.Disk.failures c.self.inside.disk) (g.D.Disk.failures c.load.new.disk) c.self.inside.refusals c.load.ensures.count)

pub returns-clause-stands : goal.returns-clause-stands
returns-clause-stands g c =
    sound_stands c.load.new.stage (g.D.Disk.content c.load.new.disk) (g.D.Disk.may_leave c.load.new.disk) c.load.ensures.sound
