use Rattle.std.proofs.Common.{◌≡◌, Ok, Err}
use Rattle.pb_outside.specs.declared.error.OutError.TheVariants.{Failed}
use Rattle.journal_keeper.specs.Counts.{count_of}
use Rattle.journal_keeper.proofs.Answered.{migrated_told, counts_nothing}
use Rattle.journal_keeper.proofs.keeping.JournalKeeperKeeper.migrate.Goals as goal

no_failure : {T : Type 0} (x : T) → Ok x ≡ Err Failed → ⊥
no_failure x e = cc

pub returns-clause-done : goal.returns-clause-done
returns-clause-done g c = migrated_told c.args.self.now.stage (g.D.Disk.content c.args.self.now.disk)

pub returns-clause-count : goal.returns-clause-count
returns-clause-count g c = counts_nothing (Ok (tt {0})) (count_of (g.D.Disk.failures c.args.self.now.disk) c.args.self.now.refusals) (no_failure (tt {0}))
