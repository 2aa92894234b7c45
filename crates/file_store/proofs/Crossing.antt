-- The store of the system may cross threads, since what it holds may: a file of SQLite, or a journal in a file. So may one
-- whose orders are counted, since a count is shared by threads.
use denote.Param.Send.{IsSend, sendable, recorded_send, struct_send}
use denote.Ref.{NamedLft}
use denote.Struct.Declared.{shape}
use Rattle.std.proofs.fs.File.TheSendSync as os_file
use Rattle.keeper_sql.below.sqlite_std_file.specs.contracts.host.Host as Host
use Rattle.keeper_sql.below.sqlite_disk.proofs.modelled.Modelled.TheSendSync as modelled
use Rattle.keeper_sql.below.sqlite_store.proofs.store.FileStore.TheSendSync as file_store
use Rattle.keeper_sql.proofs.sql_keeper.SqlKeeper.TheSendSync as sql
use Rattle.keeper_sql.specs.contracts.file_keeper.FileKeeper as FileKeeper
use Rattle.journal_keeper.specs.contracts.file_journal.FileJournal as FileJournal
use Rattle.journal_keeper.proofs.file_journal.FileJournal.TheSendSync as journal
use Rattle.file_store.specs.contracts.counted.Counted as Counted
use Rattle.file_store.specs.contracts.store.Store as Store
use Rattle.file_store.proofs.counted.Counted.TheSendSync as counted
use Rattle.file_store.proofs.store.Store.TheSendSync as either

-- an open file of the system
host_send : IsSend Host.the_row
host_send = search (os_file.the_field_send, sendable) depth 20

file_send : IsSend FileKeeper.the_row
file_send = recorded_send _ _ _ FileKeeper.the_type.to_one (struct_send (shape FileKeeper.the_type) (search (sql.the_field_send, file_store.the_send, modelled.the_send, host_send) depth 20, tt))

pub counted_send : (κ : NamedLft) → IsSend (Counted.the_row κ (Store.the_row FileKeeper.the_row FileJournal.the_row))
counted_send κ = search (counted.the_send, either.the_send, file_send, journal.the_send) depth 10
