-- The numbers of statuses, with which the program exits, and of the objects that a run is handed.
use Rattle.std.specs.Prelude.{ℕ}
use Rattle.book_commands.specs.declared.object.Object.{Object}
use Rattle.book_commands.specs.declared.object.Object.TheVariants as objects
use Rattle.book_commands.specs.declared.run_status.RunStatus.{RunStatus}
use Rattle.book_commands.specs.declared.run_status.RunStatus.TheVariants as statuses

abbrev pub status_number : RunStatus → ℕ
status_number statuses.Done = 0
status_number statuses.Refused = 1
status_number statuses.Usage = 2
status_number statuses.Faulty = 3
status_number statuses.ReadFault = 4
status_number statuses.WriteFault = 5
status_number statuses.NotStarted = 6
status_number statuses.Undecided = 7
status_number statuses.BadCertificate = 8
status_number statuses.WantOfMemory = 9
status_number statuses.DoorFault = 10

abbrev pub object_number : Object → ℕ
object_number objects.Source = 1
object_number objects.Files = 2
object_number objects.Sink = 3
object_number objects.Keeper = 4
object_number objects.Door = 5
