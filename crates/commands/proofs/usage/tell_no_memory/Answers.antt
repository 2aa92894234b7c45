use Rattle.std.proofs.Common.{refl}
use Rattle.commands.proofs.usage.tell_no_memory.Goals as goal

pub returns : goal.returns
returns g c = record { told = c.tell_want_of_memory-status.ensures; nothing = record { untouched = refl; kept = refl; door = refl } }
