use Rattle.std.proofs.Common.{refl}
use Rattle.commands.proofs.desk.tell_session.Goals as goal

pub returns-in-Done : goal.returns-in-Done
returns-in-Done g c = rw c.in-Done.is (record { untouched = refl; ends = refl })

pub returns-in-Broken : goal.returns-in-Broken
returns-in-Broken g c = rw c.in-Broken.is (record { untouched = refl; ends = refl })

pub returns-in-WriteFault : goal.returns-in-WriteFault
returns-in-WriteFault g c = rw c.in-WriteFault.is (record { sink = refl; notes = c.note_write_fault.ensures })

pub returns-in-Memory : goal.returns-in-Memory
returns-in-Memory g c = rw c.in-Memory.is (record { untouched = refl; ends = refl })
