-- What a contract sees of a disk in memory.
use Rattle.std.specs.Prelude.{◌≡◌, ◌+◌, ◌≤◌, length, vec_len, vec_capacity}
use Rattle.disk.specs.declared.memory_disk.MemoryDisk.TheInside.{Inside}
use Rattle.disk.specs.Tape.{Tape, content_of, AreWithin}
use Rattle.disk.specs.Calls.{dones, total}

abbrev pub tape_of : Inside → Tape
tape_of d = record {
  first = d.first.items;
  calls = dones d.calls.items d.written.items;
  plan = d.plan;
  calls_left = d.calls_left;
  room_left = d.room_left;
  stop = d.stop;
}

-- there is memory for all that may still be written and recorded
pub record HasMemory (d : Inside) : Type 0 where
  pub calls : vec_len d.calls + d.calls_left ≤ vec_capacity d.calls
  pub written : vec_len d.written + d.room_left ≤ vec_capacity d.written
  pub content : vec_len d.content + d.room_left ≤ vec_capacity d.content
  pub spare : vec_len d.content + d.room_left ≤ vec_capacity d.spare

-- the file is what the calls have made of it
pub record IsKept (d : Inside) : Type 0 where
  pub content : d.content.items ≡ content_of d.first.items (dones d.calls.items d.written.items)
  pub within : AreWithin d.first.items (dones d.calls.items d.written.items)
  pub bytes : total d.calls.items ≡ length d.written.items
  pub memory : HasMemory d
