use Rattle.std.proofs.Common.{refl, arith}
use Rattle.disk.specs.Tape.{Wrote}
use Rattle.disk.proofs.Disks.{keeps, begins_file, has_place, has_bytes}
use Rattle.disk.proofs.memory_disk.MemoryDisk.write.Goals as goal

pub invariant_of-self : goal.invariant_of-self
invariant_of-self c =
    let place = has_place c.self.inside c.args.self.now c.self.view_is c.requires.place in
    let bytes = has_bytes c.self.inside c.args.self.now _ c.self.view_is c.requires.room in
    let memory = c.self.invariant.memory in
    let recorded = c.record_write.ensures in
    let made = c.write_into.ensures in
    keeps c.self.inside (Wrote c.args.at c.args.bytes.now) c.self.invariant refl recorded.done recorded.total
    (begins_file c.self.inside c.args.self.now (Wrote c.args.at c.args.bytes.now) c.self.invariant c.self.view_is c.requires.within) made.content (record {
      calls = omega (arith, place, memory.calls, recorded.calls_len, recorded.calls_capacity);
      written = omega (arith, bytes, memory.written, recorded.written_len, recorded.written_capacity);
      content = omega (arith, bytes, memory.spare, made.len, made.content_capacity);
      spare = omega (arith, bytes, memory.content, made.len, made.spare_capacity);
    })
