use Rattle.std.proofs.Common.{refl, arith}
use Rattle.disk.specs.Calls.{quiet}
use Rattle.disk.proofs.Disks.{keeps_other, recorded, has_place, begins_file, quiet_call}
use Rattle.disk.proofs.memory_disk.MemoryDisk.record.Goals as goal

pub invariant_of-self : goal.invariant_of-self
invariant_of-self c =
    let memory = c.self.invariant.memory in
    let is = quiet_call c.args.call c.requires.quiet in
    let begins = begins_file c.self.inside c.args.self.now (quiet c.args.call) c.self.invariant c.self.view_is c.requires.within in
    keeps_other c.self.inside c.args.call (quiet c.args.call) is.0 c.self.invariant refl refl c.push_reserved.ensures.items begins (is.1 c.self.inside.content.items) (record {
      calls = omega (arith, has_place c.self.inside c.args.self.now c.self.view_is c.requires.place, memory.calls, c.push_reserved.ensures.len, c.push_reserved.ensures.capacity);
      written = memory.written;
      content = memory.content;
      spare = memory.spare;
    })

pub returns-clause-calls : goal.returns-clause-calls
returns-clause-calls c =
    recorded c.self.inside c.args.self.now c.push_reserved.new.self.items c.args.call (quiet c.args.call) c.self.view_is (quiet_call c.args.call c.requires.quiet).0 c.push_reserved.ensures.items
