use Rattle.std.proofs.Common.{◌≡◌, map, take}
use Rattle.parts_usage.specs.Broken.{guard_of}
use Rattle.parts_usage.proofs.guard_table.codes_of.Given as goal

-- the guards so far are those of the rules so far
abbrev pub invariant-loop-construct : goal.invariant-loop-construct
invariant-loop-construct l = l.codes.items ≡ map guard_of (take l.construct-index l.constructs)
