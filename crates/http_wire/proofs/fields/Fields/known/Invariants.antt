use Rattle.std.proofs.Common.{take, map}
use Rattle.httparse.specs.Spans.{header_bytes}
use Rattle.http_wire.specs.Known.{AreKnown}
use Rattle.http_wire.proofs.fields.Fields.known.Given as goal

-- what the fields so far say
abbrev pub invariant-loop-span : goal.invariant-loop-span
invariant-loop-span l = AreKnown (map (header_bytes l.self-inside.block.now) (take l.span-index l.self-inside.spans.now)) l.known
