use Rattle.std.proofs.Common.{[], arith}
use Rattle.http_wire.proofs.FirstHeads.{no_head, other_length}
use Rattle.http_wire.proofs.reading.read_block.Goals as goal
use Rattle.http_wire.proofs.reading.read_block.Goals.{in_default-via-in-Some+else-head-block, in_default-via-in_default}

pub returns-in_default-clause-step : goal.returns-in_default-clause-step
returns-in_default-clause-step c = elim c.in_default.branch [
  | in_default-via-in-Some+else-head-block w ↦ no_head c.args.block.now (omega (arith, c.field_lines.ensures, c.if-field_lines-gt-MOST_FIELD_LINES.false)) (λ h reads room. other_length c.args.block.now c.front_head.new.spans w.in-Some.head h (w.in-Some.ensures.found h [] reads room) w.if-head-block.false reads)
  | in_default-via-in_default w ↦ no_head c.args.block.now (omega (arith, c.field_lines.ensures, c.if-field_lines-gt-MOST_FIELD_LINES.false)) (λ h reads room. w.in_default.ensures.found h [] reads room)
]
