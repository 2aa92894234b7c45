use Rattle.std.proofs.Common.{arith}
use Rattle.http_wire.proofs.FirstHeads.{first_block}
use Rattle.http_wire.proofs.reading.first_head.Goals as goal

pub returns-clause-head : goal.returns-clause-head
returns-clause-head c =
    let h = c.in-Some.ensures.head.0 in
    let is = c.in-Some.ensures.head.1 in
    first_block c.args.bytes.now c.front_head.new.spans c.in-Some.head h c.in_ok-judged.field-0 c.requires (omega (arith, c.front_head.ensures.room)) is (c.in_ok-judged.ensures.step h is)
