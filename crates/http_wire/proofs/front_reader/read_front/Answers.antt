use Rattle.std.proofs.Common.{◌∙◌, ap}
use Rattle.http_wire.specs.Front.{front}
use Rattle.http_wire.proofs.StreamEnds.{front_ended}
use Rattle.http_wire.proofs.front_reader.read_front.Goals as goal

pub returns-then-branch-eq0-clause-front : goal.returns-then-branch-eq0-clause-front
returns-then-branch-eq0-clause-front g c =
    let told = rw c.if-branch-eq0.true at c.in_ok-read_more.ensures.told in
    front_ended c.at_end.result (g.S.Ends.input c.args.source.now).left c.args.bytes.now.items c.loop-search.bytes.items _
    (g.S.Ends.input c.loop-search.source).left _ c.loop-search.invariant.stream told (c.at_end.ensures.front ∙ ap front c.deref.ensures.value)
