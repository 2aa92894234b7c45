use Rattle.std.proofs.Common.{◌≡◌, ◌∷◌, rules}
use Rattle.journal_keeper.specs.Reading.{entry_of}
use Rattle.journal_keeper.proofs.Walks.{read_none, read_more}
use Rattle.journal_keeper.proofs.reading.last_gate.Goals as goal

pub loop-line-init : goal.loop-line-init
loop-line-init c = read_none c.args.body.now

pub loop-line-preserved : goal.loop-line-preserved
loop-line-preserved c =
    let rest_is : c.loop-line.rest.now ≡ 1 ∷ c.in-Some-eq1-default.line.now = search rules in
    let read = c.in_ok-next.ensures in
    read_more c.args.body.now c.loop-line.rest.now c.in-Some-eq1-default.line.now c.in_ok-next.next.now (entry_of c.in_ok-next.field-0-0) read.0
    c.loop-line.invariant rest_is read.1 read.2
