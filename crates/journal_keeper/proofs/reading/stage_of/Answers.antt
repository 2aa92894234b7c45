use Rattle.std.proofs.Common.{◌≡◌, Some, refl, rules}
use Rattle.journal_keeper.specs.Journal.{header, behind}
use Rattle.journal_keeper.proofs.Walks.{found_open, behind_is}
use Rattle.journal_keeper.proofs.reading.stage_of.Goals as goal

pub returns-in-Some-last_gate : goal.returns-in-Some-last_gate
returns-in-Some-last_gate c =
    let split : behind header c.args.file.now ≡ Some c.in-Some.body.now = search rules in
    (refl, found_open c.args.file.now c.in-Some.body.now c.in-Some-last_gate.gate (behind_is header c.args.file.now c.in-Some.body.now split) c.in-Some-last_gate.ensures)
