use Rattle.std.proofs.Common.{◌≡◌, ◌∷◌, rules}
use Rattle.journal_keeper.specs.Record.{effect}
use Rattle.journal_keeper.specs.Reading.{entry_of}
use Rattle.journal_keeper.specs.Tables.{kept_by}
use Rattle.journal_keeper.proofs.Walks.{gathered_none, gathered_more}
use Rattle.journal_keeper.proofs.loading.gathered.Goals as goal

pub loop-line-preserved : goal.loop-line-preserved
loop-line-preserved c =
    let rest_is : c.loop-line.rest.now ≡ 1 ∷ c.in-Some-eq1-default.line.now = search rules in
    let read = c.in-Some.ensures in
    let put : kept_by c.set.new.self ≡ effect (entry_of c.in-Some.read) (kept_by c.loop-line.tables) = c.in_ok-set.ensures in
    gathered_more c.args.body.now c.loop-line.rest.now c.in-Some-eq1-default.line.now c.in-Some.next.now (entry_of c.in-Some.read) read.0
    (kept_by c.loop-line.tables) (kept_by c.set.new.self) c.loop-line.invariant rest_is read.1 read.2 put

pub loop-line-init : goal.loop-line-init
loop-line-init c = gathered_none c.args.body.now (kept_by c.new-tables.result) c.new-tables.ensures
