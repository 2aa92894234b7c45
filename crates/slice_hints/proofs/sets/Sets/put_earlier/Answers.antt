use Rattle.std.proofs.Common.{Some}
use Rattle.std.proofs.lemmas.List.Elements.{All-pop}
use Rattle.slice_hints.specs.Found.{KnowsUsages}
use Rattle.slice_hints.proofs.sets.Sets.put_earlier.Goals as goal

pub put_good-requires-clause-usages : goal.put_good-requires-clause-usages
put_good-requires-clause-usages c =
    (All-pop (KnowsUsages c.args.book.now) c.loop-found.earlier.items c.pop.new.self.items (Some c.in-Some.found) c.in-Some.ensures.items c.loop-found.invariant.1).1

pub loop-found-preserved : goal.loop-found-preserved
loop-found-preserved c = (
  c.put_good.ensures,
  (All-pop (KnowsUsages c.args.book.now) c.loop-found.earlier.items c.pop.new.self.items (Some c.in-Some.found) c.in-Some.ensures.items c.loop-found.invariant.1).0,
)

pub returns-in_err-put_good-clause-usages : goal.returns-in_err-put_good-clause-usages
returns-in_err-put_good-clause-usages c =
    (All-pop (KnowsUsages c.args.book.now) c.loop-found.earlier.items c.pop.new.self.items (Some c.in-Some.found) c.in-Some.ensures.items c.loop-found.invariant.1).0
