use Rattle.std.proofs.Common.{length, rules, sym, subst}
use Rattle.std.proofs.lemmas.Iterator.Adapters.{YieldsList-from_vec}
use Rattle.std.proofs.lemmas.Iterator.Consumers.{YieldsList-turn}
use Rattle.slice_hints.specs.Found.{IsFound}
use Rattle.slice_hints.proofs.sets.Sets.put_each.Goals as goal

pub put_unspoilt-requires-clause-earlier : goal.put_unspoilt-requires-clause-earlier
put_unspoilt-requires-clause-earlier c =
    let turn = YieldsList-turn (YieldsList-from_vec {s = c.into_iter-one-iterator.result} c.args.found.items (search rules) (search rules))
    c.loop-one.yielded c.loop-one.one-iterator c.loop-one.yielded_by c.next.result c.next.new.self c.in-Some.one c.in-Some.is c.next.ensures.steps in
    subst (IsFound c.args.book.now c.args.before) (sym turn.1) (c.requires.earlier (length c.loop-one.yielded) c.in-Some.one turn.0)
