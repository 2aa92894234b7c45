use Rattle.std.proofs.Common.{length, refl}
use Rattle.book_compare.specs.Asked.{keys_literals}
use Rattle.book_compare.proofs.KeyRuns.{position_taken, position_asked}
use Rattle.book_compare.proofs.position.Asking.with_usages.Goals as goal

pub returns-clause-made : goal.returns-clause-made
returns-clause-made c =
    position_taken (length c.args.first.now.codes) c.args.self.now _ c.keys.new.self c.last.new.self
    (keys_literals c.args.first.now c.args.own.now c.args.second.now c.args.other.now) refl refl c.clear.ensures.items
    (rw (c.deref.ensures.value, c.in_ok-uses.ensures) at c.in_ok-keys.ensures) c.in_ok-lit.ensures.clauses c.in_ok-lit.ensures.next

pub returns-clause-goal : goal.returns-clause-goal
returns-clause-goal c =
    position_asked (length c.args.first.now.codes) c.args.self.now _ c.keys.new.self c.last.new.self
    (keys_literals c.args.first.now c.args.own.now c.args.second.now c.args.other.now) refl refl c.clear.ensures.items
    (rw (c.deref.ensures.value, c.in_ok-uses.ensures) at c.in_ok-keys.ensures) c.in_ok-lit.lit c.in_ok-lit.ensures.goal
