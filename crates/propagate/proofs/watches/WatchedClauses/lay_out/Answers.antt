use Rattle.std.proofs.Common.{◌≡◌, List, length, ap, ◌∙◌, arith}
use Rattle.propagate.specs.Watching.{Watching}
use Rattle.propagate.specs.declared.watch.Watch.{Watch}
use Rattle.propagate.proofs.WatchLaws.{lists_anew}
use Rattle.propagate.proofs.watches.WatchedClauses.lay_out.Goals as goal

pub returns : goal.returns
returns c =
    let w : Watching = record { clauses = c.self.inside.store; watched = c.self.inside.watched.items; lists = c.self.inside.lists } in
    let none : length w.clauses ≡ 0 = omega (arith, c.len.ensures, c.if-len-gt0.false) in
    let count : length c.in_ok-self-inside.field-0 ≡ length w.lists =
    omega (arith, c.in_ok-self-inside.ensures.count, ap length c.deref.ensures.value, c.in_ok-rooms.ensures, c.len-2.ensures) in
    ap (λ (lists : List (List Watch)). record { clauses = w.clauses; watched = w.watched; lists = lists }) (lists_anew w c.in_ok-self-inside.field-0 c.self.invariant none count c.in_ok-self-inside.ensures.empty)
    ∙ c.self.view_is
