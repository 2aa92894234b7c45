use Rattle.std.proofs.Common.{Some, All, sym, subst}
use Rattle.std.proofs.lemmas.List.Elements.{All-pop, All-push}
use Rattle.slice_hints.specs.Found.{KnowsUsages}
use Rattle.slice_hints.proofs.sets.Sets.hand_on.Goals as goal

pub loop-found-preserved : goal.loop-found-preserved
loop-found-preserved c = λ b all.
    let before = c.loop-found.invariant b all in
    let popped = All-pop (KnowsUsages b) c.loop-found.self-inside.found.items c.pop.new.self.items (Some c.in-Some.found) c.in-Some.ensures.items before.0 in
    (popped.0, subst (All (KnowsUsages b)) (sym c.in_ok-push.ensures.items) (All-push (KnowsUsages b) c.loop-found.earlier.items c.in-Some.found before.1 popped.1))

pub returns : goal.returns
returns c = λ b all. (c.loop-found.invariant b (subst (All (KnowsUsages b)) (sym c.self.view_is) all)).1
