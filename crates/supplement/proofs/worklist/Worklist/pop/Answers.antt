-- The first rule is the first of the heap or the first that stands, whichever comes before the other.
use Rattle.supplement.proofs.WorklistLemmas.{first_alone, first_pushed, first_standing, moved_pushed, moved_standing, none_alone, none_pushed, rest_rises}
use Rattle.supplement.proofs.worklist.Worklist.pop.Goals as goal

pub returns-in-None : goal.returns-in-None
returns-in-None c = record {
  moved = moved_pushed c.self.inside.standing.now _ _ c.args.self.now c.pop_pushed.result c.self.view_is c.pop_pushed.ensures.moved;
  first = first_alone c.self.inside.standing.now _ c.pop_pushed.result c.in-None.ensures.cases c.pop_pushed.ensures.first;
  none = none_alone c.self.inside.standing.now _ c.args.self.now c.pop_pushed.result c.self.view_is c.in-None.ensures.cases c.pop_pushed.ensures.none;
}

pub returns-then-has_before : goal.returns-then-has_before
returns-then-has_before c =
    let popped = c.pop_pushed-then-has_before in
    let standing = c.self.inside.standing.now in
    record {
      moved = moved_pushed standing _ _ c.args.self.now popped.result c.self.view_is popped.ensures.moved;
      first = first_pushed c.in-Some.first.now standing c.in-Some.rest.now _ _ popped.result c.in-Some.ensures.cases.0 c.self.invariant.0 (c.has_before.ensures.before c.if-has_before.true)
          popped.ensures.least popped.ensures.first;
      none = none_pushed _ c.args.self.now popped.result (c.has_before.ensures.some c.if-has_before.true) popped.ensures.none;
    }

pub returns-else-has_before : goal.returns-else-has_before
returns-else-has_before c =
    let standing = c.self.inside.standing.now in
    record {
      moved = moved_standing c.in-Some.first.now standing c.in-Some.rest.now _ c.args.self.now c.in-Some.ensures.cases.0 c.self.view_is;
      first = first_standing c.in-Some.first.now standing c.in-Some.rest.now _ c.in-Some.ensures.cases.0 c.self.invariant.0 (c.has_before.ensures.none c.if-has_before.false);
      none = tt;
    }

pub invariant_of-self-else-has_before : goal.invariant_of-self-else-has_before
invariant_of-self-else-has_before c =
    (rest_rises c.in-Some.first.now c.self.inside.standing.now c.in-Some.rest.now c.in-Some.ensures.cases.0 c.self.invariant.0, c.self.invariant.1)
