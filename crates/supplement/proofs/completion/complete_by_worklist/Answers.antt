-- Each firing rule goes one step on the way, and each rule that fires then is worklist.
use Rattle.std.proofs.Common.{◌<◌, Bool, List, length, sym, ap, subst, ◌∙◌, arith}
use Rattle.std.proofs.lemmas.List.{length-replicate}
use Rattle.supplement.specs.Occurrences.{AreOccurrences}
use Rattle.supplement.specs.Worklist.{HoldsListed}
use Rattle.supplement.proofs.Steps.{steps, ends, adds_absent, fewer_after}
use Rattle.supplement.proofs.WorklistLemmas.{held_after, marked_after}
use Rattle.supplement.proofs.completion.complete_by_worklist.Goals as goal

pub with-requires : goal.with-requires
with-requires c =
    (adds_absent c.args.supplements.now c.args.day c.args.set c.loop-firing.set c.loop-firing.added c.in-Some.firing c.requires.fit (sym c.in-Some.ensures.value) c.loop-firing.invariant.way).0

pub add_rules_of-requires-clause-in_range : goal.add_rules_of-requires-clause-in_range
add_rules_of-requires-clause-in_range c =
    let code = (adds_absent c.args.supplements.now c.args.day c.args.set c.loop-firing.set c.loop-firing.added c.in-Some.firing c.requires.fit (sym c.in-Some.ensures.value) c.loop-firing.invariant.way).0 in
    subst (λ n. c.in-Some.firing.code < n) (c.loop-firing.invariant.way.same_codes ∙ sym c.requires.occurrences.linked.codes_have_heads) code

pub rules_to_try-requires-clause-marks : goal.rules_to_try-requires-clause-marks
rules_to_try-requires-clause-marks c = omega (arith, ap length c.in_ok-marks.ensures, length-replicate {A = Bool})

pub loop-firing-smaller : goal.loop-firing-smaller
loop-firing-smaller c =
    rw c.with.ensures (fewer_after c.args.supplements.now c.args.day c.args.set c.loop-firing.set c.loop-firing.added c.in-Some.firing c.requires.fit (sym c.in-Some.ensures.value) c.loop-firing.invariant.way)

pub loop-firing-preserved : goal.loop-firing-preserved
loop-firing-preserved c =
    let rules = c.args.supplements.now in
    let f = c.in-Some.firing in
    let first = sym c.in-Some.ensures.value in
    let way = c.loop-firing.invariant.way in
    let now = c.in_ok-add_rules_of.ensures in
    let code = (adds_absent rules c.args.day c.args.set c.loop-firing.set c.loop-firing.added f c.requires.fit first way).0 in
    let indexed : AreOccurrences (length c.loop-firing.set) rules c.args.occurrences.now = subst (λ n. AreOccurrences n rules c.args.occurrences.now) (sym way.same_codes) c.requires.occurrences in
    record {
      way = rw (c.with.ensures, c.in_ok-push.ensures.ok) (steps rules c.args.day c.args.set c.loop-firing.set c.loop-firing.added f c.requires.fit first way);
      candidates = now.candidates;
      firing = rw c.with.ensures (held_after rules c.args.day c.loop-firing.set c.args.occurrences.now f c.next_firing.new.worklist c.add_rules_of.new.worklist indexed first code
          c.in-Some.ensures.others now.keeps (subst (λ (y : List Bool). HoldsListed rules c.args.occurrences.now c.args.day y f.code c.add_rules_of.new.worklist) c.with.ensures now.added));
      marked = rw c.with.ensures (marked_after rules c.args.occurrences.now c.loop-firing.set f.code c.loop-firing.marks c.add_rules_of.new.marks indexed c.loop-firing.invariant.marked now.marks);
      tryable = now.tryable;
    }

pub returns : goal.returns
returns c = ends c.args.supplements.now c.args.day c.args.set c.loop-firing.set c.loop-firing.added (sym c.in_default.ensures.value) c.loop-firing.invariant.way
