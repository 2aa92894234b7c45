-- The candidate that was taken out is that of a rule; where it fires it fires first, and where not, none is missed.
use Rattle.std.proofs.Common.{length, sym, subst, refl, ◌∙◌, arith}
use Rattle.std.proofs.lemmas.Option.{slice_get_read, slice_get_within}
use Rattle.std.proofs.lemmas.List.Sorted.{length_permutation}
use Rattle.book_model.specs.Book.{SupplementFits}
use Rattle.book_model.specs.declared.record.Supplement.{Supplement}
use Rattle.supplement.proofs.WorklistLemmas.{candidates_left, candidate_taken, still_held, others_left, next_is_first, none_held, holds_unmarked, tryable_taken, tryable_left}
use Rattle.supplement.proofs.completion.next_firing.Goals as goal

pub bounds-supplements-candidate : goal.bounds-supplements-candidate
bounds-supplements-candidate c =
    let taken = candidate_taken c.args.supplements.now c.loop-candidate.worklist c.pop.new.self c.in-Some.candidate c.in-Some.ensures.moved c.loop-candidate.invariant.0 in
    slice_get_within c.args.supplements.now c.in-Some.candidate.rule taken.0 taken.1

pub fires_marked-requires-clause-fits : goal.fires_marked-requires-clause-fits
fires_marked-requires-clause-fits c =
    let taken = candidate_taken c.args.supplements.now c.loop-candidate.worklist c.pop.new.self c.in-Some.candidate c.in-Some.ensures.moved c.loop-candidate.invariant.0 in
    let within = slice_get_within c.args.supplements.now c.in-Some.candidate.rule taken.0 taken.1 in
    subst (λ (r : Supplement). SupplementFits (length c.args.set.now) r) (sym c.index-supplements-candidate.is) (c.requires.fit c.in-Some.candidate.rule c.index-supplements-candidate.result within)

pub has-requires : goal.has-requires
has-requires c =
    let taken = candidate_taken c.args.supplements.now c.loop-candidate.worklist c.pop.new.self c.in-Some.candidate c.in-Some.ensures.moved c.loop-candidate.invariant.0 in
    omega (arith, slice_get_within c.args.supplements.now c.in-Some.candidate.rule taken.0 taken.1, c.requires.marked.same_rules)

pub fires_marked-requires-clause-holding : goal.fires_marked-requires-clause-holding
fires_marked-requires-clause-holding c =
    let rules = c.args.supplements.now in
    let taken = candidate_taken rules c.loop-candidate.worklist c.pop.new.self c.in-Some.candidate c.in-Some.ensures.moved c.loop-candidate.invariant.0 in
    let there = slice_get_read rules (length rules) c.in-Some.candidate.rule c.index-supplements-candidate.result refl (slice_get_within rules c.in-Some.candidate.rule taken.0 taken.1) c.index-supplements-candidate.is in
    λ off. holds_unmarked rules c.args.set.now c.args.marks.now c.in-Some.candidate c.index-supplements-candidate.result there c.requires.marked
    (tryable_taken rules c.args.marks.now c.loop-candidate.worklist c.pop.new.self c.in-Some.candidate c.in-Some.ensures.moved c.loop-candidate.invariant.2) (sym c.has.ensures ∙ off)

pub returns-then-fires_marked-clause-tryable : goal.returns-then-fires_marked-clause-tryable
returns-then-fires_marked-clause-tryable c = tryable_left c.args.supplements.now c.args.marks.now c.loop-candidate.worklist c.pop.new.self c.in-Some.candidate c.in-Some.ensures.moved c.loop-candidate.invariant.2

pub returns-then-fires_marked-clause-value : goal.returns-then-fires_marked-clause-value
returns-then-fires_marked-clause-value c =
    let rules = c.args.supplements.now in
    let taken = candidate_taken rules c.loop-candidate.worklist c.pop.new.self c.in-Some.candidate c.in-Some.ensures.moved c.loop-candidate.invariant.0 in
    let there = slice_get_read rules (length rules) c.in-Some.candidate.rule c.index-supplements-candidate.result refl (slice_get_within rules c.in-Some.candidate.rule taken.0 taken.1) c.index-supplements-candidate.is in
    next_is_first rules c.args.day c.args.set.now c.loop-candidate.worklist c.pop.new.self c.in-Some.candidate c.index-supplements-candidate.result there (sym c.fires_marked.ensures ∙ c.if-fires_marked.true)
    c.in-Some.ensures.moved c.in-Some.ensures.first c.loop-candidate.invariant.0 c.loop-candidate.invariant.1

pub returns-then-fires_marked-clause-candidates : goal.returns-then-fires_marked-clause-candidates
returns-then-fires_marked-clause-candidates c = candidates_left c.args.supplements.now c.loop-candidate.worklist c.pop.new.self c.in-Some.candidate c.in-Some.ensures.moved c.loop-candidate.invariant.0

pub returns-then-fires_marked-clause-others : goal.returns-then-fires_marked-clause-others
returns-then-fires_marked-clause-others c = others_left c.args.supplements.now c.args.day c.args.set.now c.loop-candidate.worklist c.pop.new.self c.in-Some.candidate c.in-Some.ensures.moved c.loop-candidate.invariant.1

pub loop-candidate-smaller : goal.loop-candidate-smaller
loop-candidate-smaller c = omega (arith, length_permutation c.loop-candidate.worklist _ c.in-Some.ensures.moved)

pub loop-candidate-preserved : goal.loop-candidate-preserved
loop-candidate-preserved c =
    let rules = c.args.supplements.now in
    let taken = candidate_taken rules c.loop-candidate.worklist c.pop.new.self c.in-Some.candidate c.in-Some.ensures.moved c.loop-candidate.invariant.0 in
    let there = slice_get_read rules (length rules) c.in-Some.candidate.rule c.index-supplements-candidate.result refl (slice_get_within rules c.in-Some.candidate.rule taken.0 taken.1) c.index-supplements-candidate.is in (
      candidates_left rules c.loop-candidate.worklist c.pop.new.self c.in-Some.candidate c.in-Some.ensures.moved c.loop-candidate.invariant.0,
      still_held rules c.args.day c.args.set.now c.loop-candidate.worklist c.pop.new.self c.in-Some.candidate c.index-supplements-candidate.result there (sym c.fires_marked.ensures ∙ c.if-fires_marked.false) c.in-Some.ensures.moved c.loop-candidate.invariant.1,
      tryable_left rules c.args.marks.now c.loop-candidate.worklist c.pop.new.self c.in-Some.candidate c.in-Some.ensures.moved c.loop-candidate.invariant.2,
    )

pub returns-clause-value : goal.returns-clause-value
returns-clause-value c = none_held c.args.supplements.now c.args.day c.args.set.now c.loop-candidate.worklist c.in_default.ensures.none c.loop-candidate.invariant.1
