use Rattle.std.proofs.Common.{◌≡◌, Ok, length, ◌<◌, sym, ◌∙◌, ap, arith}
use Rattle.propagate.specs.Visiting.{scene}
use Rattle.propagate.proofs.AssignmentLaws.{few_literals}
use Rattle.propagate.proofs.EngineLaws.{ran_not, ran_on, ran_next, ran_codes, next_code, none_is, grown_longer, grown_at}
use Rattle.propagate.proofs.engine.run.Goals as goal

pub loop-head-init : goal.loop-head-init
loop-head-init c = ran_not (scene c.args.assignment.now c.args.watched.now) c.args.head.now

pub overflow_cast-code : goal.overflow_cast-code
overflow_cast-code c =
    let more : c.loop-head.head < length c.loop-head.assignment.lits = omega (arith, c.loop-head-test.true, ap length c.lits.ensures.value) in
    let next = next_code c.loop-head.assignment c.lits-in-loop-head.result.now c.loop-head.head c.index-lits-head.result c.code-code.result c.lits.ensures.assigned c.lits-in-loop-head.ensures.value more c.index-lits-head.is (c.code-code.ensures.code ∙ c.not.ensures) in
    let b = next.below in
    omega (arith, b, c.lits.ensures.small)

pub visit-requires-clause-code : goal.visit-requires-clause-code
visit-requires-clause-code c =
    let more : c.loop-head.head < length c.loop-head.assignment.lits = omega (arith, c.loop-head-test.true, ap length c.lits.ensures.value) in
    let next = next_code c.loop-head.assignment c.lits-in-loop-head.result.now c.loop-head.head c.index-lits-head.result c.code-code.result c.lits.ensures.assigned c.lits-in-loop-head.ensures.value more c.index-lits-head.is (c.code-code.ensures.code ∙ c.not.ensures) in
    let b = next.below in
    let codes = ran_codes (scene c.args.assignment.now c.args.watched.now) (scene c.loop-head.assignment c.loop-head.watched) _ _ c.loop-head.invariant c.requires.codes in
    omega (arith, b, codes)

pub visit-requires-clause-is_false : goal.visit-requires-clause-is_false
visit-requires-clause-is_false c =
    let more : c.loop-head.head < length c.loop-head.assignment.lits = omega (arith, c.loop-head-test.true, ap length c.lits.ensures.value) in
    let next = next_code c.loop-head.assignment c.lits-in-loop-head.result.now c.loop-head.head c.index-lits-head.result c.code-code.result c.lits.ensures.assigned c.lits-in-loop-head.ensures.value more c.index-lits-head.is (c.code-code.ensures.code ∙ c.not.ensures) in
    next.is_false

pub returns-in_err-found-clause-ran : goal.returns-in_err-found-clause-ran
returns-in_err-found-clause-ran c =
    ran_on (scene c.args.assignment.now c.args.watched.now) (scene c.loop-head.assignment c.loop-head.watched) c.visit.new.assignment c.visit.new.watched c.args.head.now c.loop-head.head c.loop-head.invariant c.visit.ensures.keeps

pub returns-then-is_some-clause-ran : goal.returns-then-is_some-clause-ran
returns-then-is_some-clause-ran c =
    ran_on (scene c.args.assignment.now c.args.watched.now) (scene c.loop-head.assignment c.loop-head.watched) c.visit.new.assignment c.visit.new.watched c.args.head.now c.loop-head.head c.loop-head.invariant c.visit.ensures.keeps

pub loop-head-smaller : goal.loop-head-smaller
loop-head-smaller c =
    let more : c.loop-head.head < length c.loop-head.assignment.lits = omega (arith, c.loop-head-test.true, ap length c.lits.ensures.value) in
    let few = few_literals c.loop-head.assignment c.lits.ensures.assigned in
    let same : c.visit.new.assignment.vars ≡ c.loop-head.assignment.vars = ap (λ a. a.vars) c.visit.ensures.keeps.grown.is in
    omega (arith, more, few, same)

pub loop-head-preserved : goal.loop-head-preserved
loop-head-preserved c =
    let more : c.loop-head.head < length c.loop-head.assignment.lits = omega (arith, c.loop-head-test.true, ap length c.lits.ensures.value) in
    let next = next_code c.loop-head.assignment c.lits-in-loop-head.result.now c.loop-head.head c.index-lits-head.result c.code-code.result c.lits.ensures.assigned c.lits-in-loop-head.ensures.value more c.index-lits-head.is (c.code-code.ensures.code ∙ c.not.ensures) in
    let none = none_is c.in_ok-found.found (sym c.is_some.ensures ∙ c.if-is_some.false) in
    let all = c.visit.ensures.all_true (c.in_ok-found.was ∙ ap Ok none) in
    let ran = ran_on (scene c.args.assignment.now c.args.watched.now) (scene c.loop-head.assignment c.loop-head.watched) c.visit.new.assignment c.visit.new.watched c.args.head.now c.loop-head.head c.loop-head.invariant c.visit.ensures.keeps in
    ran_next (scene c.args.assignment.now c.args.watched.now) (scene c.visit.new.assignment c.visit.new.watched) c.code-code.result c.args.head.now c.loop-head.head ran
    (grown_longer c.loop-head.assignment c.visit.new.assignment c.loop-head.head c.visit.ensures.keeps.grown more)
    (grown_at c.loop-head.assignment c.visit.new.assignment c.loop-head.head c.visit.ensures.keeps.grown more ∙ next.here) all
