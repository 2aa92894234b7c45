use Rattle.std.proofs.Common.{◌≤◌, length, take, sym, subst, arith}
use Rattle.inquiry.specs.Asking.{IsTried}
use Rattle.inquiry.proofs.TriedLaws.{tried_count, tried_within, tried_pack}
use Rattle.inquiry.proofs.tried.try_sets.Goals as goal

pub returns-then-not-branch-clause-within : goal.returns-then-not-branch-clause-within
returns-then-not-branch-clause-within g c =
    let f = g.S.Inquiry.form c.args.source.now in
    let qs = c.args.questions.now in
    let full = c.in_ok-try_at.ensures.full c.if-not-branch.true in
    subst (λ t. length t.found.items ≤ length qs) (sym full.0) (tried_within f qs c.loop-place.place c.loop-place.tried c.loop-place.invariant (omega arith))

pub returns-then-not-branch-clause-tried : goal.returns-then-not-branch-clause-tried
returns-then-not-branch-clause-tried g c =
    let f = g.S.Inquiry.form c.args.source.now in
    let qs = c.args.questions.now in
    let full = c.in_ok-try_at.ensures.full c.if-not-branch.true in
    subst (λ t. IsTried f (take (length t.found.items) qs) t) (sym full.0) (tried_pack f qs c.loop-place.place c.loop-place.tried c.loop-place.invariant (omega arith))

pub returns-clause-some : goal.returns-clause-some
returns-clause-some g c =
    let f = g.S.Inquiry.form c.args.source.now in
    omega (arith, tried_count f c.args.questions.now c.loop-place.place c.loop-place.tried c.loop-place.invariant (omega arith), c.requires.some)

pub returns-clause-within : goal.returns-clause-within
returns-clause-within g c = tried_within (g.S.Inquiry.form c.args.source.now) c.args.questions.now c.loop-place.place c.loop-place.tried c.loop-place.invariant (omega arith)

pub returns-clause-tried : goal.returns-clause-tried
returns-clause-tried g c = tried_pack (g.S.Inquiry.form c.args.source.now) c.args.questions.now c.loop-place.place c.loop-place.tried c.loop-place.invariant (omega arith)
