use Rattle.std.proofs.Common.{◌≡◌, ◌+◌, ◌-◌, ◌∙◌, Bool, length, cond, ap, rules, arith}
use Rattle.std.specs.List.{remove}
use Rattle.order_added.proofs.PassLaws.{passing_begun, passing_out}
use Rattle.order_added.proofs.adding.pass.Goals as goal

pub loop-first-init : goal.loop-first-init
loop-first-init c =
    let start : c.len-end.result ≡ length c.args.added.now.items = first_of (omega arith, search rules) in
    passing_begun c.args.judge.now c.args.added.now.items c.len-end.result c.args.needed start c.requires.passes c.requires.needed

pub loop-first-preserved-then-branch : goal.loop-first-preserved-then-branch
loop-first-preserved-then-branch c =
    let next : c.loop-first.at ≡ c.loop-first.at - 1 + 1 = omega arith in
    let step = c.in_ok-take_out.ensures in
    passing_out c.args.judge.now c.args.added.now.items c.loop-first.added.items c.take_out.new.added.items c.loop-first.at (c.loop-first.at - 1)
    c.loop-first.end c.loop-first.first next c.loop-first.invariant
    (step.is ∙ ap (λ (t : Bool). cond t (remove c.loop-first.added.items (c.loop-first.at - 1)) c.loop-first.added.items) c.if-branch.true) step.passes
