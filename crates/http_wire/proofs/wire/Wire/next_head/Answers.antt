use Rattle.std.proofs.Common.{ℕ, List, sym, subst}
use Rattle.http_wire.specs.Stream.{StreamStep, SameStream}
use Rattle.http_wire.proofs.StreamSteps.{reads_head}
use Rattle.http_wire.proofs.FirstHeads.{same_before}
use Rattle.http_wire.proofs.wire.Wire.next_head.Goals as goal

pub returns-clause-next : goal.returns-clause-next
returns-clause-next g c =
    same_before c.in_ok-step-2.field-0 c.args.self.now (g.S.Ends.input c.args.source.now).left c.usual_head.new.self (g.S.Ends.input c.fill.new.source).left
    c.step.new.self (g.S.Ends.input c.front.new.source).left
    (subst (λ (held : List ℕ). StreamStep SameStream c.args.self.now (g.S.Ends.input c.args.source.now).left held (g.S.Ends.input c.fill.new.source).left)
    (sym (rw c.in_default.is at c.in_ok-step.ensures.none)) c.in_ok-fill.ensures.stream)
    (reads_head c.in_ok-front.front c.in_ok-step-2.field-0 c.usual_head.new.self (g.S.Ends.input c.fill.new.source).left c.front.new.self c.step.new.self
    (g.S.Ends.input c.front.new.source).left c.in_ok-front.ensures.front c.in_ok-front.ensures.held (λ is_end. c.in_ok-front.ensures.ended (cc)) c.in_ok-step-2.ensures.step)
