use Rattle.std.proofs.Common.{List, ℕ, ap, ◌∙◌}
use Rattle.clause_pool.specs.Chain.{resolved}
use Rattle.clause_pool.proofs.MarkLaws.{marks_resolved}
use Rattle.clause_pool.proofs.running.Running.resolve.Goals as goal

pub returns-clause-resolvent : goal.returns-clause-resolvent
returns-clause-resolvent c =
    marks_resolved c.self.inside.marks.items c.set_mark.new.marks.items c.put_others.new.marks.items c.self.inside.touched.items c.put_others.new.touched.items c.args.other.now c.args.lit c.not.result
    c.self.invariant c.put_others.ensures.touched c.set_mark.ensures c.not.ensures c.in_ok-found.ensures.joined
    ∙ ap (λ (running : List ℕ). resolved running c.args.lit c.args.other.now) c.self.view_is
