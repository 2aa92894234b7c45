use Rattle.std.proofs.Common.{List, ℕ, Bool, sym, ap, ◌∙◌}
use Rattle.clause_pool.specs.Clause.{has}
use Rattle.clause_pool.specs.Marks.{marked}
use Rattle.clause_pool.proofs.MarkLaws.{has-clause_marked}
use Rattle.clause_pool.proofs.running.Running.has.Goals as goal

pub returns : goal.returns
returns c =
    c.is_marked.ensures ∙ ap (λ (ms : List Bool). marked ms c.args.lit) c.deref.ensures.value
    ∙ sym (has-clause_marked c.self.inside.marks.items c.self.inside.touched.items c.self.invariant c.args.lit)
    ∙ ap (λ (running : List ℕ). has running c.args.lit) c.self.view_is
