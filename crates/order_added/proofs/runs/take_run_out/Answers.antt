use Rattle.std.proofs.Common.{◌≡◌, ◌++◌, ◌∙◌, List, ℕ, take, drop, ap, sym, subst}
use Rattle.order_added.specs.Added.{Among}
use Rattle.order_added.proofs.PassLaws.{among_self, among_cut}
use Rattle.order_added.proofs.runs.take_run_out.Goals as goal

pub returns-in_ok-added-clause-among : goal.returns-in_ok-added-clause-among
returns-in_ok-added-clause-among c =
    let old : List ℕ = c.args.added.now.items in
    let fewer_are : c.in_ok-added.field-0.items ≡ take c.args.at old ++ drop c.args.end old =
    c.in_ok-added.ensures ∙ ap (λ (codes : List ℕ). take c.args.at codes ++ drop c.args.end codes) c.deref-then-passed.ensures.value in
    subst (Among old) (sym fewer_are) (among_cut old c.args.at c.args.end c.requires.run)

pub returns-else-passed-clause-among : goal.returns-else-passed-clause-among
returns-else-passed-clause-among c = among_self c.args.added.now.items
