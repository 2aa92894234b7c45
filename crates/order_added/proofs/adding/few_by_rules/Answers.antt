use Rattle.std.proofs.Common.{◌∙◌, ℕ, List, ap₂}
use Rattle.order_added.specs.Judging.{Judging, passes_with}
use Rattle.order_added.proofs.AcceptLaws.{unbroken_when}
use Rattle.order_added.proofs.adding.few_by_rules.Goals as goal

pub few_of-requires : goal.few_of-requires
few_of-requires c =
    ap₂ (λ (j : Judging) (xs : List ℕ). passes_with j xs) c.in_ok-leave_positions.ensures c.in_ok-all.ensures.items
    ∙ unbroken_when c.args.judge.now c.args.others.now c.requires.positions c.requires.passes
