use Rattle.std.proofs.Common.{◌≡◌, ◌≤◌, ◌∙◌, true, sym, ap, arith}
use Rattle.std.specs.Prelude.{◌==◌, List, ℕ}
use Rattle.std.specs.List.{list_any}
use Rattle.pb_outside.proofs.Passed.{passed_later, not_passed}
use Rattle.pb_outside.proofs.fault_plan.FaultPlan.begin_call.Goals as goal

pub returns-then-fails-clause-possible : goal.returns-then-fails-clause-possible
returns-then-fails-clause-possible c = λ fails.
    let among : list_any (λ number. number == c.self.inside.next_call) c.self.inside.fails.items ≡ true =
    ap (λ (numbers : List ℕ). list_any (λ number. number == c.self.inside.next_call) numbers) (sym c.deref.ensures.value) ∙ sym c.is_among-fails.ensures ∙ fails
    in
    rw (← c.self.view_is) (not_passed c.self.inside.fails.items c.self.inside.next_call among)

pub returns-then-fails-clause-later : goal.returns-then-fails-clause-later
returns-then-fails-clause-later c =
    let onward : c.self.inside.next_call ≤ c.saturating_add-self-inside.result = omega arith in rw (← c.self.view_is) (record {
      never_falls = omega (arith, c.raise.ensures);
      kept = passed_later c.self.inside.fails.items _ _ onward;
    })

pub returns-else-fails-clause-later : goal.returns-else-fails-clause-later
returns-else-fails-clause-later c =
    let onward : c.self.inside.next_call ≤ c.saturating_add-self-inside.result = omega arith in rw (← c.self.view_is) (record {
      never_falls = omega arith;
      kept = passed_later c.self.inside.fails.items _ _ onward;
    })
