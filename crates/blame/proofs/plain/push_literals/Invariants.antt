use Rattle.std.proofs.Common.{◌≡◌, ℕ, ◌*◌, Bool, List, true, ◌||◌}
use Rattle.pb_base.specs.Rule.{nodes, holds, codes_below}
use Rattle.pb_base.specs.Sets.{has}
use Rattle.clause_pool.specs.Clause.{clause_true, IsBelow}
use Rattle.blame.specs.Plain.{plain_rule}
use Rattle.blame.proofs.plain.push_literals.Given as goal

-- what is left of the rule, or one of the literals
abbrev pub invariant-sides : goal.invariant-sides
invariant-sides l = record {
  plain : plain_rule l.rule ≡ plain_rule l.rest;
  same : (x : List Bool) → (holds l.rule x || clause_true (has x) l.initial.lits.items) ≡ (holds l.rest x || clause_true (has x) l.lits.items);
  low : (n : ℕ) → codes_below n l.rule ≡ true → IsBelow (2 * n) l.initial.lits.items → (codes_below n l.rest ≡ true) × IsBelow (2 * n) l.lits.items;
}

abbrev pub decreases-sides : goal.decreases-sides
decreases-sides l = nodes l.rest
