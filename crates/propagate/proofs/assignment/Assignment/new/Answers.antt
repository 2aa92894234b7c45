use Rattle.std.proofs.Common.{refl, arith, rules}
use Rattle.propagate.proofs.AssignmentSteps.{none_is_assigned, none_tables, read_of_replicate}
use Rattle.propagate.proofs.assignment.Assignment.new.Goals as goal

pub invariant_of-result : goal.invariant_of-result
invariant_of-result c =
    rw (c.in_ok-with_capacity.ensures.items, c.in_ok-with_capacity-2.ensures.items, c.in_ok-with_capacity-3.ensures.items) (
      none_is_assigned _,
      none_tables _ _ _ (omega (arith, c.in_ok-vec.ensures.len, c.in_ok-vec-2.ensures.len)) refl
          (λ k d b. read_of_replicate c.in_ok-vec.field-0.items _ k d (c.in_ok-vec.ensures.items_if_clones_equal (λ y h. search rules)) b),
      omega (arith, c.in_ok-vec-2.ensures.len),
      omega (arith, c.in_ok-vec-2.ensures.len, c.in_ok-with_capacity.ensures.capacity),
      omega (arith, c.in_ok-vec-2.ensures.len, c.in_ok-with_capacity-2.ensures.capacity),
      omega (arith, c.in_ok-vec-2.ensures.len, c.in_ok-with_capacity-3.ensures.capacity),
    )
