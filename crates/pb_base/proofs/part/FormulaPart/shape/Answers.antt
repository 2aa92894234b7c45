-- The last node says the outermost form, and its size where the sides stand.
use Rattle.std.proofs.Common.{◌∙◌, arith, ap}
use Rattle.pb_base.specs.Rule.{negation}
use Rattle.pb_base.proofs.Shapes.{and_sides, or_sides, and_within, or_within, not_under, code_is, always_is, never_is, true_jump_ends_none, false_jump_ends_none}
use Rattle.pb_base.proofs.part.FormulaPart.shape.Goals as goal

pub of-requires : goal.of-requires
of-requires c = (not_under _ _ c.self.invariant c.in-Not.is).part

pub overflow_sub-middle : goal.overflow_sub-middle
overflow_sub-middle c = let room = and_within _ _ _ c.self.invariant c.in-And.is in omega arith

pub slice_bounds-of-count : goal.slice_bounds-of-count
slice_bounds-of-count c = let room = and_within _ _ _ c.self.invariant c.in-And.is in omega arith

pub of-left-requires : goal.of-left-requires
of-left-requires c = (and_sides _ _ _ c.self.invariant c.in-And.is).left

pub of-right-requires : goal.of-right-requires
of-right-requires c = (and_sides _ _ _ c.self.invariant c.in-And.is).right

pub overflow_sub-middle-in-Or : goal.overflow_sub-middle-in-Or
overflow_sub-middle-in-Or c = let room = or_within _ _ _ c.self.invariant c.in-Or.is in omega arith

pub slice_bounds-of-count-in-Or : goal.slice_bounds-of-count-in-Or
slice_bounds-of-count-in-Or c = let room = or_within _ _ _ c.self.invariant c.in-Or.is in omega arith

pub of-left-requires-in-Or : goal.of-left-requires-in-Or
of-left-requires-in-Or c = (or_sides _ _ _ c.self.invariant c.in-Or.is).left

pub of-right-requires-in-Or : goal.of-right-requires-in-Or
of-right-requires-in-Or c = (or_sides _ _ _ c.self.invariant c.in-Or.is).right

pub unreachable-requires : goal.unreachable-requires
unreachable-requires c = true_jump_ends_none _ _ _ c.self.invariant c.in-WhenTrue.is

pub unreachable-requires-in-WhenFalse : goal.unreachable-requires-in-WhenFalse
unreachable-requires-in-WhenFalse c = false_jump_ends_none _ _ _ c.self.invariant c.in-WhenFalse.is

pub returns-in-Code : goal.returns-in-Code
returns-in-Code c = code_is _ _ _ c.self.invariant c.in-Code.is ∙ c.self.view_is

pub returns-in-Yes : goal.returns-in-Yes
returns-in-Yes c = always_is _ _ c.self.invariant c.in-Yes.is ∙ c.self.view_is

pub returns-in-No : goal.returns-in-No
returns-in-No c = never_is _ _ c.self.invariant c.in-No.is ∙ c.self.view_is

pub returns-in-Not : goal.returns-in-Not
returns-in-Not c = ap negation c.of.ensures ∙ (not_under _ _ c.self.invariant c.in-Not.is).whole ∙ c.self.view_is

pub returns-in-And : goal.returns-in-And
returns-in-And c = rw (c.of-left.ensures, c.of-right.ensures) ((and_sides _ _ _ c.self.invariant c.in-And.is).whole ∙ c.self.view_is)

pub returns-in-Or : goal.returns-in-Or
returns-in-Or c = rw (c.of-left-in-Or.ensures, c.of-right-in-Or.ensures) ((or_sides _ _ _ c.self.invariant c.in-Or.is).whole ∙ c.self.view_is)
