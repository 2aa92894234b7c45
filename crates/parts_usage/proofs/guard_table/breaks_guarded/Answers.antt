-- The rule isn't broken where its code is absent.
use Rattle.std.proofs.Common.{length, sym, ◌∙◌}
use Rattle.parts_usage.proofs.Guards.{guard_within, unbroken_without}
use Rattle.parts_usage.proofs.guard_table.breaks_guarded.Goals as goal

pub has-requires : goal.has-requires
has-requires c = guard_within (length c.args.set.now) c.args.construct.now c.in-Some.code c.requires.fits (sym c.in-Some.is ∙ c.requires.guard)

pub returns-then-not-has : goal.returns-then-not-has
returns-then-not-has c =
    sym (unbroken_without c.args.day c.args.set.now c.args.construct.now c.in-Some.code (sym c.in-Some.is ∙ c.requires.guard) (sym c.has.ensures ∙ c.if-not-has.true))
