use Rattle.book_compare.proofs.StepRuns.{day_variants_in_range}
use Rattle.book_compare.proofs.renaming.add_renamed_usages.Goals as goal

pub add_usages_of-requires-clause-in_range : goal.add_usages_of-requires-clause-in_range
add_usages_of-requires-clause-in_range c =
    rw (c.deref.ensures.value, c.in_ok-variants.ensures) (day_variants_in_range c.args.book.now c.args.day)
