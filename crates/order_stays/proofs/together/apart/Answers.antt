use Rattle.std.proofs.Common.{sym, ap, subst, ◌∙◌}
use Rattle.order_stays.specs.Stays.{NoneWith, codes_of}
use Rattle.order_stays.proofs.ClashLaws.{none_blamed}
use Rattle.order_stays.proofs.together.apart.Goals as goal

pub staying_known-requires-clause-clash : goal.staying_known-requires-clause-clash
staying_known-requires-clause-clash c =
    subst (NoneWith c.args.book.now c.args.day) (sym (c.deref-2.ensures.value ∙ c.in_ok-codes.ensures ∙ ap codes_of c.deref.ensures.value))
    (none_blamed c.args.book.now c.args.day c.args.chosen.now c.args.budget c.args.clash c.requires.clash)
