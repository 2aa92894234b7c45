use Rattle.std.proofs.Common.{sym, ◌∙◌}
use Rattle.slice_hints.proofs.SpoiltLaws.{found_still}
use Rattle.slice_hints.proofs.sets.Sets.put_unspoilt.Goals as goal

pub returns : goal.returns
returns c =
    c.put.ensures c.args.book.now c.args.day c.requires.found
    (found_still c.args.book.now c.args.before c.args.day c.args.found c.requires.earlier (sym c.is_spoilt.ensures ∙ c.if-is_spoilt.false))
