use Rattle.std.proofs.Common.{refl}
use Rattle.slice_hints.proofs.sets.Sets.put_good.Goals as goal

pub returns : goal.returns
returns c =
    c.put.ensures c.args.book.now c.args.day c.requires.found
    (record {
      counted = c.if-not-is_good_on.ensures.counted refl;
      good_then = c.if-not-is_good_on.ensures.good refl;
      usages = c.requires.usages;
    })
