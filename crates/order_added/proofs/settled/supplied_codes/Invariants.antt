use Rattle.std.proofs.Common.{◌≡◌, length, take}
use Rattle.order_added.specs.Settled.{AreSupplied}
use Rattle.order_added.proofs.settled.supplied_codes.Given as goal

abbrev pub invariant-loop-supplement : goal.invariant-loop-supplement
invariant-loop-supplement l = record {
  counted : length l.supplied ≡ length l.book.codes;
  supplied : AreSupplied (take l.supplement-index l.book.supplements) l.supplied;
}
