use Rattle.std.proofs.Common.{length}
use Rattle.clausify.specs.Items.{rule_items}
use Rattle.item_search.specs.Search.{IsOver}
use Rattle.order_stays.proofs.StayLaws.{StaysUpTo}
use Rattle.order_stays.proofs.staying.stay_from.Given as goal

abbrev pub invariant-loop-code : goal.invariant-loop-code
invariant-loop-code l = record {
  over : IsOver (length l.book.codes) (rule_items l.book l.day) l.solver;
  stays : StaysUpTo l.book l.day l.chosen l.code-index l.stay;
}
