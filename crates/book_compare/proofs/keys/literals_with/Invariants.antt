use Rattle.std.proofs.Common.{◌≡◌, ◌++◌, drop}
use Rattle.book_compare.specs.Asked.{literals_with}
use Rattle.book_compare.proofs.keys.literals_with.Given as goal

abbrev pub invariant-loop-usage : goal.invariant-loop-usage
invariant-loop-usage l = l.lits.items ++ literals_with l.book (drop l.usage-index l.usages) l.key ≡ literals_with l.book l.usages l.key
