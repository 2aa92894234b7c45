use Rattle.std.proofs.Common.{◌≡◌, ◌++◌, drop}
use Rattle.book_compare.specs.Asked.{uses, new_keys}
use Rattle.book_compare.proofs.keys.push_keys.Given as goal

-- the keys so far, then those that the usages left have and none of these
abbrev pub invariant-loop-usage : goal.invariant-loop-usage
invariant-loop-usage l =
    l.keys.items ++ new_keys l.keys.items (uses l.book (drop l.usage-index l.usages)) ≡ l.initial.keys.items ++ new_keys l.initial.keys.items (uses l.book l.usages)
