use Rattle.std.proofs.Common.{◌≡◌, ◌++◌, take}
use Rattle.std.specs.List.{flat_map}
use Rattle.book_compare.specs.CompareText.{name_behind}
use Rattle.book_changes.proofs.text.put_with.Given as goal

abbrev pub invariant-loop-name : goal.invariant-loop-name
invariant-loop-name l = l.text ≡ l.initial.text ++ flat_map name_behind (take l.name-index l.names)
