use Rattle.std.proofs.Common.{◌≡◌, ◌++◌, drop}
use Rattle.std.specs.List.{flat_map}
use Rattle.blame.specs.AskText.{entry_behind}
use Rattle.blame.proofs.text.put_entries.Given as goal

abbrev pub invariant-loop-entry : goal.invariant-loop-entry
invariant-loop-entry l = l.text ++ flat_map (entry_behind l.book) (drop l.entry-index l.entries) ≡ l.initial.text ++ flat_map (entry_behind l.book) l.entries
