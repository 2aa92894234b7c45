use Rattle.std.proofs.Common.{◌≡◌, ◌++◌, drop}
use Rattle.std.specs.List.{flat_map}
use Rattle.book_changes.specs.ChangesText.{days_behind, days_like, pair_text}
use Rattle.book_changes.proofs.text.put_pairs.Given as goal

-- the text so far and the days from the pending ones on make the whole
abbrev pub invariant-loop-other : goal.invariant-loop-other
invariant-loop-other l =
    l.text ++ flat_map pair_text (days_behind l.run l.pending (drop l.other-index l.later)) ≡ l.initial.text ++ flat_map pair_text (days_like l.run l.later)
