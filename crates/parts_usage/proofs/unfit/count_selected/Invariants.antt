use Rattle.std.proofs.Common.{◌≡◌, ◌≤◌, ◌+◌, drop, length, filter}
use Rattle.book_model.specs.Parts.{is_selected_at}
use Rattle.parts_usage.proofs.unfit.count_selected.Given as goal

abbrev pub invariant-loop-variant : goal.invariant-loop-variant
invariant-loop-variant l = record {
  counted : l.count + length (filter (is_selected_at l.book l.day l.set) (drop l.variant-index l.variant-items)) ≡ length (filter (is_selected_at l.book l.day l.set) l.variant-items);
  few : l.count ≤ l.variant-index;
}
