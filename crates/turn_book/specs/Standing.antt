-- What contracts see of a turn book and of a pass.
use Rattle.std.specs.Prelude.{◌≡◌, ℕ, List, []}
use Rattle.atomic_table.specs.Seated.{TableId}
use Rattle.turn_book.specs.declared.entry.Entry.{Entry}

-- a turn book: which one it is, the machine that it was opened with, and how many calls there may be
pub record Opened (M : Type 0) : Type 0 where
  pub table : TableId
  pub start : M
  pub limit : ℕ

-- a pass: the turn book that it comes from, the history as far as it has seen it, the places of its own calls in it, and the calls that it has left
pub record Standing (M C R : Type 0) : Type 0 where
  pub table : TableId
  pub seen : List (Entry M C R)
  pub own : List ℕ
  pub left : ℕ

-- a new book at this machine, and its one pass, which has all the calls and has seen nothing
abbrev pub IsOpening : {M C R : Type 0} → M → ℕ → Opened M → Standing M C R → Type 0
IsOpening machine limit book pass =
    (book.start ≡ machine) × (book.limit ≡ limit) × (pass.table ≡ book.table) × (pass.seen ≡ []) × (pass.own ≡ []) × (pass.left ≡ limit)
