-- The moments of several calls.
use Rattle.std.proofs.Common.{inl, inr, ⊎_elim, ℕ, List, arith}
use Rattle.disk.specs.Disk.{Elapses, LeavesOnly}

module _ {D : Type 0} (moment : D → ℕ) (left_since : D → ℕ → List ℕ → Type 0) where
  -- before the first call
  pub started : (old : D) (P : List ℕ → Type 0) → ((image : List ℕ) → left_since old (moment old) image → P image)
      → LeavesOnly moment left_since old old P
  started old P here = record { later = omega arith; each = here; before = λ t image le left. inl left }

  -- one call more, after which a stop leaves what has P
  pub goes_on : (old mid new : D) (P leaves : List ℕ → Type 0) → LeavesOnly moment left_since old mid P
      → Elapses (moment mid) (moment new) (left_since mid) (left_since new) leaves
      → ((image : List ℕ) → leaves image → P image) → LeavesOnly moment left_since old new P
  goes_on old mid new P leaves so_far time here = record {
    later = omega (arith, so_far.later, time.later);
    each = λ image left. ⊎_elim (so_far.each image) (here image) (time.nothing_else (moment old) image so_far.later left);
    before = λ t image le left. ⊎_elim (so_far.before t image le) (λ now. inr (here image now)) (time.nothing_else t image (omega (arith, le, so_far.later)) left);
  }

  -- the moments of some calls, and then of others
  pub and_then : (old mid new : D) (P Q : List ℕ → Type 0) → LeavesOnly moment left_since old mid P → LeavesOnly moment left_since mid new Q
      → ((image : List ℕ) → Q image → P image) → LeavesOnly moment left_since old new P
  and_then old mid new P Q first second within = record {
    later = omega (arith, first.later, second.later);
    each = λ image left. ⊎_elim (first.each image) (within image) (second.before (moment old) image first.later left);
    before = λ t image le left. ⊎_elim (first.before t image le) (λ q. inr (within image q)) (second.before t image (omega (arith, le, first.later)) left);
  }

  -- what has Q has P
  pub widened : (old new : D) (P Q : List ℕ → Type 0) → LeavesOnly moment left_since old new Q
      → ((image : List ℕ) → Q image → P image) → LeavesOnly moment left_since old new P
  widened old new P Q only within = record {
    later = only.later;
    each = λ image left. within image (only.each image left);
    before = λ t image le left. ⊎_elim (λ past. inl past) (λ q. inr (within image q)) (only.before t image le left);
  }
