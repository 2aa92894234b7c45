-- Two copies of a fixed size that overlap.
use Rattle.std.proofs.Common.{◌≡◌, ℕ, ◌+◌, ◌<◌, ◌≤◌, Bool, true, false, List, ◌++◌, length, take, drop, replicate, get_or, nat_eq, refl, ap, sym, ◌∙◌, arith, append_assoc, length-take-le, length-drop, take-take, drop-drop, take_all, take-append-drop}
use Rattle.std.specs.Cmp.Lexicographic.{pointwise, bytes_decides}
use Rattle.std.specs.Int.{w64, to_le_bytes, from_le_bytes}
use Rattle.std.proofs.lemmas.Nat.{le_bytes_8}
use Rattle.std.proofs.lemmas.List.{take-append-le}
use Rattle.std.proofs.lemmas.Slice.{drop-append-drop}

-- the first and the last `half` bytes of a text, put over a longer one, are the text and what stands behind it
pub ends_over : (text old : List ℕ) (half last : ℕ) → length text ≤ length old → last + half ≡ length text → length text ≤ half + half
    → (take last (take half text ++ drop half old)) ++ (take half (drop last text) ++ drop half (drop last (take half text ++ drop half old)))
    ≡ text ++ drop (length text) old
ends_over text old half last fits ends covers =
    let first = take half text ++ drop half old in
    let front : length (take half text) ≡ half = length-take-le half text (omega (arith, ends)) in
    let begin : take last first ≡ take last text =
    take-append-le last (take half text) (drop half old) (omega (arith, ends)) ∙ take-take last half text (omega (arith, ends)) in
    let end : take half (drop last text) ≡ drop last text = take_all half (drop last text) (omega (arith, ends, length-drop last text)) in
    let behind : drop half (drop last first) ≡ drop (length text) old =
    drop-drop half last first ∙ ap (λ n. drop n first) (omega (arith, ends)) ∙ drop-append-drop half old (take half text) (length text) (omega (arith, ends)) front in
    rw (begin, end, behind) (sym (append_assoc (take last text) (drop last text) (drop (length text) old)) ∙ ap (λ l. l ++ drop (length text) old) (take-append-drop last text))

-- texts with zeros behind them are the same as all their bytes are
pub same_padded : (len behind : ℕ) (a b : List ℕ) → drop len a ≡ replicate behind 0 → drop len b ≡ replicate behind 0
    → pointwise nat_eq a b ≡ pointwise nat_eq (take len a) (take len b)
same_padded len behind a b zeros_a zeros_b = by (pointwise nat_eq a b) (pointwise nat_eq (take len a) (take len b)) refl refl
  where
    whole : take len a ≡ take len b → a ≡ b
    whole same = sym (take-append-drop len a) ∙ ap (λ l. l ++ drop len a) same ∙ ap (λ l. take len b ++ l) (zeros_a ∙ sym zeros_b) ∙ take-append-drop len b

    by : (all front : Bool) → pointwise nat_eq a b ≡ all → pointwise nat_eq (take len a) (take len b) ≡ front → all ≡ front
    by true true p q = refl
    by false false p q = refl
    by true false p q = sym ((bytes_decides (take len a) (take len b)).1 (ap (take len) ((bytes_decides a b).0 p))) ∙ q
    by false true p q = sym p ∙ (bytes_decides a b).1 (whole ((bytes_decides (take len a) (take len b)).0 q))

-- eight bytes are told by the number that they are read as
pub one_number : (a b : List ℕ) (m n : ℕ) → length a ≡ 8 → length b ≡ 8 → ((i : ℕ) → get_or a i 0 < 256) → ((i : ℕ) → get_or b i 0 < 256)
    → m ≡ from_le_bytes w64 a → n ≡ from_le_bytes w64 b → m ≡ n → a ≡ b
one_number a b m n long_a long_b small_a small_b is_a is_b same =
    sym (le_bytes_8 a m long_a small_a is_a) ∙ ap (to_le_bytes w64) same ∙ le_bytes_8 b n long_b small_b is_b
