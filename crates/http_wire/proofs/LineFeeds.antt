-- A block ends behind one of its line feeds.
use Rattle.std.proofs.Common.{◌≡◌, ◌<◌, ◌+◌, ◌∙◌, ℕ, zero, suc, Bool, true, false, cond, List, [], ◌∷◌, length, drop, refl, sym, ap, arith}
use Rattle.std.specs.Prelude.{Option, Some, None}
use Rattle.std.specs.Option.{option_or, option_map}
use Rattle.std.proofs.lemmas.List.{drop-drop}
use Rattle.memchr.specs.Find.{Nowhere, Passes, is_byte}
use Rattle.http_wire.specs.Front.{is_line_feed, empty_line, block_length}
use Rattle.http_wire.proofs.BlockEnds.{further, further-zero, further-suc}

-- where it does not stand, the test is false
no_feed : (b : ℕ) (s : List ℕ) → ¬ (Passes (is_byte 10) (b ∷ s) 0) → is_line_feed b ≡ false
no_feed b s none = by_test (is_line_feed b) none where
  by_test : (t : Bool) → ¬ (t ≡ true) → t ≡ false
  by_test true none = absurd (none refl)
  by_test false none = refl

later : (b : ℕ) (s : List ℕ) → is_line_feed b ≡ false → block_length (b ∷ s) ≡ option_map suc (block_length s)
later b s other = ap (λ (t : Bool). option_map suc (option_or (cond t (empty_line s) None) (block_length s))) other

behind_none : (b : ℕ) (s : List ℕ) (end : ℕ) → Nowhere (Passes (is_byte 10) (b ∷ s)) 0 (suc end) → Nowhere (Passes (is_byte 10) s) 0 end
behind_none b s end none k low high passes = none (suc k) (omega arith) (omega arith) passes

-- without a line feed there is no end
pub no_block : (s : List ℕ) → Nowhere (Passes (is_byte 10) s) 0 (length s) → block_length s ≡ None
no_block [] none = refl
no_block (b ∷ s) none =
    later b s (no_feed b s (none 0 (omega arith) (omega arith))) ∙ ap (λ (p : Option ℕ). option_map suc p) (no_block s (behind_none b s (length s) none))

-- the end is behind the first line feed, or further on
pub first_feed : (s : List ℕ) (k : ℕ) → k < length s → Nowhere (Passes (is_byte 10) s) 0 k → Passes (is_byte 10) s k
    → block_length s ≡ further (suc k) (option_or (empty_line (drop (suc k) s)) (block_length (drop (suc k) s)))
first_feed [] k within none feed = absurd (omega arith)
first_feed (b ∷ s) zero within none feed =
    ap (λ (t : Bool). option_map suc (option_or (cond t (empty_line s) None) (block_length s))) feed
    ∙ ap (λ (p : Option ℕ). option_map suc p) (sym (further-zero _)) ∙ sym (further-suc 0 _)
first_feed (b ∷ s) (suc k) within none feed =
    later b s (no_feed b s (none 0 (omega arith) (omega arith)))
    ∙ ap (λ (p : Option ℕ). option_map suc p) (first_feed s k (omega arith) (behind_none b s k none) feed) ∙ sym (further-suc (suc k) _)

-- the search goes on behind a line feed
pub advance : (bytes part : List ℕ) (at k : ℕ) → part ≡ drop at bytes → further at (block_length (drop at bytes)) ≡ block_length bytes → k < length part → Nowhere (Passes (is_byte 10) part) 0 k → Passes (is_byte 10) part k
    → further (at + (k + 1)) (option_or (empty_line (drop (at + (k + 1)) bytes)) (block_length (drop (at + (k + 1)) bytes))) ≡ block_length bytes
advance bytes part at k is_part rest within none feed =
    let same : drop (suc k) part ≡ drop (at + (k + 1)) bytes = ap (λ (s : List ℕ). drop (suc k) s) is_part ∙ drop-drop (suc k) at bytes ∙ ap (λ (n : ℕ). drop n bytes) (omega arith) in
    let next : Option ℕ = option_or (empty_line (drop (at + (k + 1)) bytes)) (block_length (drop (at + (k + 1)) bytes)) in
    let first : block_length (drop at bytes) ≡ further (suc k) next =
    ap block_length (sym is_part) ∙ first_feed part k within none feed ∙ ap (λ (s : List ℕ). further (suc k) (option_or (empty_line s) (block_length s))) same in
    ap (λ (n : ℕ). further n next) (omega arith) ∙ further-further at (suc k) next ∙ ap (λ (p : Option ℕ). further at p) (sym first) ∙ rest
  where
    further-further : (m n : ℕ) (place : Option ℕ) → further (m + n) place ≡ further m (further n place)
    further-further m n None = refl
    further-further m n (Some k) = ap (λ (x : ℕ). Some x) (omega arith)
