-- What is torn.
use Rattle.std.proofs.Common.{◌≡◌, ℕ, ◌+◌, ◌≤◌, List, ◌++◌, length, take, drop, refl, ap, ◌∙◌, append_assoc, arith, length-append, length-drop}
use Rattle.std.proofs.lemmas.List.{take_at, drop_at, length-take-le}
use Rattle.disk.specs.Disk.{overwritten, Torn}

-- a write that changed nothing
pub untouched : (at n : ℕ) (file : List ℕ) → Torn at n file file
untouched at n file = record { before = refl; after = refl; no_shorter = omega arith; no_longer = omega arith }

-- a write that was made whole
pub whole : (at : ℕ) (bytes file : List ℕ) → at ≤ length file → Torn at (length bytes) file (overwritten at bytes file)
whole at bytes file within =
    let front = length-take-le at file within in
    let long : length (overwritten at bytes file) ≡ at + length bytes + length (drop (at + length bytes) file) =
    length-append (take at file ++ bytes) (drop (at + length bytes) file) ∙ ap (λ n. n + length (drop (at + length bytes) file)) (length-append (take at file) bytes ∙ ap (λ n. n + length bytes) front) in
    record {
      before = ap (take at) (append_assoc (take at file) bytes (drop (at + length bytes) file)) ∙ take_at (take at file) (bytes ++ drop (at + length bytes) file) at front;
      after = drop_at (take at file ++ bytes) (drop (at + length bytes) file) (at + length bytes) (length-append (take at file) bytes ∙ ap (λ n. n + length bytes) front);
      no_shorter = omega (arith, long, length-drop (at + length bytes) file);
      no_longer = omega (arith, long, length-drop (at + length bytes) file);
    }
