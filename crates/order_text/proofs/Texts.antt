-- Texts that are made piece by piece.
use Rattle.std.proofs.Common.{◌≡◌, ℕ, List, ◌++◌, ap, ◌∙◌, append_assoc}

pub four_pieces : (t0 t1 t2 t3 t4 a b c d : List ℕ) → t1 ≡ t0 ++ a → t2 ≡ t1 ++ b → t3 ≡ t2 ++ c → t4 ≡ t3 ++ d → t4 ≡ t0 ++ (a ++ ((b ++ c) ++ d))
four_pieces t0 t1 t2 t3 t4 a b c d e1 e2 e3 e4 =
    let joined : (((t0 ++ a) ++ b) ++ c) ++ d ≡ t0 ++ (a ++ ((b ++ c) ++ d)) = simp append_assoc in
    e4 ∙ ap (λ (t : List ℕ). t ++ d) (e3 ∙ ap (λ (t : List ℕ). t ++ c) (e2 ∙ ap (λ (t : List ℕ). t ++ b) e1)) ∙ joined
