-- Texts that are made piece by piece.
use Rattle.std.proofs.Common.{◌≡◌, ℕ, List, ◌++◌, ap, ◌∙◌, append_assoc}

two_pieces : (t0 t1 t2 a b : List ℕ) → t1 ≡ t0 ++ a → t2 ≡ t1 ++ b → t2 ≡ t0 ++ (a ++ b)
two_pieces t0 t1 t2 a b e1 e2 = e2 ∙ ap (λ (t : List ℕ). t ++ b) e1 ∙ append_assoc t0 a b

pub five_pieces : (t0 t1 t2 t3 t4 t5 a b c d e : List ℕ) → t1 ≡ t0 ++ a → t2 ≡ t1 ++ b → t3 ≡ t2 ++ c → t4 ≡ t3 ++ d → t5 ≡ t4 ++ e → t5 ≡ t0 ++ ((((a ++ b) ++ c) ++ d) ++ e)
five_pieces t0 t1 t2 t3 t4 t5 a b c d e e1 e2 e3 e4 e5 =
    two_pieces t0 t4 t5 (((a ++ b) ++ c) ++ d) e (two_pieces t0 t3 t4 ((a ++ b) ++ c) d (two_pieces t0 t2 t3 (a ++ b) c (two_pieces t0 t1 t2 a b e1 e2) e3) e4) e5
