-- Counting the variants of each position as they come.
use Rattle.std.proofs.Common.{◌≡◌, ℕ, suc, ◌+◌, ◌==◌, Bool, true, false, List, [], ◌∷◌, ◌++◌, length, refl, arith, if◌then◌else◌}
use Rattle.book_model.specs.Parts.{variants_from}
use Rattle.book_model.specs.declared.record.Variant.{Variant}

longer-by : (b : Bool) (i n : ℕ) (xs ys : List ℕ) → length xs ≡ length ys + n → length (if b then i ∷ xs else xs) ≡ length (if b then i ∷ ys else ys) + n
longer-by true i n xs ys h = omega arith
longer-by false i n xs ys h = h

one-by : (b : Bool) (i : ℕ) → length (if b then i ∷ [] else []) ≡ 0 + (if b then 1 else 0)
one-by true i = refl
one-by false i = refl

-- a position has one variant more exactly where the new one names it
pub length-variants_from-push : (i place : ℕ) (vs : List Variant) (v : Variant)
    → length (variants_from i place (vs ++ v ∷ [])) ≡ length (variants_from i place vs) + (if v.position == place then 1 else 0)
length-variants_from-push i place [] v = one-by (v.position == place) i
length-variants_from-push i place (w ∷ vs) v =
    longer-by (w.position == place) i (if v.position == place then 1 else 0) (variants_from (suc i) place (vs ++ v ∷ [])) (variants_from (suc i) place vs) (length-variants_from-push (suc i) place vs v)
