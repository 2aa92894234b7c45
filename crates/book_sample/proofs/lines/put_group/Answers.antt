use Rattle.std.proofs.Common.{◌≡◌, List, ℕ, [], ◌∷◌, ◌++◌, append_assoc}
use Rattle.std.proofs.lemmas.List.{append-nil}
use Rattle.std.specs.List.{concat}
use Rattle.book_sample.specs.Lines.{supplement_line, some_line, alone_line, bound_text, position_line, variant_line}
use Rattle.book_sample.proofs.lines.put_group.Goals as goal

-- twelve lines put one behind the other
twelve_lines : (t0 t1 t2 t3 t4 t5 t6 t7 t8 t9 t10 t11 t12 a1 a2 a3 a4 a5 a6 a7 a8 a9 a10 a11 a12 : List ℕ)
    → t1 ≡ t0 ++ a1 → t2 ≡ t1 ++ a2 → t3 ≡ t2 ++ a3 → t4 ≡ t3 ++ a4 → t5 ≡ t4 ++ a5 → t6 ≡ t5 ++ a6
    → t7 ≡ t6 ++ a7 → t8 ≡ t7 ++ a8 → t9 ≡ t8 ++ a9 → t10 ≡ t9 ++ a10 → t11 ≡ t10 ++ a11 → t12 ≡ t11 ++ a12
    → t12 ≡ t0 ++ concat (a1 ∷ a2 ∷ a3 ∷ a4 ∷ a5 ∷ a6 ∷ a7 ∷ a8 ∷ a9 ∷ a10 ∷ a11 ∷ a12 ∷ [])
twelve_lines t0 t1 t2 t3 t4 t5 t6 t7 t8 t9 t10 t11 t12 a1 a2 a3 a4 a5 a6 a7 a8 a9 a10 a11 a12 e1 e2 e3 e4 e5 e6 e7 e8 e9 e10 e11 e12 =
    rw (e12, e11, e10, e9, e8, e7, e6, e5, e4, e3, e2, e1) (simp (append_assoc, append-nil))

pub returns : goal.returns
returns c =
    let j = c.args.number in
    let g = c.args.group.now in
    twelve_lines _ _ _ _ _ _ _ _ _ _ _ _ _ (supplement_line j g) (some_line j) (alone_line j 0 1 2 3) (alone_line j 1 0 2 3) (alone_line j 2 0 1 3) (alone_line j 3 0 1 2)
    (bound_text j g.bound) (position_line j) (variant_line j 0 g.first) (variant_line j 1 g.second) (variant_line j 2 g.third) (variant_line j 3 g.fourth)
    c.in_ok-put_supplement.ensures c.in_ok-put_some.ensures c.in_ok-put_alone.ensures c.in_ok-put_alone-2.ensures c.in_ok-put_alone-3.ensures
    c.in_ok-put_alone-4.ensures c.in_ok-put_bound.ensures c.in_ok-put_position.ensures c.in_ok-put_variant.ensures c.in_ok-put_variant-2.ensures
    c.in_ok-put_variant-3.ensures c.in_ok-put_variant-4.ensures
