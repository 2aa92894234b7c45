-- Each code that is added is needed, wherever it stands.
use Rattle.std.proofs.Common.{◌≡◌, ℕ, ◌<◌, false, List, [], ◌∷◌, ◌++◌, length, refl, sym, ap, subst, ◌∙◌, arith}
use Rattle.std.specs.List.{remove}
use Rattle.book_model.specs.Contents.{Contents}
use Rattle.order_added.specs.Accepted.{is_accepted}
use Rattle.order_added.specs.Added.{IsAdded}

pub each_needed : (b : Contents) (day : ℕ) (ordered added before : List (List ℕ)) (code : List ℕ) (after : List (List ℕ)) → IsAdded b day ordered added
    → added ≡ before ++ code ∷ after → is_accepted b day (ordered ++ (before ++ after)) ≡ false
each_needed b day ordered added before code after h is =
    sym (ap (λ (cs : List (List ℕ)). is_accepted b day (ordered ++ cs)) (gone before))
    ∙ subst (λ (cs : List (List ℕ)). is_accepted b day (ordered ++ remove cs (length before)) ≡ false) is (h.needed (length before) (within before added is)) where
      gone : (cs : List (List ℕ)) → remove (cs ++ code ∷ after) (length cs) ≡ cs ++ after
      gone [] = refl
      gone (c ∷ cs) = ap (λ (ds : List (List ℕ)). c ∷ ds) (gone cs)

      within : (cs all : List (List ℕ)) → all ≡ cs ++ code ∷ after → length cs < length all
      within cs all same = subst (λ (ds : List (List ℕ)). length cs < length ds) (sym same) (shorter cs) where
        shorter : (ds : List (List ℕ)) → length ds < length (ds ++ code ∷ after)
        shorter [] = omega arith
        shorter (d ∷ ds) = omega (arith, shorter ds)
