-- The names of the codes in a set of one book, as codes of another.
use Rattle.std.proofs.Common.{◌≡◌, ℕ, ◌+◌, Bool, false, List, [], ◌∷◌, ◌++◌, inl, inr}
use Rattle.std.specs.List.{AllByRecursion}
use Rattle.std.proofs.lemmas.Bool.{cond_both}
use Rattle.pb_base.specs.Names.{place_in}
use Rattle.pb_base.specs.Sets.{has}
use Rattle.pb_base.specs.Picked.{AreNamed, picked_from}
use Rattle.pb_base.proofs.PickLaws.{code_named}
use Rattle.book_compare.specs.Numbering.{missing_from}
use Rattle.book_compare.proofs.NumberLaws.{cases_option}

-- where the codes that another book lacks are absent, they are codes of that book too
pub picked_in_other : (second : List (List ℕ)) (i : ℕ) (x : List Bool) (cs : List (List ℕ)) → AllByRecursion (λ v. has x v ≡ false) (missing_from i second cs)
    → AreNamed second (picked_from i x cs)
picked_in_other second i x [] gone = tt
picked_in_other second i x (c ∷ cs) gone = elim (cases_option (place_in second c)) [
  | inl none ↦ let all = rw none at gone in rw all.0 (picked_in_other second (i + 1) x cs all.1)
  | inr some ↦
      let later = picked_in_other second (i + 1) x cs (rw some.1 at gone) in
      cond_both (has x i) _ _ (λ own. AreNamed second (own ++ picked_from (i + 1) x cs)) (λ _. (code_named second c some.0 some.1, later)) (λ _. later)
]
