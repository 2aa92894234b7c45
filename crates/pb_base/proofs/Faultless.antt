-- Names that are all of the codes, none twice, have no fault.
use Rattle.std.proofs.Common.{◌≡◌, ℕ, ◌+◌, ◌<◌, Bool, true, false, not, cond, ltb, ◌||◌, List, [], ◌∷◌, ◌++◌, None, Some, length, inl, inr, refl, sym, ap, ◌∙◌, arith}
use Rattle.std.specs.List.{list_any, IsDistinct, AllByRecursion, position, prefix_len}
use Rattle.std.specs.Option.{option_or, is_none}
use Rattle.std.specs.Cmp.Lexicographic.{nat_list_eq_equiv}
use Rattle.std.proofs.lemmas.Bool.{cases_Bool, false≢true, true≢false, lt-ltb}
use Rattle.pb_base.specs.Names.{same_name, place_in}
use Rattle.pb_base.specs.NamedSet.{name_fault, first_fault}
use Rattle.pb_base.specs.declared.named_set.NameFault.TheVariants.{Unknown, Repeated}

pub same_self : (name : List ℕ) → same_name name name ≡ true
same_self name = nat_list_eq_equiv.refl name

found_below : (p : List ℕ → Bool) (xs : List (List ℕ)) → list_any p xs ≡ true → prefix_len (λ x. not (p x)) xs < length xs
found_below p [] h = absurd (false≢true h)
found_below p (x ∷ xs) h =
    elim (cases_Bool (p x)) [
      | inl met ↦ let is : prefix_len (λ y. not (p y)) (x ∷ xs) ≡ 0 = rw met refl in omega arith
      | inr unmet ↦
          let rest : list_any p xs ≡ true = sym (ap (λ t. t || list_any p xs) unmet) ∙ h in
          let is : prefix_len (λ y. not (p y)) (x ∷ xs) ≡ 1 + prefix_len (λ y. not (p y)) xs = rw unmet refl in
          omega (arith, found_below p xs rest)
    ]

position_found : (p : List ℕ → Bool) (xs : List (List ℕ)) → list_any p xs ≡ true → is_none (position p xs) ≡ false
position_found p xs h =
    let test : ltb (prefix_len (λ x. not (p x)) xs) (length xs) ≡ true = lt-ltb (prefix_len (λ x. not (p x)) xs) (length xs) (found_below p xs h) in
    rw test refl

or_false : (t u : Bool) → (t || u) ≡ false → (t ≡ false) × (u ≡ false)
or_false true u h = absurd (true≢false h)
or_false false u h = (refl, h)

found : (codes : List (List ℕ)) (n : List ℕ) → list_any (same_name n) codes ≡ true → is_none (place_in codes n) ≡ false
found codes n there = position_found (same_name n) codes there

any_more : (n m : List ℕ) (left : List (List ℕ)) → list_any (same_name n) left ≡ false → same_name n m ≡ false → list_any (same_name n) (left ++ m ∷ []) ≡ false
any_more n m [] out other = ap (λ t. t || false) other
any_more n m (l ∷ left) out other =
    let parts = or_false (same_name n l) (list_any (same_name n) left) out in
    ap (λ t. t || list_any (same_name n) (left ++ m ∷ [])) parts.0 ∙ any_more n m left parts.1 other

all_more : (m : List ℕ) (left ns : List (List ℕ)) → AllByRecursion (λ n. list_any (same_name n) left ≡ false) ns → AllByRecursion (λ n. same_name m n ≡ false) ns
    → AllByRecursion (λ n. list_any (same_name n) (left ++ m ∷ []) ≡ false) ns
all_more m left [] out apart = tt
all_more m left (n ∷ ns) out apart = (any_more n m left out.0 (nat_list_eq_equiv.symm n m ∙ apart.0), all_more m left ns out.1 apart.1)

no_fault_behind : (codes left ns : List (List ℕ)) → AllByRecursion (λ n. list_any (same_name n) codes ≡ true) ns → IsDistinct same_name ns → AllByRecursion (λ n. list_any (same_name n) left ≡ false) ns
    → first_fault codes left ns ≡ None
unfolding IsDistinct
no_fault_behind codes left [] there apart out = refl
no_fault_behind codes left (n ∷ ns) there apart out =
    let here : name_fault codes left n ≡ None =
    ap (λ t. cond t (Some (Unknown (length left))) (cond (list_any (same_name n) left) (Some (Repeated (length left))) None)) (found codes n there.0)
    ∙ ap (λ t. cond t (Some (Repeated (length left))) None) out.0 in
    ap (λ o. option_or o (first_fault codes (left ++ n ∷ []) ns)) here ∙ no_fault_behind codes (left ++ n ∷ []) ns there.1 apart.1 (all_more n left ns out.1 apart.0)

none_out : (ns : List (List ℕ)) → AllByRecursion (λ n. list_any (same_name n) [] ≡ false) ns
none_out [] = tt
none_out (n ∷ ns) = (refl, none_out ns)

pub no_fault : (codes ns : List (List ℕ)) → AllByRecursion (λ n. list_any (same_name n) codes ≡ true) ns → IsDistinct same_name ns
    → first_fault codes [] ns ≡ None
no_fault codes ns there apart = no_fault_behind codes [] ns there apart (none_out ns)
