-- The clauses of a group hold just where at most one of its codes is present, and the first of them just where some is.
use Rattle.std.proofs.Common.{inl, inr, ◌≡◌, ℕ, ◌+◌, ◌<◌, ◌≤◌, Bool, None, true, false, not, ◌||◌, eqb, leb, ltb, List, [], ◌∷◌, length, map, refl, sym, ap, ◌∙◌, arith}
use Rattle.std.specs.List.{list_any, list_all, filter, AllByRecursion}
use Rattle.std.proofs.lemmas.Bool.{and_parts, and_from, cases_Bool, cond-true, cond-false, ltb-true, lt-ltb, eqb-true, eq-eqb, le-leb, leb-true, true≢false, false≢true}
use Rattle.pb_base.specs.Sets.{has}
use Rattle.book_model.specs.Good.{present}
use Rattle.clause_pool.specs.Literal.{literal, is_true}
use Rattle.clause_pool.specs.Clause.{clause_of, clause_true, Sat}
use Rattle.clause_pool.proofs.ClauseLaws.{clause_true-clause_of}
use Rattle.clausify.specs.Items.{any_literals, apart_literals, clause_where}
use Rattle.clausify.specs.Pairs.{pairs}
use Rattle.clausify.proofs.ListLaws.{all-append, all_first, all_last, all-map, all_mapped}
use Rattle.clausify.proofs.Truth.{true_positive, true_negative, two_true}
use Rattle.clausify.proofs.FormulaLaws.{Begins}

-- each of these codes is one of the first n
abbrev pub AreCodes : ℕ → List ℕ → Type 0
AreCodes n group = AllByRecursion (λ code. code < n) group

pub below_all : (n : ℕ) (group : List ℕ) → list_all (λ code. ltb code n) group ≡ true → AreCodes n group
below_all n [] h = tt
below_all n (code ∷ group) h =
    let parts = and_parts (ltb code n) (list_all (λ k. ltb k n) group) h in
    (ltb-true code n parts.0, below_all n group parts.1)

pub all_below : (n : ℕ) (group : List ℕ) → AreCodes n group → list_all (λ code. ltb code n) group ≡ true
all_below n [] h = refl
all_below n (code ∷ group) h = and_from _ _ (lt-ltb code n h.0) (all_below n group h.1)

present_with : (x : List Bool) (code : ℕ) (group : List ℕ) → has x code ≡ true → present x (code ∷ group) ≡ 1 + present x group
present_with x code group e = omega (arith, ap length (cond-true (has x code) (code ∷ filter (has x) group) (filter (has x) group) e))

present_without : (x : List Bool) (code : ℕ) (group : List ℕ) → has x code ≡ false → present x (code ∷ group) ≡ present x group
present_without x code group e = ap length (cond-false (has x code) (code ∷ filter (has x) group) (filter (has x) group) e)

or_true : (t : Bool) → (t || true) ≡ true
or_true true = refl
or_true false = refl

some_present : (x : List Bool) (group : List ℕ) → 1 ≤ present x group → list_any (has x) group ≡ true
some_present x [] h = absurd (omega arith)
some_present x (code ∷ group) h =
    elim (cases_Bool (has x code)) [
      | inl there ↦ ap (λ t. t || list_any (has x) group) there
      | inr gone ↦ ap (λ t. t || list_any (has x) group) gone ∙ some_present x group (omega (arith, present_without x code group gone))
    ]

present_some : (x : List Bool) (group : List ℕ) → list_any (has x) group ≡ true → 1 ≤ present x group
present_some x [] h = absurd (false≢true h)
present_some x (code ∷ group) h =
    elim (cases_Bool (has x code)) [
      | inl there ↦ omega (arith, present_with x code group there)
      | inr gone ↦
          let later : 1 ≤ present x group = present_some x group (sym (ap (λ t. t || list_any (has x) group) gone) ∙ h) in
          omega (arith, present_without x code group gone)
    ]

module _ {m : ℕ} (n : ℕ) (x : List Bool) (a : ℕ → Bool) (b : Begins m n x a) where
  -- both clauses, by what the set has
  apart_true : (k l : ℕ) → k < m → l < m → clause_true a (clause_of (apart_literals (k, l))) ≡ (not (has x k) || (not (has x l) || false))
  apart_true k l hk hl =
      two_true a (literal k false) (literal l false) (not (has x k)) (not (has x l))
      (true_negative a k ∙ ap not (b.codes k hk)) (true_negative a l ∙ ap not (b.codes l hl))

  any_true : (group : List ℕ) → AreCodes m group → list_any (is_true a) (any_literals group) ≡ list_any (has x) group
  any_true [] h = refl
  any_true (code ∷ group) h =
      ap (λ t. t || list_any (is_true a) (any_literals group)) (true_positive a code ∙ b.codes code h.0)
      ∙ ap (λ t. has x code || t) (any_true group h.1)

  any_clause_true : (group : List ℕ) → AreCodes m group → clause_true a (clause_of (any_literals group)) ≡ list_any (has x) group
  any_clause_true group h = clause_true-clause_of a (any_literals group) ∙ any_true group h

  -- the code is apart from each of these
  abbrev IsApart : ℕ → List ℕ → Type 0
  IsApart code group = AllByRecursion (λ (p : ℕ × ℕ). clause_true a (clause_of (apart_literals p)) ≡ true) (map (λ k. (code, k)) group)

  absent_apart : (code : ℕ) (group : List ℕ) → code < m → AreCodes m group → has x code ≡ false → IsApart code group
  absent_apart code [] hc hg e = tt
  absent_apart code (k ∷ group) hc hg e =
      (apart_true code k hc hg.0 ∙ ap (λ t. not t || (not (has x k) || false)) e, absent_apart code group hc hg.1 e)

  alone_apart : (code : ℕ) (group : List ℕ) → code < m → AreCodes m group → present x group ≡ 0 → IsApart code group
  alone_apart code [] hc hg e = tt
  alone_apart code (k ∷ group) hc hg e =
      elim (cases_Bool (has x k)) [
        | inl there ↦ absurd (omega (arith, present_with x k group there))
        | inr gone ↦ (
          apart_true code k hc hg.0 ∙ ap (λ t. not (has x code) || (not t || false)) gone ∙ or_true (not (has x code)),
          alone_apart code group hc hg.1 (sym (present_without x k group gone) ∙ e),
        )
      ]

  none_beside : (code : ℕ) (group : List ℕ) → code < m → AreCodes m group → has x code ≡ true → IsApart code group → present x group ≡ 0
  none_beside code [] hc hg e h = refl
  none_beside code (k ∷ group) hc hg e h =
      elim (cases_Bool (has x k)) [
        | inl there ↦
            absurd (true≢false (sym h.0 ∙ apart_true code k hc hg.0 ∙ ap (λ t. not t || (not (has x k) || false)) e ∙ ap (λ t. not t || false) there))
        | inr gone ↦ present_without x k group gone ∙ none_beside code group hc hg.1 e h.1
      ]

  abbrev AreApart : List ℕ → Type 0
  AreApart group = AllByRecursion (λ (p : ℕ × ℕ). clause_true a (clause_of (apart_literals p)) ≡ true) (pairs group)

  apart_from_few : (group : List ℕ) → AreCodes m group → present x group ≤ 1 → AreApart group
  apart_from_few [] h few = tt
  apart_from_few (code ∷ group) h few =
      elim (cases_Bool (has x code)) [
        | inl there ↦
            let alone : present x group ≡ 0 = omega (arith, present_with x code group there) in
            all-append _ (map (λ k. (code, k)) group) (pairs group) (alone_apart code group h.0 h.1 alone) (apart_from_few group h.1 (omega arith))
        | inr gone ↦
            all-append _ (map (λ k. (code, k)) group) (pairs group) (absent_apart code group h.0 h.1 gone)
            (apart_from_few group h.1 (omega (arith, present_without x code group gone)))
      ]

  few_from_apart : (group : List ℕ) → AreCodes m group → AreApart group → present x group ≤ 1
  few_from_apart [] h apart = omega arith
  few_from_apart (code ∷ group) h apart =
      let beside : IsApart code group = all_first _ (map (λ k. (code, k)) group) (pairs group) apart in
      let later : present x group ≤ 1 = few_from_apart group h.1 (all_last _ (map (λ k. (code, k)) group) (pairs group) apart) in
      elim (cases_Bool (has x code)) [
        | inl there ↦ omega (arith, present_with x code group there, none_beside code group h.0 h.1 there beside)
        | inr gone ↦ omega (arith, present_without x code group gone)
      ]

  abbrev ApartClauses : List ℕ → Type 0
  ApartClauses group = Sat (map (clause_where None) (map apart_literals (pairs group))) a

  clauses_apart : (group : List ℕ) → ApartClauses group → AreApart group
  clauses_apart group s = all_mapped _ apart_literals (pairs group) (all_mapped _ (clause_where None) (map apart_literals (pairs group)) s)

  -- at most one is present
  pub sat_from_few : (group : List ℕ) → AreCodes m group → leb (present x group) 1 ≡ true → ApartClauses group
  sat_from_few group h few =
      all-map _ (clause_where None) (map apart_literals (pairs group)) (all-map _ apart_literals (pairs group) (apart_from_few group h (leb-true (present x group) 1 few)))

  pub few_from_sat : (group : List ℕ) → AreCodes m group → ApartClauses group → leb (present x group) 1 ≡ true
  few_from_sat group h s = le-leb (present x group) 1 (few_from_apart group h (clauses_apart group s))

  -- exactly one is
  pub sat_from_one : (group : List ℕ) → AreCodes m group → eqb (present x group) 1 ≡ true → (clause_true a (clause_of (any_literals group)) ≡ true) × ApartClauses group
  sat_from_one group h one =
      let count : present x group ≡ 1 = eqb-true (present x group) 1 one in
      (any_clause_true group h ∙ some_present x group (omega arith), sat_from_few group h (le-leb (present x group) 1 (omega arith)))

  pub one_from_sat : (group : List ℕ) → AreCodes m group → (clause_true a (clause_of (any_literals group)) ≡ true) × ApartClauses group → eqb (present x group) 1 ≡ true
  one_from_sat group h s =
      let few : present x group ≤ 1 = few_from_apart group h (clauses_apart group s.1) in
      let some : 1 ≤ present x group = present_some x group (sym (any_clause_true group h) ∙ s.0) in
      eq-eqb (present x group) 1 (omega arith)
