-- Clauses that say that some codes are absent, behind clauses that just the sets that pass a test satisfy.
use Rattle.std.proofs.Common.{◌≡◌, ℕ, zero, suc, ◌+◌, ◌*◌, ◌/◌, ◌%◌, ◌<◌, ◌≤◌, Bool, true, false, not, ◌&&◌, ◌||◌, ◌==◌, List, [], ◌∷◌, ◌++◌, length, map, if◌then◌else◌, refl, sym, ap, subst, ◌∙◌, arith, eqb, eq-eqb}
use Rattle.std.specs.List.{AllByRecursion}
use Rattle.std.proofs.lemmas.Bool.{and_from, and_parts, or_left, or_right}
use Rattle.pb_base.specs.Sets.{has}
use Rattle.clause_pool.specs.Literal.{literal, is_true}
use Rattle.clause_pool.specs.Clause.{Sat, clause_true, AreBelow, has as has_literal}
use Rattle.clausify.specs.Lifting.{BeginsWith, CodesJust}
use Rattle.clausify.proofs.ListLaws.{all-append, all_first, all_last}
use Rattle.clausify.proofs.Truth.{one_true, true_negative}
use Rattle.blame.specs.Absent.{absent_clause, are_absent, is_used, IsClauseUsed, AreUsed, IsUnused}

or_none : (p : Bool) → (p || false) ≡ true → p ≡ true
or_none true h = refl
or_none false h = h

module _ (x : List Bool) (a : ℕ → Bool) (begins : BeginsWith x a) where
  absent_sat : (us : List ℕ) → AllByRecursion (λ c. c < length x) us → are_absent us x ≡ true → Sat (map absent_clause us) a
  absent_sat [] low h = tt
  absent_sat (c ∷ us) low h =
      let parts = and_parts (not (has x c)) (are_absent us x) h in (
        one_true a (literal c false) ∙ ap (λ p. p || false) (true_negative a c ∙ ap not (begins c low.0) ∙ parts.0),
        absent_sat us low.1 parts.1,
      )

  absent_from_sat : (us : List ℕ) → AllByRecursion (λ c. c < length x) us → Sat (map absent_clause us) a → are_absent us x ≡ true
  absent_from_sat [] low s = refl
  absent_from_sat (c ∷ us) low s =
      and_from (not (has x c)) (are_absent us x)
      (ap not (sym (begins c low.0)) ∙ sym (true_negative a c) ∙ or_none _ (sym (one_true a (literal c false)) ∙ s.0))
      (absent_from_sat us low.1 s.1)

pub just_absent : (n v : ℕ) (test : List Bool → Bool) (cs : List (List ℕ)) (us : List ℕ) → AllByRecursion (λ c. c < n) us → CodesJust n test cs v
    → CodesJust n (λ x. test x && are_absent us x) (cs ++ map absent_clause us) v
just_absent n v test cs us low h = record {
  lifts = λ x len pass.
      let parts = and_parts (test x) (are_absent us x) pass in
      let l = h.lifts x len parts.0 in (
        l.0,
        record {
          begins = l.1.begins;
          satisfies = all-append _ cs (map absent_clause us) l.1.satisfies (absent_sat x l.0 l.1.begins us (subst (λ (k : ℕ). AllByRecursion (λ c. c < k) us) (sym len) low) parts.1);
          alone = λ c starts sat. l.1.alone c starts (all_first _ cs (map absent_clause us) sat);
        },
      );
  begins_so = λ a x len begins sat.
      and_from (test x) (are_absent us x) (h.begins_so a x len begins (all_first _ cs (map absent_clause us) sat))
      (absent_from_sat x a begins us (subst (λ (k : ℕ). AllByRecursion (λ c. c < k) us) (sym len) low) (all_last _ cs (map absent_clause us) sat));
}

-- an assignment with the variables that are not used made false
abbrev masked : (ℕ → Bool) → List Bool → ℕ → Bool
masked a used v = a v && is_used used v

and_true : (p q : Bool) → q ≡ true → (p && q) ≡ p
and_true true q h = h
and_true false q h = refl

and_false : (p q : Bool) → q ≡ false → (p && q) ≡ false
and_false true q h = h
and_false false q h = refl

past_used : (used : List Bool) (v : ℕ) → length used ≤ v → is_used used v ≡ true
past_used [] v h = refl
past_used (t ∷ used) zero h = absurd (omega arith)
past_used (t ∷ used) (suc v) h = past_used used v (omega (arith, h))

-- so many values of an assignment from a variable on
abbrev pub values : (ℕ → Bool) → ℕ → ℕ → List Bool
values a i zero = []
values a i (suc k) = a i ∷ values a (suc i) k

pub length-values : (a : ℕ → Bool) (i k : ℕ) → length (values a i k) ≡ k
length-values a i zero = refl
length-values a i (suc k) = ap (λ (n : ℕ). suc n) (length-values a (suc i) k)

values_at : (a : ℕ → Bool) (i k j : ℕ) → j < k → has (values a i k) j ≡ a (i + j)
values_at a i zero j h = absurd (omega arith)
values_at a i (suc k) zero h = ap a (let e : i ≡ i + 0 = omega arith in e)
values_at a i (suc k) (suc j) h = values_at a (suc i) k j (omega (arith, h)) ∙ ap a (let e : suc i + j ≡ i + suc j = omega arith in e)

pub value_at : (a : ℕ → Bool) (k j : ℕ) → j < k → has (values a 0 k) j ≡ a j
value_at a k j h = values_at a 0 k j h ∙ ap a (let e : 0 + j ≡ j = omega arith in e)

module _ (a : ℕ → Bool) (used : List Bool) where
  masked_true : (l : ℕ) → is_used used (l / 2) ≡ true → is_true (masked a used) l ≡ is_true a l
  masked_true l h = ap (λ (p : Bool). if l % 2 == 0 then p else not p) (and_true (a (l / 2)) (is_used used (l / 2)) h)

  masked_clause : (c : List ℕ) → IsClauseUsed used c → clause_true (masked a used) c ≡ clause_true a c
  masked_clause [] h = refl
  masked_clause (l ∷ c) h =
      ap (λ (p : Bool). p || clause_true (masked a used) c) (masked_true l (h l (or_left (eqb l l) (has_literal c l) (eq-eqb l l refl))))
      ∙ ap (λ (p : Bool). is_true a l || p) (masked_clause c (λ k there. h k (or_right (eqb l k) (has_literal c k) there)))

  masked_sat : (cs : List (List ℕ)) → AreUsed used cs → Sat cs a → Sat cs (masked a used)
  masked_sat [] h s = tt
  masked_sat (c ∷ cs) h s = (masked_clause c (h 0 (omega arith)) ∙ s.0, masked_sat cs (λ k inside. h (suc k) (omega (arith, inside))) s.1)

  masked_absent : (all : ℕ) (us : List ℕ) → length used ≤ all → AllByRecursion (IsUnused used) us → are_absent us (values (masked a used) 0 all) ≡ true
  masked_absent all [] room h = refl
  masked_absent all (c ∷ us) room h =
      and_from (not (has (values (masked a used) 0 all) c)) (are_absent us (values (masked a used) 0 all))
      (ap not (value_at (masked a used) all c (omega (arith, h.0.inside, room)) ∙ and_false (a c) (is_used used c) h.0.unused))
      (masked_absent all us room h.1)

pub unused_low : (used : List Bool) (all : ℕ) (us : List ℕ) → length used ≤ all → AllByRecursion (IsUnused used) us → AllByRecursion (λ c. c < all) us
unused_low used all [] room h = tt
unused_low used all (c ∷ us) room h = (omega (arith, h.0.inside, room), unused_low used all us room h.1)

pub absent_below : (v : ℕ) (us : List ℕ) → AllByRecursion (λ c. c < v) us → AreBelow (2 * v) (map absent_clause us)
absent_below v [] low = tt
absent_below v (c ∷ us) low = ((omega (arith, low.0), tt), absent_below v us low.1)

-- a set that passes the test, with none of the unused codes, but with the same codes behind those that have marks
pub record IsAbsented (n all : ℕ) (test : List Bool → Bool) (us : List ℕ) (y z : List Bool) : Type 0 where
  pub counted : length z ≡ all
  pub passes : (test z && are_absent us z) ≡ true
  pub same : (k : ℕ) → n ≤ k → k < all → has z k ≡ has y k

pub absented : (n all v : ℕ) (test : List Bool → Bool) (cs : List (List ℕ)) (used : List Bool) (us : List ℕ) → length used ≡ n → n ≤ all → AreUsed used cs
    → AllByRecursion (IsUnused used) us → CodesJust all test cs v → (y : List Bool) → length y ≡ all → test y ≡ true → (z : List Bool) × IsAbsented n all test us y z
absented n all v test cs used us counted room stands free just y len pass =
    let l = just.lifts y len pass in
    let a2 : ℕ → Bool = masked l.0 used in
    let z : List Bool = values a2 0 all in
    let count : length z ≡ all = length-values a2 0 all in (
      z,
      record {
        counted = count;
        passes =
            and_from (test z) (are_absent us z)
            (just.begins_so a2 z count (λ i inside. sym (value_at a2 all i (subst (λ (k : ℕ). i < k) count inside))) (masked_sat l.0 used cs stands l.1.satisfies))
            (masked_absent l.0 used all us (omega (arith, counted, room)) free);
        same = λ k past inside.
            value_at a2 all k inside
            ∙ and_true (l.0 k) (is_used used k) (past_used used k (omega (arith, counted, past)))
            ∙ l.1.begins k (subst (λ (j : ℕ). k < j) (sym len) inside);
      },
    )
