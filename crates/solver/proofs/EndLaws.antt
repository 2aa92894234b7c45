-- What an answer may be believed for.
use Rattle.std.proofs.Common.{◌≡◌, inl, inr, ℕ, zero, suc, ◌+◌, ◌*◌, ◌/◌, ◌%◌, ◌<◌, ◌≤◌, Bool, true, false, not, List, [], ◌∷◌, ◌++◌, Option, Some, None, length, take, drop, get_or, refl, sym, subst, ◌∙◌, ap, arith, length-drop, replicate, cond}
use Rattle.std.specs.List.{AllByRecursion}
use Rattle.std.specs.Option.{option_eq}
use mathlib.Core.Bool.{beq}
use Rattle.std.proofs.lemmas.Bool.{cases_Bool, cases_eq, true≢false}
use Rattle.std.proofs.lemmas.List.{take_all, take_more, take-take, take-append-drop, drop-append-le, drop-take, get_or-drop, length-take-le, get_or-set_same, get_or-set_other, length-replicate}
use Rattle.std.proofs.Math.ListN.{set, length-set}
use Rattle.clause_pool.specs.Literal.{complement, is_true}
use Rattle.clause_pool.specs.Clause.{has, clause_of, IsRising, Sat, Follows, IsBelow, AreBelow, clause_true}
use Rattle.clause_pool.specs.Derivation.{Derivation, AllFollow}
use Rattle.clause_pool.proofs.LiteralLaws.{even_or_odd, is_true-positive, is_true-negative, complement-positive, complement-negative}
use Rattle.clause_pool.proofs.ClauseLaws.{clause_true-has, all_take, all_at, Follows-more, clause_of-rising}
use Rattle.pb_base.specs.Sets.{has as has_code}
use Rattle.propagate.specs.Trail.{Trail, IsTrail}
use Rattle.propagate.specs.Quiet.{IsQuietFor}
use Rattle.propagate.specs.Assignment.{value_over}
use Rattle.solver.specs.Answer.{AreHeld, Begins, IsNew, IsSpent}
use Rattle.chains.specs.Growth.{given_of}
use Rattle.solver.specs.Search.{IsFull, AllNew}
use Rattle.solver.proofs.TrailLaws.{consistent}
use Rattle.solver.proofs.MarkLaws.{is_false}
use Rattle.solver.proofs.PoolLaws.{literal_below}

-- the assignment of a full trail
values_of : List ℕ → ℕ → Bool
values_of lits v = has lits (2 * v)

even_is : (l : ℕ) → l % 2 ≡ 0 → l ≡ 2 * (l / 2)
even_is l e = omega (arith, e)

odd_is : (l : ℕ) → l % 2 ≡ 1 → l ≡ 2 * (l / 2) + 1
odd_is l e = omega (arith, e)

module _ (t : Trail) (a : List ℕ) (h : IsTrail t) (full : IsFull t) (held : AreHeld a t.lits) where
  -- a literal that the assignment makes false is false on the trail
  false_there : (l : ℕ) → l < 2 * t.vars → is_true (λ v. has t.lits (2 * v)) l ≡ false → has t.lits (complement l) ≡ true
  false_there l low fails = elim (even_or_odd l) [
    | inl e ↦
        let v : ℕ = l / 2 in
        let is : l ≡ 2 * (l / 2) = even_is l e in
        let not_true : has t.lits (2 * (l / 2)) ≡ false = sym (is_true-positive (λ v. has t.lits (2 * v)) (l / 2)) ∙ sym (ap (is_true (λ v. has t.lits (2 * v))) is) ∙ fails in
        elim (full.total (l / 2) (omega (arith, low, is))) [
          | inl yes_there ↦ absurd (true≢false (sym yes_there ∙ not_true))
          | inr no_there ↦ ap (has t.lits) (ap complement is ∙ complement-positive (l / 2)) ∙ no_there
        ]
    | inr e ↦
        let is : l ≡ 2 * (l / 2) + 1 = odd_is l e in
        let negated : not (has t.lits (2 * (l / 2))) ≡ false = sym (is_true-negative (λ v. has t.lits (2 * v)) (l / 2)) ∙ sym (ap (is_true (λ v. has t.lits (2 * v))) is) ∙ fails in
        ap (has t.lits) (ap complement is ∙ complement-negative (l / 2)) ∙ not_false_is (has t.lits (2 * (l / 2))) negated
  ] where
    not_false_is : (b : Bool) → not b ≡ false → b ≡ true
    not_false_is true e = refl
    not_false_is false e = sym e

  clause_holds : (c : List ℕ) → IsQuietFor t.lits c → IsBelow (2 * t.vars) c → clause_true (λ v. has t.lits (2 * v)) c ≡ true
  clause_holds c q below = elim (cases_Bool (clause_true (λ v. has t.lits (2 * v)) c)) [
    | inl holds ↦ holds
    | inr fails ↦ absurd (q.not_false (λ l is_in.
        false_there l (literal_below (2 * t.vars) c l below is_in)
        (is_false (is_true (λ v. has t.lits (2 * v)) l) (λ m. true≢false (sym (clause_true-has (λ v. has t.lits (2 * v)) c l is_in m) ∙ fails)))))
  ]

  all_hold : (clauses : List (List ℕ)) → AllByRecursion (IsQuietFor t.lits) clauses → AreBelow (2 * t.vars) clauses → Sat clauses (λ v. has t.lits (2 * v))
  all_hold [] q b = tt
  all_hold (c ∷ cs) q b = (clause_holds c q.0 b.0, all_hold cs q.1 b.1)

  assumed_holds : (g : ℕ) → has a g ≡ true → is_true (λ v. has t.lits (2 * v)) g ≡ true
  assumed_holds g is_in = elim (even_or_odd g) [
    | inl e ↦ ap (is_true (λ v. has t.lits (2 * v))) (even_is g e) ∙ is_true-positive (λ v. has t.lits (2 * v)) (g / 2) ∙ ap (has t.lits) (sym (even_is g e)) ∙ held g is_in
    | inr e ↦
        ap (is_true (λ v. has t.lits (2 * v))) (odd_is g e) ∙ is_true-negative (λ v. has t.lits (2 * v)) (g / 2)
        ∙ ap not (is_false (has t.lits (2 * (g / 2))) (λ other.
        consistent t g h (held g is_in) (ap (has t.lits) (ap complement (odd_is g e) ∙ complement-negative (g / 2)) ∙ other)))
  ]

  pub begins_of : (k : Derivation) (codes : ℕ) (x : List Bool) → t.clauses ≡ k.clauses → AreBelow (2 * t.vars) k.clauses → length x ≡ codes → ((i : ℕ) → i < codes → has_code x i ≡ has t.lits (2 * i)) → Begins (given_of k) a codes x
  begins_of k codes x attached below counted is = record {
    assignment = λ v. has t.lits (2 * v);
    satisfied = all_take (λ c. clause_true (λ v. has t.lits (2 * v)) c ≡ true) k.given k.clauses
        (all_hold k.clauses (subst (AllByRecursion (IsQuietFor t.lits)) attached full.quiet.each) below);
    assumed = assumed_holds;
    counted = counted;
    begins = λ i low. sym (is i low);
  }

-- the value that was read
pub value_is : (lits : List ℕ) (l : ℕ) (o : Option Bool) (b : Bool) → o ≡ value_over lits l → b ≡ option_eq beq o (Some true) → b ≡ has lits l
value_is lits l o b is e = e ∙ ap (λ (v : Option Bool). option_eq beq v (Some true)) is ∙ cases (has lits l) (has lits (complement l)) where
  cases : (p q : Bool) → option_eq beq (cond p (Some true) (cond q (Some false) None)) (Some true) ≡ p
  cases true q = refl
  cases false true = refl
  cases false false = refl

-- the first so many codes of a set are those that are true
pub record AreCodes (lits : List ℕ) (x : List Bool) (codes n : ℕ) : Type 0 where
  pub counted : length x ≡ codes
  pub is : (i : ℕ) → i < n → has_code x i ≡ has lits (2 * i)
  pub rest : (i : ℕ) → n ≤ i → has_code x i ≡ false

pub codes_none : (lits : List ℕ) (x : List Bool) (codes : ℕ) → x ≡ replicate codes false → AreCodes lits x codes 0
codes_none lits x codes e = record {
  counted = ap length e ∙ length-replicate codes false;
  is = λ i low. absurd (omega (arith, low));
  rest = λ i low. ap (λ (y : List Bool). has_code y i) e ∙ none codes i;
} where
  none : (n i : ℕ) → get_or (replicate n false) i false ≡ false
  none zero i = refl
  none (suc n) zero = refl
  none (suc n) (suc i) = none n i

pub codes_skip : (lits : List ℕ) (x : List Bool) (codes n : ℕ) (b : Bool) → AreCodes lits x codes n → b ≡ has lits (2 * n) → b ≡ false → AreCodes lits x codes (n + 1)
codes_skip lits x codes n b a read e = record {
  counted = a.counted;
  is = λ i low. elim (cases_eq i n) [
    | inl same ↦ a.rest i (omega (arith, same)) ∙ sym e ∙ read ∙ sym (ap (λ (k : ℕ). has lits (2 * k)) same)
    | inr other ↦ a.is i (omega (arith, low, other))
  ];
  rest = λ i low. a.rest i (omega (arith, low));
}

pub codes_more : (lits : List ℕ) (x : List Bool) (codes n : ℕ) (b : Bool) → n < codes → AreCodes lits x codes n → b ≡ has lits (2 * n) → b ≡ true → AreCodes lits (set x n true) codes (n + 1)
codes_more lits x codes n b within a read e = let counted = a.counted in record {
  counted = length-set x n true ∙ a.counted;
  is = λ i low. elim (cases_eq i n) [
    | inl same ↦ ap (has_code (set x n true)) same ∙ get_or-set_same x n true false (omega (arith, within, counted)) ∙ sym e ∙ read ∙ sym (ap (λ (k : ℕ). has lits (2 * k)) same)
    | inr other ↦ get_or-set_other x n i true false other ∙ a.is i (omega (arith, low, other))
  ];
  rest = λ i low. get_or-set_other x n i true false (λ same. absurd (omega (arith, same, low))) ∙ a.rest i (omega (arith, low));
}

-- one more clause of the list from a place on
pub drop_more : (first at : ℕ) (xs : List (List ℕ)) → first ≤ at → at < length xs → drop first (take (at + 1) xs) ≡ drop first (take at xs) ++ get_or xs at [] ∷ []
drop_more first at xs low within =
    ap (drop first) (take_more xs at [] within) ∙ drop-append-le first (take at xs) (get_or xs at [] ∷ []) (omega (arith, low, length-take-le at xs (omega (arith, within))))

pub clauses_more : (first at : ℕ) (xs old new : List (List ℕ)) (c : List ℕ) → first ≤ at → at < length xs → old ≡ drop first (take at xs) → c ≡ get_or xs at [] → IsRising c → new ≡ old ++ clause_of c ∷ [] → new ≡ drop first (take (at + 1) xs)
clauses_more first at xs old new c low within is read rising added =
    added ∙ ap (λ (d : List ℕ). old ++ d ∷ []) (clause_of-rising c rising ∙ read) ∙ ap (λ (cs : List (List ℕ)). cs ++ get_or xs at [] ∷ []) is ∙ sym (drop_more first at xs low within)

module _ {X : Type 0} (P : X → Type 0) where
  pub all_append : (xs ys : List X) → AllByRecursion P xs → AllByRecursion P ys → AllByRecursion P (xs ++ ys)
  all_append [] ys a b = b
  all_append (x ∷ xs) ys a b = (a.0, all_append xs ys a.1 b)

  pub all_first : (xs ys : List X) → AllByRecursion P (xs ++ ys) → AllByRecursion P xs
  all_first [] ys a = tt
  all_first (x ∷ xs) ys a = (a.0, all_first xs ys a.1)

  pub all_second : (xs ys : List X) → AllByRecursion P (xs ++ ys) → AllByRecursion P ys
  all_second [] ys a = a
  all_second (x ∷ xs) ys a = all_second xs ys a.1

split_take : (first k : ℕ) (xs : List (List ℕ)) → first ≤ length xs → take (first + k) xs ≡ take first xs ++ take k (drop first xs)
split_take first k xs low =
    sym (take-append-drop first (take (first + k) xs))
    ∙ ap (λ (ys : List (List ℕ)). ys ++ drop first (take (first + k) xs)) (take-take first (first + k) xs (omega arith))
    ∙ ap (λ (ys : List (List ℕ)). take first xs ++ ys) (drop-take first k xs)

-- what is new over more clauses is new over some of them
new_to_fewer : (a : List ℕ) (n first k : ℕ) (clauses : List (List ℕ)) (c : List ℕ) → n ≤ first → first ≤ length clauses → IsNew (take (first + k) clauses) a c → IsNew (take n clauses ++ take k (drop first clauses)) a c
new_to_fewer a n first k clauses c low within h = record {
  quiet_set = h.quiet_set;
  open_literal = h.open_literal;
  is_in = h.is_in;
  quiet = record {
    consistent = h.quiet.consistent;
    each =
        let all = subst (AllByRecursion (IsQuietFor h.quiet_set)) (split_take first k clauses within) h.quiet.each in
        all_append (IsQuietFor h.quiet_set) (take n clauses) (take k (drop first clauses))
        (subst (AllByRecursion (IsQuietFor h.quiet_set)) (take-take n first clauses low) (all_take (IsQuietFor h.quiet_set) n (take first clauses) (all_first (IsQuietFor h.quiet_set) (take first clauses) (take k (drop first clauses)) all)))
        (all_second (IsQuietFor h.quiet_set) (take first clauses) (take k (drop first clauses)) all);
  };
  assumed = h.assumed;
  others_false = h.others_false;
  not_true = h.not_true;
  not_false = h.not_false;
}

pub spent_of : (k : Derivation) (vars : ℕ) (a : List ℕ) (budget first : ℕ) (learnt : List (List ℕ)) → AllFollow k → AreBelow (2 * vars) k.clauses → k.given ≤ first → length k.clauses ≡ first + budget
    → AllNew a first k.clauses → learnt ≡ drop first k.clauses → IsSpent vars (given_of k) a budget learnt
spent_of k vars a budget first learnt follow below given count fresh is = subst (IsSpent vars (given_of k) a budget) (sym is) (record {
  count = let l = length-drop first k.clauses in omega (arith, l, count);
  below = all_second (IsBelow (2 * vars)) (take first k.clauses) (drop first k.clauses) (subst (AreBelow (2 * vars)) (sym (take-append-drop first k.clauses)) below);
  each = λ n low.
      let here : get_or (drop first k.clauses) n [] ≡ get_or k.clauses (first + n) [] = get_or-drop first k.clauses n [] in
      record {
        follows = Follows-more (given_of k) (take n (drop first k.clauses)) (get_or (drop first k.clauses) n [])
            (subst (Follows (given_of k)) (sym here) (all_at (Follows (given_of k)) k.clauses [] (first + n) follow (omega (arith, count, low))));
        is_new = subst (IsNew (given_of k ++ take n (drop first k.clauses)) a) (sym here)
            (new_to_fewer a k.given first n k.clauses (get_or k.clauses (first + n) []) given (omega (arith, count)) (fresh (first + n) (omega arith) (omega (arith, count, low))));
      };
})

pub drop_none : (first : ℕ) (xs : List (List ℕ)) → drop first (take first xs) ≡ []
drop_none first xs = ap (λ (n : ℕ). drop first (take n xs)) (let e : first ≡ first + 0 = omega arith in e) ∙ drop-take first 0 xs

pub drop_all : (first at : ℕ) (xs : List (List ℕ)) → length xs ≤ at → drop first (take at xs) ≡ drop first xs
drop_all first at xs low = ap (drop first) (take_all at xs low)
