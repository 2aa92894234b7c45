-- The firing order has each active rule, by rank and then by record, and what comes first in it of the rules that fire fires first.
use Rattle.std.proofs.Common.{◌≡◌, ◌⊎◌, ℕ, zero, suc, ◌+◌, ◌<◌, ◌≤◌, Bool, true, false, not, ◌&&◌, nat_le, List, [], ◌∷◌, Option, Some, None, length, get_or, refl, sym, ap, subst, ◌∙◌, inl, inr, arith}
use Rattle.std.specs.List.{slice_get, AllByRecursion}
use Rattle.std.specs.Option.{option_map_or}
use Rattle.std.proofs.lemmas.Bool.{and_parts, and_from, cases_Bool, cond-true, cond-false, leb-true, leb-false, false≢true, false_from_ne_true}
use Rattle.std.proofs.lemmas.List.Elements.{All-from_recursion}
use Rattle.std.proofs.lemmas.Option.{slice_get-get_or, slice_get_within, get_or_from_slice_get}
use Rattle.pb_base.specs.Rule.{holds}
use Rattle.pb_base.specs.Sets.{has}
use Rattle.book_model.specs.Activity.{is_within}
use Rattle.book_model.specs.Contents.{Contents}
use Rattle.book_model.specs.Good.{fires}
use Rattle.book_model.specs.declared.record.Supplement.{Supplement}
use Rattle.supplement.specs.Completion.{first_firing}
use Rattle.supplement.proofs.FirstFiring.{ComesFirst, first_firing-none}
use Rattle.firing_sequence.specs.Sequence.{rank_at, put_by_rank, order_from, firing_order, zip_all}

abbrev pub Among : ℕ → List ℕ → Type 0
Among k [] = ⊥
Among k (p ∷ ps) = (k ≡ p) ⊎ Among k ps

pub all_among : (P : ℕ → Type 0) (ps : List ℕ) → AllByRecursion P ps → (k : ℕ) → Among k ps → P k
all_among P [] all k h = absurd h
all_among P (p ∷ ps) all k (inl same) = subst P (sym same) all.0
all_among P (p ∷ ps) all k (inr later) = all_among P ps all.1 k later

-- the rule p comes before q, by rank and then by record
abbrev pub Precedes : List Supplement → ℕ → ℕ → Type 0
Precedes rules p q = (q < p → rank_at rules p < rank_at rules q) × (rank_at rules p ≤ rank_at rules q)

abbrev pub IsSorted : List Supplement → List ℕ → Type 0
IsSorted rules [] = Unit {0}
IsSorted rules (p ∷ ps) = AllByRecursion (Precedes rules p) ps × IsSorted rules ps

abbrev pub is_on : List Supplement → ℕ → ℕ → Bool
is_on rules day p = option_map_or (λ s. is_within s.from s.until day) (slice_get rules p) false

-- the rule would fire if it were active
abbrev pub matches : List Supplement → List Bool → ℕ → Bool
matches rules x p = option_map_or (λ s. holds s.rule x && not (has x s.code)) (slice_get rules p) false

-- ---- a rule that is put into its place

module _ (rules : List Supplement) (i : ℕ) where
  all_put : (P : ℕ → Type 0) (order : List ℕ) → P i → AllByRecursion P order → AllByRecursion P (put_by_rank rules i order)
  all_put P [] here all = (here, tt)
  all_put P (q ∷ order) here all = elim (cases_Bool (nat_le (rank_at rules q) (rank_at rules i))) [
    | inl low ↦
        subst (AllByRecursion P) (sym (cond-true (nat_le (rank_at rules q) (rank_at rules i)) (q ∷ put_by_rank rules i order) (i ∷ q ∷ order) low)) (all.0, all_put P order here all.1)
    | inr high ↦
        subst (AllByRecursion P) (sym (cond-false (nat_le (rank_at rules q) (rank_at rules i)) (q ∷ put_by_rank rules i order) (i ∷ q ∷ order) high)) (here, all)
  ]

  put_itself : (order : List ℕ) → Among i (put_by_rank rules i order)
  put_itself [] = inl refl
  put_itself (q ∷ order) = elim (cases_Bool (nat_le (rank_at rules q) (rank_at rules i))) [
    | inl low ↦
        subst (Among i) (sym (cond-true (nat_le (rank_at rules q) (rank_at rules i)) (q ∷ put_by_rank rules i order) (i ∷ q ∷ order) low)) (inr (put_itself order))
    | inr high ↦ subst (Among i) (sym (cond-false (nat_le (rank_at rules q) (rank_at rules i)) (q ∷ put_by_rank rules i order) (i ∷ q ∷ order) high)) (inl refl)
  ]

  behind_head : (k q : ℕ) (ps qs : List ℕ) → (Among k ps → Among k qs) → Among k (q ∷ ps) → Among k (q ∷ qs)
  behind_head k q ps qs more (inl same) = inl same
  behind_head k q ps qs more (inr later) = inr (more later)

  put_others : (k : ℕ) (order : List ℕ) → Among k order → Among k (put_by_rank rules i order)
  put_others k [] h = absurd h
  put_others k (q ∷ order) h = elim (cases_Bool (nat_le (rank_at rules q) (rank_at rules i))) [
    | inl low ↦
        subst (Among k) (sym (cond-true (nat_le (rank_at rules q) (rank_at rules i)) (q ∷ put_by_rank rules i order) (i ∷ q ∷ order) low))
        (behind_head k q order (put_by_rank rules i order) (put_others k order) h)
    | inr high ↦ subst (Among k) (sym (cond-false (nat_le (rank_at rules q) (rank_at rules i)) (q ∷ put_by_rank rules i order) (i ∷ q ∷ order) high)) (inr h)
  ]

  before_all : (q : ℕ) → rank_at rules i < rank_at rules q → (order : List ℕ) → AllByRecursion (Precedes rules q) order → AllByRecursion (Precedes rules i) order
  before_all q less [] h = tt
  before_all q less (r ∷ order) h =
      let high : rank_at rules q ≤ rank_at rules r = h.0.1 in
      (((λ before. omega (arith, less, high)), omega (arith, less, high)), before_all q less order h.1)

  sorted_put : (order : List ℕ) → AllByRecursion (λ q. q < i) order → IsSorted rules order → IsSorted rules (put_by_rank rules i order)
  sorted_put [] below sorted = (tt, tt)
  sorted_put (q ∷ order) below sorted = elim (cases_Bool (nat_le (rank_at rules q) (rank_at rules i))) [
    | inl low ↦
        let least : rank_at rules q ≤ rank_at rules i = leb-true (rank_at rules q) (rank_at rules i) low in
        let earlier : q < i = below.0 in
        subst (IsSorted rules) (sym (cond-true (nat_le (rank_at rules q) (rank_at rules i)) (q ∷ put_by_rank rules i order) (i ∷ q ∷ order) low))
        (all_put (Precedes rules q) order ((λ before. absurd (omega (arith, before, earlier))), least) sorted.0, sorted_put order below.1 sorted.1)
    | inr high ↦
        let less : rank_at rules i < rank_at rules q = leb-false (rank_at rules q) (rank_at rules i) high in
        subst (IsSorted rules) (sym (cond-false (nat_le (rank_at rules q) (rank_at rules i)) (q ∷ put_by_rank rules i order) (i ∷ q ∷ order) high))
        ((((λ before. less), omega (arith, less)), before_all q less order sorted.0), sorted)
  ]

-- ---- the whole order

-- of the rules before the place i
pub record IsOrder (rules : List Supplement) (day i : ℕ) (order : List ℕ) : Type 0 where
  pub sorted : IsSorted rules order
  pub below : AllByRecursion (λ p. p < i) order
  pub on : AllByRecursion (λ p. is_on rules day p ≡ true) order
  pub each : (k : ℕ) → k < i → is_on rules day k ≡ true → Among k order

le_cases : (k i : ℕ) → k < suc i → (k < i) ⊎ (k ≡ i)
le_cases zero zero low = inr refl
le_cases zero (suc i) low = inl (omega arith)
le_cases (suc k) zero low = absurd (omega (arith, low))
le_cases (suc k) (suc i) low = elim (le_cases k i (omega (arith, low))) [
  | inl less ↦ inl (omega (arith, less))
  | inr same ↦ inr (ap suc same)
]

still_below : (i : ℕ) (order : List ℕ) → AllByRecursion (λ p. p < i) order → AllByRecursion (λ p. p < i + 1) order
still_below i [] h = tt
still_below i (p ∷ order) h = let low : p < i = h.0 in (omega (arith, low), still_below i order h.1)

module _ (rules : List Supplement) (day i : ℕ) (order : List ℕ) (so_far : IsOrder rules day i order) where
  step_on : is_on rules day i ≡ true → IsOrder rules day (i + 1) (put_by_rank rules i order)
  step_on active = record {
    sorted = sorted_put rules i order so_far.below so_far.sorted;
    below = all_put rules i (λ p. p < i + 1) order (omega arith) (still_below i order so_far.below);
    on = all_put rules i (λ p. is_on rules day p ≡ true) order active so_far.on;
    each = λ k low on. elim (le_cases k i (omega (arith, low))) [
      | inl less ↦ put_others rules i k order (so_far.each k less on)
      | inr same ↦ subst (λ j. Among j (put_by_rank rules i order)) (sym same) (put_itself rules i order)
    ];
  }

  step_off : is_on rules day i ≡ false → IsOrder rules day (i + 1) order
  step_off off = record {
    sorted = so_far.sorted;
    below = still_below i order so_far.below;
    on = so_far.on;
    each = λ k low on. elim (le_cases k i (omega (arith, low))) [
      | inl less ↦ so_far.each k less on
      | inr same ↦ absurd (false≢true (sym off ∙ ap (is_on rules day) (sym same) ∙ on))
    ];
  }

order_is : (rules : List Supplement) (day : ℕ) (ss : List Supplement) (i : ℕ) (order : List ℕ) → ((k : ℕ) → slice_get ss k ≡ slice_get rules (i + k)) → IsOrder rules day i order
    → IsOrder rules day (i + length ss) (order_from rules day i ss order)
order_is rules day [] i order same h = let e : i ≡ i + 0 = omega arith in subst (λ n. IsOrder rules day n order) e h
order_is rules day (s ∷ ss) i order same h =
    let first : i + 0 ≡ i = omega arith in
    let here : slice_get rules i ≡ Some s = sym (same 0 ∙ ap (slice_get rules) first) in
    let active : is_on rules day i ≡ is_within s.from s.until day = ap (λ o. option_map_or (λ t. is_within t.from t.until day) o false) here in
    let later : (k : ℕ) → slice_get ss k ≡ slice_get rules (i + 1 + k) = λ k. let f : i + suc k ≡ i + 1 + k = omega arith in same (suc k) ∙ ap (slice_get rules) f in
    let n : i + 1 + length ss ≡ i + suc (length ss) = omega arith in
    let with_it : List ℕ = order_from rules day (i + 1) ss (put_by_rank rules i order) in
    let without : List ℕ = order_from rules day (i + 1) ss order in
    elim (cases_Bool (is_within s.from s.until day)) [
      | inl on ↦
          subst (λ m. IsOrder rules day m (order_from rules day i (s ∷ ss) order)) n
          (subst (IsOrder rules day (i + 1 + length ss)) (sym (cond-true (is_within s.from s.until day) with_it without on))
          (order_is rules day ss (i + 1) (put_by_rank rules i order) later (step_on rules day i order h (active ∙ on))))
      | inr off ↦
          subst (λ m. IsOrder rules day m (order_from rules day i (s ∷ ss) order)) n
          (subst (IsOrder rules day (i + 1 + length ss)) (sym (cond-false (is_within s.from s.until day) with_it without off))
          (order_is rules day ss (i + 1) order later (step_off rules day i order h (active ∙ off))))
    ]

pub firing_is : (b : Contents) (day : ℕ) → IsOrder b.supplements day (length b.supplements) (firing_order b day)
firing_is b day =
    let e : 0 + length b.supplements ≡ length b.supplements = omega arith in
    subst (λ n. IsOrder b.supplements day n (firing_order b day)) e
    (order_is b.supplements day b.supplements 0 [] (λ k. let f : k ≡ 0 + k = omega arith in ap (slice_get b.supplements) f)
    (record { sorted = tt; below = tt; on = tt; each = λ k low on. absurd (omega (arith, low)) }))

-- ---- the first of an order that passes a test

pub record FirstOf (rules : List Supplement) (test : ℕ → Bool) (order : List ℕ) (p : ℕ) : Type 0 where
  pub on : test p ≡ true
  pub among : Among p order
  pub each : (k : ℕ) → Among k order → test k ≡ true → (k ≡ p) ⊎ Precedes rules p k

by_head : (rules : List Supplement) (p : ℕ) (ps : List ℕ) → AllByRecursion (Precedes rules p) ps → (k : ℕ) → Among k (p ∷ ps) → (k ≡ p) ⊎ Precedes rules p k
by_head rules p ps all k (inl same) = inl same
by_head rules p ps all k (inr later) = inr (all_among (Precedes rules p) ps all k later)

each_later : (rules : List Supplement) (test : ℕ → Bool) (q p : ℕ) (ps : List ℕ) → test q ≡ false → ((k : ℕ) → Among k ps → test k ≡ true → (k ≡ p) ⊎ Precedes rules p k)
    → (k : ℕ) → Among k (q ∷ ps) → test k ≡ true → (k ≡ p) ⊎ Precedes rules p k
each_later rules test q p ps off each k (inl same) hit = absurd (false≢true (sym off ∙ ap test (sym same) ∙ hit))
each_later rules test q p ps off each k (inr later) hit = each k later hit

first_later : (rules : List Supplement) (test : ℕ → Bool) (q p : ℕ) (ps : List ℕ) → test q ≡ false → FirstOf rules test ps p → FirstOf rules test (q ∷ ps) p
first_later rules test q p ps off h = record { on = h.on; among = inr h.among; each = each_later rules test q p ps off h.each }

-- in both of two orders, at places that are alike
pub record BothFirst (rules others : List Supplement) (alike : ℕ → ℕ → Bool) (test other_test : ℕ → Bool) (order other : List ℕ) : Type 0 where
  pub place : ℕ
  pub other_place : ℕ
  pub same : alike place other_place ≡ true
  pub first : FirstOf rules test order place
  pub second : FirstOf others other_test other other_place

module _ (rules others : List Supplement) (alike : ℕ → ℕ → Bool) (test other_test : ℕ → Bool) (tests : (p q : ℕ) → alike p q ≡ true → test p ≡ other_test q) where
  abbrev NonePass : List ℕ → List ℕ → Type 0
  NonePass order other = AllByRecursion (λ p. test p ≡ false) order × AllByRecursion (λ q. other_test q ≡ false) other

  pub first_of_both : (order other : List ℕ) → IsSorted rules order → IsSorted others other → zip_all alike order other ≡ true
      → NonePass order other ⊎ BothFirst rules others alike test other_test order other
  first_of_both [] [] sorted other_sorted zip = inl (tt, tt)
  first_of_both [] (q ∷ qs) sorted other_sorted zip = absurd (false≢true zip)
  first_of_both (p ∷ ps) [] sorted other_sorted zip = absurd (false≢true zip)
  first_of_both (p ∷ ps) (q ∷ qs) sorted other_sorted zip =
      let parts = and_parts (alike p q) (zip_all alike ps qs) zip in
      let same : test p ≡ other_test q = tests p q parts.0 in
      elim (cases_Bool (test p)) [
        | inl on ↦ inr (record {
          place = p;
          other_place = q;
          same = parts.0;
          first = record { on = on; among = inl refl; each = λ k among hit. by_head rules p ps sorted.0 k among };
          second = record { on = sym same ∙ on; among = inl refl; each = λ k among hit. by_head others q qs other_sorted.0 k among };
        })
        | inr off ↦ elim (first_of_both ps qs sorted.1 other_sorted.1 parts.1) [
          | inl none ↦ inl ((off, none.0), (sym same ∙ off, none.1))
          | inr found ↦ inr (record {
            place = found.place;
            other_place = found.other_place;
            same = found.same;
            first = first_later rules test p found.place ps off found.first;
            second = first_later others other_test q found.other_place qs (sym same ∙ off) found.second;
          })
        ]
      ]

-- ---- what fires first

pub there : {X : Type 0} (f : X → Bool) (o : Option X) → option_map_or f o false ≡ true → (x : X) × (o ≡ Some x) × (f x ≡ true)
there f None h = absurd (false≢true h)
there f (Some x) h = (x, refl, h)

module _ (rules : List Supplement) (day : ℕ) (x : List Bool) (order : List ℕ) (is : IsOrder rules day (length rules) order) where
  fires_at : (k : ℕ) (s : Supplement) → slice_get rules k ≡ Some s → fires day x s ≡ true → (Among k order) × (matches rules x k ≡ true)
  fires_at k s at hit =
      let outer = and_parts (is_within s.from s.until day && holds s.rule x) (not (has x s.code)) hit in
      let inner = and_parts (is_within s.from s.until day) (holds s.rule x) outer.0 in (
        is.each k (slice_get_within rules k s at) (ap (λ o. option_map_or (λ t. is_within t.from t.until day) o false) at ∙ inner.0),
        ap (λ o. option_map_or (λ t. holds t.rule x && not (has x t.code)) o false) at ∙ and_from (holds s.rule x) (not (has x s.code)) inner.1 outer.1,
      )

  none_on : (ss : List Supplement) → ((k : ℕ) (s : Supplement) → slice_get ss k ≡ Some s → fires day x s ≡ false) → AllByRecursion (λ s. fires day x s ≡ false) ss
  none_on [] each = tt
  none_on (s ∷ ss) each = (each 0 s refl, none_on ss (λ k t at. each (suc k) t at))

  pub no_firing : AllByRecursion (λ p. matches rules x p ≡ false) order → first_firing rules day x ≡ None
  no_firing none = first_firing-none 0 day x rules (All-from_recursion (λ s. fires day x s ≡ false) rules (none_on rules (λ k s at.
      false_from_ne_true (fires day x s) (λ hit.
      let found = fires_at k s at hit in
      false≢true (sym (all_among (λ p. matches rules x p ≡ false) order none k found.0) ∙ found.1)))))

  rank_read : (k : ℕ) (d : Supplement) → k < length rules → rank_at rules k ≡ (get_or rules k d).rank
  rank_read k d within = ap (λ o. option_map_or (λ (s : Supplement). s.rank) o 0) (slice_get-get_or rules k d within)

  pub comes_first : (p : ℕ) (d : Supplement) → FirstOf rules (matches rules x) order p → ComesFirst day x rules p d
  comes_first p d h =
      let rule = there (λ s. holds s.rule x && not (has x s.code)) (slice_get rules p) h.on in
      let within : p < length rules = slice_get_within rules p rule.0 rule.1 in
      let read : get_or rules p d ≡ rule.0 = get_or_from_slice_get rules p rule.0 d rule.1 in
      let active : is_within rule.0.from rule.0.until day ≡ true =
      sym (ap (λ o. option_map_or (λ (t : Supplement). is_within t.from t.until day) o false) rule.1) ∙ all_among (λ k. is_on rules day k ≡ true) order is.on p h.among in
      let meets = and_parts (holds rule.0.rule x) (not (has x rule.0.code)) rule.2 in
      let hits : fires day x rule.0 ≡ true =
      and_from (is_within rule.0.from rule.0.until day && holds rule.0.rule x) (not (has x rule.0.code)) (and_from (is_within rule.0.from rule.0.until day) (holds rule.0.rule x) active meets.0) meets.1 in
      record {
        within = within;
        on = ap (fires day x) read ∙ hits;
        earlier = λ q before hit.
            let inside : q < length rules = omega (arith, before, within) in
            let found = fires_at q (get_or rules q d) (slice_get-get_or rules q d inside) hit in
            elim (h.each q found.0 found.1) [
              | inl same ↦ absurd (omega (arith, before, same))
              | inr comes ↦ let less : rank_at rules p < rank_at rules q = comes.0 before in omega (arith, less, rank_read p d within, rank_read q d inside)
            ];
        later = λ q behind inside hit.
            let found = fires_at q (get_or rules q d) (slice_get-get_or rules q d inside) hit in
            elim (h.each q found.0 found.1) [
              | inl same ↦ absurd (omega (arith, behind, same))
              | inr comes ↦ let most : rank_at rules p ≤ rank_at rules q = comes.1 in omega (arith, most, rank_read p d within, rank_read q d inside)
            ];
      }
