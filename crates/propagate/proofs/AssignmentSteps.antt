-- What becomes of an assignment and its tables at each step.
use Rattle.std.proofs.Common.{◌≡◌, inl, inr, ℕ, zero, suc, ◌+◌, ◌/◌, ◌<◌, ◌≤◌, true, false, List, [], ◌∷◌, ◌++◌, append-nil, Option, Some, None, length, map, take, drop, get_or, eqb, refl, sym, subst, ◌∙◌, ap, arith, length-append}
use Rattle.std.specs.List.{IsDistinct, list_any, slice_set, AllByRecursion}
use Rattle.std.proofs.lemmas.Bool.{cases_eq, false≢true, true≢false, cond-true, cond-false, eqb-false, ne_eqb}
use Rattle.std.proofs.lemmas.Cmp.{nat_eq_equiv}
use Rattle.std.proofs.Math.ListN.{replicate, length-replicate, get_or-append, get_or-eq_default}
use Rattle.std.proofs.lemmas.List.{map-append, get_or-set_same, get_or-set_other, length-set, length-take-le, get_or-take, take_all}
use Rattle.std.proofs.Math.Seq.{get_or-append_seam, take-suc}
use Rattle.std.proofs.lemmas.Map.Keys.{IsDistinct-push}
use Rattle.clause_pool.specs.Literal.{complement}
use Rattle.clause_pool.specs.Clause.{has}
use Rattle.clause_pool.proofs.LiteralLaws.{complement-half, complement-complement, complement-other}
use Rattle.propagate.specs.Assignment.{Assigned, IsAssigned, AreTables, AreFirst, OpensBehind, with_literal, with_level, first_literals, value_over, known}
use Rattle.propagate.specs.declared.assignment.Truth.{Truth}
use Rattle.propagate.specs.declared.assignment.Truth.TheVariants.{Open, Holds, Fails}
use Rattle.propagate.proofs.AssignmentLaws.{few_literals, complement-within, open_variable, variable_open, half_at, has_push, push_has, push_here, push_other}

pub put_is_assigned : (a : Assigned) (l : ℕ) (r : Option ℕ) → IsAssigned a → l < a.vars + a.vars → has a.lits l ≡ false → has a.lits (complement l) ≡ false → IsAssigned (with_literal a l r)
put_is_assigned a l r h below not_true not_false = record {
  apart = rw map-append (IsDistinct-push nat_eq_equiv (map (λ x. x / 2) a.lits) (l / 2) h.apart (open_variable a.lits l not_true not_false));
  consistent = λ x is_in not_in. elim (has_push a.lits l x is_in) [
    | inl before ↦ elim (has_push a.lits l (complement x) not_in) [
      | inl too ↦ h.consistent x before too
      | inr e ↦ true≢false (sym before ∙ ap (has a.lits) (sym (complement-complement x) ∙ ap complement (sym e)) ∙ not_false)
    ]
    | inr e ↦ elim (has_push a.lits l (complement x) not_in) [
      | inl too ↦ true≢false (sym too ∙ ap (λ (n : ℕ). has a.lits (complement n)) (sym e) ∙ not_false)
      | inr too ↦ complement-other x (sym too ∙ e)
    ]
  ];
  below = λ x is_in. elim (has_push a.lits l x is_in) [
    | inl before ↦ h.below x before
    | inr e ↦ omega (arith, e, below)
  ];
  few_levels = h.few_levels;
  rising = h.rising;
  within = λ i b. let before = h.within i b in omega (arith, before, length-append a.lits (l ∷ []));
  reasons_counted = let same = h.reasons_counted in omega (arith, same, length-append a.lits (l ∷ []), length-append a.reasons (r ∷ []));
}

-- what a literal is, where one more is true
value_here : (lits : List ℕ) (l : ℕ) → value_over (lits ++ l ∷ []) l ≡ Some true
value_here lits l = cond-true _ _ _ (push_here lits l)

value_complement : (lits : List ℕ) (l : ℕ) → has lits (complement l) ≡ false → value_over (lits ++ l ∷ []) (complement l) ≡ Some false
value_complement lits l not_false =
    cond-false _ _ _ (push_other lits l (complement l) (complement-other l) ∙ not_false)
    ∙ cond-true _ _ _ (ap (has (lits ++ l ∷ [])) (complement-complement l) ∙ push_here lits l)

value_other : (lits : List ℕ) (l x : ℕ) → (x ≡ l → ⊥) → (x ≡ complement l → ⊥) → value_over (lits ++ l ∷ []) x ≡ value_over lits x
value_other lits l x other apart =
    let first : has (lits ++ l ∷ []) x ≡ has lits x = push_other lits l x other in
    let second : has (lits ++ l ∷ []) (complement x) ≡ has lits (complement x) = push_other lits l (complement x) (λ e. apart (sym (complement-complement x) ∙ ap complement e)) in
    rw (first, second) refl

value_open : (lits : List ℕ) (x : ℕ) → has lits x ≡ false → has lits (complement x) ≡ false → value_over lits x ≡ None
value_open lits x not_true not_false = cond-false _ _ _ not_true ∙ cond-false _ _ _ not_false

set_two_same : (values : List Truth) (i j : ℕ) (x y : Truth) → (i ≡ j → ⊥) → i < length values → get_or (slice_set (slice_set values i x) j y) i Open ≡ x
set_two_same values i j x y apart within = get_or-set_other (slice_set values i x) j i y Open apart ∙ get_or-set_same values i x Open within

set_two_last : (values : List Truth) (i j : ℕ) (x y : Truth) → j < length values → get_or (slice_set (slice_set values i x) j y) j Open ≡ y
set_two_last values i j x y within = get_or-set_same (slice_set values i x) j y Open (omega (arith, within, length-set values i x))

set_two_other : (values : List Truth) (i j k : ℕ) (x y : Truth) → (k ≡ i → ⊥) → (k ≡ j → ⊥) → get_or (slice_set (slice_set values i x) j y) k Open ≡ get_or values k Open
set_two_other values i j k x y first second = get_or-set_other (slice_set values i x) j k y Open second ∙ get_or-set_other values i k x Open first

pub put_tables : (values : List Truth) (places : List ℕ) (a : Assigned) (l : ℕ) (r : Option ℕ) → AreTables values places a → l < a.vars + a.vars → has a.lits l ≡ false → has a.lits (complement l) ≡ false
    → AreTables (slice_set (slice_set values l Holds) (complement l) Fails) (slice_set places (l / 2) (length a.lits)) (with_literal a l r)
put_tables values places a l r h below not_true not_false =
    let counted = h.values_counted in
    let placed = h.places_counted in
    let within : l < length values = omega (arith, counted, below) in
    let also : complement l < length values = omega (arith, counted, complement-within l a.vars below) in
    record {
      values_counted = length-set (slice_set values l Holds) (complement l) Fails ∙ length-set values l Holds ∙ counted;
      places_counted = length-set places (l / 2) (length a.lits) ∙ placed;
      value_is = λ x b. elim (cases_eq x l) [
        | inl e ↦ subst (λ (n : ℕ). known (get_or (slice_set (slice_set values l Holds) (complement l) Fails) n Open) ≡ value_over (a.lits ++ l ∷ []) n) (sym e)
            (ap known (set_two_same values l (complement l) Holds Fails (λ e. complement-other l (sym e)) within) ∙ sym (value_here a.lits l))
        | inr other ↦ elim (cases_eq x (complement l)) [
          | inl e ↦ subst (λ (n : ℕ). known (get_or (slice_set (slice_set values l Holds) (complement l) Fails) n Open) ≡ value_over (a.lits ++ l ∷ []) n) (sym e)
              (ap known (set_two_last values l (complement l) Holds Fails also) ∙ sym (value_complement a.lits l not_false))
          | inr apart ↦ ap known (set_two_other values l (complement l) x Holds Fails other apart) ∙ h.value_is x b ∙ sym (value_other a.lits l x other apart)
        ]
      ];
      place_is = λ k b. elim (cases_eq k (length a.lits)) [
        | inl e ↦ subst (λ (n : ℕ). get_or (slice_set places (l / 2) (length a.lits)) (get_or (a.lits ++ l ∷ []) n 0 / 2) 0 ≡ n) (sym e)
            (rw (get_or-append_seam a.lits l [] 0) (get_or-set_same places (l / 2) (length a.lits) 0 (omega (arith, placed, below))))
        | inr other ↦
            let before : k < length a.lits = omega (arith, b, other, length-append a.lits (l ∷ [])) in
            rw (get_or-append a.lits (l ∷ []) 0 k before)
            (get_or-set_other places (l / 2) (get_or a.lits k 0 / 2) (length a.lits) 0 (half_at a.lits (l / 2) k (open_variable a.lits l not_true not_false) before) ∙ h.place_is k before)
      ];
    }

-- the last literal of a list without repeats
distinct_push : (xs : List ℕ) (y : ℕ) → IsDistinct eqb (xs ++ y ∷ []) → (IsDistinct eqb xs) × (list_any (eqb y) xs ≡ false)
unfolding IsDistinct
distinct_push [] y d = (tt, refl)
distinct_push (x ∷ xs) y d =
    let rest = distinct_push xs y d.1 in
    let here : eqb x y ≡ false = all_last xs d.0 in
    ((all_front xs d.0, rest.0), rw (eqb_swap x y here) rest.1)
  where
    all_last : (zs : List ℕ) → AllByRecursion (λ z. eqb x z ≡ false) (zs ++ y ∷ []) → eqb x y ≡ false
    all_last [] h = h.0
    all_last (z ∷ zs) h = all_last zs h.1

    all_front : (zs : List ℕ) → AllByRecursion (λ z. eqb x z ≡ false) (zs ++ y ∷ []) → AllByRecursion (λ z. eqb x z ≡ false) zs
    all_front [] h = tt
    all_front (z ∷ zs) h = (h.0, all_front zs h.1)

    eqb_swap : (n m : ℕ) → eqb n m ≡ false → eqb m n ≡ false
    eqb_swap n m e = ne_eqb m n (λ same. eqb-false n m e (sym same))

-- the last literal is taken back
last_variable : (vars : ℕ) (lits all : List ℕ) (more : List (Option ℕ)) (starts : List ℕ) (l : ℕ) → all ≡ lits ++ l ∷ []
    → IsAssigned (record { vars = vars; lits = all; reasons = more; starts = starts }) → (IsDistinct eqb (map (λ x. x / 2) lits)) × (list_any (eqb (l / 2)) (map (λ x. x / 2) lits) ≡ false)
last_variable vars lits all more starts l is h =
    distinct_push (map (λ x. x / 2) lits) (l / 2) (subst (λ (xs : List ℕ). IsDistinct eqb xs) (ap (map (λ (x : ℕ). x / 2)) is ∙ map-append (λ (x : ℕ). x / 2) lits (l ∷ [])) h.apart)

pub popped_assigned : (vars : ℕ) (lits all : List ℕ) (reasons more : List (Option ℕ)) (starts : List ℕ) (l : ℕ) → all ≡ lits ++ l ∷ [] → length reasons ≡ length lits
    → IsAssigned (record { vars = vars; lits = all; reasons = more; starts = starts }) → ((i : ℕ) → i < length starts → get_or starts i 0 ≤ length lits)
    → IsAssigned (record { vars = vars; lits = lits; reasons = reasons; starts = starts })
popped_assigned vars lits all reasons more starts l is counted h within =
    let all_has = λ (x : ℕ) (is_in : has lits x ≡ true). subst (λ (xs : List ℕ). has xs x ≡ true) (sym is) (push_has lits l x is_in) in
    record {
      apart = (last_variable vars lits all more starts l is h).0;
      consistent = λ x is_in not_in. h.consistent x (all_has x is_in) (all_has (complement x) not_in);
      below = λ x is_in. h.below x (all_has x is_in);
      few_levels = h.few_levels;
      rising = h.rising;
      within = within;
      reasons_counted = counted;
    }

pub popped_tables : (values : List Truth) (places : List ℕ) (vars : ℕ) (lits all : List ℕ) (reasons more : List (Option ℕ)) (starts : List ℕ) (l : ℕ) → all ≡ lits ++ l ∷ []
    → IsAssigned (record { vars = vars; lits = all; reasons = more; starts = starts }) → AreTables values places (record { vars = vars; lits = all; reasons = more; starts = starts })
    → AreTables (slice_set (slice_set values l Open) (complement l) Open) places (record { vars = vars; lits = lits; reasons = reasons; starts = starts })
popped_tables values places vars lits all reasons more starts l is a h =
    let none = (last_variable vars lits all more starts l is a).1 in
    let last : has all l ≡ true = subst (λ (xs : List ℕ). has xs l ≡ true) (sym is) (push_here lits l) in
    let below : l < vars + vars = let b = a.below l last in omega (arith, b) in
    let counted = h.values_counted in
    let within : l < length values = omega (arith, counted, below) in
    let also : complement l < length values = omega (arith, counted, complement-within l vars below) in
    record {
      values_counted = length-set (slice_set values l Open) (complement l) Open ∙ length-set values l Open ∙ counted;
      places_counted = h.places_counted;
      value_is = λ x b. elim (cases_eq x l) [
        | inl e ↦ subst (λ (n : ℕ). known (get_or (slice_set (slice_set values l Open) (complement l) Open) n Open) ≡ value_over lits n) (sym e)
            (ap known (set_two_same values l (complement l) Open Open (λ e. complement-other l (sym e)) within)
            ∙ sym (value_open lits l (variable_open lits l l none refl) (variable_open lits l (complement l) none (complement-half l))))
        | inr other ↦ elim (cases_eq x (complement l)) [
          | inl e ↦ subst (λ (n : ℕ). known (get_or (slice_set (slice_set values l Open) (complement l) Open) n Open) ≡ value_over lits n) (sym e)
              (ap known (set_two_last values l (complement l) Open Open also)
              ∙ sym (value_open lits (complement l) (variable_open lits l (complement l) none (complement-half l))
              (variable_open lits l (complement (complement l)) none (complement-half (complement l) ∙ complement-half l))))
          | inr apart ↦ ap known (set_two_other values l (complement l) x Open Open other apart) ∙ h.value_is x b ∙ ap (λ (xs : List ℕ). value_over xs x) is ∙ value_other lits l x other apart
        ]
      ];
      place_is = λ k b.
          let in_all : k < length all = omega (arith, b, ap length is, length-append lits (l ∷ [])) in
          let same : get_or all k 0 ≡ get_or lits k 0 = ap (λ (xs : List ℕ). get_or xs k 0) is ∙ get_or-append lits (l ∷ []) 0 k b in
          subst (λ (n : ℕ). get_or places (n / 2) 0 ≡ k) same (h.place_is k in_all);
    }

-- a level more, and fewer levels
pub level_is_assigned : (a : Assigned) → IsAssigned a → length a.starts < a.vars → IsAssigned (with_level a)
level_is_assigned a h room = record {
  apart = h.apart;
  consistent = h.consistent;
  below = h.below;
  few_levels = omega (arith, room, length-append a.starts (length a.lits ∷ []));
  rising = λ i j between b. elim (cases_eq j (length a.starts)) [
    | inl last ↦ subst (λ (n : ℕ). get_or (a.starts ++ length a.lits ∷ []) i 0 ≤ get_or (a.starts ++ length a.lits ∷ []) n 0) (sym last)
        (rw (get_or-append_seam a.starts (length a.lits) [] 0) (starts_within i (omega (arith, between, b))))
    | inr other ↦
        let before : j < length a.starts = omega (arith, b, other, length-append a.starts (length a.lits ∷ [])) in
        let first : get_or (a.starts ++ length a.lits ∷ []) i 0 ≡ get_or a.starts i 0 = get_or-append a.starts (length a.lits ∷ []) 0 i (omega (arith, before, between)) in
        let second : get_or (a.starts ++ length a.lits ∷ []) j 0 ≡ get_or a.starts j 0 = get_or-append a.starts (length a.lits ∷ []) 0 j before in
        let r = h.rising i j between before in omega (arith, first, second, r)
  ];
  within = starts_within;
  reasons_counted = h.reasons_counted;
} where
  starts_within : (i : ℕ) → i < length (a.starts ++ length a.lits ∷ []) → get_or (a.starts ++ length a.lits ∷ []) i 0 ≤ length a.lits
  starts_within i b = elim (cases_eq i (length a.starts)) [
    | inl last ↦ let e : get_or (a.starts ++ length a.lits ∷ []) i 0 ≡ length a.lits = ap (λ (n : ℕ). get_or (a.starts ++ length a.lits ∷ []) n 0) last ∙ get_or-append_seam a.starts (length a.lits) [] 0 in omega (arith, e)
    | inr other ↦
        let before : i < length a.starts = omega (arith, b, other, length-append a.starts (length a.lits ∷ [])) in
        let w = h.within i before in
        omega (arith, w, get_or-append a.starts (length a.lits ∷ []) 0 i before)
  ]

pub other_levels_tables : (values : List Truth) (places : List ℕ) (a : Assigned) (starts : List ℕ) → AreTables values places a → AreTables values places (record { vars = a.vars; lits = a.lits; reasons = a.reasons; starts = starts })
other_levels_tables values places a starts h = record { values_counted = h.values_counted; places_counted = h.places_counted; value_is = h.value_is; place_is = h.place_is }

pub fewer_levels_assigned : (a : Assigned) (n : ℕ) → IsAssigned a → n ≤ length a.starts → IsAssigned (record { vars = a.vars; lits = a.lits; reasons = a.reasons; starts = take n a.starts })
fewer_levels_assigned a n h within =
    let few = h.few_levels in
    record {
      apart = h.apart;
      consistent = h.consistent;
      below = h.below;
      few_levels = omega (arith, few, length-take-le n a.starts within);
      rising = λ i j between b.
          let before : j < n = omega (arith, b, length-take-le n a.starts within) in
          let r = h.rising i j between (omega (arith, before, within)) in
          omega (arith, r, get_or-take n a.starts i 0 (omega (arith, before, between)), get_or-take n a.starts j 0 before);
      within = λ i b.
          let before : i < n = omega (arith, b, length-take-le n a.starts within) in
          let w = h.within i (omega (arith, before, within)) in
          omega (arith, w, get_or-take n a.starts i 0 before);
      reasons_counted = h.reasons_counted;
    }

-- the levels that are kept end before the cut
pub kept_within : (a : Assigned) (n i : ℕ) → IsAssigned a → n ≤ length a.starts → i < n → get_or a.starts i 0 ≤ get_or a.starts n (length a.lits)
kept_within a n i h within before = elim (cases_eq n (length a.starts)) [
  | inl last ↦
      let w = h.within i (omega (arith, before, within)) in
      let past : get_or a.starts n (length a.lits) ≡ length a.lits = get_or-eq_default a.starts (length a.lits) (omega (arith, last)) in
      omega (arith, w, past)
  | inr other ↦
      let r = h.rising i n (omega (arith, before)) (omega (arith, within, other)) in
      let same : get_or a.starts n (length a.lits) ≡ get_or a.starts n 0 = get_or_any_default a.starts n (length a.lits) (omega (arith, within, other)) in
      omega (arith, r, same)
] where
  get_or_any_default : (xs : List ℕ) (n d : ℕ) → n < length xs → get_or xs n d ≡ get_or xs n 0
  get_or_any_default [] n d b = absurd (omega arith)
  get_or_any_default (x ∷ xs) zero d b = refl
  get_or_any_default (x ∷ xs) (suc n) d b = get_or_any_default xs n d (omega (arith, b))

-- there is room for a literal that is open
pub room_for_one : (a : Assigned) (l : ℕ) → IsAssigned a → l < a.vars + a.vars → has a.lits l ≡ false → has a.lits (complement l) ≡ false → length a.lits < a.vars
room_for_one a l h below not_true not_false =
    let few = few_literals (with_literal a l None) (put_is_assigned a l None h below not_true not_false) in
    omega (arith, few, length-append a.lits (l ∷ []))

-- the same of values that are known by equations
pub put_assigned_by : (a : Assigned) (vars : ℕ) (lits : List ℕ) (reasons : List (Option ℕ)) (l : ℕ) (r : Option ℕ) → vars ≡ a.vars → lits ≡ a.lits ++ l ∷ [] → reasons ≡ a.reasons ++ r ∷ []
    → IsAssigned a → l < a.vars + a.vars → has a.lits l ≡ false → has a.lits (complement l) ≡ false → IsAssigned (record { vars = vars; lits = lits; reasons = reasons; starts = a.starts })
put_assigned_by a vars lits reasons l r ev el er h below not_true not_false = rw (ev, el, er) (put_is_assigned a l r h below not_true not_false)

pub put_tables_by : (values : List Truth) (places : List ℕ) (a : Assigned) (i j q n vars : ℕ) (lits : List ℕ) (reasons : List (Option ℕ)) (l : ℕ) (r : Option ℕ) → i ≡ l → j ≡ complement l → q ≡ l / 2 → n ≡ length a.lits
    → vars ≡ a.vars → lits ≡ a.lits ++ l ∷ [] → reasons ≡ a.reasons ++ r ∷ []
    → AreTables values places a → l < a.vars + a.vars → has a.lits l ≡ false → has a.lits (complement l) ≡ false
    → AreTables (slice_set (slice_set values i Holds) j Fails) (slice_set places q n) (record { vars = vars; lits = lits; reasons = reasons; starts = a.starts })
put_tables_by values places a i j q n vars lits reasons l r ei ej eq en ev el er h below not_true not_false =
    rw (ei, ej, eq, en, ev, el, er) (put_tables values places a l r h below not_true not_false)

pub popped_tables_by : (values : List Truth) (places : List ℕ) (vars : ℕ) (lits all : List ℕ) (reasons more : List (Option ℕ)) (starts : List ℕ) (l i j : ℕ) → i ≡ l → j ≡ complement l → all ≡ lits ++ l ∷ []
    → IsAssigned (record { vars = vars; lits = all; reasons = more; starts = starts }) → AreTables values places (record { vars = vars; lits = all; reasons = more; starts = starts })
    → AreTables (slice_set (slice_set values i Open) j Open) places (record { vars = vars; lits = lits; reasons = reasons; starts = starts })
popped_tables_by values places vars lits all reasons more starts l i j ei ej is a h =
    rw (ei, ej) (popped_tables values places vars lits all reasons more starts l is a h)

-- nothing is true at the start
pub none_is_assigned : (vars : ℕ) → IsAssigned (record { vars = vars; lits = []; reasons = []; starts = [] })
unfolding IsDistinct
none_is_assigned vars = record {
  apart = tt;
  consistent = λ l h k. false≢true h;
  below = λ l h. absurd (false≢true h);
  few_levels = omega arith;
  rising = λ i j b h. absurd (omega (arith, h));
  within = λ i h. absurd (omega (arith, h));
  reasons_counted = refl;
}

pub none_tables : (values : List Truth) (places : List ℕ) (vars : ℕ) → length values ≡ vars + vars → length places ≡ vars → ((k : ℕ) (d : Truth) → k < length values → get_or values k d ≡ Open) → AreTables values places (record { vars = vars; lits = []; reasons = []; starts = [] })
none_tables values places vars counted placed each = record {
  values_counted = counted;
  places_counted = placed;
  value_is = λ l b. ap known (each l Open (omega (arith, b, counted)));
  place_is = λ k h. absurd (omega (arith, h));
}

-- what was taken from the end
pub read_of_replicate : (values : List Truth) (n k : ℕ) (d : Truth) → values ≡ replicate n Open → k < length values → get_or values k d ≡ Open
read_of_replicate values n k d is within = rw is (go n k (omega (arith, within, ap length is, length-replicate {A = Truth} n Open))) where
  go : (n k : ℕ) → k < n → get_or (replicate n Open) k d ≡ Open
  go zero k h = absurd (omega arith)
  go (suc n) zero h = refl
  go (suc n) (suc k) h = go n k (omega (arith, h))

pub all_literals : (a : Assigned) → length a.reasons ≡ length a.lits → a ≡ first_literals a (length a.lits)
all_literals a counted = rw (take_all (length a.lits) a.lits (omega arith), take_all (length a.lits) a.reasons (omega (arith, counted))) refl

pub end_within : (a : Assigned) (n : ℕ) → IsAssigned a → n ≤ length a.starts → get_or a.starts n (length a.lits) ≤ length a.lits
end_within a n h within = elim (cases_eq n (length a.starts)) [
  | inl last ↦
      let past : get_or a.starts n (length a.lits) ≡ length a.lits = get_or-eq_default a.starts (length a.lits) (omega (arith, last)) in
      omega (arith, past)
  | inr other ↦
      let w = h.within n (omega (arith, within, other)) in
      let same : get_or a.starts n (length a.lits) ≡ get_or a.starts n 0 = default_zero a.starts n (length a.lits) (omega (arith, within, other)) in
      omega (arith, w, same)
] where
  default_zero : (xs : List ℕ) (n d : ℕ) → n < length xs → get_or xs n d ≡ get_or xs n 0
  default_zero [] n d b = absurd (omega arith)
  default_zero (x ∷ xs) zero d b = refl
  default_zero (x ∷ xs) (suc n) d b = default_zero xs n d (omega (arith, b))

pub cut_within : (a : Assigned) (n i : ℕ) → IsAssigned a → n ≤ length a.starts → i < length (take n a.starts) → get_or (take n a.starts) i 0 ≤ get_or a.starts n (length a.lits)
cut_within a n i h within b =
    let before : i < n = omega (arith, b, length-take-le n a.starts within) in
    let k = kept_within a n i h within before in
    omega (arith, k, get_or-take n a.starts i 0 before)

-- the tables are opened from the last literal on
pub open_all : (old : List Truth) (lits : List ℕ) (end : ℕ) → OpensBehind old old lits end (length lits)
open_all old lits end places a is assigned tables starts =
    let same : a ≡ first_literals a (length lits) = all_literals a assigned.reasons_counted ∙ ap (λ (xs : List ℕ). first_literals a (length xs)) is in
    record { assigned = subst (λ (b : Assigned). IsAssigned b) same assigned; tables = subst (λ (b : Assigned). AreTables old places b) same tables }

pub open_step : (old values : List Truth) (lits : List ℕ) (end m n l i j : ℕ) → OpensBehind old values lits end m → m ≡ suc n → m ≤ length lits → end ≤ n → i ≡ l → j ≡ complement l → l ≡ get_or lits n l
    → OpensBehind old (slice_set (slice_set values i Open) j Open) lits end n
open_step old values lits end m n l i j opens e within low ei ej read places a is assigned tables starts =
    let f = subst (λ (k : ℕ). AreFirst values places a k) e (opens places a is assigned tables starts) in
    let inside : n < length a.lits = omega (arith, e, within, ap length is) in
    let here : get_or a.lits n l ≡ l = ap (λ (xs : List ℕ). get_or xs n l) is ∙ sym read in
    let split : take (suc n) a.lits ≡ take n a.lits ++ l ∷ [] = take-suc a.lits n l inside ∙ ap (λ (x : ℕ). take n a.lits ++ x ∷ []) here in
    let same = assigned.reasons_counted in
    let lits_counted : length (take n a.lits) ≡ n = length-take-le n a.lits (omega (arith, inside)) in
    let counted : length (take n a.reasons) ≡ length (take n a.lits) = length-take-le n a.reasons (omega (arith, inside, same)) ∙ sym lits_counted in
    record {
      assigned = popped_assigned a.vars (take n a.lits) (take (suc n) a.lits) (take n a.reasons) (take (suc n) a.reasons) a.starts l split counted f.assigned
          (λ k b. let w = starts k b in omega (arith, w, low, lits_counted));
      tables = popped_tables_by values places a.vars (take n a.lits) (take (suc n) a.lits) (take n a.reasons) (take (suc n) a.reasons) a.starts l i j ei ej split f.assigned f.tables;
    }

pub first_by : (vars n : ℕ) (lits all : List ℕ) (reasons more : List (Option ℕ)) (starts : List ℕ) → lits ≡ take n all → reasons ≡ take n more
    → first_literals (record { vars = vars; lits = all; reasons = more; starts = starts }) n ≡ record { vars = vars; lits = lits; reasons = reasons; starts = starts }
first_by vars n lits all reasons more starts first second = rw (first, second) refl

-- a slice that was lent is written back whole
pub written_back : (new old : List Truth) (n : ℕ) → n ≡ length old → length new ≡ length old → take n (new ++ drop (length new) old) ≡ new
written_back new old n all same =
    ap (λ (xs : List Truth). take n (new ++ xs)) (drop_past (length new) old (omega (arith, same)))
    ∙ ap (take n) (append-nil new)
    ∙ take_all n new (omega (arith, all, same))
  where
    drop_past : (k : ℕ) (xs : List Truth) → length xs ≤ k → drop k xs ≡ []
    drop_past zero [] h = refl
    drop_past (suc k) [] h = refl
    drop_past zero (x ∷ xs) h = absurd (omega (arith, h))
    drop_past (suc k) (x ∷ xs) h = drop_past k xs (omega (arith, h))
