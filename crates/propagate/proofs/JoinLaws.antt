-- What is held where a clause is attached.
use Rattle.std.proofs.Common.{◌≡◌, inl, inr, ℕ, ◌+◌, ◌-◌, ◌^◌, ◌<◌, ◌≤◌, true, false, List, [], ◌∷◌, ◌++◌, Option, Some, None, length, map, take, get_or, eqb, refl, sym, subst, ◌∙◌, ap, arith, length-append}
use Rattle.std.proofs.lemmas.Bool.{cases_eq, cases_order, true≢false, false≢true, or_cases, eqb-true, cases_Bool}
use Rattle.std.proofs.lemmas.List.{take-take, take_all, take-append-le}
use Rattle.std.proofs.Math.ListN.{get_or-append, get_or-eq_default}
use Rattle.std.proofs.Math.Seq.{get_or-append_seam}
use Rattle.clause_pool.specs.Literal.{complement}
use Rattle.clause_pool.specs.Clause.{has}
use Rattle.propagate.specs.Trail.{IsReason, OthersFalse, IsTrail, AllFalse}
use Rattle.propagate.specs.Assignment.{Assigned, end_of, IsAssigned}
use Rattle.propagate.specs.Watching.{HasTrue, Watching, Visits, head_of, clause_at, pair_of, IsListed, IsVisited, IsWatched, IsHeld, AreHeld, IsVisiting, Grown, AreReasons, IsPairIn}
use Rattle.propagate.specs.Watching.IsHeld.{fixed, paired}
use Rattle.propagate.specs.Attaching.{Attached}
use Rattle.propagate.specs.declared.watch.Watched.{Watched}
use Rattle.propagate.specs.Visiting.{Scene, scene}
use Rattle.propagate.specs.Joining.{Joined, trail_of}
use Rattle.propagate.proofs.KeepLaws.{held_more, open_visited, visiting_grown, same_default, end_grown, has_at}
use Rattle.propagate.proofs.QuietLaws.{has_take}
use Rattle.propagate.proofs.EngineLaws.{ends_rise, decided_grown}
use Rattle.propagate.specs.Running.{IsEngine}
use Rattle.propagate.specs.Quiet.{IsConsistent}
use Rattle.propagate.specs.Engine.{IsOpenAbove}

module _ (w x : Watching) (c : List ℕ) (pair : Watched) (h : Attached w x c pair) where
  clause_before : (k : ℕ) → k < length w.clauses → clause_at x.clauses k ≡ clause_at w.clauses k
  clause_before k low = ap (λ (cs : List (List ℕ)). clause_at cs k) h.clauses ∙ get_or-append w.clauses (c ∷ []) [] k low

  pub clause_here : clause_at x.clauses (length w.clauses) ≡ c
  clause_here = ap (λ (cs : List (List ℕ)). clause_at cs (length w.clauses)) h.clauses ∙ get_or-append_seam w.clauses c [] []

  watched_before : (a : Assigned) (v : Visits) (k code : ℕ) → k < length w.clauses → IsWatched a v w k code → IsWatched a v x k code
  watched_before a v k code low q = record {
    is_in = subst (λ (xs : List ℕ). has xs code ≡ true) (sym (clause_before k low)) q.is_in;
    listed = h.listed code k q.listed;
    visited = subst (λ (xs : List ℕ). IsVisited a v xs code) (sym (clause_before k low)) q.visited;
  }

  -- the clauses before are held as they were
  pub held_before : (a : Assigned) (v : Visits) (k : ℕ) → k < length w.clauses → IsHeld a v w k → IsHeld a v x k
  held_before a v k low (fixed t) = fixed (subst (λ (xs : List ℕ). HasTrue (take (end_of a 0) a.lits) xs) (sym (clause_before k low)) t)
  held_before a v k low (paired p) = paired (record {
    apart = subst (λ (q : Watched). q.first ≡ q.second → ⊥) (sym (h.pairs k low)) p.apart;
    first = subst (λ (q : Watched). IsWatched a v x k q.first) (sym (h.pairs k low)) (watched_before a v k (pair_of w k).first low p.first);
    second = subst (λ (q : Watched). IsWatched a v x k q.second) (sym (h.pairs k low)) (watched_before a v k (pair_of w k).second low p.second);
  })

  -- reasons stay reasons
  pub reasons_before : (a : Assigned) → AreReasons w.clauses a → AreReasons x.clauses a
  reasons_before a r k at low is =
      let q = r k at low is in
      let b : at < length w.clauses = q.attached in
      record {
        attached = let n = ap length h.clauses in omega (arith, b, n, length-append w.clauses (c ∷ []));
        is_in = subst (λ (xs : List ℕ). has xs (get_or a.lits k 0) ≡ true) (sym (clause_before at b)) q.is_in;
        others_false = subst (λ (xs : List ℕ). (l : ℕ) → has xs l ≡ true → (l ≡ get_or a.lits k 0 → ⊥) → has (take k a.lits) (complement l) ≡ true) (sym (clause_before at b)) q.others_false;
      }

  -- a further clause that watches two literals that were visited as they should
  pub held_here : (a : Assigned) (v : Visits) → IsPairIn c pair → IsListed x pair.first (length w.clauses) → IsListed x pair.second (length w.clauses)
      → IsVisited a v c pair.first → IsVisited a v c pair.second → IsHeld a v x (length w.clauses)
  held_here a v two first second seen_first seen_second = paired (record {
    apart = subst (λ (q : Watched). q.first ≡ q.second → ⊥) (sym h.watches) two.apart;
    first = subst (λ (q : Watched). IsWatched a v x (length w.clauses) q.first) (sym h.watches) (record {
      is_in = subst (λ (xs : List ℕ). has xs pair.first ≡ true) (sym clause_here) two.first_in;
      listed = first;
      visited = subst (λ (xs : List ℕ). IsVisited a v xs pair.first) (sym clause_here) seen_first;
    });
    second = subst (λ (q : Watched). IsWatched a v x (length w.clauses) q.second) (sym h.watches) (record {
      is_in = subst (λ (xs : List ℕ). has xs pair.second ≡ true) (sym clause_here) two.second_in;
      listed = second;
      visited = subst (λ (xs : List ℕ). IsVisited a v xs pair.second) (sym clause_here) seen_second;
    });
  })

  -- a further clause with a literal that is true for good
  pub fixed_here : (a : Assigned) (v : Visits) → HasTrue (take (end_of a 0) a.lits) c → IsHeld a v x (length w.clauses)
  fixed_here a v t = fixed (subst (λ (xs : List ℕ). HasTrue (take (end_of a 0) a.lits) xs) (sym clause_here) t)

-- what isn't among the first so many isn't among fewer
none_earlier : (n m : ℕ) (xs : List ℕ) (l : ℕ) → n ≤ m → has (take m xs) l ≡ false → has (take n xs) l ≡ false
none_earlier n m xs l less h = elim (cases_Bool (has (take n xs) l)) [
  | inl found ↦ absurd (true≢false (sym (has_take n (take m xs) l (subst (λ (ys : List ℕ). has ys l ≡ true) (sym (take-take n m xs less)) found)) ∙ h))
  | inr none ↦ none
]

-- a literal that became false at the current level alone, of a clause that is true
pub late_visited : (a : Assigned) (v : Visits) (c : List ℕ) (code : ℕ) → IsVisiting a v → ((m : ℕ) → m < length a.starts → has (take (end_of a m) a.lits) (complement code) ≡ false) → HasTrue a.lits c → IsVisited a v c code
late_visited a v c code visiting late holds n within is_false = elim (cases_order n (length a.starts)) [
  | inl e ↦
      let end : end_of a n ≡ length a.lits = get_or-eq_default a.starts (length a.lits) (omega (arith, e)) in
      subst (λ (xs : List ℕ). HasTrue xs c) (sym (take_all (end_of a n) a.lits (omega (arith, end)))) holds
  | inr o ↦ elim o [
    | inl before ↦
        let w = visiting.within n within in
        absurd (true≢false (sym is_false ∙ none_earlier (head_of v n) (end_of a n) a.lits (complement code) w (late n before)))
    | inr after ↦ absurd (omega (arith, after, within))
  ]
]

pub joined : (a b : Assigned) (w x : Watching) (c : List ℕ) (pair : Watched) → Attached w x c pair → Grown a b → (AreReasons x.clauses a → AreReasons x.clauses b) → Joined (scene a w) (scene b x) c
joined a b w x c pair h g reasoned = record {
  grown = g;
  clauses = h.clauses;
  same_count = h.same_count;
  reasoned = λ r. reasoned (reasons_before w x c pair h a r);
  before = λ v k visiting held low.
      subst (λ (z : Assigned). IsHeld z v x k) (sym g.is) (held_more a g.more (a.reasons ++ map Some g.why) v x k visiting (held_before w x c pair h a v k low (held k low)));
}

-- the further clause is a reason for the one of its literals that isn't false
pub reason_here : (a : Assigned) (w x : Watching) (c : List ℕ) (pair : Watched) (l k : ℕ) → Attached w x c pair → k ≡ length w.clauses → has c l ≡ true → OthersFalse a.lits c l → IsReason x.clauses a.lits l k
reason_here a w x c pair l k h at is_in others =
    let here : clause_at x.clauses k ≡ c = ap (λ (n : ℕ). clause_at x.clauses n) at ∙ clause_here w x c pair h in
    record {
      attached = omega (arith, at, ap length h.clauses, length-append w.clauses (c ∷ []));
      is_in = subst (λ (xs : List ℕ). has xs l ≡ true) (sym here) is_in;
      others_false = subst (λ (xs : List ℕ). OthersFalse a.lits xs l) (sym here) others;
    }

-- a clause that watches two literals, none of which is false
pub held_open : (a : Assigned) (v : Visits) (w x : Watching) (c : List ℕ) (pair : Watched) → Attached w x c pair → IsPairIn c pair → IsListed x pair.first (length w.clauses) → IsListed x pair.second (length w.clauses)
    → has a.lits (complement pair.first) ≡ false → has a.lits (complement pair.second) ≡ false → IsHeld a v x (length w.clauses)
held_open a v w x c pair h two first second first_open second_open =
    held_here w x c pair h a v two first second (open_visited a v c pair.first first_open) (open_visited a v c pair.second second_open)

-- a literal that wasn't false before the current level isn't so where literals are added
late_grown : (a b : Assigned) (l m : ℕ) → IsAssigned a → Grown a b → has (take (end_of a (length a.starts - 1)) a.lits) l ≡ false → m < length b.starts → has (take (end_of b m) b.lits) l ≡ false
late_grown a b l m assigned g late below =
    subst (λ (z : Assigned). m < length z.starts → has (take (end_of z m) z.lits) l ≡ false) (sym g.is) grown_late below
  where
    grown_late : m < length a.starts → has (take (get_or a.starts m (length (a.lits ++ g.more))) (a.lits ++ g.more)) l ≡ false
    grown_late low =
        let end : get_or a.starts m (length (a.lits ++ g.more)) ≡ end_of a m = same_default a.starts m (length (a.lits ++ g.more)) (length a.lits) low in
        let last = ends_rise a (length a.starts - 1) m assigned (omega arith) (omega (arith, low)) in
        let within : end_of a m ≤ length a.lits = let i = assigned.within m low in let same = same_default a.starts m (length a.lits) 0 low in omega (arith, i, same) in
        let same : take (get_or a.starts m (length (a.lits ++ g.more))) (a.lits ++ g.more) ≡ take (end_of a m) a.lits =
        ap (λ (n : ℕ). take n (a.lits ++ g.more)) end ∙ take-append-le (end_of a m) a.lits g.more within in
        subst (λ (xs : List ℕ). has xs l ≡ false) (sym same) (none_earlier (end_of a m) (end_of a (length a.starts - 1)) a.lits l last late)

-- a clause that watches its one true literal and one that became false at the current level
pub held_late : (a b : Assigned) (v : Visits) (w x : Watching) (c : List ℕ) (pair : Watched) (end : ℕ) → end ≡ end_of a (length a.starts - 1) → Attached w x c pair → IsPairIn c pair → IsListed x pair.first (length w.clauses) → IsListed x pair.second (length w.clauses)
    → IsAssigned a → Grown a b → IsConsistent b.lits → has b.lits pair.first ≡ true → has (take end a.lits) (complement pair.second) ≡ false → IsVisiting a v → IsHeld b v x (length w.clauses)
held_late a b v w x c pair end at h two first second assigned g consistent is_true late visiting =
    held_here w x c pair h b v two first second (open_visited b v c pair.first not_false)
    (late_visited b v c pair.second (visiting_grown a b v g visiting) (λ m low. late_grown a b (complement pair.second) m assigned g (subst (λ (n : ℕ). has (take n a.lits) (complement pair.second) ≡ false) at late) low) (pair.first, two.first_in, is_true))
  where
    not_false : has b.lits (complement pair.first) ≡ false
    not_false = elim (cases_Bool (has b.lits (complement pair.first))) [
      | inl found ↦ absurd (consistent pair.first is_true found)
      | inr none ↦ none
    ]

-- where no level is open, what is true is so for good
pub held_fixed : (a b : Assigned) (v : Visits) (w x : Watching) (c : List ℕ) (pair : Watched) (l : ℕ) → Attached w x c pair → Grown a b → length a.starts ≡ 0 → has c l ≡ true → has b.lits l ≡ true → IsHeld b v x (length w.clauses)
held_fixed a b v w x c pair l h g none is_in is_true =
    fixed_here w x c pair h b v (subst (λ (xs : List ℕ). HasTrue xs c) (sym all) (l, is_in, is_true))
  where
    starts : length b.starts ≡ 0
    starts = ap (λ (z : Assigned). length z.starts) g.is ∙ none

    end : end_of b 0 ≡ length b.lits
    end = get_or-eq_default b.starts (length b.lits) (omega (arith, starts))

    all : take (end_of b 0) b.lits ≡ b.lits
    all = take_all (end_of b 0) b.lits (omega (arith, end))

-- a clause may be attached above level 0 only where it isn't false but for one literal before the current level
pub no_level : (a : Assigned) (w : Watching) (c : List ℕ) (first end : ℕ) → end ≡ end_of a (length a.starts - 1) → (0 < length a.starts → IsOpenAbove (trail_of (scene a w)) c) → OthersFalse a.lits c first
    → ((l : ℕ) → has c l ≡ true → (l ≡ first → ⊥) → has (take end a.lits) (complement l) ≡ true) → length a.starts ≡ 0
no_level a w c first end at allowed others late = elim (cases_order 0 (length a.starts)) [
  | inl e ↦ sym e
  | inr o ↦ elim o [
    | inr less ↦ absurd (omega (arith, less))
    | inl some ↦
        let o = allowed some in
        elim (cases_eq o.first first) [
          | inr other ↦ absurd (o.first_open (others o.first o.first_in other))
          | inl same ↦ absurd (o.second_late (subst (λ (n : ℕ). has (take n a.lits) (complement o.second) ≡ true) at (late o.second o.second_in (λ e. o.apart (same ∙ sym e)))))
        ]
  ]
]

-- a clause that is false when it is attached is so for good
pub false_for_good : (a : Assigned) (w : Watching) (c : List ℕ) → (0 < length a.starts → IsOpenAbove (trail_of (scene a w)) c) → AllFalse a.lits c → AllFalse (take (end_of a 0) a.lits) c
false_for_good a w c allowed all = elim (cases_order 0 (length a.starts)) [
  | inl e ↦
      let end : end_of a 0 ≡ length a.lits = get_or-eq_default a.starts (length a.lits) (omega (arith, e)) in
      subst (λ (xs : List ℕ). AllFalse xs c) (sym (take_all (end_of a 0) a.lits (omega (arith, end)))) all
  | inr o ↦ elim o [
    | inr less ↦ absurd (omega (arith, less))
    | inl some ↦ let o = allowed some in absurd (o.first_open (all o.first o.first_in))
  ]
]

-- false literals stay false for good
pub false_grown : (a b : Assigned) (c : List ℕ) → Grown a b → end_of a 0 ≤ length a.lits → AllFalse (take (end_of a 0) a.lits) c → AllFalse (take (end_of b 0) b.lits) c
false_grown a b c g ends all = subst (λ (z : Assigned). AllFalse (take (end_of z 0) z.lits) c) (sym g.is) (λ l is_in.
    let h : HasTrue (take (end_of a 0) a.lits) (complement l ∷ []) = (complement l, one_itself (complement l), all l is_in) in
    let found = end_grown a g.more (complement l ∷ []) 0 (omega arith) ends h in
    subst (λ (n : ℕ). has (take (get_or a.starts 0 (length (a.lits ++ g.more))) (a.lits ++ g.more)) n ≡ true) (one_is (complement l) found.0 found.1) found.2)
  where
    one_itself : (n : ℕ) → has (n ∷ []) n ≡ true
    one_itself n = has_at (n ∷ []) 0 n (omega arith) refl

    one_is : (n m : ℕ) → has (n ∷ []) m ≡ true → m ≡ n
    one_is n m h = elim (or_cases (eqb n m) false h) [ inl same ↦ sym (eqb-true n m same) | inr none ↦ absurd (false≢true none) ]

module _ (s t : Scene) (c : List ℕ) (v : Visits) (refuted : Option ℕ) (j : Joined s t c) (counted : length s.assigned.reasons ≡ length s.assigned.lits) (h : IsEngine s v refuted) (below : (l : ℕ) → has c l ≡ true → l < length s.watching.lists) (room : length s.watching.clauses < 2 ^ 32) where
  joined_vars : t.assigned.vars ≡ s.assigned.vars
  joined_vars = ap (λ (z : Assigned). z.vars) j.grown.is

  joined_codes : length t.watching.lists ≡ t.assigned.vars + t.assigned.vars
  joined_codes = let codes = h.codes in let same = j.same_count in omega (arith, codes, same, joined_vars)

  joined_small : t.assigned.vars < 2 ^ 31
  joined_small = let b = h.small in omega (arith, b, joined_vars)

  joined_few : length t.watching.clauses ≤ 2 ^ 32
  joined_few = omega (arith, room, ap length j.clauses, length-append s.watching.clauses (c ∷ []))

  joined_below : (k l : ℕ) → has (clause_at t.watching.clauses k) l ≡ true → l < length t.watching.lists
  joined_below k l is_in =
      let same = j.same_count in
      let here = subst (λ (cs : List (List ℕ)). has (clause_at cs k) l ≡ true) j.clauses is_in in
      elim (cases_order k (length s.watching.clauses)) [
        | inl e ↦ let b = below l (subst (λ (xs : List ℕ). has xs l ≡ true) (ap (λ (n : ℕ). clause_at (s.watching.clauses ++ c ∷ []) n) e ∙ get_or-append_seam s.watching.clauses c [] []) here) in omega (arith, b, same)
        | inr o ↦ elim o [
          | inl before ↦ let b = h.below k l (subst (λ (xs : List ℕ). has xs l ≡ true) (get_or-append s.watching.clauses (c ∷ []) [] k before) here) in omega (arith, b, same)
          | inr after ↦ absurd (false≢true (subst (λ (xs : List ℕ). has xs l ≡ true) (get_or-eq_default (s.watching.clauses ++ c ∷ []) [] (omega (arith, after, length-append s.watching.clauses (c ∷ [])))) here))
        ]
      ]

  joined_held : IsHeld t.assigned v t.watching (length s.watching.clauses) → refuted ≡ None → AreHeld t.assigned v t.watching
  joined_held here none k low = elim (cases_eq k (length s.watching.clauses)) [
    | inl e ↦ subst (λ (n : ℕ). IsHeld t.assigned v t.watching n) (sym e) here
    | inr other ↦ j.before v k h.visiting (h.held none) (let n = ap length j.clauses in omega (arith, low, other, n, length-append s.watching.clauses (c ∷ [])))
  ]

  joined_false : (k : ℕ) → k < length s.watching.clauses → AllFalse (take (end_of s.assigned 0) s.assigned.lits) (clause_at s.watching.clauses k) → AllFalse (take (end_of t.assigned 0) t.assigned.lits) (clause_at t.watching.clauses k)
  joined_false k low all =
      let same : clause_at t.watching.clauses k ≡ clause_at s.watching.clauses k = ap (λ (cs : List (List ℕ)). clause_at cs k) j.clauses ∙ get_or-append s.watching.clauses (c ∷ []) [] k low in
      subst (λ (xs : List ℕ). AllFalse (take (end_of t.assigned 0) t.assigned.lits) xs) (sym same) (false_grown s.assigned t.assigned (clause_at s.watching.clauses k) j.grown (h.visiting.ends 0 (omega arith)) all)

  pub joined_trail : IsAssigned t.assigned → IsTrail (trail_of t)
  joined_trail a = record {
    apart = a.apart;
    below = a.below;
    few_levels = a.few_levels;
    clauses_below = λ at l is_in. let b = joined_below at l is_in in omega (arith, b, joined_codes);
    rising = a.rising;
    within = a.within;
    reasons_counted = a.reasons_counted;
    reasoned = j.reasoned h.reasoned;
    decided = decided_grown s.assigned t.assigned j.grown counted h.decided;
  }

  -- one more clause, which is held
  pub engine_joined : IsHeld t.assigned v t.watching (length s.watching.clauses) → IsEngine t v refuted
  engine_joined here = record {
    codes = joined_codes;
    small = joined_small;
    few = joined_few;
    below = joined_below;
    reasoned = j.reasoned h.reasoned;
    decided = decided_grown s.assigned t.assigned j.grown counted h.decided;
    visiting = visiting_grown s.assigned t.assigned v j.grown h.visiting;
    held = joined_held here;
    is_attached = λ k e. let b = h.is_attached k e in let n = ap length j.clauses in omega (arith, b, n, length-append s.watching.clauses (c ∷ []));
    is_false = λ k e. joined_false k (h.is_attached k e) (h.is_false k e);
  }

  -- one more clause, which is false for good
  pub engine_refuted : (k : ℕ) → k ≡ length s.watching.clauses → AllFalse (take (end_of t.assigned 0) t.assigned.lits) c → IsEngine t v (Some k)
  engine_refuted k at all = record {
    codes = joined_codes;
    small = joined_small;
    few = joined_few;
    below = joined_below;
    reasoned = j.reasoned h.reasoned;
    decided = decided_grown s.assigned t.assigned j.grown counted h.decided;
    visiting = visiting_grown s.assigned t.assigned v j.grown h.visiting;
    held = λ e. absurd (some_none k e);
    is_attached = λ i e. let n = ap length j.clauses in let same = some_same k i e in omega (arith, at, same, n, length-append s.watching.clauses (c ∷ []));
    is_false = λ i e.
        let here : clause_at t.watching.clauses i ≡ c = ap (λ (n : ℕ). clause_at t.watching.clauses n) (sym (some_same k i e) ∙ at) ∙ ap (λ (cs : List (List ℕ)). clause_at cs (length s.watching.clauses)) j.clauses ∙ get_or-append_seam s.watching.clauses c [] [] in
        subst (λ (xs : List ℕ). AllFalse (take (end_of t.assigned 0) t.assigned.lits) xs) (sym here) all;
  } where
    some_none : (n : ℕ) → Some n ≡ None → ⊥
    some_none n e = cc

    some_same : (n m : ℕ) → Some n ≡ Some m → n ≡ m
    some_same n m e = cc

-- the same where the lists were laid out before
pub joined_over : (a : Assigned) (v w : Watching) (t : Scene) (c : List ℕ) → v ≡ w → Joined (scene a v) t c → Joined (scene a w) t c
joined_over a v w t c e j = subst (λ (x : Watching). Joined (scene a x) t c) e j

pub held_over : (a : Assigned) (h : Visits) (x v w : Watching) → v ≡ w → IsHeld a h x (length v.clauses) → IsHeld a h x (length w.clauses)
held_over a h x v w e held = subst (λ (u : Watching). IsHeld a h x (length u.clauses)) e held
