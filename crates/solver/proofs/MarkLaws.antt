-- What holds of the marks of a clause in the making.
use Rattle.std.proofs.Common.{◌≡◌, ◌⊎◌, inl, inr, ℕ, zero, suc, ◌+◌, ◌-◌, ◌*◌, ◌/◌, ◌<◌, ◌≤◌, Bool, true, false, List, [], ◌∷◌, ◌++◌, Option, Some, None, Ok, length, take, get_or, refl, sym, subst, ◌∙◌, ap, arith}
use Rattle.std.proofs.Math.ListN.{set, length-set, replicate}
use Rattle.std.proofs.lemmas.Bool.{cases_eq, cases_Bool, cases_order, false≢true, true≢false, or_cases, or_left, or_right}
use Rattle.std.proofs.lemmas.List.{get_or-set_same, get_or-set_other, take_more, take_all}
use Rattle.std.proofs.lemmas.Option.{slice_get-get_or}
use Rattle.std.specs.List.{filter, slice_get}
use Rattle.clause_pool.specs.Literal.{complement}
use Rattle.clause_pool.specs.Clause.{has, without, clause_of}
use Rattle.clause_pool.specs.Chain.{chain, resolved, step_on, started}
use Rattle.clause_pool.specs.Marks.{marked, AreTouched}
use Rattle.clause_pool.specs.declared.chain.Pair.{Pair}
use Rattle.clause_pool.proofs.LiteralLaws.{complement-complement, complement-other, complement-below}
use Rattle.clause_pool.proofs.ClauseLaws.{has-without_other, has-without_same, all_found}
use Rattle.clause_pool.proofs.ChainLaws.{chain-push, chain_rises, step_on-resolved, has-resolved}
use Rattle.clause_pool.proofs.MarkLaws.{clause_marked_is}
use Rattle.propagate.specs.Trail.{Trail, IsTrail}
use Rattle.propagate.specs.Quiet.{Quiet, IsQuietFor}
use Rattle.propagate.proofs.QuietLaws.{has_take}
use Rattle.propagate.proofs.AssignmentLaws.{has_push, push_has, push_here}
use Rattle.propagate.proofs.KeepLaws.{same_default, has_at}
use Rattle.solver.specs.Marks.{AreClear, IsChain, AreFalse, AreFalseBut, AreFalseUnless, IsMarked, IsUnmarked, IsResolved, false_at, IsResolvedAt, IsTop, NoneMarked, start_of, IsUip, IsResolving}
use Rattle.solver.specs.declared.resolution.Resolution.{Resolution}
use Rattle.solver.proofs.TrailLaws.{placed_in, has_placed, has_longer, same_place, consistent}

pub same_truth : (a b : Bool) → (a ≡ true → b ≡ true) → (b ≡ true → a ≡ true) → a ≡ b
same_truth true b f g = sym (f refl)
same_truth false true f g = g refl
same_truth false false f g = refl

pub is_false : (b : Bool) → (b ≡ true → ⊥) → b ≡ false
is_false true f = absurd (f refl)
is_false false f = refl

here : (marks : List Bool) (x l : ℕ) (b : Bool) → l ≡ x → x < length marks → marked (set marks x b) l ≡ b
here marks x l b e low = ap (marked (set marks x b)) e ∙ get_or-set_same marks x b false low

elsewhere : (marks : List Bool) (x l : ℕ) (b : Bool) → (l ≡ x → ⊥) → marked (set marks x b) l ≡ marked marks l
elsewhere marks x l b other = get_or-set_other marks x l b false other

pub marked_none : (marks : List Bool) → IsMarked marks marks []
marked_none marks = record { counted = refl; kept = λ l m. m; taken = λ l h. absurd (false≢true h); origin = λ l m. inl m }

pub unmarked_none : (marks : List Bool) → IsUnmarked marks marks []
unmarked_none marks = record { counted = refl; kept = λ l h. refl; gone = λ l h. absurd (false≢true h) }

pub marked_one : (old new : List Bool) (c : List ℕ) (x : ℕ) → IsMarked old new c → x < length new → IsMarked old (set new x true) (c ++ x ∷ [])
marked_one old new c x h low = record {
  counted = length-set new x true ∙ h.counted;
  kept = λ l m. elim (cases_eq l x) [
    | inl e ↦ here new x l true e low
    | inr other ↦ elsewhere new x l true other ∙ h.kept l m
  ];
  taken = λ l is_in. elim (cases_eq l x) [
    | inl e ↦ here new x l true e low
    | inr other ↦ elsewhere new x l true other ∙ elim (has_push c x l is_in) [ inl before ↦ h.taken l before | inr last ↦ absurd (other (sym last)) ]
  ];
  origin = λ l m. elim (cases_eq l x) [
    | inl e ↦ inr (subst (λ (k : ℕ). has (c ++ x ∷ []) k ≡ true) (sym e) (push_here c x))
    | inr other ↦ elim (h.origin l (sym (elsewhere new x l true other) ∙ m)) [ inl before ↦ inl before | inr is_in ↦ inr (push_has c x l is_in) ]
  ];
}

pub unmarked_one : (old new : List Bool) (c : List ℕ) (x : ℕ) → IsUnmarked old new c → x < length new → IsUnmarked old (set new x false) (c ++ x ∷ [])
unmarked_one old new c x h low = record {
  counted = length-set new x false ∙ h.counted;
  kept = λ l none.
      let other : (l ≡ x → ⊥) = λ e. true≢false (sym (subst (λ (k : ℕ). has (c ++ x ∷ []) k ≡ true) (sym e) (push_here c x)) ∙ none) in
      elsewhere new x l false other ∙ h.kept l (is_false (has c l) (λ is_in. true≢false (sym (push_has c x l is_in) ∙ none)));
  gone = λ l is_in. elim (cases_eq l x) [
    | inl e ↦ here new x l false e low
    | inr other ↦ elsewhere new x l false other ∙ elim (has_push c x l is_in) [ inl before ↦ h.gone l before | inr last ↦ absurd (other (sym last)) ]
  ];
}

-- a step of the loops over the literals of a clause
pub marked_more : (old new after : List Bool) (c : List ℕ) (i x : ℕ) → IsMarked old new (take i c) → i < length c → x ≡ get_or c i x → x < length new → after ≡ set new x true → IsMarked old after (take (i + 1) c)
marked_more old new after c i x h within is low e =
    subst (λ (cs : List ℕ). IsMarked old after cs) (sym (take_more c i x within ∙ ap (λ (y : ℕ). take i c ++ y ∷ []) (sym is)))
    (subst (λ (m : List Bool). IsMarked old m (take i c ++ x ∷ [])) (sym e) (marked_one old new (take i c) x h low))

pub unmarked_more : (old new after : List Bool) (c : List ℕ) (i x : ℕ) → IsUnmarked old new (take i c) → i < length c → x ≡ get_or c i x → x < length new → after ≡ set new x false → IsUnmarked old after (take (i + 1) c)
unmarked_more old new after c i x h within is low e =
    subst (λ (cs : List ℕ). IsUnmarked old after cs) (sym (take_more c i x within ∙ ap (λ (y : ℕ). take i c ++ y ∷ []) (sym is)))
    (subst (λ (m : List Bool). IsUnmarked old m (take i c ++ x ∷ [])) (sym e) (unmarked_one old new (take i c) x h low))

-- the marks of a resolution, in the order in which they are made
pub replaced : (old new : List Bool) (x : ℕ) (c : List ℕ) (was : Bool) → was ≡ marked old (complement x) → x < length old → complement x < length new → IsMarked (set old x false) new c → IsResolved old (set new (complement x) was) x c
replaced old new x c was is low other_low h = record {
  kept = λ l m other. elim (cases_eq l (complement x)) [
    | inl e ↦ here new (complement x) l was e other_low ∙ is ∙ sym (ap (marked old) e) ∙ m
    | inr ne ↦ elsewhere new (complement x) l was ne ∙ h.kept l (elsewhere old x l false other ∙ m)
  ];
  taken = λ l is_in ne. elsewhere new (complement x) l was ne ∙ h.taken l is_in;
  origin = λ l m. elim (cases_eq l (complement x)) [
    | inl e ↦ inl (ap (marked old) e ∙ sym is ∙ sym (here new (complement x) l was e other_low) ∙ m, λ same. complement-other x (sym e ∙ same))
    | inr ne ↦ elim (h.origin l (sym (elsewhere new (complement x) l was ne) ∙ m)) [
      | inl before ↦
          let other : (l ≡ x → ⊥) = λ e. true≢false (sym before ∙ here old x l false e low) in
          inl (sym (elsewhere old x l false other) ∙ before, other)
      | inr is_in ↦ inr (is_in, ne)
    ]
  ];
}

-- one more pair makes a chain of the resolvent
pub chain_resolved : (clauses : List (List ℕ)) (r s : Resolution) (x at : ℕ) → IsChain clauses r → at < length clauses → marked r.marks.items x ≡ true → has (get_or clauses at []) (complement x) ≡ true
    → s.start ≡ r.start → s.pairs.items ≡ r.pairs.items ++ record { lit = x; with = at } ∷ [] → IsResolved r.marks.items s.marks.items x (get_or clauses at []) → AreTouched s.marks.items s.touched.items → IsChain clauses s
chain_resolved clauses r s x at h low is_in pivot start pairs marks touched =
    let c : List ℕ = get_or clauses at [] in
    let pair : Pair = record { lit = x; with = at } in
    record {
      running = resolved h.running x c;
      is_running =
          ap (λ (n : ℕ). chain clauses n s.pairs.items) start
          ∙ ap (chain clauses r.start) pairs
          ∙ chain-push clauses r.start r.pairs.items pair h.running h.is_running
          ∙ ap (step_on h.running (1 + length r.pairs.items) x) (slice_get-get_or clauses at [] low)
          ∙ step_on-resolved h.running (1 + length r.pairs.items) x c (sym (h.marks_are x) ∙ is_in) pivot;
      marks_are = λ l. same_truth (marked s.marks.items l) (has (resolved h.running x c) l)
          (λ m. has-resolved h.running x c l ∙ elim (marks.origin l m) [
            | inl before ↦ or_left (has (without x h.running) l) (has (without (complement x) c) l) (has-without_other x h.running l before.1 ∙ sym (h.marks_are l) ∙ before.0)
            | inr taken ↦ or_right (has (without x h.running) l) (has (without (complement x) c) l) (has-without_other (complement x) c l taken.1 ∙ taken.0)
          ])
          (λ is. elim (or_cases (has (without x h.running) l) (has (without (complement x) c) l) (sym (has-resolved h.running x c l) ∙ is)) [
            | inl first ↦
                let other : (l ≡ x → ⊥) = λ e. true≢false (sym first ∙ ap (has (without x h.running)) e ∙ has-without_same x h.running) in
                marks.kept l (h.marks_are l ∙ sym (has-without_other x h.running l other) ∙ first) other
            | inr second ↦
                let other : (l ≡ complement x → ⊥) = λ e. true≢false (sym second ∙ ap (has (without (complement x) c)) e ∙ has-without_same (complement x) c) in
                marks.taken l (sym (has-without_other (complement x) c l other) ∙ second) other
          ]);
      all_touched = touched;
    }

le_or_lt : (a b : ℕ) → (a ≤ b) ⊎ (b < a)
le_or_lt a b = elim (cases_order a b) [
  | inl e ↦ inl (omega (arith, e))
  | inr o ↦ elim o [ inl less ↦ inl (omega (arith, less)) | inr more ↦ inr more ]
]

-- what is marked between two places but for some literals is false before the first
pub narrow : (lits : List ℕ) (marks : List Bool) (n e : ℕ) (P : ℕ → Type 0) → ((j : ℕ) → n ≤ j → j < e → marked marks (false_at lits j) ≡ true → P (false_at lits j)) → AreFalseUnless (take e lits) marks P → AreFalseUnless (take n lits) marks P
narrow lits marks n e P only h l m other =
    let p = placed_in lits e (complement l) (h l m other) in
    let is : false_at lits p.place ≡ l = ap complement p.is ∙ complement-complement l in
    elim (le_or_lt n p.place) [
      | inl late ↦ absurd (other (subst P is (only p.place late p.before (ap (marked marks) is ∙ m))))
      | inr early ↦ has_placed lits n p.place (complement l) early p.within p.is
    ]

all_but : (lits : List ℕ) (marks : List Bool) (P : ℕ → Type 0) → AreFalse lits marks → AreFalseUnless lits marks P
all_but lits marks P h l m other = h l m

but_all : (lits : List ℕ) (marks : List Bool) → AreFalseUnless lits marks (λ l. ⊥) → AreFalse lits marks
but_all lits marks h l m = h l m (λ e. e)

pub narrow_all : (lits : List ℕ) (marks : List Bool) (n e : ℕ) → NoneMarked lits marks n e → AreFalse (take e lits) marks → AreFalse (take n lits) marks
narrow_all lits marks n e none h = but_all (take n lits) marks (narrow lits marks n e (λ l. ⊥) (λ j low high m. absurd (true≢false (sym m ∙ none j low high))) (all_but (take e lits) marks (λ l. ⊥) h))

-- the literal at a place is resolved away
pub resolved_here : (t : Trail) (at : ℕ) (P : ℕ → Type 0) (old new : List Bool) → IsResolvedAt t at old new → AreFalseUnless (take (at + 1) t.lits) old P → AreFalseUnless (take at t.lits) new P
resolved_here t at P old new r h l m other = elim (r.resolved.origin l m) [
  | inl before ↦
      let p = placed_in t.lits (at + 1) (complement l) (h l before.0 other) in
      let early = p.before in
      let ne : (p.place ≡ at → ⊥) = λ e. before.1 (sym (complement-complement l) ∙ ap complement (sym p.is) ∙ ap (false_at t.lits) e) in
      has_placed t.lits at p.place (complement l) (omega (arith, early, ne)) p.within p.is
  | inr taken ↦ r.is_reason.others_false l taken.0 (λ e. taken.1 (e ∙ sym (complement-complement (get_or t.lits at 0))))
]

pub resolved_here_all : (t : Trail) (at : ℕ) (old new : List Bool) → IsResolvedAt t at old new → AreFalse (take (at + 1) t.lits) old → AreFalse (take at t.lits) new
resolved_here_all t at old new r h = but_all (take at t.lits) new (resolved_here t at (λ l. ⊥) old new r (all_but (take (at + 1) t.lits) old (λ l. ⊥) h))

-- what stands further on stays false
pub resolved_before : (t : Trail) (at x e : ℕ) (old new : List Bool) → at ≤ e → IsResolvedAt t at old new → AreFalseBut (take e t.lits) old x → AreFalseBut (take e t.lits) new x
resolved_before t at x e old new low r h l m other = elim (r.resolved.origin l m) [
  | inl before ↦ h l before.0 other
  | inr taken ↦ has_longer t.lits at e (complement l) low (r.is_reason.others_false l taken.0 (λ e. taken.1 (e ∙ sym (complement-complement (get_or t.lits at 0)))))
]

-- another place keeps its mark
pub resolved_other : (t : Trail) (at k : ℕ) (old new : List Bool) → IsTrail t → at < length t.lits → k < length t.lits → (k ≡ at → ⊥) → IsResolvedAt t at old new → marked old (false_at t.lits k) ≡ true → marked new (false_at t.lits k) ≡ true
resolved_other t at k old new h low within other r m = r.resolved.kept (false_at t.lits k) m
    (λ e. other (same_place t k at h within low (ap (λ (n : ℕ). n / 2) (sym (complement-complement (get_or t.lits k 0)) ∙ ap complement e ∙ complement-complement (get_or t.lits at 0)))))

pub reason_attached : (t : Trail) (clauses : List (List ℕ)) (at reason : ℕ) → IsTrail t → at < length t.lits → get_or t.reasons at None ≡ Some reason → clauses ≡ t.clauses → reason < length clauses
reason_attached t clauses at reason h low is same = let r = (h.reasoned at reason low is).attached in omega (arith, r, ap length same)

-- the pivot of a resolution at a place
pub resolved_at : (t : Trail) (clauses : List (List ℕ)) (xs : List ℕ) (at reason y x : ℕ) (old new : List Bool) → IsTrail t → at < length t.lits → get_or t.reasons at None ≡ Some reason → clauses ≡ t.clauses → xs ≡ t.lits
    → y ≡ get_or xs at y → x ≡ complement y → IsResolved old new x (get_or clauses reason []) → IsResolvedAt t at old new
resolved_at t clauses xs at reason y x old new h low is same lits read pivot r =
    let read_is : get_or xs at y ≡ get_or t.lits at 0 = ap (λ (l : List ℕ). get_or l at y) lits ∙ same_default t.lits at y 0 low in
    record {
      reason = reason;
      is_reason = h.reasoned at reason low is;
      resolved = subst (λ (l : ℕ). IsResolved old new l (get_or t.clauses reason [])) (pivot ∙ ap complement (read ∙ read_is))
          (subst (λ (cs : List (List ℕ)). IsResolved old new x (get_or cs reason [])) same r);
    }

-- the literals of the trail are below the bound of the marks
pub false_below : (t : Trail) (xs : List ℕ) (n k : ℕ) → IsTrail t → xs ≡ t.lits → n ≡ 2 * t.vars → k < length xs → false_at xs k < n
false_below t xs n k h lits same low =
    let l = h.below (get_or t.lits k 0) (has_at t.lits k (get_or t.lits k 0) (omega (arith, low, ap length lits)) refl) in
    let c = complement-below (get_or t.lits k 0) t.vars l in
    let e : false_at xs k ≡ complement (get_or t.lits k 0) = ap (λ (l : List ℕ). complement (get_or l k 0)) lits in
    omega (arith, c, e, same)

whole : (t : Trail) (marks : List Bool) → AreFalse t.lits marks → AreFalse (take (length t.lits) t.lits) marks
whole t marks h = subst (λ (l : List ℕ). AreFalse l marks) (sym (take_all (length t.lits) t.lits (omega arith))) h

-- something is marked at the current level
pub not_none : (t : Trail) (marks : List Bool) → IsTrail t → AreFalse t.lits marks → (AreFalse (take (start_of t) t.lits) marks → ⊥) → NoneMarked t.lits marks (start_of t) (length t.lits) → ⊥
not_none t marks h all not_before none = not_before (narrow_all t.lits marks (start_of t) (length t.lits) none (whole t marks all))

top_alone : (lits : List ℕ) (marks : List Bool) (from k : ℕ) → from ≤ k → marked marks (false_at lits k) ≡ true → IsTop lits marks from (k + 1) k
top_alone lits marks from k low m = record { behind = low; before = omega arith; is_in = m; none_above = λ j a b. absurd (omega (arith, a, b)) }

pub resolving_starts : (t : Trail) (marks : List Bool) (place : ℕ) → IsTop t.lits marks (start_of t) (length t.lits) place → AreFalse t.lits marks → IsResolving t marks place place
resolving_starts t marks place top all = record {
  within = top.before;
  order = omega arith;
  false_here = narrow_all t.lits marks (place + 1) (length t.lits) (λ j low high. top.none_above j (omega (arith, low)) high) (whole t marks all);
  is_in = top.is_in;
  known_top = top_alone t.lits marks (start_of t) place top.behind top.is_in;
}

known_kept : (t : Trail) (old new : List Bool) (place known below : ℕ) → IsTrail t → IsResolving t old place known → IsTop t.lits old (start_of t) (below + 1) below → below < place → IsResolvedAt t place old new → marked new (false_at t.lits below) ≡ true
known_kept t old new place known below h r top low resolved =
    let w = r.within in
    resolved_other t place below old new h w (omega (arith, low, w)) (λ e. absurd (omega (arith, e, low))) resolved top.is_in

pub below_stays : (t : Trail) (old new : List Bool) (place known below : ℕ) → IsTrail t → IsResolving t old place known → IsTop t.lits old (start_of t) (below + 1) below → below < place → IsResolvedAt t place old new → NoneMarked t.lits new below place → ⊥
below_stays t old new place known below h r top low resolved none =
    true≢false (sym (known_kept t old new place known below h r top low resolved) ∙ none below (omega arith) low)

pub resolving_next : (t : Trail) (old new : List Bool) (place known below next : ℕ) → IsTrail t → IsResolving t old place known → IsTop t.lits old (start_of t) (below + 1) below → below < place → IsResolvedAt t place old new
    → IsTop t.lits new below place next → IsResolving t new next below
resolving_next t old new place known below next h r top low resolved after =
    let w = r.within in
    let b = after.before in
    record {
      within = omega (arith, b, w);
      order = after.behind;
      false_here = narrow_all t.lits new (next + 1) place (λ j l high. after.none_above j (omega (arith, l)) high) (resolved_here_all t place old new resolved r.false_here);
      is_in = after.is_in;
      known_top = top_alone t.lits new (start_of t) below top.behind (known_kept t old new place known below h r top low resolved);
    }

pub uip_found : (t : Trail) (marks : List Bool) (place known : ℕ) → IsResolving t marks place known → NoneMarked t.lits marks (start_of t) place → IsUip t marks place
uip_found t marks place known r none =
    let a = r.known_top.behind in
    let b = r.order in
    record {
      within = r.within;
      late = omega (arith, a, b);
      is_in = r.is_in;
      others = narrow t.lits marks (start_of t) (place + 1) (λ l. l ≡ false_at t.lits place)
          (λ j low high m. elim (cases_eq j place) [
            | inl e ↦ ap (false_at t.lits) e
            | inr other ↦ absurd (true≢false (sym m ∙ none j low (omega (arith, high, other))))
          ])
          (λ l m other. r.false_here l m);
    }

-- a literal of a level before is resolved away
pub uip_resolved : (t : Trail) (old new : List Bool) (place uip : ℕ) → IsTrail t → place < start_of t → IsUip t old uip → IsResolvedAt t place old new → IsUip t new uip
uip_resolved t old new place uip h low u r =
    let late = u.late in
    let within = u.within in
    record {
      within = within;
      late = late;
      is_in = resolved_other t place uip old new h (omega (arith, low, late, within)) within (λ e. absurd (omega (arith, e, low, late))) r u.is_in;
      others = resolved_before t place (false_at t.lits uip) (start_of t) old new (omega (arith, low)) r u.others;
    }

-- the same of lists and bounds that are known by equations
pub top_is : (xs ys : List ℕ) (ms ns : List Bool) (f g e d k : ℕ) → xs ≡ ys → ms ≡ ns → f ≡ g → e ≡ d → IsTop xs ms f e k → IsTop ys ns g d k
top_is xs ys ms ns f g e d k p q r s h =
    subst (λ (z : ℕ). IsTop ys ns g z k) s (subst (λ (z : ℕ). IsTop ys ns z e k) r (subst (λ (z : List Bool). IsTop ys z f e k) q (subst (λ (z : List ℕ). IsTop z ms f e k) p h)))

pub none_is : (xs ys : List ℕ) (ms ns : List Bool) (f g e d : ℕ) → xs ≡ ys → ms ≡ ns → f ≡ g → e ≡ d → NoneMarked xs ms f e → NoneMarked ys ns g d
none_is xs ys ms ns f g e d p q r s h =
    subst (λ (z : ℕ). NoneMarked ys ns g z) s (subst (λ (z : ℕ). NoneMarked ys ns z e) r (subst (λ (z : List Bool). NoneMarked ys z f e) q (subst (λ (z : List ℕ). NoneMarked z ms f e) p h)))

-- what is written of a chain with a pair is its resolvent
module _ (clauses : List (List ℕ)) (r : Resolution) (out : List ℕ) (h : IsChain clauses r) (some : 0 < length r.pairs.items) (written : out ≡ filter (λ l. marked r.marks.items l) r.touched.items) where
  pub written_is : clause_of out ≡ h.running
  written_is =
      ap clause_of written
      ∙ clause_marked_is r.marks.items r.touched.items h.running h.all_touched (chain_rises clauses r.start r.pairs.items h.running some h.is_running) h.marks_are

  pub chain_written : chain clauses r.start r.pairs.items ≡ Ok (clause_of out)
  chain_written = h.is_running ∙ ap Ok (sym written_is)

-- the chain that is a clause alone
pub chain_begins : (clauses : List (List ℕ)) (r : Resolution) (at : ℕ) → at < length clauses → r.start ≡ at → r.pairs.items ≡ [] → ((l : ℕ) → marked r.marks.items l ≡ has (get_or clauses at []) l) → AreTouched r.marks.items r.touched.items → IsChain clauses r
chain_begins clauses r at low start pairs marks touched = record {
  running = get_or clauses at [];
  is_running = ap (λ (n : ℕ). chain clauses n r.pairs.items) start ∙ ap (chain clauses at) pairs ∙ ap started (slice_get-get_or clauses at [] low);
  marks_are = marks;
  all_touched = touched;
}

pub nonempty : {X : Type 0} → (xs : List X) → (xs ≡ [] → ⊥) → 0 < length xs
nonempty [] h = absurd (h refl)
nonempty (x ∷ xs) h = omega arith

pub started_is : (found : Option (List ℕ)) (c : List ℕ) → started found ≡ Ok c → found ≡ Some c
started_is None c e = cc
started_is (Some d) c e = cc

-- a clause that is false at the current level alone says more before it than its chain's start, so the chain has a pair
pub some_pair : (t : Trail) (clauses : List (List ℕ)) (r : Resolution) (at : ℕ) → IsTrail t → clauses ≡ t.clauses → Quiet t.clauses (take (start_of t) t.lits) → IsChain clauses r → IsUip t r.marks.items at → 0 < length r.pairs.items
some_pair t clauses r at h same quiet chained uip = nonempty r.pairs.items (λ none.
    let found : slice_get clauses r.start ≡ Some chained.running = started_is (slice_get clauses r.start) chained.running (sym (ap (chain clauses r.start) none) ∙ chained.is_running) in
    let q = all_found (IsQuietFor (take (start_of t) t.lits)) t.clauses r.start chained.running quiet.each (subst (λ (cs : List (List ℕ)). slice_get cs r.start ≡ Some chained.running) same found) in
    let holds = q.unit_true (false_at t.lits at) (sym (chained.marks_are (false_at t.lits at)) ∙ uip.is_in) (λ l is_in other. uip.others l (chained.marks_are l ∙ is_in) other) in
    consistent t (false_at t.lits at) h (has_take (start_of t) t.lits (false_at t.lits at) holds)
    (has_at t.lits at (complement (false_at t.lits at)) uip.within (sym (complement-complement (get_or t.lits at 0)))))

pub marked_within : (marks : List Bool) (l : ℕ) → marked marks l ≡ true → l < length marks
marked_within [] l m = absurd (false≢true m)
marked_within (b ∷ bs) zero m = omega arith
marked_within (b ∷ bs) (suc l) m = let w = marked_within bs l m in omega (arith, w)

-- the marks of a clause are taken away
pub unmarked_clear : (old new : List Bool) (c : List ℕ) → ((l : ℕ) → marked old l ≡ has c l) → IsUnmarked old new c → AreClear new
unmarked_clear old new c marks u l = elim (cases_Bool (has c l)) [
  | inl is_in ↦ u.gone l is_in
  | inr none ↦ u.kept l none ∙ marks l ∙ none
]

pub none_marked : (n l : ℕ) → marked (replicate n false) l ≡ false
none_marked zero l = refl
none_marked (suc n) zero = refl
none_marked (suc n) (suc l) = none_marked n l

-- the literals that are marked are noted: one that is marked already, and one more
pub touched_same : (old new : List Bool) (touched : List ℕ) (x : ℕ) (b : Bool) → AreTouched old touched → marked old x ≡ true → new ≡ set old x b → AreTouched new touched
touched_same old new touched x b t is_in is l m = elim (cases_eq l x) [
  | inl e ↦ t l (ap (marked old) e ∙ is_in)
  | inr other ↦ t l (sym (ap (λ (ms : List Bool). marked ms l) is ∙ get_or-set_other old x l b false other) ∙ m)
]

pub touched_one : (old new : List Bool) (before after : List ℕ) (x : ℕ) → AreTouched old before → after ≡ before ++ x ∷ [] → new ≡ set old x true → AreTouched new after
touched_one old new before after x t more is l m =
    ap (λ (xs : List ℕ). has xs l) more ∙ elim (cases_eq l x) [
      | inl e ↦ ap (has (before ++ x ∷ [])) e ∙ push_here before x
      | inr other ↦ push_has before x l (t l (sym (ap (λ (ms : List Bool). marked ms l) is ∙ get_or-set_other old x l true false other) ∙ m))
    ]
