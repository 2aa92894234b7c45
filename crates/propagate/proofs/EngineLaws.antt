-- What an engine keeps where its trail is visited, a level is opened or levels are taken back.
use Rattle.std.proofs.Common.{◌≡◌, inl, inr, ℕ, zero, suc, ◌+◌, ◌-◌, ◌^◌, ◌<◌, ◌≤◌, true, false, List, [], ◌∷◌, ◌++◌, Option, Some, None, length, map, take, get_or, refl, sym, subst, ◌∙◌, ap, arith, length-append}
use Rattle.std.proofs.lemmas.Bool.{cases_eq, cases_order, true≢false, false≢true}
use Rattle.std.specs.Option.{is_some}
use Rattle.std.proofs.lemmas.List.{take-append-le, length-take-le, get_or-take, take-take}
use Rattle.std.proofs.Math.ListN.{get_or-append, get_or-eq_default}
use Rattle.std.proofs.Math.Seq.{get_or-append_seam, get_or-append_right, take-append_seam}
use Rattle.clause_pool.specs.Literal.{complement}
use Rattle.clause_pool.specs.Clause.{has}
use Rattle.clause_pool.proofs.LiteralLaws.{complement-complement}
use Rattle.propagate.specs.Trail.{IsTrail, AllFalse}
use Rattle.propagate.specs.Engine.{Extends}
use Rattle.propagate.specs.Quiet.{Quiet, IsConsistent}
use Rattle.propagate.proofs.AssignmentLaws.{complement-within}
use Rattle.propagate.proofs.AssignmentSteps.{kept_within, end_within}
use Rattle.propagate.specs.Assignment.{Assigned, IsAssigned, end_of, with_literal, with_level, cut_to}
use Rattle.propagate.specs.Watching.{HasTrue, Watching, Visits, clause_at, pair_of, IsVisited, IsHeld, IsVisiting, Grown, AreReasons, Keeps}
use Rattle.propagate.specs.Watching.IsHeld.{fixed, paired}
use Rattle.propagate.specs.Visiting.{Scene, scene, AreTrueIn, entries_of}
use Rattle.propagate.specs.Running.{IsEngine, Ran, AreDecided, visits}
use Rattle.propagate.proofs.QuietLaws.{all_quiet, has_take}
use Rattle.propagate.proofs.KeepLaws.{same_default, has_at, grown_not, grown_one, grown_twice, all_held_next, visiting_grown, held_more}

pub ran_not : (s : Scene) (head : ℕ) → Ran s s head head
ran_not s head = record { grown = grown_not s.assigned; same_clauses = refl; same_count = refl; reasoned = λ h. h; visiting = λ heads h. h; held = λ heads v h. h }

-- a visit up to a clause that is false
pub ran_on : (s t : Scene) (b : Assigned) (x : Watching) (from to : ℕ) → Ran s t from to → Keeps t.assigned b t.watching x → Ran s (scene b x) from to
ran_on s t b x from to r k = record {
  grown = grown_twice s.assigned t.assigned b r.grown k.grown;
  same_clauses = k.same_clauses ∙ r.same_clauses;
  same_count = k.same_count ∙ r.same_count;
  reasoned = λ h. subst (λ (cs : List (List ℕ)). AreReasons cs b) r.same_clauses (k.reasoned (subst (λ (cs : List (List ℕ)). AreReasons cs t.assigned) (sym r.same_clauses) (r.reasoned h)));
  visiting = λ heads h. visiting_grown t.assigned b (visits heads to) k.grown (r.visiting heads h);
  held = λ heads v h. k.held (visits heads to) (r.visiting heads v) (r.held heads v h);
}

-- the next place was visited
visiting_next : (a : Assigned) (heads : List ℕ) (head : ℕ) → head < length a.lits → IsVisiting a (visits heads head) → IsVisiting a (visits heads (head + 1))
visiting_next a heads head more h =
    let counted = h.counted in
    record {
      counted = counted;
      within = λ n b. elim (cases_eq n (length a.starts)) [
        | inl last ↦
            let now : get_or heads n (head + 1) ≡ head + 1 = get_or-eq_default heads (head + 1) (omega (arith, last, counted)) in
            let end : end_of a n ≡ length a.lits = get_or-eq_default a.starts (length a.lits) (omega (arith, last)) in
            omega (arith, now, end, more)
        | inr other ↦
            let same : get_or heads n (head + 1) ≡ get_or heads n head = same_default heads n (head + 1) head (omega (arith, b, other, counted)) in
            let w = h.within n b in
            omega (arith, same, w)
      ];
      ends = h.ends;
    }

pub ran_next : (s t : Scene) (code from to : ℕ) → Ran s t from to → to < length t.assigned.lits → get_or t.assigned.lits to 0 ≡ complement code → AreTrueIn t code (entries_of t code) → Ran s t from (to + 1)
ran_next s t code from to r more here all = record {
  grown = r.grown;
  same_clauses = r.same_clauses;
  same_count = r.same_count;
  reasoned = r.reasoned;
  visiting = λ heads h. visiting_next t.assigned heads to more (r.visiting heads h);
  held = λ heads v h. all_held_next t.assigned (visits heads to) t.watching code (r.visiting heads v) more here all (r.held heads v h);
}

-- the next literal of the trail, and what becomes false by it
pub record NextCode (a : Assigned) (head code : ℕ) : Type 0 where
  pub below : code < a.vars + a.vars
  pub is_false : has a.lits (complement code) ≡ true
  pub here : get_or a.lits head 0 ≡ complement code

pub next_code : (a : Assigned) (xs : List ℕ) (head l code : ℕ) → IsAssigned a → xs ≡ a.lits → head < length a.lits → l ≡ get_or xs head l → code ≡ complement l → NextCode a head code
next_code a xs head l code h is more at of =
    let here : get_or a.lits head 0 ≡ l = same_default a.lits head 0 l more ∙ sym (at ∙ ap (λ (ys : List ℕ). get_or ys head l) is) in
    let back : complement code ≡ l = ap complement of ∙ complement-complement l in
    let found : has a.lits l ≡ true = has_at a.lits head l more here in
    record {
      below = let b = h.below l found in let w = complement-within l a.vars (omega (arith, b)) in omega (arith, w, of);
      is_false = subst (λ (n : ℕ). has a.lits n ≡ true) (sym back) found;
      here = here ∙ sym back;
    }

pub ran_vars : (s t : Scene) (from to : ℕ) → Ran s t from to → t.assigned.vars ≡ s.assigned.vars
ran_vars s t from to r = ap (λ (z : Assigned). z.vars) r.grown.is

pub ran_codes : (s t : Scene) (from to : ℕ) → Ran s t from to → length s.watching.lists ≡ s.assigned.vars + s.assigned.vars → length t.watching.lists ≡ t.assigned.vars + t.assigned.vars
ran_codes s t from to r h = r.same_count ∙ h ∙ ap (λ (n : ℕ). n + n) (sym (ran_vars s t from to r))

pub none_is : (o : Option ℕ) → is_some o ≡ false → o ≡ None
none_is None h = refl
none_is (Some x) h = absurd (true≢false h)

-- the reasons of the literals that were added
no_none : (why : List ℕ) (i : ℕ) → i < length why → get_or (map Some why) i None ≡ None → ⊥
no_none [] i b e = omega (arith, b)
no_none (x ∷ why) zero b e = let same : Some x ≡ None = e in cc
no_none (x ∷ why) (suc i) b e = no_none why i (omega (arith, b)) e

added : (a b : Assigned) → (g : Grown a b) → length a.reasons ≡ length a.lits → (k : ℕ) → length a.lits ≤ k → k < length b.lits → get_or b.reasons k None ≡ None → ⊥
added a b g counted k low high none =
    let lits : length b.lits ≡ length a.lits + length g.more = ap (λ (z : Assigned). length z.lits) g.is ∙ length-append a.lits g.more in
    let same = g.counted in
    no_none g.why (k - length a.reasons) (omega (arith, lits, same, low, high, counted))
    (sym (get_or-append_right a.reasons (map Some g.why) k None (omega (arith, low, counted))) ∙ sym (ap (λ (z : Assigned). get_or z.reasons k None) g.is) ∙ none)

pub extends_grown : (a b : Assigned) (cs ds : List (List ℕ)) → Grown a b → length a.reasons ≡ length a.lits
    → Extends (record { vars = a.vars; clauses = cs; lits = a.lits; reasons = a.reasons; starts = a.starts }) (record { vars = b.vars; clauses = ds; lits = b.lits; reasons = b.reasons; starts = b.starts })
extends_grown a b cs ds g counted = record {
  same_vars = ap (λ (z : Assigned). z.vars) g.is;
  same_starts = ap (λ (z : Assigned). z.starts) g.is;
  longer = let lits : length b.lits ≡ length a.lits + length g.more = ap (λ (z : Assigned). length z.lits) g.is ∙ length-append a.lits g.more in omega (arith, lits);
  lits_kept = ap (λ (z : Assigned). take (length a.lits) z.lits) g.is ∙ take-append_seam a.lits g.more;
  reasons_kept = ap (λ (z : Assigned). take (length a.lits) z.reasons) g.is ∙ ap (λ (n : ℕ). take n (a.reasons ++ map Some g.why)) (sym counted) ∙ take-append_seam a.reasons (map Some g.why);
  derived = added a b g counted;
}

pub decided_grown : (a b : Assigned) → Grown a b → length a.reasons ≡ length a.lits → AreDecided a → AreDecided b
decided_grown a b g counted h k within none = elim (cases_order k (length a.lits)) [
  | inl e ↦ absurd (added a b g counted k (omega (arith, e)) within none)
  | inr o ↦ elim o [
    | inl before ↦
        let same : get_or b.reasons k None ≡ get_or a.reasons k None = ap (λ (z : Assigned). get_or z.reasons k None) g.is ∙ get_or-append a.reasons (map Some g.why) None k (omega (arith, before, counted)) in
        let found = h k before (sym same ∙ none) in
        subst (λ (starts : List ℕ). (n : ℕ) × (n < length starts) × (get_or starts n 0 ≡ k)) (sym (ap (λ (z : Assigned). z.starts) g.is)) found
    | inr after ↦ absurd (added a b g counted k (omega (arith, after)) within none)
  ]
]

pub engine_ran : (s t : Scene) (heads : List ℕ) (from to : ℕ) (refuted : Option ℕ) → refuted ≡ None → length s.assigned.reasons ≡ length s.assigned.lits → IsEngine s (visits heads from) refuted → Ran s t from to → IsEngine t (visits heads to) refuted
engine_ran s t heads from to refuted none counted h r = record {
  codes = ran_codes s t from to r h.codes;
  small = let b = h.small in omega (arith, b, ran_vars s t from to r);
  few = let b = h.few in omega (arith, b, ap length r.same_clauses);
  below = λ k l is_in. let b = h.below k l (subst (λ (cs : List (List ℕ)). has (clause_at cs k) l ≡ true) r.same_clauses is_in) in let c = r.same_count in omega (arith, b, c);
  reasoned = subst (λ (cs : List (List ℕ)). AreReasons cs t.assigned) (sym r.same_clauses) (r.reasoned h.reasoned);
  decided = decided_grown s.assigned t.assigned r.grown counted h.decided;
  visiting = r.visiting heads h.visiting;
  held = λ e. r.held heads h.visiting (h.held e);
  is_attached = λ k e. absurd (some_none k (sym e ∙ none));
  is_false = λ k e. absurd (some_none k (sym e ∙ none));
} where
  some_none : (k : ℕ) → Some k ≡ None → ⊥
  some_none k e = cc

pub engine_quiet : (s : Scene) (heads : List ℕ) (head : ℕ) (refuted : Option ℕ) → refuted ≡ None → IsEngine s (visits heads head) refuted → length s.assigned.lits ≤ head → IsConsistent s.assigned.lits → Quiet s.watching.clauses s.assigned.lits
engine_quiet s heads head refuted none h finished consistent =
    let counted = h.visiting.counted in
    let now : get_or heads (length s.assigned.starts) head ≡ head = get_or-eq_default heads head (omega (arith, counted)) in
    let w = h.visiting.within (length s.assigned.starts) (omega arith) in
    let e = h.visiting.ends (length s.assigned.starts) (omega arith) in
    all_quiet s.assigned (visits heads head) s.watching consistent (omega (arith, now, w, e, finished)) (h.held none)

-- what callers know of a trail
pub is_trail : (s : Scene) (v : Visits) (refuted : Option ℕ) → IsAssigned s.assigned → IsEngine s v refuted
    → IsTrail (record { vars = s.assigned.vars; clauses = s.watching.clauses; lits = s.assigned.lits; reasons = s.assigned.reasons; starts = s.assigned.starts })
is_trail s v refuted a h = record {
  apart = a.apart;
  below = a.below;
  few_levels = a.few_levels;
  clauses_below = λ at l is_in. let b = h.below at l is_in in let c = h.codes in omega (arith, b, c);
  rising = a.rising;
  within = a.within;
  reasons_counted = a.reasons_counted;
  reasoned = h.reasoned;
  decided = h.decided;
}

-- levels that are taken back
pub ends_rise : (a : Assigned) (n m : ℕ) → IsAssigned a → n ≤ length a.starts → m ≤ n → end_of a m ≤ end_of a n
ends_rise a n m h within below = elim (cases_eq m n) [
  | inl e ↦ let same : end_of a m ≡ end_of a n = ap (λ (k : ℕ). end_of a k) e in omega (arith, same)
  | inr other ↦
      let k = kept_within a n m h within (omega (arith, below, other)) in
      let same : end_of a m ≡ get_or a.starts m 0 = same_default a.starts m (length a.lits) 0 (omega (arith, within, below, other)) in
      omega (arith, k, same)
]

cut_end : (a : Assigned) (n m : ℕ) → IsAssigned a → n ≤ length a.starts → m ≤ n → end_of (cut_to a n) m ≡ end_of a m
cut_end a n m h within below = elim (cases_eq m n) [
  | inl e ↦
      get_or-eq_default (take n a.starts) (length (take (end_of a n) a.lits)) (omega (arith, e, length-take-le n a.starts within))
      ∙ length-take-le (end_of a n) a.lits (end_within a n h within) ∙ ap (λ (k : ℕ). end_of a k) (sym e)
  | inr other ↦
      get_or-take n a.starts m (length (take (end_of a n) a.lits)) (omega (arith, below, other))
      ∙ same_default a.starts m (length (take (end_of a n) a.lits)) (length a.lits) (omega (arith, within, below, other))
]

cut_upto : (a : Assigned) (n m : ℕ) → IsAssigned a → n ≤ length a.starts → m ≤ n → take (end_of (cut_to a n) m) (take (end_of a n) a.lits) ≡ take (end_of a m) a.lits
cut_upto a n m h within below =
    ap (λ (k : ℕ). take k (take (end_of a n) a.lits)) (cut_end a n m h within below) ∙ take-take (end_of a m) (end_of a n) a.lits (ends_rise a n m h within below)

cut_head : (heads : List ℕ) (n m first head : ℕ) → n < length heads → first ≡ get_or heads n first → m ≤ n → get_or (take n heads) m first ≡ get_or heads m head
cut_head heads n m first head within is below = elim (cases_eq m n) [
  | inl e ↦
      get_or-eq_default (take n heads) first (omega (arith, e, length-take-le n heads (omega (arith, within)))) ∙ is ∙ same_default heads n first head within ∙ ap (λ (k : ℕ). get_or heads k head) (sym e)
  | inr other ↦
      get_or-take n heads m first (omega (arith, below, other)) ∙ same_default heads m first head (omega (arith, within, below, other))
]

module _ (s : Scene) (heads : List ℕ) (head n first : ℕ) (h : IsAssigned s.assigned) (v : IsVisiting s.assigned (visits heads head)) (within : n < length heads) (is : first ≡ get_or heads n first) where
  level_within : n ≤ length s.assigned.starts
  level_within = let c = v.counted in omega (arith, c, within)

  count_cut : length (take n s.assigned.starts) ≡ n
  count_cut = length-take-le n s.assigned.starts level_within

  visited_cut : (c : List ℕ) (code : ℕ) → IsVisited s.assigned (visits heads head) c code → IsVisited (cut_to s.assigned n) (visits (take n heads) first) c code
  visited_cut c code visited m low is_false =
      let below : m ≤ n = omega (arith, low, count_cut) in
      let same_head = cut_head heads n m first head within is below in
      let w = v.within m (omega (arith, below, level_within)) in
      let r = ends_rise s.assigned n m h level_within below in
      let seen : take (get_or (take n heads) m first) (take (end_of s.assigned n) s.assigned.lits) ≡ take (get_or heads m head) s.assigned.lits =
      ap (λ (k : ℕ). take k (take (end_of s.assigned n) s.assigned.lits)) same_head ∙ take-take (get_or heads m head) (end_of s.assigned n) s.assigned.lits (omega (arith, w, r)) in
      subst (λ (xs : List ℕ). HasTrue xs c) (sym (cut_upto s.assigned n m h level_within below))
      (visited m (omega (arith, below, level_within)) (subst (λ (xs : List ℕ). has xs (complement code) ≡ true) seen is_false))

  held_cut : (k : ℕ) → IsHeld s.assigned (visits heads head) s.watching k → IsHeld (cut_to s.assigned n) (visits (take n heads) first) s.watching k
  held_cut k (fixed t) = fixed (subst (λ (xs : List ℕ). HasTrue xs (clause_at s.watching.clauses k)) (sym (cut_upto s.assigned n 0 h level_within (omega arith))) t)
  held_cut k (paired p) = paired (record {
    apart = p.apart;
    first = record { is_in = p.first.is_in; listed = p.first.listed; visited = visited_cut (clause_at s.watching.clauses k) (pair_of s.watching k).first p.first.visited };
    second = record { is_in = p.second.is_in; listed = p.second.listed; visited = visited_cut (clause_at s.watching.clauses k) (pair_of s.watching k).second p.second.visited };
  })

  visiting_cut : IsVisiting (cut_to s.assigned n) (visits (take n heads) first)
  visiting_cut = record {
    counted = length-take-le n heads (omega (arith, within)) ∙ sym count_cut;
    within = λ m low.
        let below : m ≤ n = omega (arith, low, count_cut) in
        let same_head = cut_head heads n m first head within is below in
        let same_end = cut_end s.assigned n m h level_within below in
        let w = v.within m (omega (arith, below, level_within)) in
        omega (arith, same_head, same_end, w);
    ends = λ m low.
        let below : m ≤ n = omega (arith, low, count_cut) in
        let same_end = cut_end s.assigned n m h level_within below in
        let r = ends_rise s.assigned n m h level_within below in
        let e : length (take (end_of s.assigned n) s.assigned.lits) ≡ end_of s.assigned n = length-take-le (end_of s.assigned n) s.assigned.lits (end_within s.assigned n h level_within) in
        omega (arith, same_end, r, e);
  }

  reasons_cut : AreReasons s.watching.clauses s.assigned → AreReasons s.watching.clauses (cut_to s.assigned n)
  reasons_cut reasoned k at low is_reason =
      let e : length (take (end_of s.assigned n) s.assigned.lits) ≡ end_of s.assigned n = length-take-le (end_of s.assigned n) s.assigned.lits (end_within s.assigned n h level_within) in
      let below : k < end_of s.assigned n = omega (arith, low, e) in
      let ends = end_within s.assigned n h level_within in
      let front : take k (take (end_of s.assigned n) s.assigned.lits) ≡ take k s.assigned.lits = take-take k (end_of s.assigned n) s.assigned.lits (omega (arith, below)) in
      let here : get_or (take (end_of s.assigned n) s.assigned.lits) k 0 ≡ get_or s.assigned.lits k 0 = get_or-take (end_of s.assigned n) s.assigned.lits k 0 below in
      let read : get_or (take (end_of s.assigned n) s.assigned.reasons) k None ≡ get_or s.assigned.reasons k None = get_or-take (end_of s.assigned n) s.assigned.reasons k None below in
      rw (front, here) (reasoned k at (omega (arith, below, ends)) (sym read ∙ is_reason))

  decided_cut : AreDecided s.assigned → AreDecided (cut_to s.assigned n)
  decided_cut decided k low none =
      let e : length (take (end_of s.assigned n) s.assigned.lits) ≡ end_of s.assigned n = length-take-le (end_of s.assigned n) s.assigned.lits (end_within s.assigned n h level_within) in
      let below : k < end_of s.assigned n = omega (arith, low, e) in
      let ends = end_within s.assigned n h level_within in
      let read : get_or (take (end_of s.assigned n) s.assigned.reasons) k None ≡ get_or s.assigned.reasons k None = get_or-take (end_of s.assigned n) s.assigned.reasons k None below in
      let found = decided k (omega (arith, below, ends)) (sym read ∙ none) in
      let counted = v.counted in
      let f_within : found.0 < length s.assigned.starts = found.1 in
      let f_is : get_or s.assigned.starts found.0 0 ≡ k = found.2 in
      let first_level : found.0 < n = elim (cases_order found.0 n) [
        | inl same ↦
            let at : end_of s.assigned n ≡ get_or s.assigned.starts n 0 = same_default s.assigned.starts n (length s.assigned.lits) 0 (omega (arith, within, counted)) in
            let both : get_or s.assigned.starts found.0 0 ≡ get_or s.assigned.starts n 0 = ap (λ (m : ℕ). get_or s.assigned.starts m 0) same in
            absurd (omega (arith, at, both, f_is, below))
        | inr o ↦ elim o [
          | inl less ↦ less
          | inr more ↦
              let at : end_of s.assigned n ≡ get_or s.assigned.starts n 0 = same_default s.assigned.starts n (length s.assigned.lits) 0 (omega (arith, within, counted)) in
              let r = h.rising n found.0 (omega (arith, more)) f_within in
              absurd (omega (arith, at, r, f_is, below))
        ]
      ] in
      (found.0, omega (arith, first_level, count_cut), get_or-take n s.assigned.starts found.0 0 first_level ∙ f_is)

  pub engine_cut : (refuted : Option ℕ) → IsEngine s (visits heads head) refuted → IsEngine (scene (cut_to s.assigned n) s.watching) (visits (take n heads) first) refuted
  engine_cut refuted engine = record {
    codes = engine.codes;
    small = engine.small;
    few = engine.few;
    below = engine.below;
    reasoned = reasons_cut engine.reasoned;
    decided = decided_cut engine.decided;
    visiting = visiting_cut;
    held = λ none k low. held_cut k (engine.held none k low);
    is_attached = engine.is_attached;
    is_false = λ k e. subst (λ (xs : List ℕ). AllFalse xs (clause_at s.watching.clauses k)) (sym (cut_upto s.assigned n 0 h level_within (omega arith))) (engine.is_false k e);
  }

pub grown_longer : (a b : Assigned) (k : ℕ) → Grown a b → k < length a.lits → k < length b.lits
grown_longer a b k g h = let lits : length b.lits ≡ length a.lits + length g.more = ap (λ (z : Assigned). length z.lits) g.is ∙ length-append a.lits g.more in omega (arith, lits, h)

pub grown_at : (a b : Assigned) (k : ℕ) → Grown a b → k < length a.lits → get_or b.lits k 0 ≡ get_or a.lits k 0
grown_at a b k g h = ap (λ (z : Assigned). get_or z.lits k 0) g.is ∙ get_or-append a.lits g.more 0 k h

-- the clause that was refuted is false over the whole trail
pub refuted_false : (s : Scene) (v : Visits) (refuted : Option ℕ) (k l : ℕ) → IsEngine s v refuted → refuted ≡ Some k → has (clause_at s.watching.clauses k) l ≡ true → has s.assigned.lits (complement l) ≡ true
refuted_false s v refuted k l h is is_in = has_take (end_of s.assigned 0) s.assigned.lits (complement l) (h.is_false k is l is_in)

-- a level more
append_read : (xs : List ℕ) (d m : ℕ) → get_or (xs ++ d ∷ []) m d ≡ get_or xs m d
append_read [] d zero = refl
append_read [] d (suc m) = refl
append_read (x ∷ xs) d zero = refl
append_read (x ∷ xs) d (suc m) = append_read xs d m

-- what is so up to the last level is so of the one that was opened
module _ (a : Assigned) (heads : List ℕ) (head : ℕ) (v : IsVisiting a (visits heads head)) where
  visited_level : (c : List ℕ) (code : ℕ) → IsVisited a (visits heads head) c code → IsVisited (with_level a) (visits (heads ++ head ∷ []) head) c code
  visited_level c code visited m low is_false =
      subst (λ (k : ℕ). HasTrue (take k a.lits) c) (sym (append_read a.starts (length a.lits) m))
      (elim (cases_order m (length a.starts)) [
        | inl e ↦ visited m (omega (arith, e)) (subst (λ (k : ℕ). has (take k a.lits) (complement code) ≡ true) (append_read heads head m) is_false)
        | inr o ↦ elim o [
          | inl before ↦ visited m (omega (arith, before)) (subst (λ (k : ℕ). has (take k a.lits) (complement code) ≡ true) (append_read heads head m) is_false)
          | inr after ↦
              let counted = v.counted in
              let first : get_or heads m head ≡ get_or heads (length a.starts) head =
              get_or-eq_default heads head (omega (arith, after, counted)) ∙ sym (get_or-eq_default heads head (omega (arith, counted))) in
              let second : end_of a m ≡ end_of a (length a.starts) =
              get_or-eq_default a.starts (length a.lits) (omega (arith, after)) ∙ sym (get_or-eq_default a.starts (length a.lits) (omega arith)) in
              subst (λ (k : ℕ). HasTrue (take k a.lits) c) (sym second)
              (visited (length a.starts) (omega arith) (subst (λ (k : ℕ). has (take k a.lits) (complement code) ≡ true) (append_read heads head m ∙ first) is_false))
        ]
      ])

  held_level : (w : Watching) (k : ℕ) → IsHeld a (visits heads head) w k → IsHeld (with_level a) (visits (heads ++ head ∷ []) head) w k
  held_level w k (fixed t) = fixed (subst (λ (n : ℕ). HasTrue (take n a.lits) (clause_at w.clauses k)) (sym (append_read a.starts (length a.lits) 0)) t)
  held_level w k (paired p) = paired (record {
    apart = p.apart;
    first = record { is_in = p.first.is_in; listed = p.first.listed; visited = visited_level (clause_at w.clauses k) (pair_of w k).first p.first.visited };
    second = record { is_in = p.second.is_in; listed = p.second.listed; visited = visited_level (clause_at w.clauses k) (pair_of w k).second p.second.visited };
  })

  visiting_level : IsVisiting (with_level a) (visits (heads ++ head ∷ []) head)
  visiting_level =
      let counted = v.counted in
      record {
        counted = omega (arith, counted, length-append heads (head ∷ []), length-append a.starts (length a.lits ∷ []));
        within = λ m low.
            let first = append_read heads head m in
            let second = append_read a.starts (length a.lits) m in
            elim (cases_order m (length a.starts)) [
              | inl e ↦ let w = v.within m (omega (arith, e)) in omega (arith, first, second, w)
              | inr o ↦ elim o [
                | inl before ↦ let w = v.within m (omega (arith, before)) in omega (arith, first, second, w)
                | inr after ↦
                    let w = v.within (length a.starts) (omega arith) in
                    let x : get_or heads m head ≡ head = get_or-eq_default heads head (omega (arith, after, counted)) in
                    let y : get_or heads (length a.starts) head ≡ head = get_or-eq_default heads head (omega (arith, counted)) in
                    let z : end_of a m ≡ length a.lits = get_or-eq_default a.starts (length a.lits) (omega (arith, after)) in
                    let u : end_of a (length a.starts) ≡ length a.lits = get_or-eq_default a.starts (length a.lits) (omega arith) in
                    omega (arith, first, second, w, x, y, z, u)
              ]
            ];
        ends = λ m low.
            let second = append_read a.starts (length a.lits) m in
            elim (cases_order m (length a.starts)) [
              | inl e ↦ let w = v.ends m (omega (arith, e)) in omega (arith, second, w)
              | inr o ↦ elim o [
                | inl before ↦ let w = v.ends m (omega (arith, before)) in omega (arith, second, w)
                | inr after ↦
                    let z : end_of a m ≡ length a.lits = get_or-eq_default a.starts (length a.lits) (omega (arith, after)) in
                    omega (arith, second, z)
              ]
            ];
      }

pub engine_level : (s : Scene) (heads : List ℕ) (head : ℕ) (refuted : Option ℕ) → IsEngine s (visits heads head) refuted → IsEngine (scene (with_level s.assigned) s.watching) (visits (heads ++ head ∷ []) head) refuted
engine_level s heads head refuted h = record {
  codes = h.codes;
  small = h.small;
  few = h.few;
  below = h.below;
  reasoned = h.reasoned;
  decided = λ k low none.
      let found = h.decided k low none in
      let f_within : found.0 < length s.assigned.starts = found.1 in
      (found.0, omega (arith, f_within, length-append s.assigned.starts (length s.assigned.lits ∷ [])), get_or-append s.assigned.starts (length s.assigned.lits ∷ []) 0 found.0 found.1 ∙ found.2);
  visiting = visiting_level s.assigned heads head h.visiting;
  held = λ none k low. held_level s.assigned heads head h.visiting s.watching k (h.held none k low);
  is_attached = h.is_attached;
  is_false = λ k e. subst (λ (n : ℕ). AllFalse (take n s.assigned.lits) (clause_at s.watching.clauses k)) (sym (append_read s.assigned.starts (length s.assigned.lits) 0)) (h.is_false k e);
}

-- a literal that is assumed where a level begins
pub engine_assumed : (s : Scene) (heads : List ℕ) (head l : ℕ) (refuted : Option ℕ) → length s.assigned.reasons ≡ length s.assigned.lits → IsEngine s (visits heads head) refuted
    → IsEngine (scene (with_literal (with_level s.assigned) l None) s.watching) (visits (heads ++ head ∷ []) head) refuted
engine_assumed s heads head l refuted counted before =
    let a : Assigned = with_level s.assigned in
    let h = engine_level s heads head refuted before in
    let levels : length a.starts ≡ length s.assigned.starts + 1 = length-append s.assigned.starts (length s.assigned.lits ∷ []) in
    let grown = visiting_grown a (with_literal a l (Some 0)) (visits (heads ++ head ∷ []) head) (grown_one a l 0) h.visiting in
    record {
      codes = h.codes;
      small = h.small;
      few = h.few;
      below = h.below;
      reasoned = λ k at low is. elim (cases_eq k (length a.lits)) [
        | inl last ↦
            let read : get_or (a.reasons ++ None ∷ []) k None ≡ None = ap (λ (n : ℕ). get_or (a.reasons ++ None ∷ []) n None) (last ∙ sym counted) ∙ get_or-append_seam a.reasons None [] None in
            absurd (none_some at (sym read ∙ is))
        | inr other ↦
            let first : k < length a.lits = omega (arith, low, other, length-append a.lits (l ∷ [])) in
            let read : get_or (a.reasons ++ None ∷ []) k None ≡ get_or a.reasons k None = get_or-append a.reasons (None ∷ []) None k (omega (arith, first, counted)) in
            rw (take-append-le k a.lits (l ∷ []) (omega (arith, first)), get_or-append a.lits (l ∷ []) 0 k first) (h.reasoned k at first (sym read ∙ is))
      ];
      decided = λ k low none. elim (cases_eq k (length a.lits)) [
        | inl last ↦ (length s.assigned.starts, omega (arith, levels), get_or-append_seam s.assigned.starts (length s.assigned.lits) [] 0 ∙ sym last)
        | inr other ↦
            let first : k < length a.lits = omega (arith, low, other, length-append a.lits (l ∷ [])) in
            let read : get_or (a.reasons ++ None ∷ []) k None ≡ get_or a.reasons k None = get_or-append a.reasons (None ∷ []) None k (omega (arith, first, counted)) in
            h.decided k first (sym read ∙ none)
      ];
      visiting = record { counted = grown.counted; within = grown.within; ends = grown.ends };
      held = λ none k low. held_more a (l ∷ []) (a.reasons ++ None ∷ []) (visits (heads ++ head ∷ []) head) s.watching k h.visiting (h.held none k low);
      is_attached = h.is_attached;
      is_false = λ k e.
          let end : get_or a.starts 0 (length (a.lits ++ l ∷ [])) ≡ end_of a 0 = same_default a.starts 0 (length (a.lits ++ l ∷ [])) (length a.lits) (omega (arith, levels)) in
          let ends = h.visiting.ends 0 (omega arith) in
          let same : take (get_or a.starts 0 (length (a.lits ++ l ∷ []))) (a.lits ++ l ∷ []) ≡ take (end_of a 0) a.lits =
          ap (λ (n : ℕ). take n (a.lits ++ l ∷ [])) end ∙ take-append-le (end_of a 0) a.lits (l ∷ []) ends in
          subst (λ (xs : List ℕ). AllFalse xs (clause_at s.watching.clauses k)) (sym same) (h.is_false k e);
    }
  where
    none_some : (n : ℕ) → None ≡ Some n → ⊥
    none_some n e = cc

pub engine_new : (vars : ℕ) (w : Watching) → w.clauses ≡ [] → length w.lists ≡ vars + vars → vars < 2 ^ 31 → IsEngine (scene (record { vars = vars; lits = []; reasons = []; starts = [] }) w) (visits [] 0) None
engine_new vars w none codes small = record {
  codes = codes;
  small = small;
  few = omega (arith, ap length none);
  below = λ k l is_in. absurd (false≢true (subst (λ (cs : List (List ℕ)). has (clause_at cs k) l ≡ true) none is_in));
  reasoned = λ k at low. absurd (omega (arith, low));
  decided = λ k low. absurd (omega (arith, low));
  visiting = record { counted = refl; within = λ n b. omega arith; ends = λ n b. omega arith };
  held = λ e k low. absurd (omega (arith, low, ap length none));
  is_attached = λ k e. absurd (none_some k e);
  is_false = λ k e. absurd (none_some k e);
} where
  none_some : (n : ℕ) → None ≡ Some n → ⊥
  none_some n e = cc
