-- What the search keeps when the trail grows, is cut, or a level is opened.
use Rattle.std.proofs.Common.{◌≡◌, ◌⊎◌, inl, inr, ℕ, ◌+◌, ◌-◌, ◌*◌, ◌/◌, ◌<◌, ◌≤◌, true, false, List, [], ◌∷◌, ◌++◌, Option, None, length, take, get_or, refl, sym, subst, ◌∙◌, ap, arith, length-append}
use Rattle.std.proofs.lemmas.Bool.{cases_eq, cases_order, false≢true}
use Rattle.std.proofs.lemmas.List.{get_or-take, length-take-le, take_all, take-take, take-append-le}
use Rattle.std.proofs.Math.ListN.{get_or-append, get_or-eq_default}
use Rattle.std.proofs.Math.Seq.{get_or-append_seam}
use Rattle.clause_pool.specs.Literal.{complement}
use Rattle.clause_pool.specs.Clause.{has}
use Rattle.clause_pool.proofs.LiteralLaws.{complement-complement, complement-half}
use Rattle.clause_pool.proofs.ClauseLaws.{all_push}
use Rattle.propagate.specs.Trail.{Trail, IsTrail, level, end_of, upto, IsFalse}
use Rattle.propagate.specs.Quiet.{Quiet, IsQuietFor}
use Rattle.propagate.specs.Engine.{Extends, with_assumed, cut, IsOpenAbove, IsLevelOf, IsOpen}
use Rattle.propagate.specs.Assignment.{IsAssigned}
use Rattle.propagate.proofs.AssignmentLaws.{has_push, push_has, push_here}
use Rattle.propagate.proofs.AssignmentSteps.{room_for_one}
use Rattle.propagate.proofs.KeepLaws.{same_default}
use Rattle.propagate.proofs.QuietLaws.{has_take}
use Rattle.solver.specs.Marks.{start_of, false_at}
use Rattle.solver.specs.Search.{IsSettled, IsAssumed, AreOpened, IsAsserting, IsJump, left_of}
use Rattle.solver.proofs.TrailLaws.{placed_in, has_placed, has_longer, same_place, consistent, end_within, ends_rise}

le_or_lt : (a b : ℕ) → (a ≤ b) ⊎ (b < a)
le_or_lt a b = elim (cases_order a b) [
  | inl e ↦ inl (omega (arith, e))
  | inr o ↦ elim o [ inl less ↦ inl (omega (arith, less)) | inr more ↦ inr more ]
]

-- the end of the last level is the end
last_end : (t : Trail) (n : ℕ) → level t ≤ n → end_of t n ≡ length t.lits
last_end t n low = get_or-eq_default t.starts (length t.lits) low

-- at level 0 nothing was assumed
pub settled_at_zero : (t : Trail) → level t ≡ 0 → IsSettled t
settled_at_zero t zero_level = record {
  quiet = λ n low. absurd (omega (arith, low, zero_level));
  counted = λ n low. omega (arith, low, zero_level);
}

pub assumed_at_zero : (a : List ℕ) (d : ℕ) (t : Trail) → 0 < d → IsTrail t → level t ≡ 0 → IsAssumed a d t
assumed_at_zero a d t some h zero_level = record {
  held = λ n late low. absurd (omega (arith, late, some, low, zero_level));
  opened = λ k low none.
      let w = end_within t d h in
      let o = h.decided k (omega (arith, low, w)) none in
      let first : o.0 < level t = o.1 in
      absurd (omega (arith, first, zero_level));
}

-- further literals, each for a reason
module _ (t s : Trail) (h : IsTrail t) (e : Extends t s) where
  same_level : level s ≡ level t
  same_level = ap length e.same_starts

  same_end : (n : ℕ) → n < level t → end_of s n ≡ end_of t n
  same_end n low = ap (λ (xs : List ℕ). get_or xs n (length s.lits)) e.same_starts ∙ same_default t.starts n (length s.lits) (length t.lits) low

  ends_grow : (n : ℕ) → end_of t n ≤ end_of s n
  ends_grow n = elim (le_or_lt (level t) n) [
    | inl high ↦ let a = last_end t n high in let l = same_level in let b = last_end s n (omega (arith, high, l)) in let more = e.longer in omega (arith, a, b, more)
    | inr low ↦ let a = same_end n low in omega (arith, a)
  ]

  first_part : (n : ℕ) → n ≤ length t.lits → take n s.lits ≡ take n t.lits
  first_part n low = sym (take-take n (length t.lits) s.lits low) ∙ ap (take n) e.lits_kept

  pub upto_same : (n : ℕ) → n < level t → upto s n ≡ upto t n
  upto_same n low = ap (λ (k : ℕ). take k s.lits) (same_end n low) ∙ first_part (end_of t n) (end_within t n h)

  pub has_grown : (n l : ℕ) → has (upto t n) l ≡ true → has (upto s n) l ≡ true
  has_grown n l is = has_longer s.lits (end_of t n) (end_of s n) l (ends_grow n) (subst (λ (xs : List ℕ). has xs l ≡ true) (sym (first_part (end_of t n) (end_within t n h))) is)

  pub left_grown : left_of s ≤ left_of t
  left_grown =
      let a : length t.lits ≤ length s.lits = e.longer in
      let v : s.vars ≡ t.vars = e.same_vars in
      let l : level s ≡ level t = same_level in
      omega (arith, a, v, l)

  pub settled_grows : IsSettled t → ((n : ℕ) → n < level t → Quiet t.clauses (upto t n) → Quiet s.clauses (upto t n)) → IsSettled s
  settled_grows settled stays = record {
    quiet = λ n low.
        let l = same_level in
        let before : n < level t = omega (arith, low, l) in
        subst (Quiet s.clauses) (sym (upto_same n before)) (stays n before (settled.quiet n before));
    counted = λ n low. let l = same_level in let c = settled.counted n (omega (arith, low, l)) in let m = ends_grow n in omega (arith, c, m);
  }

  -- what has no reason was there before
  opened_early : IsTrail s → (i : ℕ) → i < length s.lits → get_or s.reasons i None ≡ None → (i < length t.lits) × (get_or t.reasons i None ≡ None) × (get_or s.lits i 0 ≡ get_or t.lits i 0)
  opened_early k i low none = elim (le_or_lt (length t.lits) i) [
    | inl late ↦ absurd (e.derived i late low none)
    | inr early ↦
        let reason : get_or s.reasons i None ≡ get_or t.reasons i None = sym (get_or-take (length t.lits) s.reasons i None early) ∙ ap (λ (xs : List (Option ℕ)). get_or xs i None) e.reasons_kept in
        let literal : get_or s.lits i 0 ≡ get_or t.lits i 0 = sym (get_or-take (length t.lits) s.lits i 0 early) ∙ ap (λ (xs : List ℕ). get_or xs i 0) e.lits_kept in
        (early, sym reason ∙ none, literal)
  ]

  pub opened_grows : (a : List ℕ) → IsTrail s → AreOpened a t → AreOpened a s
  opened_grows a k opened i low none = let o = opened_early k i low none in ap (has a) o.2 ∙ opened i o.0 o.1

  pub assumed_grows : (a : List ℕ) (d : ℕ) → IsTrail s → IsAssumed a d t → IsAssumed a d s
  assumed_grows a d k assumed = record {
    held = λ n late low l is_in. let same = same_level in has_grown n l (assumed.held n late (omega (arith, low, same)) l is_in);
    opened = λ i low none.
        let w = end_within s d k in
        let o = opened_early k i (omega (arith, low, w)) none in
        let early : i < length t.lits = o.0 in
        let first : i < end_of t d = elim (le_or_lt (level t) d) [
          | inl last ↦ let x = last_end t d last in omega (arith, x, early)
          | inr more ↦ let x = same_end d more in omega (arith, x, low)
        ] in
        ap (has a) o.2 ∙ assumed.opened i first o.1;
  }

  pub held_grows : (l : ℕ) → has t.lits l ≡ true → has s.lits l ≡ true
  held_grows l is = has_take (length t.lits) s.lits l (subst (λ (xs : List ℕ). has xs l ≡ true) (sym e.lits_kept) is)

-- levels that are taken back
module _ (t : Trail) (n : ℕ) (h : IsTrail t) (within : n ≤ level t) where
  pub cut_level : level (cut t n) ≡ n
  cut_level = length-take-le n t.starts within

  pub cut_length : length (take (end_of t n) t.lits) ≡ end_of t n
  cut_length = length-take-le (end_of t n) t.lits (end_within t n h)

  pub cut_end : (m : ℕ) → m ≤ n → end_of (cut t n) m ≡ end_of t m
  cut_end m below = elim (cases_eq m n) [
    | inl e ↦
        let l = cut_level in
        get_or-eq_default (take n t.starts) (length (take (end_of t n) t.lits)) (omega (arith, e, l)) ∙ cut_length ∙ sym (ap (λ (k : ℕ). end_of t k) e)
    | inr other ↦
        get_or-take n t.starts m (length (take (end_of t n) t.lits)) (omega (arith, below, other))
        ∙ same_default t.starts m (length (take (end_of t n) t.lits)) (length t.lits) (omega (arith, within, below, other))
  ]

  pub cut_upto : (m : ℕ) → m ≤ n → upto (cut t n) m ≡ upto t m
  cut_upto m below = ap (λ (k : ℕ). take k (take (end_of t n) t.lits)) (cut_end m below) ∙ take-take (end_of t m) (end_of t n) t.lits (ends_rise t n m h below)

  pub settled_cut : IsSettled t → IsSettled (cut t n)
  settled_cut settled = record {
    quiet = λ m low. let l = cut_level in subst (Quiet t.clauses) (sym (cut_upto m (omega (arith, low, l)))) (settled.quiet m (omega (arith, low, l, within)));
    counted = λ m low. let l = cut_level in let e = cut_end m (omega (arith, low, l)) in let c = settled.counted m (omega (arith, low, l, within)) in omega (arith, e, c);
  }

  pub assumed_cut : (a : List ℕ) (d : ℕ) → IsAssumed a d t → IsAssumed a d (cut t n)
  assumed_cut a d assumed = record {
    held = λ m late low x is_in.
        let l = cut_level in
        subst (λ (xs : List ℕ). has xs x ≡ true) (sym (cut_upto m (omega (arith, low, l)))) (assumed.held m late (omega (arith, low, l, within)) x is_in);
    opened = λ k low none.
        let len = cut_length in
        let both : (k < end_of t n) × (k < end_of t d) = elim (le_or_lt d n) [
          | inl some ↦ let e = cut_end d some in let r = ends_rise t n d h some in (omega (arith, low, e, r), omega (arith, low, e))
          | inr none_open ↦
              let l = cut_level in
              let e : end_of (cut t n) d ≡ length (take (end_of t n) t.lits) = get_or-eq_default (take n t.starts) (length (take (end_of t n) t.lits)) (omega (arith, l, none_open)) in
              let r = ends_rise t d n h (omega (arith, none_open)) in
              (omega (arith, low, e, len), omega (arith, low, e, len, r))
        ] in
        ap (has a) (get_or-take (end_of t n) t.lits k 0 both.0) ∙ assumed.opened k both.1 (sym (get_or-take (end_of t n) t.reasons k None both.0) ∙ none);
  }

-- a level is opened with a literal
record Opens (t s : Trail) (x : ℕ) : Type 0 where
  clauses : s.clauses ≡ t.clauses
  lits : s.lits ≡ t.lits ++ x ∷ []
  reasons : s.reasons ≡ t.reasons ++ None ∷ []
  starts : s.starts ≡ t.starts ++ length t.lits ∷ []

module _ (t s : Trail) (x : ℕ) (h : IsTrail t) (o : Opens t s x) where
  open_level : level s ≡ level t + 1
  open_level = ap length o.starts ∙ length-append t.starts (length t.lits ∷ [])

  open_length : length s.lits ≡ length t.lits + 1
  open_length = ap length o.lits ∙ length-append t.lits (x ∷ [])

  open_end : (n : ℕ) → n ≤ level t → end_of s n ≡ end_of t n
  open_end n low = ap (λ (xs : List ℕ). get_or xs n (length s.lits)) o.starts ∙ elim (cases_eq n (level t)) [
    | inl e ↦ ap (λ (k : ℕ). get_or (t.starts ++ length t.lits ∷ []) k (length s.lits)) e ∙ get_or-append_seam t.starts (length t.lits) [] (length s.lits) ∙ sym (last_end t n (omega (arith, e)))
    | inr other ↦
        let before : n < level t = omega (arith, low, other) in
        get_or-append t.starts (length t.lits ∷ []) (length s.lits) n before ∙ same_default t.starts n (length s.lits) (length t.lits) before
  ]

  open_upto : (n : ℕ) → n ≤ level t → upto s n ≡ upto t n
  open_upto n low = ap (λ (k : ℕ). take k s.lits) (open_end n low) ∙ ap (take (end_of t n)) o.lits ∙ take-append-le (end_of t n) t.lits (x ∷ []) (end_within t n h)

  settled_opens : IsSettled t → Quiet t.clauses t.lits → IsSettled s
  settled_opens settled quiet = record {
    quiet = λ n low.
        let l = open_level in
        let below : n ≤ level t = omega (arith, low, l) in
        subst (λ (cs : List (List ℕ)). Quiet cs (upto s n)) (sym o.clauses) (subst (Quiet t.clauses) (sym (open_upto n below)) (elim (cases_eq n (level t)) [
          | inl e ↦ subst (Quiet t.clauses) (sym (ap (λ (k : ℕ). take k t.lits) (last_end t n (omega (arith, e))) ∙ take_all (length t.lits) t.lits (omega arith))) quiet
          | inr other ↦ settled.quiet n (omega (arith, below, other))
        ]));
    counted = λ n low. elim (le_or_lt n (level t)) [
      | inl below ↦ let e = open_end n below in let c = settled.counted n below in omega (arith, e, c)
      | inr last ↦
          let l = open_level in
          let e = last_end s n (omega (arith, last, l)) in
          let c = settled.counted (level t) (omega arith) in
          let f = last_end t (level t) (omega arith) in
          let more = open_length in
          omega (arith, e, low, l, c, f, more)
    ];
  }

  opened_reads : (k : ℕ) → k < length t.lits → get_or s.reasons k None ≡ None → (get_or t.reasons k None ≡ None) × (get_or s.lits k 0 ≡ get_or t.lits k 0)
  opened_reads k early none =
      let counted = h.reasons_counted in (
        sym (ap (λ (xs : List (Option ℕ)). get_or xs k None) o.reasons ∙ get_or-append t.reasons (None ∷ []) None k (omega (arith, early, counted))) ∙ none,
        ap (λ (xs : List ℕ). get_or xs k 0) o.lits ∙ get_or-append t.lits (x ∷ []) 0 k early,
      )

  -- by an assumption
  opened_opens : (a : List ℕ) → has a x ≡ true → AreOpened a t → AreOpened a s
  opened_opens a is_in opened k low none = elim (le_or_lt (length t.lits) k) [
    | inl late ↦
        let len = open_length in
        let place : k ≡ length t.lits = omega (arith, late, low, len) in
        ap (has a) (ap (λ (xs : List ℕ). get_or xs k 0) o.lits ∙ ap (λ (i : ℕ). get_or (t.lits ++ x ∷ []) i 0) place ∙ get_or-append_seam t.lits x [] 0) ∙ is_in
    | inr early ↦ let r = opened_reads k early none in ap (has a) r.1 ∙ opened k early r.0
  ]

  -- above the level of the assumptions
  assumed_opens : (a : List ℕ) (d : ℕ) → d ≤ level t → IsAssumed a d t → IsAssumed a d s
  assumed_opens a d deep assumed = record {
    held = λ n late low l is_in. elim (le_or_lt n (level t)) [
      | inl below ↦ subst (λ (xs : List ℕ). has xs l ≡ true) (sym (open_upto n below)) (assumed.held n late below l is_in)
      | inr last ↦
          let up = open_level in
          let there = has_take (end_of t (level t)) t.lits l (assumed.held (level t) deep (omega arith) l is_in) in
          subst (λ (xs : List ℕ). has xs l ≡ true) (sym (ap (λ (k : ℕ). take k s.lits) (last_end s n (omega (arith, last, up))) ∙ take_all (length s.lits) s.lits (omega arith)))
          (subst (λ (xs : List ℕ). has xs l ≡ true) (sym o.lits) (push_has t.lits x l there))
    ];
    opened = λ k low none.
        let e = open_end d deep in
        let w = end_within t d h in
        let r = opened_reads k (omega (arith, low, e, w)) none in
        ap (has a) r.1 ∙ assumed.opened k (omega (arith, low, e)) r.0;
  }

opens : (t : Trail) (l : ℕ) → has t.lits l ≡ false → Opens t (with_assumed t l) l
opens t l is = rw is (record { clauses = refl; lits = refl; reasons = refl; starts = refl })

assumed_vars : (t : Trail) (l : ℕ) → has t.lits l ≡ false → (with_assumed t l).vars ≡ t.vars
assumed_vars t l is = rw is refl

pub assigned_of : (t : Trail) → IsTrail t → IsAssigned (record { vars = t.vars; lits = t.lits; reasons = t.reasons; starts = t.starts })
assigned_of t h = record {
  apart = h.apart;
  consistent = λ l. consistent t l h;
  below = h.below;
  few_levels = h.few_levels;
  rising = h.rising;
  within = h.within;
  reasons_counted = h.reasons_counted;
}

-- where a literal is open, there is room for a level
pub room_for_level : (t : Trail) (l : ℕ) → IsTrail t → IsSettled t → l < 2 * t.vars → has t.lits l ≡ false → has t.lits (complement l) ≡ false → (length t.lits < t.vars) × (level t < t.vars)
room_for_level t l h settled below not_true not_false =
    let r = room_for_one (record { vars = t.vars; lits = t.lits; reasons = t.reasons; starts = t.starts }) l (assigned_of t h) (omega (arith, below)) not_true not_false in
    let c = settled.counted (level t) (omega arith) in
    let e = last_end t (level t) (omega arith) in
    (r, omega (arith, r, c, e))

-- an open literal is assumed
module _ (t s : Trail) (l : ℕ) (h : IsTrail t) (is : s ≡ with_assumed t l) (not_true : has t.lits l ≡ false) where
  pub clauses_assumed : s.clauses ≡ t.clauses
  clauses_assumed = ap (λ (u : Trail). u.clauses) is ∙ (opens t l not_true).clauses

  pub vars_assumed : s.vars ≡ t.vars
  vars_assumed = ap (λ (u : Trail). u.vars) is ∙ assumed_vars t l not_true

  pub settled_assumed : IsSettled t → Quiet t.clauses t.lits → IsSettled s
  settled_assumed settled quiet = subst IsSettled (sym is) (settled_opens t (with_assumed t l) l h (opens t l not_true) settled quiet)

  pub opened_assumed : (a : List ℕ) → has a l ≡ true → AreOpened a t → AreOpened a s
  opened_assumed a is_in opened = subst (AreOpened a) (sym is) (opened_opens t (with_assumed t l) l h (opens t l not_true) a is_in opened)

  pub assumed_assumed : (a : List ℕ) (d : ℕ) → d ≤ level t → IsAssumed a d t → IsAssumed a d s
  assumed_assumed a d deep assumed = subst (IsAssumed a d) (sym is) (assumed_opens t (with_assumed t l) l h (opens t l not_true) a d deep assumed)

  pub level_assumed : level s ≡ level t + 1
  level_assumed = ap level is ∙ open_level t (with_assumed t l) l h (opens t l not_true)

  pub lits_assumed : s.lits ≡ t.lits ++ l ∷ []
  lits_assumed = ap (λ (u : Trail). u.lits) is ∙ (opens t l not_true).lits

  pub left_assumed : length t.lits < t.vars → left_of s < left_of t
  left_assumed room =
      let len : length s.lits ≡ length t.lits + 1 = ap length lits_assumed ∙ length-append t.lits (l ∷ []) in
      let v = vars_assumed in
      omega (arith, len, v, room)

  pub held_assumed : (x : ℕ) → has t.lits x ≡ true → has s.lits x ≡ true
  held_assumed x there = subst (λ (xs : List ℕ). has xs x ≡ true) (sym lits_assumed) (push_has t.lits l x there)

  pub here_assumed : has s.lits l ≡ true
  here_assumed = subst (λ (xs : List ℕ). has xs l ≡ true) (sym lits_assumed) (push_here t.lits l)

-- a clause of which two literals aren't false has nothing to say
pub open_is_quiet : (lits c : List ℕ) (u v : ℕ) → has c u ≡ true → has c v ≡ true → (v ≡ u → ⊥) → (IsFalse lits u → ⊥) → (IsFalse lits v → ⊥) → IsQuietFor lits c
open_is_quiet lits c u v u_in v_in apart u_open v_open = record {
  not_false = λ all. u_open (all u u_in);
  unit_true = λ x is_in others. elim (cases_eq u x) [
    | inl e ↦ absurd (v_open (others v v_in (λ same. apart (same ∙ sym e))))
    | inr other ↦ absurd (u_open (others u u_in other))
  ];
}

pub quiet_push : (clauses : List (List ℕ)) (lits c : List ℕ) → Quiet clauses lits → IsQuietFor lits c → Quiet (clauses ++ c ∷ []) lits
quiet_push clauses lits c q one = record { consistent = q.consistent; each = all_push (IsQuietFor lits) clauses c q.each one }

-- the forced literal was open before the current level
pub uip_open : (t : Trail) (c : List ℕ) (at n : ℕ) → IsTrail t → IsAsserting t c at → n ≤ start_of t → IsFalse (take n t.lits) (false_at t.lits at) → ⊥
uip_open t c at n h a low is =
    let p = placed_in t.lits n (complement (false_at t.lits at)) is in
    let same = same_place t p.place at h p.within a.within (ap (λ (l : ℕ). l / 2) (p.is ∙ complement-complement (get_or t.lits at 0))) in
    let before = p.before in
    let late = a.late in
    absurd (omega (arith, same, before, late, low))

-- the literals of a clause that isn't false at level n stay so when the trail is cut
module _ (t : Trail) (c : List ℕ) (at n : ℕ) (h : IsTrail t) (a : IsAsserting t c at) (j : IsJump t c (false_at t.lits at) n) where
  jump_within : n ≤ level t
  jump_within = let b = j.below in omega (arith, b)

  forced_open : (m : ℕ) → m ≤ n → IsFalse (upto t m) (false_at t.lits at) → ⊥
  forced_open m low = uip_open t c at (end_of t m) h a (let b = j.below in ends_rise t (level t - 1) m h (omega (arith, low, b)))

  other_open : (m l : ℕ) → m < n → (IsFalse (upto t (n - 1)) l → ⊥) → IsFalse (upto t m) l → ⊥
  other_open m l low late is = late (has_longer t.lits (end_of t m) (end_of t (n - 1)) (complement l) (ends_rise t (n - 1) m h (omega (arith, low))) is)

  pub jump_opens : 0 < level (cut t n) → IsOpenAbove (cut t n) c
  jump_opens some =
      let l = cut_level t n h jump_within in
      let first = j.first (omega (arith, some, l)) in
      let cut_before : upto (cut t n) (level (cut t n) - 1) ≡ upto t (n - 1) = ap (λ (k : ℕ). upto (cut t n) (k - 1)) l ∙ cut_upto t n h jump_within (n - 1) (omega arith) in
      record {
        first = false_at t.lits at;
        second = first.0;
        first_in = a.is_in;
        second_in = first.1;
        apart = λ e. first.2 (sym e);
        first_open = forced_open n (omega arith);
        second_late = λ is. first.3 (subst (λ (xs : List ℕ). IsFalse xs first.0) cut_before is);
      }

  pub settled_jumped : (s : Trail) → IsTrail (cut t n) → Extends (cut t n) s → s.clauses ≡ t.clauses ++ c ∷ [] → IsSettled t → IsSettled s
  settled_jumped s k e clauses settled =
      settled_grows (cut t n) s k e (settled_cut t n h jump_within settled)
      (λ m low q.
      let l = cut_level t n h jump_within in
      let below : m < n = omega (arith, low, l) in
      let first = j.first (omega (arith, below)) in
      let same = cut_upto t n h jump_within m (omega (arith, below)) in
      subst (λ (cs : List (List ℕ)). Quiet cs (upto (cut t n) m)) (sym clauses)
      (quiet_push t.clauses (upto (cut t n) m) c q
      (subst (λ (xs : List ℕ). IsQuietFor xs c) (sym same)
      (open_is_quiet (upto t m) c (false_at t.lits at) first.0 a.is_in first.1 first.2 (forced_open m (omega (arith, below))) (other_open m first.0 below first.3)))))

  pub assumed_jumped : (s : Trail) → IsTrail (cut t n) → IsTrail s → Extends (cut t n) s → (xs : List ℕ) (d : ℕ) → IsAssumed xs d t → IsAssumed xs d s
  assumed_jumped s k is_trail e xs d assumed = assumed_grows (cut t n) s k e xs d is_trail (assumed_cut t n h jump_within xs d assumed)

-- the level to go back to, one literal of the clause after the other
pub jump_none : (t : Trail) (u : ℕ) → 0 < level t → IsJump t [] u 0
jump_none t u some = record { below = some; others_false = λ l is. absurd (false≢true is); first = λ more. absurd (omega (arith, more)) }

pub jump_skips : (t : Trail) (c : List ℕ) (u n : ℕ) → IsJump t c u n → IsJump t (c ++ u ∷ []) u n
jump_skips t c u n j = record {
  below = j.below;
  others_false = λ l is other. elim (has_push c u l is) [ inl before ↦ j.others_false l before other | inr last ↦ absurd (other (sym last)) ];
  first = λ some. let f = j.first some in (f.0, push_has c u f.0 f.1, f.2, f.3);
}

module _ (t : Trail) (c : List ℕ) (u n y m : ℕ) (h : IsTrail t) (j : IsJump t c u n) (other : y ≡ u → ⊥) (is_false : IsFalse (take (start_of t) t.lits) y) (at : IsLevelOf t (y / 2) m) where
  y_placed : get_or t.lits at.0 0 ≡ complement y × (at.0 < start_of t)
  y_placed =
      let p = placed_in t.lits (start_of t) (complement y) is_false in
      let same = same_place t at.0 p.place h at.1 p.within (at.2 ∙ sym (complement-half y) ∙ sym (ap (λ (l : ℕ). l / 2) p.is)) in
      let before = p.before in
      (ap (λ (k : ℕ). get_or t.lits k 0) same ∙ p.is, omega (arith, same, before))

  y_level : m < level t
  y_level = elim (le_or_lt (level t) m) [
    | inr low ↦ low
    | inl high ↦ let b = j.below in let s = at.3.behind_start (level t - 1) (omega (arith, high, b)) in let p = y_placed.1 in absurd (omega (arith, s, p))
  ]

  y_false : (k : ℕ) → m ≤ k → IsFalse (upto t k) y
  y_false k low = let b = at.3.before_end in let r = ends_rise t k m h low in has_placed t.lits (end_of t k) at.0 (complement y) (omega (arith, b, r)) at.1 y_placed.0

  y_open : 0 < m → IsFalse (upto t (m - 1)) y → ⊥
  y_open some is =
      let p = placed_in t.lits (end_of t (m - 1)) (complement y) is in
      let same = same_place t at.0 p.place h at.1 p.within (at.2 ∙ sym (complement-half y) ∙ sym (ap (λ (l : ℕ). l / 2) p.is)) in
      let before = p.before in
      let late = at.3.behind_start (m - 1) (omega (arith, some)) in
      absurd (omega (arith, same, before, late))

  pub jump_rises : n < m → IsJump t (c ++ y ∷ []) u m
  jump_rises more = record {
    below = y_level;
    others_false = λ l is ne. elim (has_push c y l is) [
      | inl before ↦ has_longer t.lits (end_of t n) (end_of t m) (complement l) (ends_rise t m n h (omega (arith, more))) (j.others_false l before ne)
      | inr last ↦ subst (IsFalse (upto t m)) last (y_false m (omega arith))
    ];
    first = λ some. (y, push_here c y, other, y_open some);
  }

  pub jump_stays : m ≤ n → IsJump t (c ++ y ∷ []) u n
  jump_stays low = record {
    below = j.below;
    others_false = λ l is ne. elim (has_push c y l is) [
      | inl before ↦ j.others_false l before ne
      | inr last ↦ subst (IsFalse (upto t n)) last (y_false n low)
    ];
    first = λ some. let f = j.first some in (f.0, push_has c y f.0 f.1, f.2, f.3);
  }

-- a literal that is false was so behind the place of its variable
pub false_behind : (t : Trail) (y k end : ℕ) → IsTrail t → IsFalse t.lits y → k < length t.lits → get_or t.lits k 0 / 2 ≡ y / 2 → k < end → IsFalse (take end t.lits) y
false_behind t y k end h is_false within is before =
    let p = placed_in t.lits (length t.lits) (complement y) (subst (λ (xs : List ℕ). has xs (complement y) ≡ true) (sym (take_all (length t.lits) t.lits (omega arith))) is_false) in
    let same = same_place t k p.place h within p.within (is ∙ sym (complement-half y) ∙ sym (ap (λ (l : ℕ). l / 2) p.is)) in
    has_placed t.lits end k (complement y) before within (ap (λ (j : ℕ). get_or t.lits j 0) same ∙ p.is)

-- a literal that is false has a level
pub false_has_level : (t : Trail) (y : ℕ) → IsFalse (take (start_of t) t.lits) y → IsOpen t (y / 2) → ⊥
false_has_level t y is_false none =
    let p = placed_in t.lits (start_of t) (complement y) is_false in
    none p.place p.within (ap (λ (l : ℕ). l / 2) p.is ∙ complement-half y)

-- the same clauses over a longer trail
pub settled_propagated : (t s : Trail) → IsTrail t → Extends t s → s.clauses ≡ t.clauses → IsSettled t → IsSettled s
settled_propagated t s h e same settled = settled_grows t s h e settled (λ n low q. subst (λ (cs : List (List ℕ)). Quiet cs (upto t n)) (sym same) q)
