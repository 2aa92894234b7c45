-- What holds of resolution: a resolvent is a clause, and it follows.
use Rattle.std.proofs.Common.{◌≡◌, ℕ, zero, suc, ◌+◌, ◌<◌, ◌≤◌, Bool, true, false, not, ◌||◌, cond, List, [], ◌∷◌, ◌++◌, length, get_or, take, Option, Some, None, Result, Ok, Err, refl, sym, ap, subst, ◌∙◌, arith, inl, inr}
use Rattle.std.specs.List.{AllByRecursion, slice_get}
use Rattle.std.proofs.lemmas.Bool.{cases_Bool, cases_eq, false≢true, or_left, or_right, and_from, cond-true}
use Rattle.std.proofs.lemmas.List.{take_more, take_all, take-append-le, length_push, get_or_push, get_or_append_left}
use Rattle.clause_pool.specs.Literal.{complement, is_true}
use Rattle.clause_pool.specs.Clause.{has, without, IsRising, clause_true, Sat, Follows, IsBelow, AreBelow, KeepsBounds}
use Rattle.clause_pool.specs.Chain.{resolved, step_on, chain_from, started, chain}
use Rattle.clause_pool.specs.Derivation.{Derivation, IsDerived, AllFollow, grown}
use Rattle.clause_pool.specs.declared.chain.Pair.{Pair}
use Rattle.clause_pool.specs.declared.chain.StepFault.{StepFault}
use Rattle.clause_pool.proofs.LiteralLaws.{is_true-complement}
use Rattle.clause_pool.proofs.ClauseLaws.{IsRising-clause_of, clause_true-clause_of, clause_true-append, clause_true-subset, has-without_other, has-append, has-clause_of, all_push, all_found, IsBelow-without, IsBelow-append, IsBelow-clause_of}

-- a fault stays the answer of the chain
pub chain_from-fault : (clauses : List (List ℕ)) (place : ℕ) (pairs : List Pair) (fault : StepFault) → chain_from clauses place pairs (Err fault) ≡ Err fault
chain_from-fault clauses place [] fault = refl
chain_from-fault clauses place (p ∷ ps) fault = refl

pub IsRising-resolved : (running : List ℕ) (lit : ℕ) (other : List ℕ) → IsRising (resolved running lit other)
IsRising-resolved running lit other = IsRising-clause_of (without lit running ++ without (complement lit) other)

-- a clause with no true literal left out stays true
without_false : (a : ℕ → Bool) (l : ℕ) (c : List ℕ) → is_true a l ≡ false → clause_true a c ≡ true → clause_true a (without l c) ≡ true
without_false a l c f h =
    clause_true-subset a c (without l c)
    (λ x is_in holds. has-without_other l c x (λ (e : x ≡ l). false≢true (sym f ∙ ap (is_true a) (sym e) ∙ holds)) ∙ is_in) h

-- where both clauses are true, so is their resolvent
pub clause_true-resolved : (a : ℕ → Bool) (running : List ℕ) (lit : ℕ) (other : List ℕ) → clause_true a running ≡ true → clause_true a other ≡ true → clause_true a (resolved running lit other) ≡ true
clause_true-resolved a running lit other hr ho =
    clause_true-clause_of a (without lit running ++ without (complement lit) other)
    ∙ clause_true-append a (without lit running) (without (complement lit) other)
    ∙ elim (cases_Bool (is_true a lit)) [
      | inl t ↦
          or_right (clause_true a (without lit running)) (clause_true a (without (complement lit) other))
          (without_false a (complement lit) other (is_true-complement a lit ∙ ap not t) ho)
      | inr f ↦
          or_left (clause_true a (without lit running)) (clause_true a (without (complement lit) other))
          (without_false a lit running f hr)
    ]

-- a resolvent has no literal that is not below the bound of both clauses
pub IsBelow-resolved : (bound : ℕ) (running : List ℕ) (lit : ℕ) (other : List ℕ) → IsBelow bound running → IsBelow bound other → IsBelow bound (resolved running lit other)
IsBelow-resolved bound running lit other hr ho =
    IsBelow-clause_of bound (without lit running ++ without (complement lit) other)
    (IsBelow-append bound (without lit running) (without (complement lit) other) (IsBelow-without bound lit running hr) (IsBelow-without bound (complement lit) other ho))

chosen : (b : Bool) (c d : List ℕ) (fault : StepFault) → cond b (Ok c) (Err fault) ≡ Ok d → c ≡ d
chosen true c d fault h = cc
chosen false c d fault h = cc

-- what resolution keeps, a chain keeps
module _ (P : List ℕ → Type 0) (keeps : (running : List ℕ) (lit : ℕ) (other : List ℕ) → P running → P other → P (resolved running lit other)) where
  step_keeps : (running : List ℕ) (place lit : ℕ) (found : Option (List ℕ)) → P running → ((other : List ℕ) → found ≡ Some other → P other) → (c : List ℕ) → step_on running place lit found ≡ Ok c → P c
  step_keeps running place lit None hr ho c h = cc
  step_keeps running place lit (Some other) hr ho c h = subst P (chosen _ _ _ _ h) (keeps running lit other hr (ho other refl))

  rest_keeps : (clauses : List (List ℕ)) → AllByRecursion P clauses → (pairs : List Pair) (place : ℕ) (before : Result (List ℕ) StepFault) → ((c : List ℕ) → before ≡ Ok c → P c) → (c : List ℕ) → chain_from clauses place pairs before ≡ Ok c → P c
  rest_keeps clauses all [] place before hb c h = hb c h
  rest_keeps clauses all (p ∷ ps) place (Err fault) hb c h = cc
  rest_keeps clauses all (p ∷ ps) place (Ok running) hb c h =
      rest_keeps clauses all ps (place + 1) (step_on running place p.lit (slice_get clauses p.with))
      (step_keeps running place p.lit (slice_get clauses p.with) (hb running refl) (λ other e. all_found P clauses p.with other all e)) c h

  start_keeps : (found : Option (List ℕ)) → ((c : List ℕ) → found ≡ Some c → P c) → (c : List ℕ) → started found ≡ Ok c → P c
  start_keeps None h c e = cc
  start_keeps (Some d) h c e = let same : d ≡ c = cc in subst P same (h d refl)

  pub chain_keeps : (clauses : List (List ℕ)) (start : ℕ) (pairs : List Pair) (c : List ℕ) → AllByRecursion P clauses → chain clauses start pairs ≡ Ok c → P c
  chain_keeps clauses start pairs c all h =
      rest_keeps clauses all pairs 1 (started (slice_get clauses start))
      (start_keeps (slice_get clauses start) (λ d e. all_found P clauses start d all e)) c h

step_rises : (running : List ℕ) (place lit : ℕ) (found : Option (List ℕ)) (c : List ℕ) → step_on running place lit found ≡ Ok c → IsRising c
step_rises running place lit None c h = cc
step_rises running place lit (Some other) c h = subst IsRising (chosen _ _ _ _ h) (IsRising-resolved running lit other)

rest_rises : (clauses : List (List ℕ)) (p : Pair) (ps : List Pair) (place : ℕ) (before : Result (List ℕ) StepFault) (c : List ℕ) → chain_from clauses place (p ∷ ps) before ≡ Ok c → IsRising c
rest_rises clauses p [] place (Err fault) c h = cc
rest_rises clauses p [] place (Ok running) c h = step_rises running place p.lit (slice_get clauses p.with) c h
rest_rises clauses p (q ∷ qs) place (Err fault) c h = cc
rest_rises clauses p (q ∷ qs) place (Ok running) c h = rest_rises clauses q qs (place + 1) (step_on running place p.lit (slice_get clauses p.with)) c h

-- the resolvent of a chain with a pair is in order, whatever the clauses
pub chain_rises : (clauses : List (List ℕ)) (start : ℕ) (pairs : List Pair) (c : List ℕ) → 0 < length pairs → chain clauses start pairs ≡ Ok c → IsRising c
chain_rises clauses start [] c some h = absurd (omega (arith, some))
chain_rises clauses start (p ∷ ps) c some h = rest_rises clauses p ps 1 (started (slice_get clauses start)) c h

-- the resolvent of a chain over some clauses follows from them
pub Follows-chain : (clauses : List (List ℕ)) (start : ℕ) (pairs : List Pair) (c : List ℕ) → chain clauses start pairs ≡ Ok c → Follows clauses c
Follows-chain clauses start pairs c h = λ a s. chain_keeps (λ d. clause_true a d ≡ true) (clause_true-resolved a) clauses start pairs c s h

-- its literals are below each bound of theirs
pub IsBelow-chain : (bound : ℕ) (clauses : List (List ℕ)) (start : ℕ) (pairs : List Pair) (c : List ℕ) → AreBelow bound clauses → chain clauses start pairs ≡ Ok c → IsBelow bound c
IsBelow-chain bound clauses start pairs c all h = chain_keeps (IsBelow bound) (IsBelow-resolved bound) clauses start pairs c all h

Sat-from_follows : (given clauses : List (List ℕ)) (a : ℕ → Bool) → Sat given a → AllByRecursion (Follows given) clauses → Sat clauses a
Sat-from_follows given [] a s h = tt
Sat-from_follows given (c ∷ cs) a s h = (h.0 a s, Sat-from_follows given cs a s h.1)

-- what follows from clauses that follow from the given ones follows from the given ones
pub Follows-cut : (given clauses : List (List ℕ)) (c : List ℕ) → AllByRecursion (Follows given) clauses → Follows clauses c → Follows given c
Follows-cut given clauses c h f = λ a s. f a (Sat-from_follows given clauses a s h)

follows_later : (d : List ℕ) (given clauses : List (List ℕ)) → AllByRecursion (Follows given) clauses → AllByRecursion (Follows (d ∷ given)) clauses
follows_later d given [] h = tt
follows_later d given (c ∷ cs) h = ((λ a s. h.0 a s.1), follows_later d given cs h.1)

-- each clause of a list follows from the list
pub Follows-given : (clauses : List (List ℕ)) → AllByRecursion (Follows clauses) clauses
Follows-given [] = tt
Follows-given (c ∷ cs) = ((λ a s. s.0), follows_later c cs cs (Follows-given cs))

-- the first clauses up to the n-th derived one follow
first_follow : (k : Derivation) → IsDerived k → (n : ℕ) → n ≤ length k.starts → AllByRecursion (Follows (take k.given k.clauses)) (take (k.given + n) k.clauses)
first_follow k d zero h =
    let same : k.given ≡ k.given + 0 = omega arith in
    subst (λ (m : ℕ). AllByRecursion (Follows (take k.given k.clauses)) (take m k.clauses)) same (Follows-given (take k.given k.clauses))
first_follow k d (suc n) h =
    let before = first_follow k d n (omega arith) in
    let counted = d.clauses_counted in
    let c : List ℕ = get_or k.clauses (k.given + n) [] in
    let more : take (k.given + n + 1) k.clauses ≡ take (k.given + n) k.clauses ++ c ∷ [] = take_more k.clauses (k.given + n) [] (omega arith) in
    let follows : Follows (take k.given k.clauses) c =
    Follows-cut (take k.given k.clauses) (take (k.given + n) k.clauses) c before
    (Follows-chain (take (k.given + n) k.clauses) (get_or k.starts n 0) (get_or k.pairs n []) c (d.resolvents n (omega arith))) in
    let place : k.given + n + 1 ≡ k.given + suc n = omega arith in
    subst (λ (m : ℕ). AllByRecursion (Follows (take k.given k.clauses)) (take m k.clauses)) place
    (subst (λ (cs : List (List ℕ)). AllByRecursion (Follows (take k.given k.clauses)) cs) (sym more)
    (all_push (Follows (take k.given k.clauses)) (take (k.given + n) k.clauses) c before follows))

-- every clause of a kernel follows from its given ones
pub derived_follow : (k : Derivation) → IsDerived k → AllFollow k
derived_follow k d =
    let counted = d.clauses_counted in
    subst (λ (cs : List (List ℕ)). AllByRecursion (Follows (take k.given k.clauses)) cs)
    (take_all (k.given + length k.starts) k.clauses (omega arith)) (first_follow k d (length k.starts) (omega arith))

same_chain : (cs ds : List (List ℕ)) (s t : ℕ) (ps qs : List Pair) (x y : List ℕ) → cs ≡ ds → s ≡ t → ps ≡ qs → x ≡ y → chain ds t qs ≡ Ok y → chain cs s ps ≡ Ok x
same_chain cs ds s t ps qs x y same_clauses same_start same_pairs same made =
    ap (λ (clauses : List (List ℕ)). chain clauses s ps) same_clauses ∙ ap (λ (start : ℕ). chain ds start ps) same_start
    ∙ ap (chain ds t) same_pairs ∙ made ∙ ap Ok (sym same)

-- one more clause, the resolvent of a chain over those before it
derived_more : (k : Derivation) (start : ℕ) (pairs : List Pair) (c : List ℕ) → IsDerived k → 0 < length pairs → chain k.clauses start pairs ≡ Ok c → IsDerived (grown k start pairs c)
derived_more k start pairs c d some made =
    let counted = d.clauses_counted in
    let same = d.pairs_counted in
    record {
      clauses_counted = omega (arith, length_push k.clauses c, length_push k.starts start);
      pairs_counted = omega (arith, length_push k.pairs pairs, length_push k.starts start);
      pairs_there = λ n low. elim (cases_eq n (length k.starts)) [
        | inl e ↦ subst (λ (ps : List Pair). 0 < length ps) (sym (get_or_push k.pairs pairs [] n (omega arith))) some
        | inr other ↦
            let before : n < length k.starts = omega (arith, low, other, length_push k.starts start) in
            subst (λ (ps : List Pair). 0 < length ps) (sym (get_or_append_left k.pairs (pairs ∷ []) [] n (omega arith))) (d.pairs_there n before)
      ];
      resolvents = λ n low. elim (cases_eq n (length k.starts)) [
        | inl e ↦
            same_chain _ _ _ _ _ _ _ _
            (take-append-le (k.given + n) k.clauses (c ∷ []) (omega arith) ∙ take_all (k.given + n) k.clauses (omega arith))
            (get_or_push k.starts start 0 n (omega arith)) (get_or_push k.pairs pairs [] n (omega arith))
            (get_or_push k.clauses c [] (k.given + n) (omega arith)) made
        | inr other ↦
            let before : n < length k.starts = omega (arith, low, other, length_push k.starts start) in
            same_chain _ _ _ _ _ _ _ _
            (take-append-le (k.given + n) k.clauses (c ∷ []) (omega arith))
            (get_or_append_left k.starts (start ∷ []) 0 n before) (get_or_append_left k.pairs (pairs ∷ []) [] n (omega arith))
            (get_or_append_left k.clauses (c ∷ []) [] (k.given + n) (omega arith)) (d.resolvents n before)
      ];
    }

-- the same of lists that are known by equations
pub derived_grown : (k : Derivation) (start : ℕ) (pairs : List Pair) (c : List ℕ) (clauses : List (List ℕ)) (starts : List ℕ) (all : List (List Pair)) → IsDerived k → 0 < length pairs → chain k.clauses start pairs ≡ Ok c
    → clauses ≡ k.clauses ++ c ∷ [] → starts ≡ k.starts ++ start ∷ [] → all ≡ k.pairs ++ pairs ∷ [] → IsDerived (record { given = k.given; clauses = clauses; starts = starts; pairs = all })
derived_grown k start pairs c clauses starts all d some made same_clauses same_starts same_pairs =
    subst (λ (cs : List (List ℕ)). IsDerived (record { given = k.given; clauses = cs; starts = starts; pairs = all })) (sym same_clauses)
    (subst (λ (ss : List ℕ). IsDerived (record { given = k.given; clauses = k.clauses ++ c ∷ []; starts = ss; pairs = all })) (sym same_starts)
    (subst (λ (ps : List (List Pair)). IsDerived (record { given = k.given; clauses = k.clauses ++ c ∷ []; starts = k.starts ++ start ∷ []; pairs = ps })) (sym same_pairs)
    (derived_more k start pairs c d some made)))

-- the pairs of a chain are applied one part after another
pub chain_from-append : (clauses : List (List ℕ)) (place : ℕ) (first second : List Pair) (before : Result (List ℕ) StepFault) → chain_from clauses place (first ++ second) before ≡ chain_from clauses (place + length first) second (chain_from clauses place first before)
chain_from-append clauses place [] second before = ap (λ (n : ℕ). chain_from clauses n second before) (let e : place ≡ place + 0 = omega arith in e)
chain_from-append clauses place (p ∷ ps) second (Err fault) = sym (chain_from-fault clauses (place + suc (length ps)) second fault)
chain_from-append clauses place (p ∷ ps) second (Ok running) =
    chain_from-append clauses (place + 1) ps second (step_on running place p.lit (slice_get clauses p.with))
    ∙ ap (λ (n : ℕ). chain_from clauses n second (chain_from clauses (place + 1) ps (step_on running place p.lit (slice_get clauses p.with))))
    (let e : place + 1 + length ps ≡ place + suc (length ps) = omega arith in e)

-- one more pair at the end of a chain
pub chain-push : (clauses : List (List ℕ)) (start : ℕ) (pairs : List Pair) (pair : Pair) (running : List ℕ) → chain clauses start pairs ≡ Ok running → chain clauses start (pairs ++ pair ∷ []) ≡ step_on running (1 + length pairs) pair.lit (slice_get clauses pair.with)
chain-push clauses start pairs pair running h =
    chain_from-append clauses 1 pairs (pair ∷ []) (started (slice_get clauses start))
    ∙ ap (chain_from clauses (1 + length pairs) (pair ∷ [])) h

-- a pair that is right makes the resolvent
pub step_on-resolved : (running : List ℕ) (place lit : ℕ) (other : List ℕ) → has running lit ≡ true → has other (complement lit) ≡ true → step_on running place lit (Some other) ≡ Ok (resolved running lit other)
step_on-resolved running place lit other h k = cond-true _ _ _ (and_from (has running lit) (has other (complement lit)) h k)

-- a resolvent has no literal but those of the two clauses, without the pivot
pub has-resolved : (running : List ℕ) (lit : ℕ) (other : List ℕ) (l : ℕ) → has (resolved running lit other) l ≡ (has (without lit running) l || has (without (complement lit) other) l)
has-resolved running lit other l =
    has-clause_of (without lit running ++ without (complement lit) other) l ∙ has-append (without lit running) (without (complement lit) other) l

-- one more resolvent keeps the bounds
pub bounds-push : (clauses new : List (List ℕ)) (start : ℕ) (pairs : List Pair) (c : List ℕ) → chain clauses start pairs ≡ Ok c → new ≡ clauses ++ c ∷ [] → KeepsBounds clauses new
bounds-push clauses new start pairs c h is = λ bound all.
    subst (AreBelow bound) (sym is) (all_push (IsBelow bound) clauses c all (IsBelow-chain bound clauses start pairs c all h))

pub bounds-same : (clauses new : List (List ℕ)) → new ≡ clauses → KeepsBounds clauses new
bounds-same clauses new is = λ bound all. subst (AreBelow bound) (sym is) all
