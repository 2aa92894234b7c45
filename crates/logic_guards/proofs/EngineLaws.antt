-- What the contracts of propagation and of resolution say of one clause, and of one pair.
use Rattle.std.proofs.Common.{◌≡◌, ℕ, ◌+◌, Bool, true, false, ◌&&◌, List, [], ◌∷◌, Option, Some, None, Result, Ok, Err, cond, refl, sym, subst}
use Rattle.std.specs.Prelude.{Contains, IfOk, slice_get}
use Rattle.std.proofs.lemmas.Bool.{and_parts}
use Rattle.std.proofs.lemmas.List.Elements.{All-contains, All-from_recursion}
use Rattle.std.proofs.lemmas.Option.{none-some, same_Some}
use Rattle.pb_base.specs.Answers.{Answers}
use Rattle.pb_base.specs.declared.answer.Fail.{Fail}
use Rattle.clause_pool.specs.Chain.{chain, chain_from, resolved, started, step_on}
use Rattle.clause_pool.specs.Clause.{has}
use Rattle.clause_pool.specs.Derivation.{placed}
use Rattle.clause_pool.specs.Literal.{complement}
use Rattle.clause_pool.specs.declared.chain.Pair.{Pair}
use Rattle.clause_pool.specs.declared.chain.StepFault.{StepFault}
use Rattle.clause_pool.specs.declared.chain.StepFault.TheVariants.{NoSuchStep, NoPivot}
use Rattle.propagate.specs.Quiet.{Quiet, IsQuietFor}
use Rattle.propagate.specs.Trail.{OthersFalse}

pub none_missed : (clauses : List (List ℕ)) (lits c : List ℕ) (l : ℕ) → Quiet clauses lits → Contains clauses c → has c l ≡ true → OthersFalse lits c l
    → has lits l ≡ true
none_missed clauses lits c l quiet there is_in others =
    (All-contains (IsQuietFor lits) clauses c (All-from_recursion (IsQuietFor lits) clauses quiet.each) there).unit_true l is_in others

abbrev IsDone : {A E : Type 0} → Result A E → Type 0
IsDone (Ok a) = Unit {0}
IsDone (Err e) = ⊥

stays_failed : (clauses : List (List ℕ)) (place : ℕ) (ps : List Pair) (fault : StepFault) → chain_from clauses place ps (Err fault) ≡ Err fault
stays_failed clauses place [] fault = refl
stays_failed clauses place (p ∷ ps) fault = refl

-- the test of a pair passed, as its step is done
by_test : (clauses : List (List ℕ)) (ps : List Pair) (running : List ℕ) (lit : ℕ) (other : List ℕ) (t : Bool) (fault : StepFault) (place : ℕ)
    → t ≡ (has running lit && has other (complement lit)) → IsDone (chain_from clauses place ps (cond t (Ok (resolved running lit other)) (Err fault)))
    → has running lit ≡ true
by_test clauses ps running lit other true fault place is done = (and_parts (has running lit) (has other (complement lit)) (sym is)).0
by_test clauses ps running lit other false fault place is done = absurd (subst IsDone (stays_failed clauses place ps fault) done)

by_found : (clauses : List (List ℕ)) (ps : List Pair) (running : List ℕ) (lit : ℕ) (found : Option (List ℕ)) (place : ℕ)
    → IsDone (chain_from clauses (place + 1) ps (step_on running place lit found)) → has running lit ≡ true
by_found clauses ps running lit None place done = absurd (subst IsDone (stays_failed clauses (place + 1) ps (NoSuchStep place)) done)
by_found clauses ps running lit (Some other) place done =
    by_test clauses ps running lit other (has running lit && has other (complement lit)) (NoPivot place) (place + 1) refl done

by_start : (clauses : List (List ℕ)) (pairs : List Pair) (found : Option (List ℕ)) (c : List ℕ) (pair : Pair) → found ≡ Some c → slice_get pairs 0 ≡ Some pair
    → IsDone (chain_from clauses 1 pairs (started found)) → has c pair.lit ≡ true
by_start clauses [] found c pair is first done = absurd (none-some pair first)
by_start clauses (p ∷ ps) None c pair is first done = absurd (none-some c is)
by_start clauses (p ∷ ps) (Some d) c pair is first done =
    subst (λ (q : Pair). has c q.lit ≡ true) (same_Some p pair first)
    (subst (λ (e : List ℕ). has e p.lit ≡ true) (same_Some d c is) (by_found clauses ps d p.lit (slice_get clauses p.with) 1 done))

done_placed : (r : Result (List ℕ) StepFault) (place at : ℕ) → placed r place ≡ Ok at → IsDone r
done_placed (Ok c) place at h = tt
done_placed (Err fault) place at h = absurd (cc)

pub pivot_there : (clauses : List (List ℕ)) (start : ℕ) (pairs : List Pair) (at place : ℕ) (c : List ℕ) (pair : Pair) → placed (chain clauses start pairs) place ≡ Ok at
    → slice_get clauses start ≡ Some c → slice_get pairs 0 ≡ Some pair → has c pair.lit ≡ true
pivot_there clauses start pairs at place c pair h there first =
    by_start clauses pairs (slice_get clauses start) c pair there first (done_placed (chain clauses start pairs) place at h)

pub pivot_when : (clauses : List (List ℕ)) (start : ℕ) (pairs : List Pair) (place : ℕ) (result : Result ℕ (Fail StepFault))
    → Answers result (placed (chain clauses start pairs) place)
    → IfOk result (λ at. (c : List ℕ) (pair : Pair) → slice_get clauses start ≡ Some c → slice_get pairs 0 ≡ Some pair → has c pair.lit ≡ true)
pivot_when clauses start pairs place (Ok at) h = λ c pair there first. pivot_there clauses start pairs at place c pair h there first
pivot_when clauses start pairs place (Err why) h = tt
