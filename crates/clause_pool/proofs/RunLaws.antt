-- What a run over a chain shows, pair by pair.
use Rattle.std.proofs.Common.{◌≡◌, ℕ, ◌+◌, ◌<◌, ◌≤◌, true, false, List, [], ◌∷◌, length, get_or, drop, Option, Some, Result, Ok, Err, sym, ap, subst, ◌∙◌, arith}
use Rattle.std.specs.List.{slice_get}
use Rattle.std.proofs.lemmas.Bool.{false≢true, and_right, and_from, cond-true, cond-false}
use Rattle.std.proofs.lemmas.List.{drop_more, drop_all}
use Rattle.std.proofs.lemmas.Option.{slice_get-get_or, slice_get_past}
use Rattle.clause_pool.specs.Literal.{complement}
use Rattle.clause_pool.specs.Clause.{has}
use Rattle.clause_pool.specs.Chain.{resolved, step_on, chain_from, started, chain}
use Rattle.clause_pool.specs.declared.chain.Pair.{Pair}
use Rattle.clause_pool.specs.declared.chain.StepFault.{StepFault}
use Rattle.clause_pool.specs.declared.chain.StepFault.TheVariants.{NoSuchStep, NoPivot}
use Rattle.clause_pool.proofs.ChainLaws.{chain_from-fault}
use Rattle.std.specs.Prelude.{IsErr, IsErrAnd}
use Rattle.pb_base.specs.Answers.{Leaves}
use Rattle.pb_base.specs.declared.answer.Fail.{Fail}
use Rattle.pb_base.specs.declared.answer.Fail.TheVariants.{Refused, Memory}

module _ (running : List ℕ) (clauses : List (List ℕ)) (place lit with' : ℕ) (other : List ℕ) (within : with' < length clauses) (found : other ≡ get_or clauses with' []) where
  there : slice_get clauses with' ≡ Some other
  there = slice_get-get_or clauses with' [] within ∙ ap Some (sym found)

  -- the other clause lacks the complement
  pub step_lacks : has other (complement lit) ≡ false → step_on running place lit (slice_get clauses with') ≡ Err (NoPivot place)
  step_lacks lacks =
      ap (step_on running place lit) there ∙ cond-false _ _ _ (and_right (has running lit) (has other (complement lit)) lacks)

  -- both have their half of the pivot
  pub step_makes : has running lit ≡ true → has other (complement lit) ≡ true → step_on running place lit (slice_get clauses with') ≡ Ok (resolved running lit other)
  step_makes here its =
      ap (step_on running place lit) there ∙ cond-true _ _ _ (and_from (has running lit) (has other (complement lit)) here its)

pub chain_unstarted : (clauses : List (List ℕ)) (start : ℕ) (pairs : List Pair) → length clauses ≤ start → chain clauses start pairs ≡ Err (NoSuchStep 0)
chain_unstarted clauses start pairs h =
    ap (λ (found : Option (List ℕ)). chain_from clauses 1 pairs (started found)) (slice_get_past clauses start h)
    ∙ chain_from-fault clauses 1 pairs (NoSuchStep 0)

-- the running clause after the first pairs, with the pairs to come, gives the answer of the chain
pub record IsRunning (clauses : List (List ℕ)) (start : ℕ) (pairs : List Pair) (done : ℕ) (running : List ℕ) : Type 0 where
  pub so_far : chain_from clauses (done + 1) (drop done pairs) (Ok running) ≡ chain clauses start pairs

pub running_starts : (clauses : List (List ℕ)) (start : ℕ) (pairs : List Pair) (running : List ℕ) → start < length clauses → running ≡ get_or clauses start [] → IsRunning clauses start pairs 0 running
running_starts clauses start pairs running h is = record {
  so_far =
      let one : 0 + 1 ≡ 1 = omega arith in
      ap (λ (n : ℕ). chain_from clauses n pairs (Ok running)) one
      ∙ ap (λ (found : Option (List ℕ)). chain_from clauses 1 pairs (started found)) (ap Some is ∙ sym (slice_get-get_or clauses start [] h));
}

module _ (clauses : List (List ℕ)) (start : ℕ) (pairs : List Pair) (done : ℕ) (running : List ℕ) (m : IsRunning clauses start pairs done running) (pair : Pair) (within : done < length pairs) (is : pair ≡ get_or pairs done pair) where
  at_pair : chain_from clauses (done + 1 + 1) (drop (done + 1) pairs) (step_on running (done + 1) pair.lit (slice_get clauses pair.with)) ≡ chain clauses start pairs
  at_pair =
      ap (λ (ps : List Pair). chain_from clauses (done + 1) ps (Ok running))
      (ap (λ (p : Pair). p ∷ drop (done + 1) pairs) is ∙ sym (drop_more pairs done pair within))
      ∙ m.so_far

  pub running_more : (next : List ℕ) → step_on running (done + 1) pair.lit (slice_get clauses pair.with) ≡ Ok next → IsRunning clauses start pairs (done + 1) next
  running_more next made = record {
    so_far =
        ap (chain_from clauses (done + 1 + 1) (drop (done + 1) pairs)) (sym made) ∙ at_pair;
  }

  pub running_refused : (fault : StepFault) → step_on running (done + 1) pair.lit (slice_get clauses pair.with) ≡ Err fault → chain clauses start pairs ≡ Err fault
  running_refused fault made =
      sym at_pair ∙ ap (chain_from clauses (done + 1 + 1) (drop (done + 1) pairs)) made
      ∙ chain_from-fault clauses (done + 1 + 1) (drop (done + 1) pairs) fault

pub running_ends : (clauses : List (List ℕ)) (start : ℕ) (pairs : List Pair) (done : ℕ) (running : List ℕ) → IsRunning clauses start pairs done running → length pairs ≤ done → chain clauses start pairs ≡ Ok running
running_ends clauses start pairs done running m h =
    sym m.so_far ∙ ap (λ (ps : List Pair). chain_from clauses (done + 1) ps (Ok running)) (drop_all done pairs h)

-- a refusal is passed on, and want of memory too
leaves_refusal : (e : Fail StepFault) (made right : Result (List ℕ) StepFault) (next running : List ℕ) → ((fault : StepFault) → made ≡ Err fault → right ≡ Err fault) → Leaves {U = Unit {0}} (Err e) next made → Leaves {U = Unit {0}} (Err e) running right
leaves_refusal (Refused fault) made right next running pass h = pass fault h
leaves_refusal Memory made right next running pass h = tt

pub leaves_passed_on : (result : Result (Unit {0}) (Fail StepFault)) (e : Fail StepFault) (made right : Result (List ℕ) StepFault) (next running : List ℕ) → IsErr result × IsErrAnd result (λ x. x ≡ e) → ((fault : StepFault) → made ≡ Err fault → right ≡ Err fault) → Leaves {U = Unit {0}} (Err e) next made → Leaves result running right
leaves_passed_on (Ok done) e made right next running h pass leaves = absurd (false≢true h.0)
leaves_passed_on (Err x) e made right next running h pass leaves =
    subst (λ (y : Fail StepFault). Leaves {U = Unit {0}} (Err y) running right) (sym h.1) (leaves_refusal e made right next running pass leaves)
