-- Whatever a line may name is kept as it is, from the set line of a slice on.
use Rattle.std.proofs.Common.{◌≡◌, ℕ, suc, ◌+◌, ◌*◌, ◌<◌, ◌≤◌, ◌^◌, List, [], ◌∷◌, length, get_or, drop, inl, inr, sym, subst, arith}
use Rattle.std.specs.List.{AllByRecursion}
use Rattle.std.proofs.lemmas.Bool.{cases_Bool, cond-true, cond-false}
use Rattle.std.proofs.lemmas.List.{drop_more}
use Rattle.clause_pool.specs.Clause.{IsBelow, AreBelow, KeepsBounds}
use Rattle.clausify.specs.Questions.{is_to_close}
use Rattle.clausify.specs.declared.question.Asked.{Asked}
use Rattle.clausify.proofs.ListLaws.{all_weaker}
use Rattle.derivation.specs.declared.closing.ToClose.{ToClose}
use Rattle.derivation.specs.Kept.{highest, highest_variable, NamesKept}
use Rattle.derivation.specs.Stage.{SliceSoFar, to_close}

abbrev IsKept : ToClose → Type 0
IsKept w = w.question < highest

below_more : (n m : ℕ) (clauses : List (List ℕ)) → n ≤ m → AreBelow n clauses → AreBelow m clauses
below_more n m clauses less all = all_weaker (IsBelow n) (IsBelow m) (λ c h. all_weaker (λ l. l < n) (λ l. l < m) (λ l k. omega arith) c h) clauses all

questions_kept : (i : ℕ) (asked : List Asked) → i + length asked < 2 ^ 33 → AllByRecursion IsKept (to_close i asked)
questions_kept i [] few = tt
questions_kept i (a ∷ as_) few =
    let rest : AllByRecursion IsKept (to_close (suc i) as_) = questions_kept (suc i) as_ (omega arith) in
    let w : ToClose = record { question = i; goal = a.goal } in
    elim (cases_Bool (is_to_close a.question)) [
      | inl must ↦ subst (AllByRecursion IsKept) (sym (cond-true (is_to_close a.question) (w ∷ to_close (suc i) as_) (to_close (suc i) as_) must)) (omega arith, rest)
      | inr may ↦ subst (AllByRecursion IsKept) (sym (cond-false (is_to_close a.question) (w ∷ to_close (suc i) as_) (to_close (suc i) as_) may)) rest
    ]

pub named_opened : (s : SliceSoFar) (asked : List Asked) (vars : ℕ) → s.slice < 2 ^ 32 → length s.clauses < 2 ^ 64 → vars < 2 ^ 32 → AreBelow (2 * vars) s.clauses → length asked < 2 ^ 32
    → s.left ≡ to_close 0 asked → NamesKept s
named_opened s asked vars number few small below short is = record {
  slice = omega arith;
  clauses = omega arith;
  literals = below_more (2 * vars) (2 * highest_variable) s.clauses (omega arith) below;
  questions = subst (AllByRecursion IsKept) (sym is) (questions_kept 0 asked (omega arith));
}

pub named_derived : (s : SliceSoFar) (clauses : List (List ℕ)) → KeepsBounds s.clauses clauses → length clauses < 2 ^ 64 → NamesKept s → NamesKept (record s { clauses = clauses })
named_derived s clauses bounds few named = record {
  slice = named.slice;
  clauses = omega arith;
  literals = bounds (2 * highest_variable) named.literals;
  questions = named.questions;
}

pub named_closed : (s : SliceSoFar) (ws : List ToClose) (i : ℕ) (next : ToClose) → i < length ws → NamesKept (record s { left = drop i ws }) → NamesKept (record s { left = drop (i + 1) ws })
named_closed s ws i next there named =
    let questions : AllByRecursion IsKept (get_or ws i next ∷ drop (i + 1) ws) = subst (AllByRecursion IsKept) (drop_more ws i next there) named.questions in
    record { slice = named.slice; clauses = named.clauses; literals = named.literals; questions = questions.1 }
