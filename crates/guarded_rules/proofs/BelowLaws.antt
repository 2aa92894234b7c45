-- The literals of the clauses of guarded items are of their variables.
use Rattle.std.proofs.Common.{ℕ, ◌+◌, ◌*◌, ◌<◌, ◌≤◌, true, List, [], ◌∷◌, Option, None, Some, arith}
use Rattle.std.specs.Option.{IfSome}
use Rattle.std.proofs.lemmas.Bool.{and_parts}
use Rattle.pb_base.specs.Rule.{codes_below}
use Rattle.clause_pool.specs.Literal.{literal}
use Rattle.clause_pool.specs.Clause.{AreBelow}
use Rattle.clause_pool.proofs.ClauseLaws.{IsBelow-clause_of}
use Rattle.clausify.specs.Formulas.{connectives, formula_literal, formula_clauses}
use Rattle.clausify.proofs.ItemLaws.{claim_fits}
use Rattle.clausify.proofs.ListLaws.{all-append}
use Rattle.clausify.proofs.RangeLaws.{positive_below, claim_below, literal_below, formula_below}
use Rattle.guarded_rules.specs.Guarded.{GuardedItem, guarded_own, guarded_clauses, encoded_guarded, guarded_variables, AllGuardedFit}

guard_below : (c m : ℕ) (g : Option ℕ) → IfSome g (λ k. k < c) → c ≤ m → IfSome g (λ k. k < m)
guard_below c m None low h = tt
guard_below c m (Some g) low h = omega (arith, low)

pub guarded_below : (c n v m : ℕ) (is : List GuardedItem) → AllGuardedFit c is → c ≤ v → n < v → v + guarded_variables is ≤ m → AreBelow (2 * m) (guarded_clauses n v is)
guarded_below c n v m [] fit codes h k = tt
guarded_below c n v m (i ∷ is) fit codes h k =
    let fits = and_parts (codes_below c i.item.rule) (claim_fits c i.item.claim) fit.0.item in
    all-append _ (guarded_own n v i) (guarded_clauses n (v + connectives i.item.rule) is)
    (all-append _ (formula_clauses n v i.item.rule) _ (formula_below c n v m i.item.rule fits.0 codes h (omega arith))
    (claim_below c m (formula_literal n v i.item.rule) i.guard i.item.claim (guard_below c m i.guard fit.0.guard (omega arith)) fits.1 (omega arith) (literal_below c n v m i.item.rule fits.0 codes h (omega arith))))
    (guarded_below c n (v + connectives i.item.rule) m is fit.1 (omega arith) (omega arith) (omega arith))

pub encoded_below : (n : ℕ) (is : List GuardedItem) → AllGuardedFit n is → AreBelow (2 * (n + 1 + guarded_variables is)) (encoded_guarded n (n + 1) is)
encoded_below n is fit =
    let m : ℕ = n + 1 + guarded_variables is in (
      IsBelow-clause_of (2 * m) (literal n true ∷ []) (positive_below n m (omega arith), tt),
      guarded_below n n (n + 1) m is fit (omega arith) (omega arith) (omega arith),
    )
