-- What an answer says where one literal is assumed.
use Rattle.std.proofs.Common.{◌≡◌, inl, inr, ℕ, ◌<◌, Bool, true, false, List, [], ◌∷◌, eqb, refl, sym, subst, ◌∙◌, ap}
use Rattle.std.proofs.lemmas.Bool.{false≢true, or_cases, or_left, eq-eqb, eqb-true}
use Rattle.clause_pool.specs.Literal.{complement, is_true}
use Rattle.clause_pool.specs.Clause.{has}
use Rattle.clause_pool.specs.Derivation.{Derivation}
use Rattle.clause_pool.proofs.LiteralLaws.{complement-complement, complement-other}
use Rattle.chains.specs.Growth.{ClosedAt}
use Rattle.propagate.specs.Trail.{AreLiterals}
use Rattle.propagate.specs.Quiet.{IsConsistent}
use Rattle.solver.specs.Answer.{Begins, IsCore}

pub in_one : (g : ℕ) → has (g ∷ []) g ≡ true
in_one g = or_left (eqb g g) false (eq-eqb g g refl)

is_one : (g l : ℕ) → has (g ∷ []) l ≡ true → g ≡ l
is_one g l is_in = elim (or_cases (eqb g l) false is_in) [ inl same ↦ eqb-true g l same | inr none ↦ absurd (false≢true none) ]

pub one_below : (g n : ℕ) → g < n → AreLiterals (g ∷ []) n
one_below g n low l is_in = subst (λ (k : ℕ). k < n) (is_one g l is_in) low

pub one_consistent : (g : ℕ) → IsConsistent (g ∷ [])
one_consistent g l is_in other = complement-other l (sym (is_one g (complement l) other) ∙ is_one g l is_in)

pub one_assumed : (given : List (List ℕ)) (g codes : ℕ) (x : List Bool) (h : Begins given (g ∷ []) codes x) → is_true h.assignment g ≡ true
one_assumed given g codes x h = h.assumed g (in_one g)

pub closed_by_core : (k : Derivation) (g at : ℕ) → IsCore k (g ∷ []) at → ClosedAt k.clauses g at
closed_by_core k g at c = record {
  clause = c.clause;
  there = c.there;
  refutes = λ l is_in. sym (ap complement (is_one g (complement l) (c.complements l is_in)) ∙ complement-complement l);
}
