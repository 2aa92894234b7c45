-- What holds of the clauses of a kernel that is learning.
use Rattle.std.proofs.Common.{◌≡◌, inl, inr, ℕ, zero, suc, ◌+◌, ◌*◌, ◌<◌, ◌≤◌, Bool, true, List, [], ◌∷◌, ◌++◌, length, take, get_or, eqb, refl, sym, subst, ◌∙◌, ap, arith, length-append}
use Rattle.std.proofs.lemmas.Bool.{false≢true, or_cases, eqb-true}
use Rattle.std.proofs.lemmas.List.{take-append-le, take_all, take_more, length-take}
use Rattle.clause_pool.specs.Clause.{has, IsBelow, AreBelow}
use Rattle.clause_pool.specs.Derivation.{Derivation}
use Rattle.chains.specs.Growth.{Grows}
use Rattle.chains.proofs.GrowthLaws.{extends_same, extends_twice}
use Rattle.propagate.specs.Trail.{Trail}
use Rattle.solver.specs.Search.{IsKept}
use Rattle.solver.specs.Solver.{Solving, Onwards}

pub literal_below : (bound : ℕ) (c : List ℕ) (l : ℕ) → IsBelow bound c → has c l ≡ true → l < bound
literal_below bound [] l all is_in = absurd (false≢true is_in)
literal_below bound (x ∷ xs) l all is_in = elim (or_cases (eqb x l) (has xs l) is_in) [
  | inl first ↦ subst (λ (k : ℕ). k < bound) (eqb-true x l first) all.0
  | inr later ↦ literal_below bound xs l all.1 later
]

-- the literals of a clause are below the bound of all
pub clause_below : (bound : ℕ) (clauses : List (List ℕ)) (k l : ℕ) → AreBelow bound clauses → has (get_or clauses k []) l ≡ true → l < bound
clause_below bound [] k l all is_in = absurd (false≢true is_in)
clause_below bound (c ∷ cs) zero l all is_in = literal_below bound c l all.0 is_in
clause_below bound (c ∷ cs) (suc k) l all is_in = clause_below bound cs k l all.1 is_in

-- one more clause is attached
pub attached_more : (old new clauses : List (List ℕ)) (at : ℕ) → old ≡ take (length old) clauses → at ≡ length old → at < length clauses → new ≡ old ++ get_or clauses at [] ∷ [] → new ≡ take (length new) clauses
attached_more old new clauses at attached place low more =
    let count : length new ≡ at + 1 = ap length more ∙ length-append old (get_or clauses at [] ∷ []) ∙ sym (ap (λ (n : ℕ). n + 1) place) in
    more
    ∙ ap (λ (cs : List (List ℕ)). cs ++ get_or clauses at [] ∷ []) (attached ∙ ap (λ (n : ℕ). take n clauses) (sym place))
    ∙ sym (take_more clauses at [] low)
    ∙ ap (λ (n : ℕ). take n clauses) (sym count)

pub attached_all : (old clauses : List (List ℕ)) → old ≡ take (length old) clauses → length clauses ≤ length old → old ≡ clauses
attached_all old clauses attached low = attached ∙ take_all (length old) clauses low

-- the clauses that were attached still are the first
pub kept_grown : (old new : Derivation) (t : Trail) (marks : List Bool) → IsKept old.clauses t marks → Grows old new → IsKept new.clauses t marks
kept_grown old new t marks kept more =
    let n : ℕ = length t.clauses in
    let few = ap length kept.attached ∙ length-take n old.clauses in
    record {
      attached =
          kept.attached ∙ sym (take-append-le n old.clauses more.extends.more (omega (arith, few)))
          ∙ ap (take n) (sym more.extends.clauses);
      below = more.bounds (2 * t.vars) kept.below;
      table = kept.table;
    }

-- nothing was derived
pub onwards_same : (s : Solving) → Onwards s s
onwards_same s = record { extends = extends_same s.kernel; same_vars = refl; same_codes = refl }

-- onwards, and further on
pub onwards_twice : (a b c : Solving) → Onwards a b → Onwards b c → Onwards a c
onwards_twice a b c f s = record {
  extends = extends_twice a.kernel b.kernel c.kernel f.extends s.extends;
  same_vars = s.same_vars ∙ f.same_vars;
  same_codes = s.same_codes ∙ f.same_codes;
}

pub onwards_equal : (old new : Solving) → new ≡ old → Onwards old new
onwards_equal old new is = subst (Onwards old) (sym is) (onwards_same old)

pub onwards_after : (a b c : Solving) → b ≡ a → Onwards b c → Onwards a c
onwards_after a b c is on = onwards_twice a b c (onwards_equal a b is) on
