-- A claim behind a guard: its clauses hold where the guard is false, and are else true where those of the claim are.
use Rattle.std.proofs.Common.{◌≡◌, ℕ, Bool, true, false, not, ◌||◌, List, [], ◌∷◌, None, Some, map, sym, ap, ◌∙◌}
use Rattle.clause_pool.specs.Literal.{literal}
use Rattle.clause_pool.specs.Clause.{clause_of, clause_true, Sat}
use Rattle.clause_pool.proofs.ClauseLaws.{clause_true-clause_of}
use Rattle.clausify.specs.Items.{clause_where}
use Rattle.clausify.proofs.Truth.{true_negative}

module _ (a : ℕ → Bool) (g : ℕ) where
  guarded_true : (lits : List ℕ) → clause_true a (clause_where (Some g) lits) ≡ (not (a g) || clause_true a (clause_of lits))
  guarded_true lits =
      clause_true-clause_of a (literal g false ∷ lits) ∙ ap (λ (t : Bool). t || clause_true a lits) (true_negative a g)
      ∙ ap (λ (t : Bool). not (a g) || t) (sym (clause_true-clause_of a lits))

  pub sat_where_off : (all : List (List ℕ)) → a g ≡ false → Sat (map (clause_where (Some g)) all) a
  sat_where_off [] off = tt
  sat_where_off (lits ∷ all) off =
      (guarded_true lits ∙ ap (λ (t : Bool). not t || clause_true a (clause_of lits)) off, sat_where_off all off)

  pub sat_where_on : (all : List (List ℕ)) → a g ≡ true → Sat (map (clause_where None) all) a → Sat (map (clause_where (Some g)) all) a
  sat_where_on [] on s = tt
  sat_where_on (lits ∷ all) on s =
      (guarded_true lits ∙ ap (λ (t : Bool). not t || clause_true a (clause_of lits)) on ∙ s.0, sat_where_on all on s.1)

  pub on_from_sat : (all : List (List ℕ)) → a g ≡ true → Sat (map (clause_where (Some g)) all) a → Sat (map (clause_where None) all) a
  on_from_sat [] on s = tt
  on_from_sat (lits ∷ all) on s =
      (sym (guarded_true lits ∙ ap (λ (t : Bool). not t || clause_true a (clause_of lits)) on) ∙ s.0, on_from_sat all on s.1)
