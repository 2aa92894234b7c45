-- What the solver's answers say of questions, by what a source owes.
use Rattle.std.proofs.Common.{◌≡◌, ℕ, ◌*◌, ◌^◌, ◌≤◌, ◌<◌, Bool, not, List, [], ◌∷◌, Some, length, get_or, sym, ap, subst, ◌∙◌, arith, All}
use Rattle.std.specs.List.{slice_get, sum_by}
use Rattle.std.proofs.lemmas.Bool.{false_from_ne_true, true≢false}
use Rattle.std.proofs.lemmas.List.Elements.{recursion_from_All}
use Rattle.std.proofs.lemmas.List.{take_all}
use Rattle.std.proofs.lemmas.Option.{slice_get_within}
use Rattle.chains.specs.Growth.{ClosedAt, given_of}
use Rattle.clause_pool.specs.Literal.{is_true}
use Rattle.clause_pool.specs.Clause.{AreBelow, Follows}
use Rattle.clause_pool.specs.Derivation.{Derivation, AllFollow, kernel_of}
use Rattle.clause_pool.proofs.ClauseLaws.{TrueLiteral, true_literal, all_found}
use Rattle.clause_pool.proofs.LiteralLaws.{is_true-complement}
use Rattle.solver.specs.Answer.{Begins, IsCore, IsSpent}
use Rattle.solver.proofs.OneLaws.{in_one, closed_by_core}
use Rattle.solver.specs.Solver.{Solving, Onwards}
use Rattle.inquiry.specs.Asking.{IsAsking}
use Rattle.inquiry.specs.Form.{Form, IsLawful, MeetsGoal, goal_at}
use Rattle.inquiry.specs.Told.{ShownBy, ShownByNone, IsLeft}
use Rattle.inquiry.specs.declared.asking.Asking.{Asking}

-- a solver that was just made over the clauses of questions
module _ {Q : Type 0} (f : Form Q) (IsPosed : Q → Type 0) (MayShow : List Bool → Type 0) (law : IsLawful f IsPosed MayShow) (qs : List Q) (posed : All IsPosed qs) where
  pub room : sum_by f.size qs ≤ 2 ^ 30 → f.variables qs < 2 ^ 32
  room few = omega (arith, law.added qs (recursion_from_All IsPosed qs posed), law.shared_few, few)

  pub begins_below : (vars : ℕ) (clauses : List (List ℕ)) (kernel : Derivation) → kernel ≡ kernel_of clauses → clauses ≡ f.clauses qs → vars ≡ f.variables qs
      → AreBelow (2 * vars) kernel.clauses
  begins_below vars clauses kernel made are count =
      subst (λ (cs : List (List ℕ)). AreBelow (2 * vars) cs) (sym (ap (λ (k : Derivation). k.clauses) made ∙ are))
      (subst (λ (n : ℕ). AreBelow (2 * n) (f.clauses qs)) (sym count) (law.below qs (recursion_from_All IsPosed qs posed)))

  pub codes_few : (codes vars : ℕ) → codes ≡ f.codes → vars ≡ f.variables qs → codes ≤ vars
  codes_few codes vars few count = omega (arith, few, count, law.codes_within qs)

  -- a set that a solver answers by shows what the question asks for
  pub set_shows : (place : ℕ) (q : Q) (asking : Asking) (x : List Bool) → slice_get qs place ≡ Some q → IsAsking f qs asking
      → Begins (given_of asking.solver.kernel) (goal_at f qs place ∷ []) asking.solver.codes x → ShownBy f q x
  set_shows place q asking x there is begins =
      let g : ℕ = goal_at f qs place in
      let h : Begins (f.clauses qs) (g ∷ []) f.codes x =
      subst (λ (n : ℕ). Begins (f.clauses qs) (g ∷ []) n x) is.codes (subst (λ (cs : List (List ℕ)). Begins cs (g ∷ []) asking.solver.codes x) is.clauses begins) in
      (h.counted, law.reads qs (recursion_from_All IsPosed qs posed) place q there x h.assignment h.counted h.begins h.satisfied (h.assumed g (in_one g)))

  -- where a clause refutes the goal no set does
  pub closed_shows_none : (place at : ℕ) (q : Q) (asking : Asking) → slice_get qs place ≡ Some q → IsAsking f qs asking → AllFollow asking.solver.kernel
      → IsCore asking.solver.kernel (goal_at f qs place ∷ []) at → ShownByNone f q
  closed_shows_none place at q asking there is follow core x len = false_from_ne_true _ (λ met.
      let g : ℕ = goal_at f qs place in
      let closed : ClosedAt asking.solver.kernel.clauses g at = closed_by_core asking.solver.kernel g at core in
      let m : MeetsGoal (f.clauses qs) g = law.lifts qs (recursion_from_All IsPosed qs posed) place q there x len met in
      let follows : Follows (f.clauses qs) closed.clause =
      subst (λ (cs : List (List ℕ)). Follows cs closed.clause) is.clauses
      (all_found (Follows (given_of asking.solver.kernel)) asking.solver.kernel.clauses at closed.clause follow closed.there) in
      let found : TrueLiteral m.assignment closed.clause = true_literal m.assignment closed.clause (follows m.assignment m.satisfies) in
      true≢false
      (sym found.holds ∙ ap (is_true m.assignment) (closed.refutes found.literal found.is_in) ∙ is_true-complement m.assignment g ∙ ap not m.meets_it))

module _ {Q : Type 0} (f : Form Q) (qs : List Q) where
  pub left_over : (place budget : ℕ) (asking : Asking) (learnt : List (List ℕ)) → IsAsking f qs asking
      → IsSpent asking.solver.vars (given_of asking.solver.kernel) (goal_at f qs place ∷ []) budget learnt → IsLeft f qs place budget learnt
  left_over place budget asking learnt is h =
      let g : ℕ = goal_at f qs place in
      subst (λ (n : ℕ). IsSpent n (f.clauses qs) (g ∷ []) budget learnt) is.variables
      (subst (λ (cs : List (List ℕ)). IsSpent asking.solver.vars cs (g ∷ []) budget learnt) is.clauses h)
