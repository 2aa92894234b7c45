-- What the solver's answers say of the questions of a slice.
use Rattle.std.proofs.Common.{◌≡◌, ℕ, Bool, List, [], ◌∷◌, Some, Result, Ok, Err, length, sym, subst, ◌∙◌}
use Rattle.std.specs.Result.{IfOk}
use Rattle.std.specs.List.{slice_get}
use Rattle.book_model.specs.Contents.{Contents}
use Rattle.book_model.specs.declared.record.Slice.{Slice}
use Rattle.clause_pool.specs.Clause.{Follows}
use Rattle.clause_pool.specs.Derivation.{AllFollow}
use Rattle.clause_pool.proofs.ClauseLaws.{all_found}
use Rattle.chains.specs.Growth.{ClosedAt, given_of}
use Rattle.clausify.specs.Coded.{slice_clauses, slice_variables, slice_asked}
use Rattle.clausify.specs.Questions.{HasSet}
use Rattle.clausify.specs.declared.question.Asked.{Asked}
use Rattle.solver.specs.Answer.{Begins, IsSpent}
use Rattle.solver.specs.Solver.{Solving, Onwards}
use Rattle.findings.specs.Findings.{MeetsThrough}
use Rattle.findings.specs.Answering.{SliceFacts, IsOver}
use Rattle.findings.proofs.Lifting.{meets_from_begins, none_from_clause}

-- a solver that derived further clauses still stands over those of the slice
pub over_onwards : (b : Contents) (s : Slice) (old new : Solving) → IsOver b s old → Onwards old new → IsOver b s new
over_onwards b s old new h on = record {
  stands = record { number = on.extends.same_number ∙ h.stands.number; given = on.extends.same_given ∙ h.stands.given };
  variables = on.same_vars ∙ h.variables;
  codes = on.same_codes ∙ h.codes;
}

pub begins_by_solver : (b : Contents) (s : Slice) (g : ℕ) (solving : Solving) (x : List Bool) → IsOver b s solving → Begins (given_of solving.kernel) (g ∷ []) solving.codes x
    → Begins (slice_clauses b s.first) (g ∷ []) (length b.codes) x
begins_by_solver b s g solving x over h =
    subst (λ (n : ℕ). Begins (slice_clauses b s.first) (g ∷ []) n x) over.codes
    (subst (λ (cs : List (List ℕ)). Begins cs (g ∷ []) solving.codes x) over.stands.given h)

pub meets_by_solver : (b : Contents) (s : Slice) (k : ℕ) (a : Asked) (solving : Solving) (x : List Bool) → SliceFacts b s → slice_get (slice_asked b s.first) k ≡ Some a
    → IsOver b s solving → Begins (given_of solving.kernel) (a.goal ∷ []) solving.codes x → MeetsThrough b s a.question x
meets_by_solver b s k a solving x facts is over h = meets_from_begins b s k a x facts is (begins_by_solver b s a.goal solving x over h)

pub counted_by_solver : (b : Contents) (s : Slice) (g : ℕ) (solving : Solving) (x : List Bool) → IsOver b s solving → Begins (given_of solving.kernel) (g ∷ []) solving.codes x → length x ≡ length b.codes
counted_by_solver b s g solving x over h = h.counted ∙ over.codes

pub spent_by_solver : (b : Contents) (s : Slice) (g budget : ℕ) (solving : Solving) (learnt : List (List ℕ)) → IsOver b s solving
    → IsSpent solving.vars (given_of solving.kernel) (g ∷ []) budget learnt → IsSpent (slice_variables b s.first) (slice_clauses b s.first) (g ∷ []) budget learnt
spent_by_solver b s g budget solving learnt over h =
    subst (λ (n : ℕ). IsSpent n (slice_clauses b s.first) (g ∷ []) budget learnt) over.variables
    (subst (λ (cs : List (List ℕ)). IsSpent solving.vars cs (g ∷ []) budget learnt) over.stands.given h)

pub none_by_solver : (b : Contents) (s : Slice) (k : ℕ) (a : Asked) (solving : Solving) (at : ℕ) → SliceFacts b s → slice_get (slice_asked b s.first) k ≡ Some a
    → given_of solving.kernel ≡ slice_clauses b s.first → AllFollow solving.kernel → ClosedAt solving.kernel.clauses a.goal at → HasSet b s a.question → ⊥
none_by_solver b s k a solving at facts is given follow h =
    none_from_clause b s k a h.clause facts is
    (subst (λ (cs : List (List ℕ)). Follows cs h.clause) given
    (all_found (Follows (given_of solving.kernel)) solving.kernel.clauses at h.clause follow h.there)) h.refutes

-- of a call that answers this value, if it answers one
pub of_answer : {A E : Type 0} (r : Result A E) (value : A) (P : A → Type 0) → P value → IfOk r (λ v. v ≡ value) → IfOk r P
of_answer (Ok v) value P p h = subst P (sym h) p
of_answer (Err e) value P p h = tt
