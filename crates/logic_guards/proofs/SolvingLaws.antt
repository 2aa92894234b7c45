-- What the contract of a search says of its answers.
use Rattle.std.proofs.Common.{◌≡◌, ℕ, ◌*◌, ◌<◌, Bool, true, false, not, List, refl, sym, ap, subst, ◌∙◌}
use Rattle.std.proofs.lemmas.Bool.{false≢true, true≢false}
use Rattle.clause_pool.specs.Literal.{literal, complement, is_true}
use Rattle.clause_pool.specs.Clause.{AreBelow, Follows, Sat}
use Rattle.clause_pool.specs.Derivation.{AllFollow}
use Rattle.clause_pool.proofs.LiteralLaws.{is_true-complement}
use Rattle.clause_pool.proofs.ClauseLaws.{TrueLiteral, true_literal, all_found}
use Rattle.chains.specs.Growth.{given_of}
use Rattle.clausify.proofs.Truth.{true_positive, true_negative}
use Rattle.solver.specs.Solver.{Solving, Onwards, IsRight}
use Rattle.solver.specs.declared.answer.Answer.{Answer}
use Rattle.solver.specs.declared.answer.Answer.TheVariants.{Set, Closed, Spent}
use Rattle.logic_guards.specs.Solving.{HasLearnt, HoldsAssumed, IsBelow, IsRefuted}

pub learnt_all : (s : Solving) (assumed : List ℕ) (budget : ℕ) (answer : Answer) → IsRight s assumed budget answer → HasLearnt budget answer
learnt_all s assumed budget (Set x) h = tt
learnt_all s assumed budget (Closed at) h = tt
learnt_all s assumed budget (Spent learnt) h = h.count

pub below : (old new : Solving) (assumed : List ℕ) (budget : ℕ) (answer : Answer) → Onwards old new → IsRight new assumed budget answer → IsBelow old.vars answer
below old new assumed budget (Set x) on h = tt
below old new assumed budget (Closed at) on h = tt
below old new assumed budget (Spent learnt) on h = subst (λ (n : ℕ). AreBelow (2 * n) learnt.clauses) on.same_vars h.below

-- the value of a code by an assignment that makes its literal true
value_by : (a : ℕ → Bool) (code : ℕ) (there : Bool) → is_true a (literal code there) ≡ true → a code ≡ there
value_by a code true h = sym (true_positive a code) ∙ h
value_by a code false h = from_not (a code) (sym (true_negative a code) ∙ h) where
  from_not : (t : Bool) → not t ≡ true → t ≡ false
  from_not true e = absurd (false≢true e)
  from_not false e = refl

pub holds_assumed : (old new : Solving) (assumed : List ℕ) (budget : ℕ) (answer : Answer) → Onwards old new → IsRight new assumed budget answer
    → HoldsAssumed old.codes assumed answer
holds_assumed old new assumed budget (Set x) on h =
    λ code there within is_in. sym (h.begins code (subst (λ (n : ℕ). code < n) (sym on.same_codes) within)) ∙ value_by h.assignment code there (h.assumed (literal code there) is_in)
holds_assumed old new assumed budget (Closed at) on h = tt
holds_assumed old new assumed budget (Spent learnt) on h = tt

-- a literal and its complement aren't true together
not_both : (a : ℕ → Bool) (l : ℕ) → is_true a l ≡ true → is_true a (complement l) ≡ true → ⊥
not_both a l one other = true≢false (sym other ∙ is_true-complement a l ∙ ap not one)

pub refuted : (old new : Solving) (assumed : List ℕ) (budget : ℕ) (answer : Answer) → Onwards old new → AllFollow new.kernel → IsRight new assumed budget answer
    → IsRefuted (given_of old.kernel) assumed answer
refuted old new assumed budget (Set x) on follow h = tt
refuted old new assumed budget (Closed at) on follow h = λ a sat all.
    let follows : Follows (given_of new.kernel) h.clause = all_found (Follows (given_of new.kernel)) new.kernel.clauses at h.clause follow h.there in
    let found : TrueLiteral a h.clause = true_literal a h.clause (follows a (subst (λ (cs : List (List ℕ)). Sat cs a) (sym on.extends.same_given) sat)) in
    not_both a found.literal found.holds (all (complement found.literal) (h.complements found.literal found.is_in))
refuted old new assumed budget (Spent learnt) on follow h = tt
