-- What an answer of a solver says to its callers.
--     HasLearnt budget answer          a search that was left has learnt as many clauses as it was allowed
--     IsBelow vars answer              it has learnt clauses over so many variables alone
--     HoldsAssumed codes assumed answer    the set that is found has each assumed code, and none that is assumed absent
--     IsRefuted given assumed answer   where a clause is told, nothing satisfies the given clauses with each assumption true
use Rattle.std.specs.Prelude.{◌≡◌, ℕ, ◌*◌, ◌<◌, Bool, true, List, length}
use Rattle.pb_base.specs.Sets.{has as has_code}
use Rattle.clause_pool.specs.Literal.{literal, is_true}
use Rattle.clause_pool.specs.Clause.{has, AreBelow, Sat}
use Rattle.solver.specs.declared.answer.Answer.{Answer}
use Rattle.solver.specs.declared.answer.Answer.TheVariants.{Set, Closed, Spent}

abbrev pub HasLearnt : ℕ → Answer → Type 0
HasLearnt budget (Set x) = Unit {0}
HasLearnt budget (Closed at) = Unit {0}
HasLearnt budget (Spent learnt) = length learnt.clauses ≡ budget

abbrev pub IsBelow : ℕ → Answer → Type 0
IsBelow vars (Set x) = Unit {0}
IsBelow vars (Closed at) = Unit {0}
IsBelow vars (Spent learnt) = AreBelow (2 * vars) learnt.clauses

abbrev pub HoldsAssumed : ℕ → List ℕ → Answer → Type 0
HoldsAssumed codes assumed (Set x) =
    (code : ℕ) (there : Bool) → code < codes → has assumed (literal code there) ≡ true → has_code x code ≡ there
HoldsAssumed codes assumed (Closed at) = Unit {0}
HoldsAssumed codes assumed (Spent learnt) = Unit {0}

abbrev pub AllTrue : (ℕ → Bool) → List ℕ → Type 0
AllTrue a lits = (l : ℕ) → has lits l ≡ true → is_true a l ≡ true

abbrev pub IsRefuted : List (List ℕ) → List ℕ → Answer → Type 0
IsRefuted given assumed (Set x) = Unit {0}
IsRefuted given assumed (Closed at) = (a : ℕ → Bool) → Sat given a → AllTrue a assumed → ⊥
IsRefuted given assumed (Spent learnt) = Unit {0}
