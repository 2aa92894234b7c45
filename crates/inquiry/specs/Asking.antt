-- How questions are asked together.
--     IsAsking f qs asking  a solver over the clauses of some questions, with their goals
--     IsOutcome f qs place q budget outcome    what comes of the question q, which stands at a place among them
--     left_of found         how many of one question are asked
--     unanswered qs found   those of the questions for which no set was found
--     IsTried f qs tried    sets were tried on these questions, and those that are left have room in a solver
use Rattle.std.specs.Prelude.{◌≡◌, ◌^◌, ◌≤◌, ℕ, Bool, List, [], ◌∷◌, Option, Some, None, IfSome}
use Rattle.std.specs.List.{AllZip, sum_by}
use Rattle.chains.specs.Growth.{given_of}
use Rattle.inquiry.specs.Form.{Form}
use Rattle.inquiry.specs.Told.{ShownBy, ShownByNone, IsLeft}
use Rattle.inquiry.specs.declared.asking.Asking.{Asking}
use Rattle.inquiry.specs.declared.asking.Outcome.{Outcome}
use Rattle.inquiry.specs.declared.asking.Outcome.TheVariants.{Shown, NotShown, Left}
use Rattle.inquiry.specs.declared.tried.Tried.{Tried}

pub record IsAsking {Q : Type 0} (f : Form Q) (qs : List Q) (asking : Asking) : Type 0 where
  pub clauses : given_of asking.solver.kernel ≡ f.clauses qs
  pub variables : asking.solver.vars ≡ f.variables qs
  pub codes : asking.solver.codes ≡ f.codes
  pub goals : asking.goals.items ≡ f.goals qs

abbrev pub IsOutcome : {Q : Type 0} → Form Q → List Q → ℕ → Q → ℕ → Outcome → Type 0
IsOutcome f qs place q budget (Shown x) = ShownBy f q x
IsOutcome f qs place q budget NotShown = ShownByNone f q
IsOutcome f qs place q budget (Left learnt) = IsLeft f qs place budget learnt.clauses

abbrev pub unanswered : {Q : Type 0} → List Q → List (Option (List Bool)) → List Q
unanswered qs [] = []
unanswered [] (found ∷ more) = []
unanswered (q ∷ qs) (None ∷ more) = q ∷ unanswered qs more
unanswered (q ∷ qs) (Some x ∷ more) = unanswered qs more

-- one question more is asked where no set was found
abbrev pub left_of : Option (List Bool) → ℕ
left_of None = 1
left_of (Some x) = 0

abbrev pub MayFind : {Q : Type 0} → Form Q → Q → Option (List Bool) → Type 0
MayFind f q found = IfSome found (ShownBy f q)

pub record IsTried {Q : Type 0} (f : Form Q) (qs : List Q) (tried : Tried Q) : Type 0 where
  pub found : AllZip (MayFind f) qs tried.found.items
  pub rest : tried.rest.items ≡ unanswered qs tried.found.items
  pub taken : tried.taken ≡ sum_by f.size tried.rest.items
  pub few : tried.taken ≤ 2 ^ 30
