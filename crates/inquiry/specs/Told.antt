-- What may be told of a question.
--     ShownBy f q x         the set shows what the question asks for
--     ShownByNone f q       no set does
--     IsLeft f qs place budget learnt    the question at a place was left over the clauses of all of them
--     IsTold f budget q told             a question has one note, or none where no set shows what it asks for
--     IsKept f MayShow x    a set that may be tried on questions
use Rattle.std.specs.Prelude.{◌≡◌, ℕ, Bool, true, false, List, [], ◌∷◌, length}
use Rattle.solver.specs.Answer.{IsSpent}
use Rattle.inquiry.specs.Form.{Form, goal_at}
use Rattle.inquiry.specs.declared.told.Told.{Told}
use Rattle.inquiry.specs.declared.told.Told.TheVariants.{Finding, Undecided}

abbrev pub ShownBy : {Q : Type 0} → Form Q → Q → List Bool → Type 0
ShownBy f q x = (length x ≡ f.codes) × (f.shows q x ≡ true)

abbrev pub ShownByNone : {Q : Type 0} → Form Q → Q → Type 0
ShownByNone f q = (x : List Bool) → length x ≡ f.codes → f.shows q x ≡ false

abbrev pub IsLeft : {Q : Type 0} → Form Q → List Q → ℕ → ℕ → List (List ℕ) → Type 0
IsLeft f qs place budget learnt = IsSpent (f.variables qs) (f.clauses qs) (goal_at f qs place ∷ []) budget learnt

-- what is left was left over the question's own clauses
abbrev pub IsNote : {Q : Type 0} → Form Q → ℕ → Q → Told Q → Type 0
IsNote f budget q (Finding question set) = (question ≡ q) × ShownBy f q set
IsNote f budget q (Undecided question learnt) = (question ≡ q) × IsLeft f (q ∷ []) 0 budget learnt.clauses

abbrev pub IsTold : {Q : Type 0} → Form Q → ℕ → Q → List (Told Q) → Type 0
IsTold f budget q [] = ShownByNone f q
IsTold f budget q (told ∷ []) = IsNote f budget q told
IsTold f budget q (told ∷ second ∷ more) = ⊥

abbrev pub IsKept : {Q : Type 0} → Form Q → (List Bool → Type 0) → List Bool → Type 0
IsKept f MayShow x = (length x ≡ f.codes) × MayShow x
