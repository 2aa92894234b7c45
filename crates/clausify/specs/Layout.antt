-- Where the variables and clauses of a slice stand.
--     IsGate clauses v g       from the gate's place on, three clauses make variable v the truth of its parts joined
--     AreGates clauses gs      each variable from the first on has its gate
--     gate_at gs v             the gate of a variable
--     item_starts n v at is    the first variable and the first clause of each item
--     slice_starts b day       those of the records of a day
--     IsLaid b day l           the layout of the clauses of a day
use Rattle.std.specs.Prelude.{◌≡◌, ℕ, ◌+◌, ◌-◌, List, [], ◌∷◌, Option, Some, None, length, take, drop, slice_get, nat_lt, if◌then◌else◌}
use Rattle.book_model.specs.Contents.{Contents}
use Rattle.clausify.specs.Formulas.{connectives}
use Rattle.clausify.specs.Joints.{joint_clauses}
use Rattle.clausify.specs.Items.{Item, own_clauses, items}
use Rattle.clausify.specs.Coded.{goals_start, core_clauses, slice_clauses, slice_variables}
use Rattle.clausify.specs.declared.layout.Gate.{Gate}
use Rattle.clausify.specs.declared.layout.Gates.{Gates}
use Rattle.clausify.specs.declared.layout.Start.{Start}
use Rattle.clausify.specs.declared.layout.Layout.{Layout}

abbrev pub IsGate : List (List ℕ) → ℕ → Gate → Type 0
IsGate clauses v g = take 3 (drop g.clause clauses) ≡ joint_clauses g.joint v g.left g.right

abbrev pub AreGates : List (List ℕ) → Gates → Type 0
AreGates clauses gates = (k : ℕ) (g : Gate) → slice_get gates.list.items k ≡ Some g → IsGate clauses (gates.first + k) g

abbrev pub gate_at : Gates → ℕ → Option Gate
gate_at gates v = if nat_lt v gates.first then None else slice_get gates.list.items (v - gates.first)

abbrev pub start_at : ℕ → ℕ → Start
start_at v at = record { var = v; clause = at }

abbrev pub item_starts : ℕ → ℕ → ℕ → List Item → List Start
item_starts n v at [] = []
item_starts n v at (i ∷ is) = start_at v at ∷ item_starts n (v + connectives i.rule) (at + length (own_clauses n v i)) is

abbrev pub slice_starts : Contents → ℕ → List Start
slice_starts b day = item_starts (length b.codes) (length b.codes + 1) 1 (items b day)

pub record IsLaid (b : Contents) (day : ℕ) (l : Layout) : Type 0 where
  pub first : l.gates.first ≡ length b.codes + 1
  pub count : l.gates.first + length l.gates.list.items ≡ slice_variables b day
  pub gates : AreGates (slice_clauses b day) l.gates
  pub starts : l.starts.items ≡ slice_starts b day
  pub goals : l.goals ≡ start_at (goals_start b day) (length (core_clauses b day))
