-- What the encoder has made so far, and what a node of a formula or a whole step adds to it.
--     Encodes old new more taken     so many clauses more at the end, and so many variables taken
--     EncodesAlone old new more      clauses more, and no variable taken
--     EncodesItems old new is        the clauses and the variables of these items
--     AddsStarts old ss ts is        where these items begin
--     with_node n node m             the node joins the literals of the parts before it
use Rattle.std.specs.Prelude.{◌≡◌, ℕ, ◌+◌, true, false, List, [], ◌∷◌, ◌++◌, length}
use Rattle.pb_base.specs.declared.node.Node.{Node}
use Rattle.pb_base.specs.declared.node.Node.TheVariants.{Code, Not, WhenTrue, WhenFalse, And, Or, Yes, No}
use Rattle.clause_pool.specs.Literal.{literal, complement}
use Rattle.clausify.specs.Formulas.{connectives, both_clauses, either_clauses}
use Rattle.clausify.specs.Items.{Item, own_clauses, item_clauses, variables_of}
use Rattle.clausify.specs.Goals.{pair_clauses}
use Rattle.clausify.specs.Layout.{item_starts}
use Rattle.clausify.specs.declared.layout.Start.{Start}
use Rattle.clausify.specs.declared.usage.Usage.{Usage}
use Rattle.clausify.specs.declared.encoder.Encoder.{Encoder}

pub record Encodes (old new : Encoder) (more : List (List ℕ)) (taken : ℕ) : Type 0 where
  pub clauses : new.pool.clauses ≡ old.pool.clauses ++ more
  pub next : new.next ≡ old.next + taken
  pub truth : new.truth ≡ old.truth
  pub first : new.gates.first ≡ old.gates.first

abbrev pub EncodesAlone : Encoder → Encoder → List (List ℕ) → Type 0
EncodesAlone old new more = Encodes old new more 0

-- the items, one of them, and pairs of variants are encoded
abbrev pub EncodesItems : Encoder → Encoder → List Item → Type 0
EncodesItems old new is = Encodes old new (item_clauses old.truth old.next is) (variables_of is)

abbrev pub EncodesItem : Encoder → Encoder → Item → Type 0
EncodesItem old new i = Encodes old new (own_clauses old.truth old.next i) (connectives i.rule)

abbrev pub EncodesPairs : Encoder → Encoder → List (Usage × Usage) → Type 0
EncodesPairs old new ps = Encodes old new (pair_clauses old.next ps) (length ps)

-- where the items begin, behind the other starts
abbrev pub AddsStarts : Encoder → List Start → List Start → List Item → Type 0
AddsStarts old starts more is = more ≡ starts ++ item_starts old.truth old.next (length old.pool.clauses) is

-- the clauses, the variable that is taken next, and the literals of the parts of a formula that are still to be joined, the last first
pub record Making : Type 0 where
  pub clauses : List (List ℕ)
  pub next : ℕ
  pub parts : List ℕ

abbrev pub making_of : Encoder → Making
making_of e = record { clauses = e.pool.clauses; next = e.next; parts = e.parts }

abbrev pub with_part : ℕ → Making → Making
with_part l m = record { clauses = m.clauses; next = m.next; parts = l ∷ m.parts }

-- the two last parts are joined by the next variable, which these clauses tie to them
abbrev pub joined : (ℕ → ℕ → ℕ → List (List ℕ)) → Making → List ℕ → Making
joined tied m (right ∷ left ∷ parts) =
    record { clauses = m.clauses ++ tied m.next left right; next = m.next + 1; parts = literal m.next true ∷ parts }
joined tied m parts = m

abbrev pub negated : Making → List ℕ → Making
negated m (part ∷ parts) = record { clauses = m.clauses; next = m.next; parts = complement part ∷ parts }
negated m [] = m

-- variable n is always true; the jumps are for those who look for a formula's truth
abbrev pub with_node : ℕ → Node → Making → Making
with_node n (Code place) m = with_part (literal place true) m
with_node n Yes m = with_part (literal n true) m
with_node n No m = with_part (literal n false) m
with_node n Not m = negated m m.parts
with_node n (And size) m = joined both_clauses m m.parts
with_node n (Or size) m = joined either_clauses m m.parts
with_node n (WhenTrue size) m = m
with_node n (WhenFalse size) m = m

-- how many parts a node takes
abbrev pub parts_taken : Node → ℕ
parts_taken (Code place) = 0
parts_taken Yes = 0
parts_taken No = 0
parts_taken Not = 1
parts_taken (And size) = 2
parts_taken (Or size) = 2
parts_taken (WhenTrue size) = 0
parts_taken (WhenFalse size) = 0
