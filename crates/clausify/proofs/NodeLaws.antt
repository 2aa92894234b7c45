-- The nodes of a formula, taken one after another, make its clauses and its literal.
use Rattle.std.proofs.lemmas.List.{append-nil}
use Rattle.std.proofs.Common.{◌≡◌, ℕ, suc, pred, ◌+◌, ◌<◌, ◌≤◌, List, [], ◌∷◌, ◌++◌, length, get_or, drop, refl, sym, ap, subst, ◌∙◌, arith, append_assoc, drop-cons}
use Rattle.pb_base.specs.Rule.{Rule, code, negation, both, either, always, never}
use Rattle.pb_base.specs.Node.{size, nodes_then, nodes_of}
use Rattle.pb_base.specs.declared.node.Node.{Node}
use Rattle.pb_base.specs.declared.node.Node.TheVariants.{Code, Not, WhenTrue, WhenFalse, And, Or, Yes, No}
use Rattle.clausify.specs.Formulas.{connectives, formula_literal, formula_clauses, both_clauses, either_clauses}
use Rattle.clausify.specs.Encoding.{Making, joined, negated, with_node, parts_taken}

-- the nodes taken in order
abbrev pub with_nodes : ℕ → List Node → Making → Making
with_nodes n [] m = m
with_nodes n (node ∷ rest) m = with_nodes n rest (with_node n node m)

-- how many parts there are after a node
abbrev pub parts_after : Node → ℕ → ℕ
parts_after (Code place) count = suc count
parts_after Yes count = suc count
parts_after No count = suc count
parts_after Not count = count
parts_after (And size) count = pred count
parts_after (Or size) count = pred count
parts_after (WhenTrue size) count = count
parts_after (WhenFalse size) count = count

-- each node finds the parts that it takes, where so many are there before the first
abbrev pub HaveParts : List Node → ℕ → Type 0
HaveParts [] count = Unit {0}
HaveParts (node ∷ rest) count = (parts_taken node ≤ count) × HaveParts rest (parts_after node count)

-- what the formula has been made into
abbrev pub with_formula : ℕ → Rule → Making → Making
with_formula n f m = record {
  clauses = m.clauses ++ formula_clauses n m.next f;
  next = m.next + connectives f;
  parts = formula_literal n m.next f ∷ m.parts;
}

abbrev making : List (List ℕ) → ℕ → List ℕ → Making
making cs v ps = record { clauses = cs; next = v; parts = ps }

same_making : (cs ds : List (List ℕ)) (v w : ℕ) (ps : List ℕ) → cs ≡ ds → v ≡ w → making cs v ps ≡ making ds w ps
same_making cs ds v w ps hc hv = ap (λ (c : List (List ℕ)). making c v ps) hc ∙ ap (λ (k : ℕ). making ds k ps) hv

joined_clauses : (cs f g tied : List (List ℕ)) → cs ++ f ++ g ++ tied ≡ cs ++ (f ++ g ++ tied)
joined_clauses cs f g tied = ap (λ (ds : List (List ℕ)). ds ++ tied) (append_assoc cs f g) ∙ append_assoc cs (f ++ g) tied

-- the nodes of a formula make it
pub with_nodes-nodes_then : (n : ℕ) (f : Rule) (rest : List Node) (m : Making) → with_nodes n (nodes_then f rest) m ≡ with_nodes n rest (with_formula n f m)
with_nodes-nodes_then n (code place) rest m =
    ap (with_nodes n rest) (same_making _ _ _ _ _ (sym (append-nil m.clauses)) (let e : m.next ≡ m.next + 0 = omega arith in e))
with_nodes-nodes_then n (negation f) rest m = with_nodes-nodes_then n f (Not ∷ rest) m
with_nodes-nodes_then n (both f g) rest m =
    let m1 : Making = with_formula n f m in
    let m2 : Making = with_formula n g m1 in
    with_nodes-nodes_then n f (WhenTrue (size g) ∷ nodes_then g (And (size g) ∷ rest)) m
    ∙ with_nodes-nodes_then n g (And (size g) ∷ rest) m1
    ∙ ap (with_nodes n rest) (same_making _ _ _ _ _
    (joined_clauses m.clauses (formula_clauses n m.next f) (formula_clauses n m1.next g) (both_clauses m2.next (formula_literal n m.next f) (formula_literal n m1.next g)))
    (let e : m.next + connectives f + connectives g + 1 ≡ m.next + (connectives f + connectives g + 1) = omega arith in e))
with_nodes-nodes_then n (either f g) rest m =
    let m1 : Making = with_formula n f m in
    let m2 : Making = with_formula n g m1 in
    with_nodes-nodes_then n f (WhenFalse (size g) ∷ nodes_then g (Or (size g) ∷ rest)) m
    ∙ with_nodes-nodes_then n g (Or (size g) ∷ rest) m1
    ∙ ap (with_nodes n rest) (same_making _ _ _ _ _
    (joined_clauses m.clauses (formula_clauses n m.next f) (formula_clauses n m1.next g) (either_clauses m2.next (formula_literal n m.next f) (formula_literal n m1.next g)))
    (let e : m.next + connectives f + connectives g + 1 ≡ m.next + (connectives f + connectives g + 1) = omega arith in e))
with_nodes-nodes_then n always rest m =
    ap (with_nodes n rest) (same_making _ _ _ _ _ (sym (append-nil m.clauses)) (let e : m.next ≡ m.next + 0 = omega arith in e))
with_nodes-nodes_then n never rest m =
    ap (with_nodes n rest) (same_making _ _ _ _ _ (sym (append-nil m.clauses)) (let e : m.next ≡ m.next + 0 = omega arith in e))

parts-nodes_then : (f : Rule) (rest : List Node) (count : ℕ) → HaveParts rest (suc count) → HaveParts (nodes_then f rest) count
parts-nodes_then (code place) rest count h = (omega arith, h)
parts-nodes_then (negation f) rest count h = parts-nodes_then f (Not ∷ rest) count (omega arith, h)
parts-nodes_then (both f g) rest count h =
    parts-nodes_then f (WhenTrue (size g) ∷ nodes_then g (And (size g) ∷ rest)) count
    (omega arith, parts-nodes_then g (And (size g) ∷ rest) (suc count) (omega arith, h))
parts-nodes_then (either f g) rest count h =
    parts-nodes_then f (WhenFalse (size g) ∷ nodes_then g (Or (size g) ∷ rest)) count
    (omega arith, parts-nodes_then g (Or (size g) ∷ rest) (suc count) (omega arith, h))
parts-nodes_then always rest count h = (omega arith, h)
parts-nodes_then never rest count h = (omega arith, h)

length-negated : (m : Making) (parts : List ℕ) → 1 ≤ length parts → length (negated m parts).parts ≡ length parts
length-negated m [] h = absurd (omega arith)
length-negated m (part ∷ parts) h = refl

length-joined : (tied : ℕ → ℕ → ℕ → List (List ℕ)) (m : Making) (parts : List ℕ) → 2 ≤ length parts → length (joined tied m parts).parts ≡ pred (length parts)
length-joined tied m [] h = absurd (omega arith)
length-joined tied m (part ∷ []) h = absurd (omega arith)
length-joined tied m (right ∷ left ∷ parts) h = refl

length-with_node : (n : ℕ) (node : Node) (m : Making) → parts_taken node ≤ length m.parts → length (with_node n node m).parts ≡ parts_after node (length m.parts)
length-with_node n (Code place) m h = refl
length-with_node n Yes m h = refl
length-with_node n No m h = refl
length-with_node n Not m h = length-negated m m.parts h
length-with_node n (And size) m h = length-joined both_clauses m m.parts h
length-with_node n (Or size) m h = length-joined either_clauses m m.parts h
length-with_node n (WhenTrue size) m h = refl
length-with_node n (WhenFalse size) m h = refl

-- a variable that was taken stays taken
negated_rises : (m : Making) (parts : List ℕ) → m.next ≤ (negated m parts).next
negated_rises m [] = omega arith
negated_rises m (part ∷ parts) = omega arith

joined_rises : (tied : ℕ → ℕ → ℕ → List (List ℕ)) (m : Making) (parts : List ℕ) → m.next ≤ (joined tied m parts).next
joined_rises tied m [] = omega arith
joined_rises tied m (part ∷ []) = omega arith
joined_rises tied m (right ∷ left ∷ parts) = omega arith

node_rises : (n : ℕ) (node : Node) (m : Making) → m.next ≤ (with_node n node m).next
node_rises n (Code place) m = omega arith
node_rises n Yes m = omega arith
node_rises n No m = omega arith
node_rises n Not m = negated_rises m m.parts
node_rises n (And size) m = joined_rises both_clauses m m.parts
node_rises n (Or size) m = joined_rises either_clauses m m.parts
node_rises n (WhenTrue size) m = omega arith
node_rises n (WhenFalse size) m = omega arith

nodes_rise : (n : ℕ) (ns : List Node) (m : Making) → m.next ≤ (with_nodes n ns m).next
nodes_rise n [] m = omega arith
nodes_rise n (node ∷ rest) m = omega (arith, node_rises n node m, nodes_rise n rest (with_node n node m))

-- how far the nodes of a formula have come: those that are left make the whole
pub record NodesLeft (n : ℕ) (f : Rule) (start m : Making) (left : List Node) : Type 0 where
  pub making : with_nodes n left m ≡ with_formula n f start
  pub have_parts : HaveParts left (length m.parts)

pub nodes_begin : (n : ℕ) (f : Rule) (ns : List Node) (m : Making) → ns ≡ nodes_of f → NodesLeft n f m m ns
nodes_begin n f ns m are =
    subst (λ (left : List Node). NodesLeft n f m m left) (sym are)
    (record { making = with_nodes-nodes_then n f [] m; have_parts = parts-nodes_then f [] (length m.parts) tt })

pub node_next : (ns : List Node) (i : ℕ) (node : Node) → i < length ns → node ≡ get_or ns i node → drop i ns ≡ node ∷ drop (i + 1) ns
node_next ns i node within is =
    drop-cons ns i node within ∙ ap (λ (x : Node). x ∷ drop (suc i) ns) (sym is) ∙ ap (λ (k : ℕ). node ∷ drop k ns) (let e : suc i ≡ i + 1 = omega arith in e)

pub nodes_step : (n : ℕ) (f : Rule) (start m more : Making) (node : Node) (left rest : List Node) → NodesLeft n f start m left → left ≡ node ∷ rest → more ≡ with_node n node m → NodesLeft n f start more rest
nodes_step n f start m more node left rest before is made =
    let here : NodesLeft n f start m (node ∷ rest) = subst (λ (ns : List Node). NodesLeft n f start m ns) is before in
    subst (λ (x : Making). NodesLeft n f start x rest) (sym made)
    (record {
      making = here.making;
      have_parts = subst (HaveParts rest) (sym (length-with_node n node m here.have_parts.0)) here.have_parts.1;
    })

pub node_has_parts : (n : ℕ) (f : Rule) (start m : Making) (node : Node) (left rest : List Node) → NodesLeft n f start m left → left ≡ node ∷ rest → parts_taken node ≤ length m.parts
node_has_parts n f start m node left rest before is =
    (subst (λ (ns : List Node). NodesLeft n f start m ns) is before).have_parts.0

pub node_room : (n limit : ℕ) (f : Rule) (start m : Making) (node : Node) (left rest : List Node) → NodesLeft n f start m left → left ≡ node ∷ rest → start.next + connectives f < limit → (with_node n node m).next < limit
node_room n limit f start m node left rest before is room =
    let here : NodesLeft n f start m (node ∷ rest) = subst (λ (ns : List Node). NodesLeft n f start m ns) is before in
    let last : (with_nodes n rest (with_node n node m)).next ≡ start.next + connectives f = ap (λ (x : Making). x.next) here.making in
    omega (arith, last, nodes_rise n rest (with_node n node m))

pub nodes_end : (n : ℕ) (f : Rule) (start m : Making) (left : List Node) → NodesLeft n f start m left → left ≡ [] → m ≡ with_formula n f start
nodes_end n f start m left before none = (subst (λ (ns : List Node). NodesLeft n f start m ns) none before).making
