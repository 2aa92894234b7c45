-- The list of nodes that a rule is kept as: read back, found true, and taken apart.
use Rattle.std.proofs.Common.{◌≡◌, ℕ, zero, suc, ◌+◌, ◌<◌, Bool, true, false, ◌&&◌, ◌||◌, List, [], ◌∷◌, ◌++◌, length, drop, replicate, get_or, refl, sym, ap, ◌∙◌, arith}
use Rattle.std.proofs.lemmas.List.{append-nil, length-replicate, drop-drop}
use Rattle.std.proofs.Math.Seq.{drop-cons}
use Rattle.std.proofs.Math.Bool.{and_assoc}
use Rattle.pb_base.specs.Rule.{Rule, code, negation, both, either, always, never, holds, codes_below, negated, top}
use Rattle.pb_base.specs.Node.{size_with, size, nodes_then, nodes_of, read_on, rule_of, is_below, are_below, value_after, skip_after, rule_of_leaf, leaf_node}
use Rattle.pb_base.specs.declared.node.Node.{Node}
use Rattle.pb_base.specs.declared.node.Node.TheVariants.{Not, WhenTrue, WhenFalse, And, Or}
use Rattle.pb_base.specs.declared.node.Leaf.{Leaf}
use Rattle.pb_base.specs.declared.node.Leaf.TheVariants.{Code as LeafCode, Yes as LeafYes, No as LeafNo}

-- the nodes of a rule are read as that rule
pub read_on-nodes_then : (f : Rule) (rest : List Node) (read : List Rule) → read_on (nodes_then f rest) read ≡ read_on rest (f ∷ read)
read_on-nodes_then (code place) rest read = refl
read_on-nodes_then (negation f) rest read = read_on-nodes_then f (Not ∷ rest) read
read_on-nodes_then (both f g) rest read = read_on-nodes_then f (WhenTrue (size g) ∷ nodes_then g (And (size g) ∷ rest)) read ∙ read_on-nodes_then g (And (size g) ∷ rest) (f ∷ read)
read_on-nodes_then (either f g) rest read = read_on-nodes_then f (WhenFalse (size g) ∷ nodes_then g (Or (size g) ∷ rest)) read ∙ read_on-nodes_then g (Or (size g) ∷ rest) (f ∷ read)
read_on-nodes_then always rest read = refl
read_on-nodes_then never rest read = refl

pub rule_of-nodes_of : (f : Rule) → rule_of (nodes_of f) ≡ f
rule_of-nodes_of f = ap top (read_on-nodes_then f [] [])

-- a list that is the list of some rule stands for that rule
pub reads : (f : Rule) (ns : List Node) → ns ≡ nodes_of f → rule_of ns ≡ f
reads f ns are = ap rule_of are ∙ rule_of-nodes_of f

pub lawful : (f : Rule) (ns : List Node) → ns ≡ nodes_of f → ns ≡ nodes_of (rule_of ns)
lawful f ns are = are ∙ ap nodes_of (sym (reads f ns are))

pub nodes_then-append : (f : Rule) (front back : List Node) → nodes_then f (front ++ back) ≡ nodes_then f front ++ back
nodes_then-append (code place) front back = refl
nodes_then-append (negation f) front back = nodes_then-append f (Not ∷ front) back
nodes_then-append (both f g) front back =
    ap (λ rest. nodes_then f (WhenTrue (size g) ∷ rest)) (nodes_then-append g (And (size g) ∷ front) back)
    ∙ nodes_then-append f (WhenTrue (size g) ∷ nodes_then g (And (size g) ∷ front)) back
nodes_then-append (either f g) front back =
    ap (λ rest. nodes_then f (WhenFalse (size g) ∷ rest)) (nodes_then-append g (Or (size g) ∷ front) back)
    ∙ nodes_then-append f (WhenFalse (size g) ∷ nodes_then g (Or (size g) ∷ front)) back
nodes_then-append always front back = refl
nodes_then-append never front back = refl

-- what stands behind the nodes of a rule
pub nodes_and : (f : Rule) (rest : List Node) → nodes_then f rest ≡ nodes_of f ++ rest
nodes_and f rest = nodes_then-append f [] rest

pub length-nodes_then : (f : Rule) (rest : List Node) → length (nodes_then f rest) ≡ size_with f (length rest)
length-nodes_then (code place) rest = refl
length-nodes_then (negation f) rest = length-nodes_then f (Not ∷ rest)
length-nodes_then (both f g) rest =
    length-nodes_then f (WhenTrue (size g) ∷ nodes_then g (And (size g) ∷ rest)) ∙ ap (λ n. size_with f (suc n)) (length-nodes_then g (And (size g) ∷ rest))
length-nodes_then (either f g) rest =
    length-nodes_then f (WhenFalse (size g) ∷ nodes_then g (Or (size g) ∷ rest)) ∙ ap (λ n. size_with f (suc n)) (length-nodes_then g (Or (size g) ∷ rest))
length-nodes_then always rest = refl
length-nodes_then never rest = refl

pub length-nodes_of : (f : Rule) → length (nodes_of f) ≡ size f
length-nodes_of f = length-nodes_then f []

-- The truth is found in one pass. Here `skip` nodes are still to be passed over.
abbrev pub run : List Bool → Bool → ℕ → List Node → Bool
run x seen skip [] = seen
run x seen (suc skip) (node ∷ rest) = run x seen skip rest
run x seen zero (node ∷ rest) = run x (value_after x seen node) (skip_after seen node) rest

-- the nodes of a rule are passed over by its size
run-size_with : (x : List Bool) (seen : Bool) (f : Rule) (more : ℕ) (rest : List Node) → run x seen (size_with f more) (nodes_then f rest) ≡ run x seen more rest
run-size_with x seen (code place) more rest = refl
run-size_with x seen (negation f) more rest = run-size_with x seen f (suc more) (Not ∷ rest)
run-size_with x seen (both f g) more rest =
    run-size_with x seen f (suc (size_with g (suc more))) (WhenTrue (size g) ∷ nodes_then g (And (size g) ∷ rest)) ∙ run-size_with x seen g (suc more) (And (size g) ∷ rest)
run-size_with x seen (either f g) more rest =
    run-size_with x seen f (suc (size_with g (suc more))) (WhenFalse (size g) ∷ nodes_then g (Or (size g) ∷ rest)) ∙ run-size_with x seen g (suc more) (Or (size g) ∷ rest)
run-size_with x seen always more rest = refl
run-size_with x seen never more rest = refl

-- the jump of an And and its right side
over_and : (x : List Bool) (left : Bool) (g : Rule) (rest : List Node) → ((seen : Bool) → run x seen zero (nodes_then g (And (size g) ∷ rest)) ≡ run x (holds g x) zero rest)
    → run x left zero (WhenTrue (size g) ∷ nodes_then g (And (size g) ∷ rest)) ≡ run x (left && holds g x) zero rest
over_and x true g rest right = right true
over_and x false g rest right = run-size_with x false g zero (And (size g) ∷ rest)

over_or : (x : List Bool) (left : Bool) (g : Rule) (rest : List Node) → ((seen : Bool) → run x seen zero (nodes_then g (Or (size g) ∷ rest)) ≡ run x (holds g x) zero rest)
    → run x left zero (WhenFalse (size g) ∷ nodes_then g (Or (size g) ∷ rest)) ≡ run x (left || holds g x) zero rest
over_or x true g rest right = run-size_with x true g zero (Or (size g) ∷ rest)
over_or x false g rest right = right false

-- the pass over the nodes of a rule ends with its truth
pub run-nodes_then : (x : List Bool) (seen : Bool) (f : Rule) (rest : List Node) → run x seen zero (nodes_then f rest) ≡ run x (holds f x) zero rest
run-nodes_then x seen (code place) rest = refl
run-nodes_then x seen (negation f) rest = run-nodes_then x seen f (Not ∷ rest)
run-nodes_then x seen (both f g) rest =
    run-nodes_then x seen f (WhenTrue (size g) ∷ nodes_then g (And (size g) ∷ rest)) ∙ over_and x (holds f x) g rest (λ left. run-nodes_then x left g (And (size g) ∷ rest))
run-nodes_then x seen (either f g) rest =
    run-nodes_then x seen f (WhenFalse (size g) ∷ nodes_then g (Or (size g) ∷ rest)) ∙ over_or x (holds f x) g rest (λ left. run-nodes_then x left g (Or (size g) ∷ rest))
run-nodes_then x seen always rest = refl
run-nodes_then x seen never rest = refl

-- nodes that are passed over may be dropped
pub run-drop : (x : List Bool) (seen : Bool) (skip : ℕ) (ns : List Node) → run x seen skip ns ≡ run x seen zero (drop skip ns)
run-drop x seen zero ns = refl
run-drop x seen (suc skip) [] = refl
run-drop x seen (suc skip) (node ∷ rest) = run-drop x seen skip rest

-- the codes of a rule are those of its nodes
pub are_below-nodes_then : (n : ℕ) (f : Rule) (rest : List Node) → are_below n (nodes_then f rest) ≡ (codes_below n f && are_below n rest)
are_below-nodes_then n (code place) rest = refl
are_below-nodes_then n (negation f) rest = are_below-nodes_then n f (Not ∷ rest)
are_below-nodes_then n (both f g) rest =
    are_below-nodes_then n f (WhenTrue (size g) ∷ nodes_then g (And (size g) ∷ rest)) ∙ ap (λ b. codes_below n f && b) (are_below-nodes_then n g (And (size g) ∷ rest))
    ∙ sym (and_assoc (codes_below n f) (codes_below n g) (are_below n rest))
are_below-nodes_then n (either f g) rest =
    are_below-nodes_then n f (WhenFalse (size g) ∷ nodes_then g (Or (size g) ∷ rest)) ∙ ap (λ b. codes_below n f && b) (are_below-nodes_then n g (Or (size g) ∷ rest))
    ∙ sym (and_assoc (codes_below n f) (codes_below n g) (are_below n rest))
are_below-nodes_then n always rest = refl
are_below-nodes_then n never rest = refl

left_true : (a b : Bool) → (a && b) ≡ true → a ≡ true
left_true true b e = refl
left_true false b e = e

right_true : (a b : Bool) → (a && b) ≡ true → b ≡ true
right_true true b e = e
right_true false b e = cc

are_below-drop : (n k : ℕ) (ns : List Node) → are_below n ns ≡ true → are_below n (drop k ns) ≡ true
are_below-drop n zero ns below = below
are_below-drop n (suc k) [] below = refl
are_below-drop n (suc k) (node ∷ rest) below = are_below-drop n k rest (right_true (is_below n node) (are_below n rest) below)

-- One step of the pass, at the node that stands at a place of the list.
pub step_run : (x : List Bool) (seen : Bool) (ns : List Node) (at : ℕ) (node d : Node) → at < length ns → get_or ns at d ≡ node
    → run x seen zero (drop at ns) ≡ run x (value_after x seen node) zero (drop (at + (1 + skip_after seen node)) ns)
step_run x seen ns at node d inside is =
    let here : drop at ns ≡ node ∷ drop (suc at) ns = drop-cons ns at d inside ∙ ap (λ m. m ∷ drop (suc at) ns) is in
    ap (run x seen zero) here ∙ run-drop x (value_after x seen node) (skip_after seen node) (drop (suc at) ns)
    ∙ ap (run x (value_after x seen node) zero) (drop-drop (skip_after seen node) (suc at) ns ∙ ap (λ k. drop k ns) (omega arith))

pub node_below : (n : ℕ) (ns : List Node) (at : ℕ) (node d : Node) → at < length ns → get_or ns at d ≡ node → are_below n (drop at ns) ≡ true → is_below n node ≡ true
node_below n ns at node d inside is below =
    let here : drop at ns ≡ node ∷ drop (suc at) ns = drop-cons ns at d inside ∙ ap (λ m. m ∷ drop (suc at) ns) is in
    left_true (is_below n node) (are_below n (drop (suc at) ns)) (sym (ap (are_below n) here) ∙ below)

pub step_below : (n : ℕ) (ns : List Node) (at more : ℕ) → are_below n (drop at ns) ≡ true → are_below n (drop (at + more) ns) ≡ true
step_below n ns at more below = ap (are_below n) (sym (drop-drop more at ns)) ∙ are_below-drop n more (drop at ns) below

-- minus signs are nodes behind the others
pub nodes_then-negated : (signs : ℕ) (f : Rule) (rest : List Node) → nodes_then (negated signs f) rest ≡ nodes_then f (replicate signs Not ++ rest)
nodes_then-negated zero f rest = refl
nodes_then-negated (suc signs) f rest = nodes_then-negated signs (negation f) rest

-- the nodes of a connective
pub nodes_of-both : (f g : Rule) → nodes_of (both f g) ≡ nodes_of f ++ WhenTrue (size g) ∷ (nodes_of g ++ And (size g) ∷ [])
nodes_of-both f g = nodes_and f _ ∙ ap (λ rest. nodes_of f ++ WhenTrue (size g) ∷ rest) (nodes_and g (And (size g) ∷ []))

pub nodes_of-either : (f g : Rule) → nodes_of (either f g) ≡ nodes_of f ++ WhenFalse (size g) ∷ (nodes_of g ++ Or (size g) ∷ [])
nodes_of-either f g = nodes_and f _ ∙ ap (λ rest. nodes_of f ++ WhenFalse (size g) ∷ rest) (nodes_and g (Or (size g) ∷ []))

size_is : (g : Rule) (right : List Node) (s : ℕ) → right ≡ nodes_of g → s ≡ length right → s ≡ size g
size_is g right s are long = long ∙ ap length are ∙ length-nodes_of g

-- two lists joined by the nodes of a connective
pub both_joined : (f g : Rule) (left right : List Node) (s : ℕ) → left ≡ nodes_of f → right ≡ nodes_of g → s ≡ length right
    → left ++ WhenTrue s ∷ (right ++ And s ∷ []) ≡ nodes_of (both f g)
both_joined f g left right s lefts rights long =
    rw (size_is g right s rights long, lefts, rights) (sym (nodes_of-both f g))

pub either_joined : (f g : Rule) (left right : List Node) (s : ℕ) → left ≡ nodes_of f → right ≡ nodes_of g → s ≡ length right
    → left ++ WhenFalse s ∷ (right ++ Or s ∷ []) ≡ nodes_of (either f g)
either_joined f g left right s lefts rights long =
    rw (size_is g right s rights long, lefts, rights) (sym (nodes_of-either f g))

-- a list with minus signs behind it
pub negated_joined : (signs : ℕ) (f : Rule) (ns : List Node) → ns ≡ nodes_of f → ns ++ replicate signs Not ≡ nodes_of (negated signs f)
negated_joined signs f ns are =
    ap (λ front. front ++ replicate signs Not) are ∙ sym (nodes_and f (replicate signs Not)) ∙ ap (nodes_then f) (sym (append-nil (replicate signs Not))) ∙ sym (nodes_then-negated signs f [])

nodes_then-leaf : (leaf : Leaf) (rest : List Node) → nodes_then (rule_of_leaf leaf) rest ≡ leaf_node leaf ∷ rest
nodes_then-leaf (LeafCode place) rest = refl
nodes_then-leaf LeafYes rest = refl
nodes_then-leaf LeafNo rest = refl

pub leaf_joined : (leaf : Leaf) (signs : ℕ) → leaf_node leaf ∷ replicate signs Not ≡ nodes_of (negated signs (rule_of_leaf leaf))
leaf_joined leaf signs = negated_joined signs (rule_of_leaf leaf) (leaf_node leaf ∷ []) (sym (nodes_then-leaf leaf []))

-- the number of nodes of a word and its minus signs
pub leaf_long : (s : ℕ) (leaf : Leaf) (signs : ℕ) → s ≡ signs + 1 → s ≡ length (leaf_node leaf ∷ replicate signs Not)
leaf_long s leaf signs is = let long : length (replicate signs Not) ≡ signs = length-replicate signs Not in omega arith

-- a list passed over from its start gives the truth of its rule
pub run_whole : (x : List Bool) (f : Rule) (ns : List Node) → ns ≡ nodes_of f → run x false zero ns ≡ holds f x
run_whole x f ns are = ap (run x false zero) are ∙ run-nodes_then x false f []

pub are_below-nodes_of : (n : ℕ) (f : Rule) (ns : List Node) → ns ≡ nodes_of f → codes_below n f ≡ true → are_below n ns ≡ true
are_below-nodes_of n f ns are below = ap (are_below n) are ∙ are_below-nodes_then n f [] ∙ ap (λ b. b && true) below
