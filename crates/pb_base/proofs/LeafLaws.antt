-- A formula with other words in place of its codes: its nodes, its size, its codes and its truth.
use Rattle.std.proofs.Common.{◌≡◌, ℕ, zero, suc, ◌+◌, ◌<◌, Bool, true, false, not, ◌&&◌, ◌||◌, eqb, nat_lt, List, [], ◌∷◌, length, map, Some, None, inl, inr, refl, sym, ap, ◌∙◌, arith}
use Rattle.std.specs.Prelude.{Option, slice_get, slice_set}
use Rattle.std.specs.List.{AllByRecursion}
use Rattle.std.specs.Option.{option_map_or}
use Rattle.std.proofs.lemmas.Bool.{cases_eq, cond-true, cond-false, eq-eqb, ne_eqb, lt-ltb, and_parts, and_from}
use Rattle.std.proofs.lemmas.List.{get_or-set_same, get_or-set_other}
use Rattle.pb_base.specs.Sets.{has}
use Rattle.pb_base.specs.Rule.{Rule, code, negation, both, either, always, never, holds, codes_below, nodes}
use Rattle.pb_base.specs.Node.{size_with, size, nodes_then, nodes_of, rule_of_leaf, leaf_node}
use Rattle.pb_base.specs.Leaves.{with_leaves, node_with, leaf_holds, present, renamed, with_present, with_places}
use Rattle.pb_base.specs.declared.node.Node.{Node}
use Rattle.pb_base.specs.declared.node.Node.TheVariants.{Not, WhenTrue, WhenFalse, And, Or}
use Rattle.pb_base.specs.declared.node.Leaf.{Leaf}
use Rattle.pb_base.specs.declared.node.Leaf.TheVariants.{Code as LeafCode, Yes as LeafYes, No as LeafNo}

size_with-leaf : (l : Leaf) (more : ℕ) → size_with (rule_of_leaf l) more ≡ suc more
size_with-leaf (LeafCode place) more = refl
size_with-leaf LeafYes more = refl
size_with-leaf LeafNo more = refl

-- a word takes the place of a word
size_with-with_leaves : (leaf : ℕ → Leaf) (f : Rule) (more : ℕ) → size_with (with_leaves leaf f) more ≡ size_with f more
size_with-with_leaves leaf (code place) more = size_with-leaf (leaf place) more
size_with-with_leaves leaf (negation f) more = size_with-with_leaves leaf f (suc more)
size_with-with_leaves leaf (both f g) more =
    size_with-with_leaves leaf f (suc (size_with (with_leaves leaf g) (suc more))) ∙ ap (λ k. size_with f (suc k)) (size_with-with_leaves leaf g (suc more))
size_with-with_leaves leaf (either f g) more =
    size_with-with_leaves leaf f (suc (size_with (with_leaves leaf g) (suc more))) ∙ ap (λ k. size_with f (suc k)) (size_with-with_leaves leaf g (suc more))
size_with-with_leaves leaf always more = refl
size_with-with_leaves leaf never more = refl

size-with_leaves : (leaf : ℕ → Leaf) (f : Rule) → size (with_leaves leaf f) ≡ size f
size-with_leaves leaf f = size_with-with_leaves leaf f zero

nodes_then-leaf : (l : Leaf) (rest : List Node) → nodes_then (rule_of_leaf l) rest ≡ leaf_node l ∷ rest
nodes_then-leaf (LeafCode place) rest = refl
nodes_then-leaf LeafYes rest = refl
nodes_then-leaf LeafNo rest = refl

map-nodes_then : (leaf : ℕ → Leaf) (f : Rule) (rest : List Node)
    → map (node_with leaf) (nodes_then f rest) ≡ nodes_then (with_leaves leaf f) (map (node_with leaf) rest)
map-nodes_then leaf (code place) rest = sym (nodes_then-leaf (leaf place) (map (node_with leaf) rest))
map-nodes_then leaf (negation f) rest = map-nodes_then leaf f (Not ∷ rest)
map-nodes_then leaf (both f g) rest =
    map-nodes_then leaf f (WhenTrue (size g) ∷ nodes_then g (And (size g) ∷ rest))
    ∙ ap (λ ns. nodes_then (with_leaves leaf f) (WhenTrue (size g) ∷ ns)) (map-nodes_then leaf g (And (size g) ∷ rest))
    ∙ ap (λ k. nodes_then (with_leaves leaf f) (WhenTrue k ∷ nodes_then (with_leaves leaf g) (And k ∷ map (node_with leaf) rest))) (sym (size-with_leaves leaf g))
map-nodes_then leaf (either f g) rest =
    map-nodes_then leaf f (WhenFalse (size g) ∷ nodes_then g (Or (size g) ∷ rest))
    ∙ ap (λ ns. nodes_then (with_leaves leaf f) (WhenFalse (size g) ∷ ns)) (map-nodes_then leaf g (Or (size g) ∷ rest))
    ∙ ap (λ k. nodes_then (with_leaves leaf f) (WhenFalse k ∷ nodes_then (with_leaves leaf g) (Or k ∷ map (node_with leaf) rest))) (sym (size-with_leaves leaf g))
map-nodes_then leaf always rest = refl
map-nodes_then leaf never rest = refl

-- the nodes of the formula, one by one
pub nodes_of-with_leaves : (leaf : ℕ → Leaf) (f : Rule) → map (node_with leaf) (nodes_of f) ≡ nodes_of (with_leaves leaf f)
nodes_of-with_leaves leaf f = map-nodes_then leaf f []

nodes-leaf : (l : Leaf) → nodes (rule_of_leaf l) ≡ 1
nodes-leaf (LeafCode place) = refl
nodes-leaf LeafYes = refl
nodes-leaf LeafNo = refl

-- as many codes, constants and connectives
pub nodes-with_leaves : (leaf : ℕ → Leaf) (f : Rule) → nodes (with_leaves leaf f) ≡ nodes f
nodes-with_leaves leaf (code place) = nodes-leaf (leaf place)
nodes-with_leaves leaf (negation f) = ap (λ k. k + 1) (nodes-with_leaves leaf f)
nodes-with_leaves leaf (both f g) = ap (λ k. k + nodes (with_leaves leaf g) + 1) (nodes-with_leaves leaf f) ∙ ap (λ k. nodes f + k + 1) (nodes-with_leaves leaf g)
nodes-with_leaves leaf (either f g) = ap (λ k. k + nodes (with_leaves leaf g) + 1) (nodes-with_leaves leaf f) ∙ ap (λ k. nodes f + k + 1) (nodes-with_leaves leaf g)
nodes-with_leaves leaf always = refl
nodes-with_leaves leaf never = refl

holds-leaf : (y : List Bool) (l : Leaf) → holds (rule_of_leaf l) y ≡ leaf_holds y l
holds-leaf y (LeafCode place) = refl
holds-leaf y LeafYes = refl
holds-leaf y LeafNo = refl

-- where each word over y has the truth of its code over x, the formula has the truth of the one that it was made of
pub holds-with_leaves : (leaf : ℕ → Leaf) (x y : List Bool) → ((place : ℕ) → leaf_holds y (leaf place) ≡ has x place) → (f : Rule) → holds (with_leaves leaf f) y ≡ holds f x
holds-with_leaves leaf x y same (code place) = holds-leaf y (leaf place) ∙ same place
holds-with_leaves leaf x y same (negation f) = ap not (holds-with_leaves leaf x y same f)
holds-with_leaves leaf x y same (both f g) =
    ap (λ b. b && holds (with_leaves leaf g) y) (holds-with_leaves leaf x y same f) ∙ ap (λ b. holds f x && b) (holds-with_leaves leaf x y same g)
holds-with_leaves leaf x y same (either f g) =
    ap (λ b. b || holds (with_leaves leaf g) y) (holds-with_leaves leaf x y same f) ∙ ap (λ b. holds f x || b) (holds-with_leaves leaf x y same g)
holds-with_leaves leaf x y same always = refl
holds-with_leaves leaf x y same never = refl

-- the codes of the formula are those of its words
pub codes_below-with_leaves : (leaf : ℕ → Leaf) (n m : ℕ) → ((place : ℕ) → nat_lt place n ≡ true → codes_below m (rule_of_leaf (leaf place)) ≡ true) → (f : Rule)
    → codes_below n f ≡ true → codes_below m (with_leaves leaf f) ≡ true
codes_below-with_leaves leaf n m fits (code place) below = fits place below
codes_below-with_leaves leaf n m fits (negation f) below = codes_below-with_leaves leaf n m fits f below
codes_below-with_leaves leaf n m fits (both f g) below =
    let sides = and_parts (codes_below n f) (codes_below n g) below in
    and_from _ _ (codes_below-with_leaves leaf n m fits f sides.0) (codes_below-with_leaves leaf n m fits g sides.1)
codes_below-with_leaves leaf n m fits (either f g) below =
    let sides = and_parts (codes_below n f) (codes_below n g) below in
    and_from _ _ (codes_below-with_leaves leaf n m fits f sides.0) (codes_below-with_leaves leaf n m fits g sides.1)
codes_below-with_leaves leaf n m fits always below = refl
codes_below-with_leaves leaf n m fits never below = refl

-- One code read as present: the truth over the set with it, and no further codes.
has-present : (x : List Bool) (c place : ℕ) → c < length x → leaf_holds x (present c place) ≡ has (slice_set x c true) place
has-present x c place within =
    elim (cases_eq place c) [
      | inl same ↦
          ap (leaf_holds x) (cond-true (eqb place c) LeafYes (LeafCode place) (eq-eqb place c same))
          ∙ sym (get_or-set_same x c true false within) ∙ ap (has (slice_set x c true)) (sym same)
      | inr other ↦
          ap (leaf_holds x) (cond-false (eqb place c) LeafYes (LeafCode place) (ne_eqb place c other)) ∙ sym (get_or-set_other x c place true false other)
    ]

pub holds-with_present : (x : List Bool) (c : ℕ) → c < length x → (f : Rule) → holds (with_present c f) x ≡ holds f (slice_set x c true)
holds-with_present x c within f = holds-with_leaves (present c) (slice_set x c true) x (λ place. has-present x c place within) f

present_fits : (n c place : ℕ) → nat_lt place n ≡ true → codes_below n (rule_of_leaf (present c place)) ≡ true
present_fits n c place below =
    elim (cases_eq place c) [
      | inl same ↦ ap (λ l. codes_below n (rule_of_leaf l)) (cond-true (eqb place c) LeafYes (LeafCode place) (eq-eqb place c same))
      | inr other ↦ ap (λ l. codes_below n (rule_of_leaf l)) (cond-false (eqb place c) LeafYes (LeafCode place) (ne_eqb place c other)) ∙ below
    ]

pub codes_below-with_present : (n c : ℕ) (f : Rule) → codes_below n f ≡ true → codes_below n (with_present c f) ≡ true
codes_below-with_present n c f below = codes_below-with_leaves (present c) n n (present_fits n c) f below

-- Other places: the truth over a set that has at each place what the first has at the code's own, and codes that are places.
pub record AtPlaces (places : List ℕ) (x y : List Bool) : Type 0 where
  pub length_is : length x ≡ length places
  pub same : (k place : ℕ) → slice_get places k ≡ Some place → has y place ≡ has x k

beyond : (x : List Bool) (k : ℕ) → slice_get x k ≡ None → has x k ≡ false
beyond [] k none = refl
beyond (b ∷ x) zero none = cc
beyond (b ∷ x) (suc k) none = beyond x k none

none_too : {X Y : Type 0} (xs : List X) (ys : List Y) (k : ℕ) → length xs ≡ length ys → slice_get ys k ≡ None → slice_get xs k ≡ None
none_too [] ys k same none = refl
none_too (x ∷ xs) [] k same none = absurd (omega arith)
none_too (x ∷ xs) (y ∷ ys) zero same none = cc
none_too (x ∷ xs) (y ∷ ys) (suc k) same none = none_too xs ys k (omega arith) none

has-renamed : (places : List ℕ) (x y : List Bool) → AtPlaces places x y → (k : ℕ) → leaf_holds y (renamed places k) ≡ has x k
has-renamed places x y at k = by (slice_get places k) refl
  where
    by : (found : Option ℕ) → slice_get places k ≡ found → leaf_holds y (renamed places k) ≡ has x k
    by (Some place) is = ap (λ o. leaf_holds y (option_map_or LeafCode o LeafNo)) is ∙ at.same k place is
    by None is = ap (λ o. leaf_holds y (option_map_or LeafCode o LeafNo)) is ∙ sym (beyond x k (none_too x places k at.length_is is))

pub holds-with_places : (places : List ℕ) (x y : List Bool) → AtPlaces places x y → (f : Rule) → holds (with_places places f) y ≡ holds f x
holds-with_places places x y at f = holds-with_leaves (renamed places) x y (has-renamed places x y at) f

place_fits : (places : List ℕ) (m : ℕ) → AllByRecursion (λ place. place < m) places → (k : ℕ) → codes_below m (rule_of_leaf (renamed places k)) ≡ true
place_fits [] m below k = refl
place_fits (place ∷ places) m below zero = lt-ltb place m below.0
place_fits (place ∷ places) m below (suc k) = place_fits places m below.1 k

pub codes_below-with_places : (n m : ℕ) (places : List ℕ) → AllByRecursion (λ place. place < m) places → (f : Rule) → codes_below n f ≡ true → codes_below m (with_places places f) ≡ true
codes_below-with_places n m places fits f below = codes_below-with_leaves (renamed places) n m (λ k known. place_fits places m fits k) f below
