-- Formulas and groups of two books that are the same by names.
use Rattle.std.proofs.Common.{◌≡◌, ℕ, ◌+◌, ◌<◌, List, [], ◌∷◌, ◌++◌, length, map, take, get_or, refl, sym, ap, ◌∙◌, arith}
use Rattle.std.proofs.lemmas.List.{take_more, map-append}
use Rattle.pb_base.specs.Leaves.{with_leaves, node_with}
use Rattle.pb_base.specs.Node.{nodes_of, rule_of, rule_of_leaf}
use Rattle.pb_base.specs.Rule.{Rule, code, negation, both, either, never}
use Rattle.pb_base.specs.declared.node.Leaf.{Leaf}
use Rattle.pb_base.specs.declared.node.Leaf.TheVariants.{Code as LeafCode}
use Rattle.pb_base.specs.declared.node.Node.{Node}
use Rattle.pb_base.proofs.LeafLaws.{nodes_of-with_leaves}
use Rattle.pb_base.proofs.Nodes.{rule_of-nodes_of}
use Rattle.book_model.specs.declared.record.Supplement.{Supplement}
use Rattle.lost_cars.specs.Violation.{any_from, any_of, two_from, two_of, firing, unmet}

-- a list that is mapped as far as one place further
pub mapped_more : {X Y : Type 0} (f : X → Y) (xs : List X) (ys : List Y) (i : ℕ) (d : X) (e : Y) → i < length xs → i < length ys → f (get_or xs i d) ≡ get_or ys i e
    → map f (take i xs) ≡ take i ys → map f (take (i + 1) xs) ≡ take (i + 1) ys
mapped_more {X} {Y} f xs ys i d e within own same so_far =
    rw (take_more xs i d within, take_more ys i e own, map-append, so_far, same) refl

-- the same of two lists that are both mapped
pub both_mapped_more : {X Y Z : Type 0} (f : X → Z) (g : Y → Z) (xs : List X) (ys : List Y) (i : ℕ) (d : X) (e : Y) → i < length xs → i < length ys → f (get_or xs i d) ≡ g (get_or ys i e)
    → map f (take i xs) ≡ map g (take i ys) → map f (take (i + 1) xs) ≡ map g (take (i + 1) ys)
both_mapped_more {X} {Y} {Z} f g xs ys i d e within own same so_far =
    rw (take_more xs i d within, take_more ys i e own, map-append, map-append, so_far, same) refl

pub formula_read : (leaf : ℕ → Leaf) (own other : Rule) (ns ms : List Node) → ns ≡ nodes_of own → ms ≡ nodes_of other → map (node_with leaf) ms ≡ ns → with_leaves leaf other ≡ own
formula_read leaf own other ns ms are read same =
    sym (rule_of-nodes_of (with_leaves leaf other))
    ∙ ap rule_of (sym (nodes_of-with_leaves leaf other) ∙ ap (map (node_with leaf)) (sym read) ∙ same ∙ are)
    ∙ rule_of-nodes_of own

-- the formulas of a group, over words
abbrev any_words : Rule → List Leaf → Rule
any_words f [] = f
any_words f (l ∷ ls) = any_words (either f (rule_of_leaf l)) ls

abbrev two_words : Rule → List Leaf → Rule
two_words f [] = f
two_words f (l ∷ ls) = two_words (either f (both (rule_of_leaf l) (any_words never ls))) ls

any_read : (leaf : ℕ → Leaf) (cs : List ℕ) (f : Rule) → with_leaves leaf (any_from f cs) ≡ any_words (with_leaves leaf f) (map leaf cs)
any_read leaf [] f = refl
any_read leaf (c ∷ cs) f = any_read leaf cs (either f (code c))

two_read : (leaf : ℕ → Leaf) (cs : List ℕ) (f : Rule) → with_leaves leaf (two_from f cs) ≡ two_words (with_leaves leaf f) (map leaf cs)
two_read leaf [] f = refl
two_read leaf (c ∷ cs) f =
    rw (two_read leaf cs (either f (both (code c) (any_of cs))), any_read leaf cs never) refl

any_own : (cs : List ℕ) (f : Rule) → any_words f (map (λ c. LeafCode c) cs) ≡ any_from f cs
any_own [] f = refl
any_own (c ∷ cs) f = any_own cs (either f (code c))

two_own : (cs : List ℕ) (f : Rule) → two_words f (map (λ c. LeafCode c) cs) ≡ two_from f cs
two_own [] f = refl
two_own (c ∷ cs) f =
    ap (λ g. two_words (either f (both (code c) g)) (map (λ k. LeafCode k) cs)) (any_own cs never) ∙ two_own cs (either f (both (code c) (any_of cs)))

pub any_same : (leaf : ℕ → Leaf) (own other : List ℕ) → map leaf other ≡ map (λ c. LeafCode c) own → with_leaves leaf (any_of other) ≡ any_of own
any_same leaf own other same = any_read leaf other never ∙ ap (any_words never) same ∙ any_own own never

pub two_same : (leaf : ℕ → Leaf) (own other : List ℕ) → map leaf other ≡ map (λ c. LeafCode c) own → with_leaves leaf (two_of other) ≡ two_of own
two_same leaf own other same = two_read leaf other never ∙ ap (two_words never) same ∙ two_own own never

pub one_same : (leaf : ℕ → Leaf) (own other : List ℕ) → map leaf other ≡ map (λ c. LeafCode c) own
    → with_leaves leaf (either (negation (any_of other)) (two_of other)) ≡ either (negation (any_of own)) (two_of own)
one_same leaf own other same =
    rw (any_same leaf own other same, two_same leaf own other same) refl

pub firing_same : (leaf : ℕ → Leaf) (own other : Supplement) → leaf other.code ≡ LeafCode own.code → with_leaves leaf other.rule ≡ own.rule
    → with_leaves leaf (firing other) ≡ firing own
firing_same leaf own other added rule =
    rw (rule, added) refl

pub on_same : (leaf : ℕ → Leaf) (own other : ℕ) (f g : Rule) → leaf other ≡ LeafCode own → with_leaves leaf g ≡ f
    → with_leaves leaf (both (code other) (negation g)) ≡ both (code own) (negation f)
on_same leaf own other f g added rule =
    rw (added, rule) refl
