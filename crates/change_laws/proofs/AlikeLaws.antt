-- Rules of two books that are the same by names say the same of the sets of some names.
use Rattle.std.proofs.Common.{◌≡◌, ℕ, zero, suc, Bool, true, false, not, ◌&&◌, List, [], ◌∷◌, Option, Some, None, map, refl, sym, ap, ◌∙◌}
use Rattle.std.specs.List.{slice_get, list_any}
use Rattle.std.specs.Option.{option_map, option_map_or}
use Rattle.std.specs.Cmp.Lexicographic.{bytes_decides}
use Rattle.std.proofs.lemmas.Bool.{and_parts, eqb-true, false≢true}
use Rattle.std.proofs.lemmas.Option.{slice_get-map}
use Rattle.pb_base.specs.Leaves.{with_leaves, node_with, leaf_holds}
use Rattle.pb_base.specs.NamedSet.{named}
use Rattle.pb_base.specs.Names.{same_name}
use Rattle.pb_base.specs.Node.{nodes_of, rule_of, leaf_node}
use Rattle.pb_base.specs.Rule.{Rule, holds}
use Rattle.pb_base.specs.Sets.{has}
use Rattle.pb_base.specs.declared.node.Leaf.{Leaf}
use Rattle.pb_base.specs.declared.node.Leaf.TheVariants.{Yes as LeafYes, No as LeafNo}
use Rattle.pb_base.specs.declared.node.Node.{Node}
use Rattle.pb_base.specs.declared.node.Node.TheVariants.{Code, Not, WhenTrue, WhenFalse, And, Or, Yes, No}
use Rattle.pb_base.proofs.LeafLaws.{nodes_of-with_leaves, holds-with_leaves}
use Rattle.pb_base.proofs.NamedSets.{has-named}
use Rattle.pb_base.proofs.Nodes.{rule_of-nodes_of}
use Rattle.book_model.specs.Contents.{Contents}
use Rattle.book_model.specs.declared.record.Supplement.{Supplement}
use Rattle.firing_sequence.specs.Sequence.{same_at, same_code, same_formula, same_node, same_supplement, zip_all}
use Rattle.change_laws.proofs.RankLaws.{matches, there}

-- a code, as the truth that it has over the set of some names
abbrev leaf_if : Bool → Leaf
leaf_if true = LeafYes
leaf_if false = LeafNo

abbrev leaf_named : List (List ℕ) → List (List ℕ) → ℕ → Leaf
leaf_named codes names place = option_map_or (λ name. leaf_if (list_any (same_name name) names)) (slice_get codes place) LeafNo

if_holds : (t : Bool) → leaf_holds [] (leaf_if t) ≡ t
if_holds true = refl
if_holds false = refl

absent_past : (x : List Bool) (k : ℕ) → slice_get x k ≡ None → has x k ≡ false
absent_past [] k none = refl
absent_past (b ∷ x) zero none = cc
absent_past (b ∷ x) (suc k) none = absent_past x k none

leaf_truth : (codes names : List (List ℕ)) (place : ℕ) → leaf_holds [] (leaf_named codes names place) ≡ has (named codes names) place
leaf_truth codes names place = by (slice_get codes place) refl
  where
    by : (o : Option (List ℕ)) → slice_get codes place ≡ o → leaf_holds [] (leaf_named codes names place) ≡ has (named codes names) place
    by (Some name) is =
        ap (λ o. leaf_holds [] (option_map_or (λ n. leaf_if (list_any (same_name n) names)) o LeafNo)) is ∙ if_holds (list_any (same_name name) names) ∙ sym (has-named codes names name place is)
    by None is =
        ap (λ o. leaf_holds [] (option_map_or (λ n. leaf_if (list_any (same_name n) names)) o LeafNo)) is
        ∙ sym (absent_past (named codes names) place (slice_get-map (λ c. list_any (same_name c) names) codes place ∙ ap (option_map (λ c. list_any (same_name c) names)) is))

-- the codes at two places have this one name
pub record OneName (own other : List (List ℕ)) (p q : ℕ) : Type 0 where
  pub name : List ℕ
  pub first : slice_get own p ≡ Some name
  pub second : slice_get other q ≡ Some name

pub one_name : (own other : List (List ℕ)) (p q : ℕ) → same_code own other p q ≡ true → OneName own other p q
one_name own other p q h =
    let a = there (λ name. option_map_or (same_name name) (slice_get other q) false) (slice_get own p) h in
    let b = there (same_name a.0) (slice_get other q) a.2 in
    record { name = a.0; first = a.1; second = b.1 ∙ ap (λ n. Some n) (sym ((bytes_decides a.0 b.0).0 b.2)) }

code_alike : (own other names : List (List ℕ)) (p q : ℕ) → same_code own other p q ≡ true → leaf_named own names p ≡ leaf_named other names q
code_alike own other names p q h =
    let one = one_name own other p q h in
    ap (λ o. option_map_or (λ n. leaf_if (list_any (same_name n) names)) o LeafNo) one.first
    ∙ sym (ap (λ o. option_map_or (λ n. leaf_if (list_any (same_name n) names)) o LeafNo) one.second)

node_alike : (own other names : List (List ℕ)) (n m : Node) → same_node own other n m ≡ true → node_with (leaf_named own names) n ≡ node_with (leaf_named other names) m
node_alike own other names (Code p) (Code q) h = ap leaf_node (code_alike own other names p q h)
node_alike own other names (Code p) Not h = absurd (false≢true h)
node_alike own other names (Code p) (WhenTrue q) h = absurd (false≢true h)
node_alike own other names (Code p) (WhenFalse q) h = absurd (false≢true h)
node_alike own other names (Code p) (And q) h = absurd (false≢true h)
node_alike own other names (Code p) (Or q) h = absurd (false≢true h)
node_alike own other names (Code p) Yes h = absurd (false≢true h)
node_alike own other names (Code p) No h = absurd (false≢true h)
node_alike own other names Not (Code q) h = absurd (false≢true h)
node_alike own other names Not Not h = refl
node_alike own other names Not (WhenTrue q) h = absurd (false≢true h)
node_alike own other names Not (WhenFalse q) h = absurd (false≢true h)
node_alike own other names Not (And q) h = absurd (false≢true h)
node_alike own other names Not (Or q) h = absurd (false≢true h)
node_alike own other names Not Yes h = absurd (false≢true h)
node_alike own other names Not No h = absurd (false≢true h)
node_alike own other names (WhenTrue p) (Code q) h = absurd (false≢true h)
node_alike own other names (WhenTrue p) Not h = absurd (false≢true h)
node_alike own other names (WhenTrue p) (WhenTrue q) h = ap (λ n. WhenTrue n) (eqb-true p q h)
node_alike own other names (WhenTrue p) (WhenFalse q) h = absurd (false≢true h)
node_alike own other names (WhenTrue p) (And q) h = absurd (false≢true h)
node_alike own other names (WhenTrue p) (Or q) h = absurd (false≢true h)
node_alike own other names (WhenTrue p) Yes h = absurd (false≢true h)
node_alike own other names (WhenTrue p) No h = absurd (false≢true h)
node_alike own other names (WhenFalse p) (Code q) h = absurd (false≢true h)
node_alike own other names (WhenFalse p) Not h = absurd (false≢true h)
node_alike own other names (WhenFalse p) (WhenTrue q) h = absurd (false≢true h)
node_alike own other names (WhenFalse p) (WhenFalse q) h = ap (λ n. WhenFalse n) (eqb-true p q h)
node_alike own other names (WhenFalse p) (And q) h = absurd (false≢true h)
node_alike own other names (WhenFalse p) (Or q) h = absurd (false≢true h)
node_alike own other names (WhenFalse p) Yes h = absurd (false≢true h)
node_alike own other names (WhenFalse p) No h = absurd (false≢true h)
node_alike own other names (And p) (Code q) h = absurd (false≢true h)
node_alike own other names (And p) Not h = absurd (false≢true h)
node_alike own other names (And p) (WhenTrue q) h = absurd (false≢true h)
node_alike own other names (And p) (WhenFalse q) h = absurd (false≢true h)
node_alike own other names (And p) (And q) h = ap (λ n. And n) (eqb-true p q h)
node_alike own other names (And p) (Or q) h = absurd (false≢true h)
node_alike own other names (And p) Yes h = absurd (false≢true h)
node_alike own other names (And p) No h = absurd (false≢true h)
node_alike own other names (Or p) (Code q) h = absurd (false≢true h)
node_alike own other names (Or p) Not h = absurd (false≢true h)
node_alike own other names (Or p) (WhenTrue q) h = absurd (false≢true h)
node_alike own other names (Or p) (WhenFalse q) h = absurd (false≢true h)
node_alike own other names (Or p) (And q) h = absurd (false≢true h)
node_alike own other names (Or p) (Or q) h = ap (λ n. Or n) (eqb-true p q h)
node_alike own other names (Or p) Yes h = absurd (false≢true h)
node_alike own other names (Or p) No h = absurd (false≢true h)
node_alike own other names Yes (Code q) h = absurd (false≢true h)
node_alike own other names Yes Not h = absurd (false≢true h)
node_alike own other names Yes (WhenTrue q) h = absurd (false≢true h)
node_alike own other names Yes (WhenFalse q) h = absurd (false≢true h)
node_alike own other names Yes (And q) h = absurd (false≢true h)
node_alike own other names Yes (Or q) h = absurd (false≢true h)
node_alike own other names Yes Yes h = refl
node_alike own other names Yes No h = absurd (false≢true h)
node_alike own other names No (Code q) h = absurd (false≢true h)
node_alike own other names No Not h = absurd (false≢true h)
node_alike own other names No (WhenTrue q) h = absurd (false≢true h)
node_alike own other names No (WhenFalse q) h = absurd (false≢true h)
node_alike own other names No (And q) h = absurd (false≢true h)
node_alike own other names No (Or q) h = absurd (false≢true h)
node_alike own other names No Yes h = absurd (false≢true h)
node_alike own other names No No h = refl

nodes_alike : (own other names : List (List ℕ)) (ns ms : List Node) → zip_all (same_node own other) ns ms ≡ true → map (node_with (leaf_named own names)) ns ≡ map (node_with (leaf_named other names)) ms
nodes_alike own other names [] [] h = refl
nodes_alike own other names [] (m ∷ ms) h = absurd (false≢true h)
nodes_alike own other names (n ∷ ns) [] h = absurd (false≢true h)
nodes_alike own other names (n ∷ ns) (m ∷ ms) h =
    let parts = and_parts (same_node own other n m) (zip_all (same_node own other) ns ms) h in
    ap (λ (k : Node). k ∷ map (node_with (leaf_named own names)) ns) (node_alike own other names n m parts.0)
    ∙ ap (λ (ks : List Node). node_with (leaf_named other names) m ∷ ks) (nodes_alike own other names ns ms parts.1)

rule_alike : (own other names : List (List ℕ)) (f g : Rule) → same_formula own other f g ≡ true → holds f (named own names) ≡ holds g (named other names)
rule_alike own other names f g h =
    let one : Rule = with_leaves (leaf_named own names) f in
    let two : Rule = with_leaves (leaf_named other names) g in
    let same : one ≡ two =
    sym (rule_of-nodes_of one)
    ∙ ap rule_of (sym (nodes_of-with_leaves (leaf_named own names) f) ∙ nodes_alike own other names (nodes_of f) (nodes_of g) h ∙ nodes_of-with_leaves (leaf_named other names) g)
    ∙ rule_of-nodes_of two in
    sym (holds-with_leaves (leaf_named own names) (named own names) [] (leaf_truth own names) f) ∙ ap (λ r. holds r []) same
    ∙ holds-with_leaves (leaf_named other names) (named other names) [] (leaf_truth other names) g

supplement_alike : (own other names : List (List ℕ)) (s t : Supplement) → same_supplement own other s t ≡ true
    → (holds s.rule (named own names) && not (has (named own names) s.code)) ≡ (holds t.rule (named other names) && not (has (named other names) t.code))
supplement_alike own other names s t h =
    let parts = and_parts (same_code own other s.code t.code) (same_formula own other s.rule t.rule) h in
    let present : has (named own names) s.code ≡ has (named other names) t.code =
    sym (leaf_truth own names s.code) ∙ ap (leaf_holds []) (code_alike own other names s.code t.code parts.0) ∙ leaf_truth other names t.code in
    ap (λ b. b && not (has (named own names) s.code)) (rule_alike own other names s.rule t.rule parts.1) ∙ ap (λ b. holds t.rule (named other names) && not b) present

-- the rules at two places are the same
pub record SameRules (first second : Contents) (p q : ℕ) : Type 0 where
  pub own : Supplement
  pub other : Supplement
  pub first_has : slice_get first.supplements p ≡ Some own
  pub second_has : slice_get second.supplements q ≡ Some other
  pub same : same_supplement first.codes second.codes own other ≡ true

pub same_rules : (first second : Contents) (p q : ℕ) → same_at first second p q ≡ true → SameRules first second p q
same_rules first second p q h =
    let a = there (λ s. option_map_or (same_supplement first.codes second.codes s) (slice_get second.supplements q) false) (slice_get first.supplements p) h in
    let b = there (same_supplement first.codes second.codes a.0) (slice_get second.supplements q) a.2 in
    record { own = a.0; other = b.0; first_has = a.1; second_has = b.1; same = b.2 }

pub matches_alike : (first second : Contents) (names : List (List ℕ)) (p q : ℕ) → same_at first second p q ≡ true
    → matches first.supplements (named first.codes names) p ≡ matches second.supplements (named second.codes names) q
matches_alike first second names p q h =
    let rules = same_rules first second p q h in
    ap (λ o. option_map_or (λ (s : Supplement). holds s.rule (named first.codes names) && not (has (named first.codes names) s.code)) o false) rules.first_has
    ∙ supplement_alike first.codes second.codes names rules.own rules.other rules.same
    ∙ sym (ap (λ o. option_map_or (λ (s : Supplement). holds s.rule (named second.codes names) && not (has (named second.codes names) s.code)) o false) rules.second_has)

pub one_code : (first second : Contents) (p q : ℕ) (rules : SameRules first second p q) → OneName first.codes second.codes rules.own.code rules.other.code
one_code first second p q rules =
    one_name first.codes second.codes rules.own.code rules.other.code
    (and_parts (same_code first.codes second.codes rules.own.code rules.other.code) (same_formula first.codes second.codes rules.own.rule rules.other.rule) rules.same).0
