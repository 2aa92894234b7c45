-- What completing a set can't change.
use Rattle.std.proofs.Common.{◌≡◌, ℕ, zero, suc, ◌+◌, ◌<◌, Bool, true, false, not, ◌&&◌, ◌||◌, cond, List, [], ◌∷◌, length, Option, None, Some, get_or, refl, sym, ap, ◌∙◌, ◌⊎◌, inl, inr, take, replicate, slice_set, arith}
use Rattle.std.specs.Prelude.{◌==◌, count_by, filter, nat_le}
use Rattle.std.specs.List.{list_all}
use Rattle.std.specs.Option.{is_none, option_map_or}
use Rattle.std.proofs.lemmas.Bool.{and_parts, cases_eq, cases_lt, eq-eqb, false≢true, ne_eqb, not-true}
use Rattle.std.proofs.lemmas.List.{get_or-set_other, get_or-set_same, get_or-replicate, get_or_past, length-replicate}
use Rattle.std.proofs.lemmas.List.Folds.{list_any_at, list_any_more}
use Rattle.std.proofs.lemmas.Option.{none-some}
use Rattle.std.proofs.Math.Bool.{or-true}
use Rattle.pb_base.specs.Node.{nodes_of, nodes_then, size}
use Rattle.pb_base.specs.Rule.{Rule, code, negation, both, either, always, never, holds}
use Rattle.pb_base.specs.Sets.{has, none_of}
use Rattle.pb_base.specs.declared.node.Node.{Node}
use Rattle.pb_base.specs.declared.node.Node.TheVariants.{Not, WhenTrue, WhenFalse, And, Or}
use Rattle.book_model.specs.Activity.{is_within}
use Rattle.book_model.specs.Contents.{Contents}
use Rattle.book_model.specs.Good.{breaks, is_met, present}
use Rattle.book_model.specs.declared.demand.Demand.{Demand}
use Rattle.book_model.specs.declared.demand.Demand.TheVariants as demand
use Rattle.book_model.specs.declared.record.Construct.{Construct}
use Rattle.book_model.specs.declared.record.Supplement.{Supplement}
use Rattle.supplement.specs.Completion.{first_firing, with_code_of, nothing_added, added_first, completion_within, completion_by, completion_of}
use Rattle.supplement.specs.declared.firing.Firing.{Firing}
use Rattle.supplement.proofs.FirstFiring.{first_fires}
use Rattle.order_added.specs.Settled.{AreSupplied, broken_after, is_settled, is_settled_node, is_supplied}
use Rattle.order_added.proofs.AcceptLaws.{broken_at}

-- two sets differ in supplied codes alone
abbrev AgreeBeside : List Bool → List Bool → List Bool → Type 0
AgreeBeside supplied x y = (place : ℕ) → has supplied place ≡ false → has y place ≡ has x place

counted_alike : (t u : Bool) (c : ℕ) (xs ys : List ℕ) → t ≡ u → length xs ≡ length ys → length (cond t (c ∷ xs) xs) ≡ length (cond u (c ∷ ys) ys)
counted_alike true true c xs ys same h = ap suc h
counted_alike true false c xs ys same h = absurd (cc)
counted_alike false true c xs ys same h = absurd (cc)
counted_alike false false c xs ys same h = h

module _ (supplied x y : List Bool) (agree : AgreeBeside supplied x y) where
  at_code : (place : ℕ) → not (has supplied place) ≡ true → has y place ≡ has x place
  at_code place settled = agree place (not-true (has supplied place) settled)

  nodes_hold : (f : Rule) (rest : List Node) → list_all (is_settled_node supplied) (nodes_then f rest) ≡ true
      → (holds f y ≡ holds f x) × (list_all (is_settled_node supplied) rest ≡ true)
  nodes_hold (code place) rest settled =
      let parts = and_parts (not (has supplied place)) (list_all (is_settled_node supplied) rest) settled in
      (at_code place parts.0, parts.1)
  nodes_hold (negation f) rest settled =
      let inner = nodes_hold f (Not ∷ rest) settled in
      (ap not inner.0, inner.1)
  nodes_hold (both f g) rest settled =
      let left = nodes_hold f (WhenTrue (size g) ∷ nodes_then g (And (size g) ∷ rest)) settled in
      let right = nodes_hold g (And (size g) ∷ rest) left.1 in
      (ap (λ t. t && holds g y) left.0 ∙ ap (λ t. holds f x && t) right.0, right.1)
  nodes_hold (either f g) rest settled =
      let left = nodes_hold f (WhenFalse (size g) ∷ nodes_then g (Or (size g) ∷ rest)) settled in
      let right = nodes_hold g (Or (size g) ∷ rest) left.1 in
      (ap (λ t. t || holds g y) left.0 ∙ ap (λ t. holds f x || t) right.0, right.1)
  nodes_hold always rest settled = (refl, settled)
  nodes_hold never rest settled = (refl, settled)

  present_same : (group : List ℕ) → list_all (λ place. not (has supplied place)) group ≡ true → present y group ≡ present x group
  present_same [] settled = refl
  present_same (c ∷ cs) settled =
      let parts = and_parts (not (has supplied c)) (list_all (λ place. not (has supplied place)) cs) settled in
      counted_alike (has y c) (has x c) c (filter (has y) cs) (filter (has x) cs) (at_code c parts.0) (present_same cs parts.1)

  met_same : (d : Demand) → is_settled supplied d ≡ true → is_met y d ≡ is_met x d
  met_same (demand.Rule None f) settled = (nodes_hold f [] settled).0
  met_same (demand.Rule (Some c) f) settled =
      let parts = and_parts (not (has supplied c)) (list_all (is_settled_node supplied) (nodes_of f)) settled in
      ap (λ t. not t || holds f y) (at_code c parts.0) ∙ ap (λ t. not (has x c) || t) (nodes_hold f [] parts.1).0
  met_same (demand.One group) settled = ap (λ k. k == 1) (present_same group settled)
  met_same (demand.Most group) settled = ap (λ k. nat_le k 1) (present_same group settled)

  breaks_too : (day : ℕ) (c : Construct) → is_settled supplied c.demand ≡ true → breaks day x c ≡ true → breaks day y c ≡ true
  breaks_too day c settled broken = ap (λ t. is_within c.from c.until day && not t) (met_same c.demand settled) ∙ broken

-- the rule that fires first adds a code that rules add
firing_supplied : (rules : List Supplement) (day : ℕ) (x : List Bool) (f : Firing) → first_firing rules day x ≡ Some f → is_supplied rules f.code ≡ true
firing_supplied [] day x f first = absurd (none-some f first)
firing_supplied (s ∷ ss) day x f first =
    let found = first_fires 0 day x (s ∷ ss) f s first in
    let at = found.1 in
    let same : (get_or (s ∷ ss) found.0 s).code ≡ f.code = sym (ap (λ (g : Firing). g.code) at.is) in
    list_any_at (λ (t : Supplement). t.code == f.code) (s ∷ ss) found.0 s at.within (eq-eqb (get_or (s ∷ ss) found.0 s).code f.code same)

cases_firing : (o : Option Firing) → (o ≡ None) ⊎ ((f : Firing) × (o ≡ Some f))
cases_firing None = inl refl
cases_firing (Some f) = inr (f, refl)

module _ (rules : List Supplement) (supplied : List Bool) (are : AreSupplied rules supplied) where
  completed_within : (n : ℕ) (day : ℕ) (x : List Bool) → AgreeBeside supplied x (completion_within n rules day x).set
  completed_within zero day x place beside = refl
  completed_within (suc n) day x place beside =
      elim (cases_firing (first_firing rules day x)) [
        | inl none ↦ ap (λ o. has (option_map_or (λ f. added_first f (completion_within n rules day (with_code_of f x))) o (nothing_added x)).set place) none
        | inr found ↦
            ap (λ o. has (option_map_or (λ f. added_first f (completion_within n rules day (with_code_of f x))) o (nothing_added x)).set place) found.1
            ∙ completed_within n day (with_code_of found.0 x) place beside
            ∙ get_or-set_other x found.0.code place true false
            (λ same. false≢true (sym beside ∙ ap (has supplied) same ∙ are.each found.0.code ∙ firing_supplied rules day x found.0 found.1))
      ]

completed_beside : (b : Contents) (day : ℕ) (supplied x : List Bool) → AreSupplied b.supplements supplied → AgreeBeside supplied x (completion_of b day x).set
unfolding completion_by
completed_beside b day supplied x are = completed_within b.supplements supplied are (count_by not x) day x

-- a rule that a set breaks is broken by the completed set, where no rule adds a code of its demand
pub broken_for_good : (b : Contents) (day : ℕ) (supplied x : List Bool) (c : Construct) (constructs : List Construct) (place : ℕ) → AreSupplied b.supplements supplied
    → constructs ≡ b.constructs → place < length constructs → c ≡ get_or constructs place c → (breaks day x c && is_settled supplied c.demand) ≡ true
    → is_none (broken_after b day x) ≡ false
broken_for_good b day supplied x c constructs place are same within is broken =
    let y : List Bool = (completion_of b day x).set in
    let parts = and_parts (breaks day x c) (is_settled supplied c.demand) broken in
    broken_at day y c b constructs place same within is (breaks_too supplied x y (completed_beside b day supplied x are) day c parts.1 parts.0)

-- the set of supplied codes, rule by rule

pub supplied_none : (n : ℕ) → AreSupplied [] (none_of n)
supplied_none n = record {
  each = λ place.
      elim (cases_lt place n) [
        | inl below ↦ get_or-replicate n place false false below
        | inr above ↦ get_or_past (replicate n false) place false (let e : length (replicate n false) ≡ n = length-replicate n false in omega arith)
      ];
}

pub supplied_more : (rules : List Supplement) (i : ℕ) (s : Supplement) (codes : List Bool) → i < length rules → get_or rules i s ≡ s → s.code < length codes
    → AreSupplied (take i rules) codes → AreSupplied (take (i + 1) rules) (slice_set codes s.code true)
supplied_more rules i s codes within is below before = record {
  each = λ place.
      elim (cases_eq place s.code) [
        | inl same ↦
            ap (has (slice_set codes s.code true)) same ∙ get_or-set_same codes s.code true false below
            ∙ sym (more place ∙ ap (λ t. is_supplied (take i rules) place || t) (here place ∙ eq-eqb s.code place (sym same)) ∙ or-true (is_supplied (take i rules) place))
        | inr other ↦
            get_or-set_other codes s.code place true false other ∙ before.each place
            ∙ sym (more place ∙ ap (λ t. is_supplied (take i rules) place || t) (here place ∙ ne_eqb s.code place (λ same. other (sym same))) ∙ or_false (is_supplied (take i rules) place))
      ];
}
  where
    more : (place : ℕ) → is_supplied (take (i + 1) rules) place ≡ (is_supplied (take i rules) place || ((get_or rules i s).code == place))
    more place = list_any_more (λ (t : Supplement). t.code == place) rules i s within

    here : (place : ℕ) → ((get_or rules i s).code == place) ≡ (s.code == place)
    here place = ap (λ (t : Supplement). t.code == place) is

    or_false : (t : Bool) → (t || false) ≡ t
    or_false true = refl
    or_false false = refl
