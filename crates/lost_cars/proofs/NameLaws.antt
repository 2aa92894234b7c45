-- A formula that is read by names has over a car's set of one book the truth that it has over the car's set of the other.
use Rattle.std.proofs.Common.{◌≡◌, ℕ, zero, suc, ◌<◌, Bool, true, false, List, [], ◌∷◌, Option, Some, None, length, refl, sym, ap, ◌∙◌, arith, inl, inr}
use Rattle.std.specs.List.{slice_get, list_any}
use Rattle.std.specs.Option.{option_map, option_map_or}
use Rattle.std.proofs.lemmas.Bool.{lt-ltb}
use Rattle.std.proofs.lemmas.Option.{slice_get-map}
use Rattle.pb_base.specs.Leaves.{with_leaves, leaf_holds}
use Rattle.pb_base.specs.NamedSet.{named}
use Rattle.pb_base.specs.Names.{same_name, place_in}
use Rattle.pb_base.specs.Node.{rule_of_leaf}
use Rattle.pb_base.specs.Rule.{Rule, holds, codes_below}
use Rattle.pb_base.specs.Sets.{has}
use Rattle.pb_base.specs.declared.node.Leaf.TheVariants.{Code as LeafCode, No as LeafNo}
use Rattle.pb_base.proofs.LeafLaws.{holds-with_leaves, codes_below-with_leaves}
use Rattle.pb_base.proofs.NamedSets.{code_at_place, has-named}
use Rattle.pb_base.specs.Picked.{AreNamed}
use Rattle.book_compare.proofs.NumberLaws.{not_there, not_named, place_within, cases_option}
use Rattle.lost_cars.specs.ByName.{own_leaf, by_name}

absent_past : (x : List Bool) (k : ℕ) → slice_get x k ≡ None → has x k ≡ false
absent_past [] k none = refl
absent_past (b ∷ x) zero none = cc
absent_past (b ∷ x) (suc k) none = absent_past x k none

module _ (own other names : List (List ℕ)) (are : AreNamed own names) where
  own_holds : (name : List ℕ) → leaf_holds (named own names) (own_leaf own name) ≡ list_any (same_name name) names
  own_holds name = elim (cases_option (place_in own name)) [
    | inl none ↦ rw none (sym (not_named own names name are (not_there own name none)))
    | inr at ↦ rw at.1 (has-named own names name at.0 (code_at_place own name at.0 at.1))
  ]

  leaf_by_name : (place : ℕ) → leaf_holds (named own names) (by_name own other place) ≡ has (named other names) place
  leaf_by_name place = elim (cases_option (slice_get other place)) [
    | inl none ↦ rw none (sym (absent_past (named other names) place (rw none at (slice_get-map (λ c. list_any (same_name c) names) other place))))
    | inr name ↦ rw name.1 (own_holds name.0 ∙ sym (has-named other names name.0 place name.1))
  ]

  pub read_holds : (f : Rule) → holds (with_leaves (by_name own other) f) (named own names) ≡ holds f (named other names)
  read_holds f = holds-with_leaves (by_name own other) (named other names) (named own names) leaf_by_name f

own_fits : (own : List (List ℕ)) (name : List ℕ) → codes_below (length own) (rule_of_leaf (own_leaf own name)) ≡ true
own_fits own name = elim (cases_option (place_in own name)) [ inl none ↦ rw none refl | inr at ↦ rw at.1 (lt-ltb at.0 (length own) (place_within own name at.0 at.1)) ]

by_name_fits : (own other : List (List ℕ)) (place : ℕ) → codes_below (length own) (rule_of_leaf (by_name own other place)) ≡ true
by_name_fits own other place = elim (cases_option (slice_get other place)) [ inl none ↦ rw none refl | inr name ↦ rw name.1 (own_fits own name.0) ]

pub read_fits : (own other : List (List ℕ)) (n : ℕ) (f : Rule) → codes_below n f ≡ true → codes_below (length own) (with_leaves (by_name own other) f) ≡ true
read_fits own other n f below = codes_below-with_leaves (by_name own other) n (length own) (λ place known. by_name_fits own other place) f below
