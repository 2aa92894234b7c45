-- The clauses of several positions: each last variable may have the truth of whether the books differ there.
use Rattle.std.proofs.Common.{◌≡◌, ℕ, zero, suc, ◌+◌, ◌<◌, Bool, true, List, [], ◌∷◌, ◌++◌, Some, length, get_or, refl, ap, subst, ◌∙◌, arith, length-append}
use Rattle.std.specs.List.{list_any, slice_get}
use Rattle.std.proofs.lemmas.List.{length-map}
use Rattle.std.proofs.lemmas.Option.{slice_get_within}
use Rattle.book_model.specs.Contents.{Contents}
use Rattle.clause_pool.specs.Clause.{Sat}
use Rattle.clause_pool.specs.Literal.{is_true}
use Rattle.clausify.proofs.ListLaws.{all-append, all_first, all_last}
use Rattle.book_compare.specs.Asked.{asked_keys}
use Rattle.book_compare.specs.JointItems.{joint_variables}
use Rattle.book_compare.specs.Keys.{KeyLiterals, position_clauses}
use Rattle.book_compare.specs.Together.{position_variables, together_clauses, together_goals, place_keys, searched_goals}
use Rattle.book_compare.specs.declared.place.Place.{Place}
use Rattle.book_compare.proofs.KeyLaws.{Values, values_first, values_last, differs, keys_values, length-keys_values, position_values, answered_by_values, differs_when_answered}

abbrev pub together_values : (ℕ → Bool) → List (List KeyLiterals) → List Bool
together_values a [] = []
together_values a (ks ∷ kss) = position_values a ks ++ together_values a kss

length-position_values : (a : ℕ → Bool) (ks : List KeyLiterals) → length (position_values a ks) ≡ position_variables ks
length-position_values a ks = omega (arith, length-append (keys_values a ks) (list_any (differs a) ks ∷ []), length-keys_values a ks)

values_next : (a : ℕ → Bool) (v : ℕ) (ks : List KeyLiterals) (kss : List (List KeyLiterals)) → Values a v (together_values a (ks ∷ kss)) → Values a (v + position_variables ks) (together_values a kss)
values_next a v ks kss values =
    subst (λ (i : ℕ). Values a (v + i) (together_values a kss)) (length-position_values a ks) (values_last a v (position_values a ks) (together_values a kss) values)

pub sat_from_together : (a : ℕ → Bool) (n v : ℕ) (kss : List (List KeyLiterals)) → a n ≡ true → Values a v (together_values a kss) → Sat (together_clauses n v kss) a
sat_from_together a n v [] truth values = tt
sat_from_together a n v (ks ∷ kss) truth values =
    all-append _ (position_clauses n v ks) (together_clauses n (v + position_variables ks) kss)
    (answered_by_values a n v ks truth (values_first a v (position_values a ks) (together_values a kss) values)).satisfied
    (sat_from_together a n (v + position_variables ks) kss truth (values_next a v ks kss values))

-- the literal that asks of a position
pub goal_by_values : (a : ℕ → Bool) (n v : ℕ) (kss : List (List KeyLiterals)) (at : ℕ) (ks : List KeyLiterals) → a n ≡ true → Values a v (together_values a kss) → slice_get kss at ≡ Some ks
    → is_true a (get_or (together_goals v kss) at 0) ≡ list_any (differs a) ks
goal_by_values a n v [] at ks truth values there = cc
goal_by_values a n v (other ∷ kss) zero ks truth values there =
    let same : other ≡ ks = cc in
    (answered_by_values a n v other truth (values_first a v (position_values a other) (together_values a kss) values)).assumed ∙ ap (list_any (differs a)) same
goal_by_values a n v (other ∷ kss) (suc at) ks truth values there =
    goal_by_values a n (v + position_variables other) kss at ks truth (values_next a v other kss values) there

-- where it is true, the books differ there
pub differs_together : (a : ℕ → Bool) (n v : ℕ) (kss : List (List KeyLiterals)) (at : ℕ) (ks : List KeyLiterals) → a n ≡ true → Sat (together_clauses n v kss) a → slice_get kss at ≡ Some ks
    → is_true a (get_or (together_goals v kss) at 0) ≡ true → list_any (differs a) ks ≡ true
differs_together a n v [] at ks truth sat there assumed = cc
differs_together a n v (other ∷ kss) zero ks truth sat there assumed =
    let same : ks ≡ other = cc in
    ap (list_any (differs a)) same
    ∙ differs_when_answered a n v other truth (all_first _ (position_clauses n v other) (together_clauses n (v + position_variables other) kss) sat) assumed
differs_together a n v (other ∷ kss) (suc at) ks truth sat there assumed =
    differs_together a n (v + position_variables other) kss at ks truth (all_last _ (position_clauses n v other) (together_clauses n (v + position_variables other) kss) sat) there assumed

pub length-together_goals : (v : ℕ) (kss : List (List KeyLiterals)) → length (together_goals v kss) ≡ length kss
length-together_goals v [] = refl
length-together_goals v (ks ∷ kss) = omega (arith, length-together_goals (v + position_variables ks) kss)

-- the keys of a position in a list
pub keys_there : (first second : Contents) (day : ℕ) (ps : List Place) (at : ℕ) (p : Place) → slice_get ps at ≡ Some p → slice_get (place_keys first second day ps) at ≡ Some (asked_keys first second day p.id)
keys_there first second day [] at p there = cc
keys_there first second day (q ∷ ps) zero p there =
    let same : q ≡ p = cc in
    ap (λ (r : Place). Some (asked_keys first second day r.id)) same
keys_there first second day (q ∷ ps) (suc at) p there = keys_there first second day ps at p there

-- each position in a list has a goal
pub length-searched_goals : (first second : Contents) (day : ℕ) (ps : List Place) → length (searched_goals first second day ps) ≡ length ps
length-searched_goals first second day ps =
    length-together_goals (joint_variables first second day) (place_keys first second day ps) ∙ length-map ps (λ (q : Place). asked_keys first second day q.id)
