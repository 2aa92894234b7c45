-- The usages of a position have a key, with a literal that is true, just where the book chooses the key for the car.
use Rattle.std.proofs.Common.{◌≡◌, ℕ, zero, suc, ◌+◌, ◌<◌, Bool, true, false, ◌&&◌, ◌||◌, ◌==◌, List, [], ◌∷◌, ◌++◌, Option, Some, None, map, refl, sym, ap, subst, ◌∙◌, inl, inr, arith, append-nil}
use Rattle.std.specs.List.{filter, flat_map, list_any, slice_get, AllByRecursion}
use Rattle.std.specs.Option.{option_map_or}
use Rattle.std.proofs.lemmas.Bool.{cases_Bool, cond_both, eq-eqb, ne_eqb, cases_eq}
use Rattle.std.proofs.lemmas.List.Elements.{filter-append}
use Rattle.pb_base.specs.Rule.{holds, never}
use Rattle.book_model.specs.Activity.{is_within}
use Rattle.book_model.specs.Contents.{Contents}
use Rattle.book_model.specs.Parts.{variants_from, variants_of, is_selected, is_selected_at, is_active_position, selected_of, selected}
use Rattle.book_model.specs.declared.record.Position.{Position}
use Rattle.book_model.specs.declared.record.Variant.{Variant}
use Rattle.clause_pool.specs.Literal.{is_true}
use Rattle.clausify.specs.Formulas.{connectives}
use Rattle.clausify.specs.Items.{variables_of, usage_item}
use Rattle.clausify.specs.Choices.{Choice, usage, is_active_variant, active_variants, choices_from, choices}
use Rattle.clausify.specs.Goals.{usages_from, all_usages}
use Rattle.clausify.specs.declared.usage.Usage.{Usage}
use Rattle.clausify.proofs.GoalLaws.{AllRight}
use Rattle.clausify.proofs.ListLaws.{all_filtered}
use Rattle.chosen_parts.specs.Chosen.{position_place, part_use, is_same_use, chosen_at, chosen}
use Rattle.chosen_parts.specs.declared.part_use.PartUse.{PartUse}
use Rattle.chosen_parts.proofs.PlaceLaws.{IsPositionOf, position_found}
use Rattle.chosen_parts.proofs.SameLaws.{chosen_none, chosen_some}
use Rattle.book_compare.specs.Asked.{is_variant_of, usages_in, usages_at, literals_with}
use Rattle.book_compare.specs.Same.{active_of, variants_on, variants_at}
use Rattle.book_compare.specs.JointItems.{day_variants, renamed_usages, renamed_usage}
use Rattle.std.proofs.lemmas.List.{map-append}
use Rattle.std.proofs.Math.Bool.{and-true, and-false}
use Rattle.book_compare.proofs.NumberLaws.{cases_option}

-- the variants of usages

variants_of_usages : (b : Contents) (n v : ℕ) (ks : List ℕ) → map (λ (u : Usage). u.variant) (usages_from b n v ks) ≡ ks
variants_of_usages b n v [] = refl
variants_of_usages b n v (k ∷ ks) = ap (λ (vs : List ℕ). k ∷ vs) (variants_of_usages b n (v + connectives (usage b k)) ks)

variants_of_all : (b : Contents) (n v : ℕ) (cs : List Choice) → map (λ (u : Usage). u.variant) (all_usages b n v cs) ≡ flat_map (λ c. c.variants) cs
variants_of_all b n v [] = refl
variants_of_all b n v (c ∷ cs) =
    rw (map-append, variants_of_usages b n v c.variants, variants_of_all b n (v + variables_of (map (usage_item b) c.variants)) cs) refl

pub first_variants : (b : Contents) (day n v : ℕ) → map (λ (u : Usage). u.variant) (all_usages b n v (choices b day)) ≡ day_variants b day
first_variants b day n v = variants_of_all b n v (choices b day)

pub renamed_variants : (numbers : List ℕ) (b : Contents) (n v : ℕ) (ks : List ℕ) → map (λ (u : Usage). u.variant) (renamed_usages numbers b n v ks) ≡ ks
renamed_variants numbers b n v [] = refl
renamed_variants numbers b n v (k ∷ ks) = ap (λ (vs : List ℕ). k ∷ vs) (renamed_variants numbers b n (v + connectives (renamed_usage numbers b k)) ks)

-- those of one position

filter-map : {X Y : Type 0} (p : Y → Bool) (f : X → Y) (xs : List X) → map f (filter (λ x. p (f x)) xs) ≡ filter p (map f xs)
filter-map p f [] = refl
filter-map {X} {Y} p f (x ∷ xs) = elim (cases_Bool (p (f x))) [
  | inl e ↦ rw e (ap (λ (zs : List Y). f x ∷ zs) (filter-map p f xs))
  | inr e ↦ rw e (filter-map p f xs)
]

-- each place that is listed for a position is that of one of its variants
listed : (b : Contents) (place i : ℕ) (vs : List Variant) → ((k : ℕ) (v : Variant) → slice_get vs k ≡ Some v → slice_get b.variants (i + k) ≡ Some v)
    → AllByRecursion (λ at. (v : Variant) × (slice_get b.variants at ≡ Some v) × (v.position ≡ place)) (variants_from i place vs)
listed b place i [] there = tt
listed b place i (v ∷ vs) there =
    let later = listed b place (suc i) vs (λ k w is. let e : i + suc k ≡ suc i + k = omega arith in sym (ap (slice_get b.variants) e) ∙ there (suc k) w is) in
    let here : i + 0 ≡ i = omega arith in
    elim (cases_eq v.position place) [
      | inl e ↦ rw (eq-eqb v.position place e) ((v, sym (ap (slice_get b.variants) here) ∙ there 0 v refl, e), later)
      | inr e ↦ rw (ne_eqb v.position place e) later
    ]

abbrev AllAt : Contents → ℕ → List ℕ → Type 0
AllAt b place ks = AllByRecursion (λ k. (v : Variant) × (slice_get b.variants k ≡ Some v) × (v.position ≡ place)) ks

active_at : (b : Contents) (day place : ℕ) → AllAt b place (active_variants b day place)
active_at b day place =
    all_filtered (λ k. (v : Variant) × (slice_get b.variants k ≡ Some v) × (v.position ≡ place)) (is_active_variant b day) (variants_of place b.variants)
    (listed b place 0 b.variants (λ k v is. let e : k ≡ 0 + k = omega arith in sym (ap (slice_get b.variants) e) ∙ is))

own_kept : (b : Contents) (place : ℕ) (ks : List ℕ) → AllAt b place ks → filter (is_variant_of b place) ks ≡ ks
own_kept b place [] at = refl
own_kept b place (k ∷ ks) at = rw (at.0.1, eq-eqb at.0.0.position place at.0.2) (ap (λ (zs : List ℕ). k ∷ zs) (own_kept b place ks at.1))

other_left : (b : Contents) (place other : ℕ) (ks : List ℕ) → (other ≡ place → ⊥) → AllAt b other ks → filter (is_variant_of b place) ks ≡ []
other_left b place other [] apart at = refl
other_left b place other (k ∷ ks) apart at =
    rw (at.0.1, ne_eqb at.0.0.position place (λ same. apart (sym at.0.2 ∙ same))) (other_left b place other ks apart at.1)

pub first_and_rest : (b : Contents) (day i : ℕ) (p : Position) (ps : List Position)
    → flat_map (λ c. c.variants) (choices_from i b day (p ∷ ps)) ≡ active_of b day i p ++ flat_map (λ c. c.variants) (choices_from (suc i) b day ps)
first_and_rest b day i p ps = elim (cases_Bool (is_active_position day p)) [ inl is ↦ rw is refl | inr is ↦ rw is refl ]

active_of_at : (b : Contents) (day i : ℕ) (p : Position) → AllAt b i (active_of b day i p)
active_of_at b day i p = cond_both (is_active_position day p) _ _ (AllAt b i) (λ _. active_at b day i) (λ _. tt)

none_behind : (b : Contents) (day place i : ℕ) (ps : List Position) → place < i → filter (is_variant_of b place) (flat_map (λ c. c.variants) (choices_from i b day ps)) ≡ []
none_behind b day place i [] before = refl
none_behind b day place i (p ∷ ps) before =
    rw (first_and_rest b day i p ps, filter-append, other_left b place i (active_of b day i p) (λ same. omega (arith, same, before)) (active_of_at b day i p))
    (none_behind b day place (suc i) ps (omega (arith, before)))

variants_here : (b : Contents) (day i k : ℕ) (ps : List Position) (p : Position) → slice_get ps k ≡ Some p
    → filter (is_variant_of b (i + k)) (flat_map (λ c. c.variants) (choices_from i b day ps)) ≡ active_of b day (i + k) p
variants_here b day i k [] p is = cc
variants_here b day i zero (q ∷ ps) p is =
    let same : q ≡ p = cc in
    let here : i ≡ i + zero = omega arith in
    rw (← here, first_and_rest b day i q ps, filter-append, own_kept b i (active_of b day i q) (active_of_at b day i q), none_behind b day i (suc i) ps (omega arith), append-nil, same) refl
variants_here b day i (suc k) (q ∷ ps) p is =
    let there : suc i + k ≡ i + suc k = omega arith in
    rw (first_and_rest b day i q ps, filter-append, other_left b (i + suc k) i (active_of b day i q) (λ same. omega (arith, same)) (active_of_at b day i q), ← there)
    (variants_here b day (suc i) k ps p is)

pub variants_there : (b : Contents) (day place : ℕ) (p : Position) (us : List Usage) → map (λ (u : Usage). u.variant) us ≡ day_variants b day → slice_get b.positions place ≡ Some p
    → map (λ (u : Usage). u.variant) (usages_in b place us) ≡ active_of b day place p
variants_there b day place p us variants is =
    let here : 0 + place ≡ place = omega arith in
    rw (filter-map (is_variant_of b place) (λ (u : Usage). u.variant) us, variants, ← here) (variants_here b day 0 place b.positions p is)

-- the same by the id of the position
pub variants_by_id : (b : Contents) (day : ℕ) (id : List ℕ) (us : List Usage) → map (λ (u : Usage). u.variant) us ≡ day_variants b day → map (λ (u : Usage). u.variant) (usages_at b id us) ≡ variants_at b day id
variants_by_id b day id us variants = elim (cases_option (position_place b id)) [
  | inl none ↦ rw none refl
  | inr some ↦ let found = position_found b id some.0 some.1 in rw (some.1, found.there) (variants_there b day some.0 found.position us variants found.there)
]

-- what is chosen, by key

abbrev pub has_use : PartUse → List PartUse → Bool
has_use key uses = list_any (λ p. is_same_use p key) uses

selected_when : (b : Contents) (day : ℕ) (x : List Bool) (k : ℕ) → is_selected_at b day x k ≡ (is_active_variant b day k && holds (usage b k) x)
selected_when b day x k = elim (cases_option (slice_get b.variants k)) [ inl none ↦ rw none refl | inr some ↦ rw some.1 refl ]

-- over the variants of which these are the active ones
chosen_with : (b : Contents) (day : ℕ) (x : List Bool) (key : PartUse) (ks : List ℕ)
    → list_any (λ k. is_same_use (part_use b k) key && holds (usage b k) x) (filter (is_active_variant b day) ks) ≡ has_use key (map (part_use b) (filter (is_selected_at b day x) ks))
chosen_with b day x key [] = refl
chosen_with b day x key (k ∷ ks) = elim (cases_Bool (is_active_variant b day k)) [
  | inl active ↦ elim (cases_Bool (holds (usage b k) x)) [
    | inl met ↦ rw (selected_when b day x k, active, met, and-true, chosen_with b day x key ks) refl
    | inr unmet ↦ rw (selected_when b day x k, active, unmet, and-false) (chosen_with b day x key ks)
  ]
  | inr passive ↦ rw (selected_when b day x k, passive) (chosen_with b day x key ks)
]

-- over usages whose literals are the truth of their formulas
pub true_with : (b : Contents) (x : List Bool) (a : ℕ → Bool) (key : PartUse) (us : List Usage) → AllRight b x a us
    → list_any (is_true a) (literals_with b us key) ≡ list_any (λ k. is_same_use (part_use b k) key && holds (usage b k) x) (map (λ (u : Usage). u.variant) us)
true_with b x a key [] right = refl
true_with b x a key (u ∷ us) right = elim (cases_Bool (is_same_use (part_use b u.variant) key)) [
  | inl same ↦ rw (same, right.0, true_with b x a key us right.1) refl
  | inr other ↦ rw (other, true_with b x a key us right.1) refl
]

-- all of it
pub chosen_by_key : (b : Contents) (day : ℕ) (x : List Bool) (a : ℕ → Bool) (id : List ℕ) (us : List Usage) (key : PartUse) → AllRight b x a us
    → map (λ (u : Usage). u.variant) us ≡ day_variants b day → list_any (is_true a) (literals_with b (usages_at b id us) key) ≡ has_use key (chosen b day id x)
chosen_by_key b day x a id us key right variants = elim (cases_option (position_place b id)) [
  | inl none ↦ rw none refl
  | inr some ↦
      let found = position_found b id some.0 some.1 in
      let own : AllRight b x a (usages_in b some.0 us) = all_filtered (λ u. is_true a u.literal ≡ holds (usage b u.variant) x) (λ u. is_variant_of b some.0 u.variant) us right in
      rw (some.1, true_with b x a key (usages_in b some.0 us) own, variants_there b day some.0 found.position us variants found.there, found.there)
      (elim (cases_Bool (is_active_position day found.position)) [
        | inl active ↦ rw active (chosen_with b day x key (variants_of some.0 b.variants))
        | inr passive ↦ rw passive refl
      ])
]
