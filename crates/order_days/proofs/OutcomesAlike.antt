-- On two days on which the same records are active, an order comes to what is told alike.
use Rattle.std.proofs.Common.{◌≡◌, ℕ, zero, suc, ◌+◌, Bool, false, not, ◌&&◌, ◌||◌, cond, List, [], ◌∷◌, Option, Some, None, length, map, refl, ap, ◌∙◌}
use Rattle.std.specs.Prelude.{count_by}
use Rattle.std.specs.List.{slice_get, position_from, AllByRecursion}
use Rattle.std.specs.Option.{option_map_or}
use Rattle.std.proofs.lemmas.List.Elements.{filter_agree}
use Rattle.pb_base.specs.NamedSet.{named}
use Rattle.pb_base.specs.Rule.{holds}
use Rattle.pb_base.specs.Sets.{has}
use Rattle.book_model.specs.Activity.{is_within}
use Rattle.book_model.specs.Contents.{Contents}
use Rattle.book_model.specs.Good.{breaks, is_met}
use Rattle.book_model.specs.Parts.{variants_of, is_selected, is_selected_at, selected, selected_of, parts}
use Rattle.book_model.specs.Slices.{days_from_to, AreAlike}
use Rattle.book_model.specs.Sound.{is_fit, permits}
use Rattle.book_model.specs.declared.record.Construct.{Construct}
use Rattle.book_model.specs.declared.record.Position.{Position}
use Rattle.book_model.specs.declared.record.Supplement.{Supplement}
use Rattle.book_model.specs.declared.record.Variant.{Variant}
use Rattle.book_model.proofs.DaysAlike.{IsAlike, RecordsAlike, records_alike}
use Rattle.supplement.specs.Completion.{firing_at, first_of, first_firing_from, first_firing, with_code_of, nothing_added, added_first, completion_within, completion_by, completion_of}
use Rattle.supplement.specs.declared.completed.Completed.{Completed}
use Rattle.supplement.specs.declared.firing.Firing.{Firing}
use Rattle.parts_usage.specs.Broken.{first_broken_of}
use Rattle.parts_usage.specs.Outcome.{judged, outcome_of_set}
use Rattle.parts_usage.specs.Unfit.{first_unfit_from, first_unfit_of}
use Rattle.parts_usage.specs.declared.judgement.Outcome.TheVariants as outcome
use Rattle.parts_usage.specs.declared.unfit.Unfit.{Unfit}
use Rattle.chosen_parts.specs.Chosen.{part_use, position_place, chosen_at, chosen}
use Rattle.order_days.specs.Days.{builds, told_of}
use Rattle.order_days.specs.Joined.{outcome_on}

-- the completed set

firing_alike : (i d e : ℕ) (x : List Bool) (ss : List Supplement) → AllByRecursion (IsAlike d e) (map (λ s. days_from_to s.from s.until) ss)
    → first_firing_from i d x ss ≡ first_firing_from i e x ss
firing_alike i d e x [] h = refl
firing_alike i d e x (s ∷ ss) h =
    let f : Option Firing = Some (record { rank = s.rank; rule = i; code = s.code }) in
    ap (λ t. first_of (cond (t && holds s.rule x && not (has x s.code)) f None) (first_firing_from (suc i) d x ss)) h.0
    ∙ ap (first_of (firing_at i e x s)) (firing_alike (suc i) d e x ss h.1)

within_alike : (n d e : ℕ) (ss : List Supplement) (x : List Bool) → AllByRecursion (IsAlike d e) (map (λ s. days_from_to s.from s.until) ss)
    → completion_within n ss d x ≡ completion_within n ss e x
within_alike zero d e ss x h = refl
within_alike (suc n) d e ss x h =
    ap (λ o. option_map_or (λ f. added_first f (completion_within n ss d (with_code_of f x))) o (nothing_added x)) (firing_alike 0 d e x ss h)
    ∙ by (λ f. within_alike n d e ss (with_code_of f x) h) (first_firing ss e x)
  where
    by : ((f : Firing) → completion_within n ss d (with_code_of f x) ≡ completion_within n ss e (with_code_of f x)) → (o : Option Firing) → option_map_or (λ f. added_first f (completion_within n ss d (with_code_of f x))) o (nothing_added x)
        ≡ option_map_or (λ f. added_first f (completion_within n ss e (with_code_of f x))) o (nothing_added x)
    by later None = refl
    by later (Some f) = ap (added_first f) (later f)

completion_alike : (b : Contents) (d e : ℕ) (x : List Bool) → RecordsAlike b d e → completion_of b d x ≡ completion_of b e x
unfolding completion_by
completion_alike b d e x h = within_alike (count_by not x) d e b.supplements x h.supplements

-- broken rules and positions that don't fit

broken_alike : (i d e : ℕ) (x : List Bool) (cs : List Construct) → AllByRecursion (IsAlike d e) (map (λ c. days_from_to c.from c.until) cs)
    → position_from (breaks d x) i cs ≡ position_from (breaks e x) i cs
broken_alike i d e x [] h = refl
broken_alike i d e x (c ∷ cs) h =
    ap (λ t. cond (t && not (is_met x c.demand)) (Some i) (position_from (breaks d x) (i + 1) cs)) h.0
    ∙ ap (cond (breaks e x c) (Some i)) (broken_alike (i + 1) d e x cs h.1)

selected_one_alike : (d e : ℕ) (x : List Bool) (vs : List Variant) (k : ℕ) → AllByRecursion (IsAlike d e) (map (λ v. days_from_to v.from v.until) vs)
    → option_map_or (is_selected d x) (slice_get vs k) false ≡ option_map_or (is_selected e x) (slice_get vs k) false
selected_one_alike d e x [] k h = refl
selected_one_alike d e x (v ∷ vs) zero h = ap (λ t. t && holds v.rule x) h.0
selected_one_alike d e x (v ∷ vs) (suc k) h = selected_one_alike d e x vs k h.1

module _ (b : Contents) (d e : ℕ) (x : List Bool) (h : RecordsAlike b d e) where
  of_alike : (place : ℕ) → selected_of b d x place ≡ selected_of b e x place
  of_alike place = filter_agree (is_selected_at b d x) (is_selected_at b e x) (λ k. selected_one_alike d e x b.variants k h.variants) (variants_of place b.variants)

  selected_alike : (place : ℕ) (p : Position) → IsAlike d e (days_from_to p.from p.until) → selected b d x place p ≡ selected b e x place p
  selected_alike place p alike =
      ap (λ t. cond t (selected_of b d x place) []) alike ∙ ap (λ vs. cond (is_within p.from p.until e) vs []) (of_alike place)

  unfit_alike : (i : ℕ) (ps : List Position) → AllByRecursion (IsAlike d e) (map (λ p. days_from_to p.from p.until) ps)
      → first_unfit_from i b d x ps ≡ first_unfit_from i b e x ps
  unfit_alike i [] g = refl
  unfit_alike i (p ∷ ps) g =
      let unfit : List ℕ → Option Unfit = λ vs. Some (record { position = i; count = length vs }) in
      ap (λ t. cond (not t || permits p (length (selected b d x i p))) (first_unfit_from (suc i) b d x ps) (unfit (selected b d x i p))) g.0
      ∙ ap (λ vs. cond (not (is_within p.from p.until e) || permits p (length vs)) (first_unfit_from (suc i) b d x ps) (unfit vs)) (selected_alike i p g.0)
      ∙ ap (λ o. cond (is_fit b e x i p) o (unfit (selected b e x i p))) (unfit_alike (suc i) ps g.1)

  at_alike : (ps : List Position) (k place : ℕ) → AllByRecursion (IsAlike d e) (map (λ p. days_from_to p.from p.until) ps)
      → option_map_or (selected b d x place) (slice_get ps k) [] ≡ option_map_or (selected b e x place) (slice_get ps k) []
  at_alike [] k place g = refl
  at_alike (p ∷ ps) zero place g = selected_alike place p g.0
  at_alike (p ∷ ps) (suc k) place g = at_alike ps k place g.1

  chosen_alike : (id : List ℕ) → chosen b d id x ≡ chosen b e id x
  chosen_alike id = by (position_place b id)
    where
      by : (o : Option ℕ) → option_map_or (chosen_at b d x) o [] ≡ option_map_or (chosen_at b e x) o []
      by None = refl
      by (Some k) = ap (map (part_use b)) (at_alike b.positions k k h.positions)

  parts_on_alike : (ps : List Position) → map (λ p. chosen b d p.id x) ps ≡ map (λ p. chosen b e p.id x) ps
  parts_on_alike [] = refl
  parts_on_alike (p ∷ ps) = ap (λ us. us ∷ map (λ q. chosen b d q.id x) ps) (chosen_alike p.id) ∙ ap (λ rest. chosen b e p.id x ∷ rest) (parts_on_alike ps)

  told_judged : (broken : Option ℕ) (unfit : Option Unfit) → told_of b d (judged broken unfit (outcome.Accepted x (parts b d x))) ≡ told_of b e (judged broken unfit (outcome.Accepted x (parts b e x)))
  told_judged (Some rule) unfit = refl
  told_judged None (Some u) = refl
  told_judged None None = ap (builds x) (parts_on_alike b.positions)

  told_set : told_of b d (outcome_of_set b d x) ≡ told_of b e (outcome_of_set b e x)
  told_set =
      ap (λ broken. told_of b d (judged broken (first_unfit_of b d x) (outcome.Accepted x (parts b d x)))) (broken_alike 0 d e x b.constructs h.constructs)
      ∙ ap (λ unfit. told_of b d (judged (first_broken_of b e x) unfit (outcome.Accepted x (parts b d x)))) (unfit_alike 0 b.positions h.positions)
      ∙ told_judged (first_broken_of b e x) (first_unfit_of b e x)

pub told_on_alike : (b : Contents) (names : List (List ℕ)) (d e : ℕ) → AreAlike b d e → told_of b d (outcome_on b names d) ≡ told_of b e (outcome_on b names e)
told_on_alike b names d e alike =
    let h : RecordsAlike b d e = records_alike b d e alike in
    let x : List Bool = named b.codes names in
    ap (λ (c : Completed). told_of b d (outcome_of_set b d c.set)) (completion_alike b d e x h)
    ∙ told_set b d e (completion_of b e x).set h
