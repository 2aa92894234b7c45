-- On all days of a run a set has the same parts at each position.
use Rattle.std.proofs.Common.{◌≡◌, ℕ, zero, suc, Bool, false, ◌&&◌, cond, List, [], ◌∷◌, Option, Some, None, map, refl, sym, ap, ◌∙◌}
use Rattle.std.specs.Prelude.{IsTrue}
use Rattle.std.specs.List.{slice_get, AllByRecursion}
use Rattle.std.specs.Option.{option_map_or}
use Rattle.std.proofs.lemmas.List.Elements.{filter_agree}
use Rattle.pb_base.specs.NamedSet.{named}
use Rattle.pb_base.specs.Rule.{holds}
use Rattle.book_model.specs.Activity.{is_within}
use Rattle.book_model.specs.Contents.{Contents}
use Rattle.book_model.specs.Parts.{variants_of, is_selected, is_selected_at, selected, selected_of}
use Rattle.book_model.specs.Slices.{days_from_to, IsSteady}
use Rattle.book_model.specs.declared.record.Position.{Position}
use Rattle.book_model.specs.declared.record.Slice.{Slice}
use Rattle.book_model.specs.declared.record.Variant.{Variant}
use Rattle.book_model.proofs.DaysAlike.{IsAlike, RecordsAlike, records_alike, good_on_slice}
use Rattle.chosen_parts.specs.Chosen.{part_use, position_place, chosen_at, chosen}
use Rattle.lost_cars.specs.Losses.{IsCar}
use Rattle.book_changes.specs.Changes.{HaveSameOn, HaveSameThrough}

selected_one : (d e : ℕ) (x : List Bool) (vs : List Variant) (k : ℕ) → AllByRecursion (IsAlike d e) (map (λ v. days_from_to v.from v.until) vs)
    → option_map_or (is_selected d x) (slice_get vs k) false ≡ option_map_or (is_selected e x) (slice_get vs k) false
selected_one d e x [] k h = refl
selected_one d e x (v ∷ vs) zero h = ap (λ t. t && holds v.rule x) h.0
selected_one d e x (v ∷ vs) (suc k) h = selected_one d e x vs k h.1

module _ (b : Contents) (d e : ℕ) (x : List Bool) (h : RecordsAlike b d e) where
  of_alike : (place : ℕ) → selected_of b d x place ≡ selected_of b e x place
  of_alike place = filter_agree (is_selected_at b d x) (is_selected_at b e x) (λ k. selected_one d e x b.variants k h.variants) (variants_of place b.variants)

  selected_alike : (place : ℕ) (p : Position) → IsAlike d e (days_from_to p.from p.until) → selected b d x place p ≡ selected b e x place p
  selected_alike place p alike =
      ap (λ t. cond t (selected_of b d x place) []) alike ∙ ap (λ vs. cond (is_within p.from p.until e) vs []) (of_alike place)

  at_alike : (ps : List Position) (k place : ℕ) → AllByRecursion (IsAlike d e) (map (λ p. days_from_to p.from p.until) ps)
      → option_map_or (selected b d x place) (slice_get ps k) [] ≡ option_map_or (selected b e x place) (slice_get ps k) []
  at_alike [] k place g = refl
  at_alike (p ∷ ps) zero place g = selected_alike place p g.0
  at_alike (p ∷ ps) (suc k) place g = at_alike ps k place g.1

  chosen_alike : (id : List ℕ) → chosen b d id x ≡ chosen b e id x
  chosen_alike id = by (position_place b id)
    where
      by : (o : Option ℕ) → option_map_or (chosen_at b d x) o [] ≡ option_map_or (chosen_at b e x) o []
      by None = refl
      by (Some k) = ap (map (part_use b)) (at_alike b.positions k k h.positions)

chosen_on_run : (b : Contents) (r : Slice) (day : ℕ) (x : List Bool) (id : List ℕ) → IsSteady b r → IsTrue (is_within r.first r.last day) → chosen b day id x ≡ chosen b r.first id x
chosen_on_run b r day x id steady within = chosen_alike b day r.first x (records_alike b day r.first (steady day within)) id

-- what holds of the parts on the first day of a run holds on all its days
pub same_through : (first second : Contents) (r : Slice) → IsSteady first r → IsSteady second r → HaveSameOn first second r.first → HaveSameThrough first second r
same_through first second r steady others same = λ day within names car id.
    let on_first : IsCar first r.first names = record {
      distinct = car.distinct;
      named_there = car.named_there;
      good = sym (good_on_slice first r day (named first.codes names) steady within) ∙ car.good;
    } in
    chosen_on_run first r day (named first.codes names) id steady within ∙ same names on_first id
    ∙ sym (chosen_on_run second r day (named second.codes names) id others within)
