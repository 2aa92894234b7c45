-- The positions that have to be searched, one behind the other.
use Rattle.std.proofs.Common.{◌≡◌, ℕ, ◌+◌, ◌-◌, ◌<◌, ◌≤◌, List, [], ◌∷◌, ◌++◌, Option, Some, None, true, false, cond, length, get_or, map, take, drop, take-add, refl, sym, ap, subst, ◌∙◌, arith, append_assoc, append-nil, inl, inr}
use Rattle.book_compare.proofs.NumberLaws.{cases_option}
use Rattle.std.specs.List.{filter}
use Rattle.std.specs.Option.{is_none, option_to_list}
use Rattle.std.proofs.lemmas.List.{take_more, map-append}
use Rattle.std.proofs.lemmas.List.Elements.{filter-append}
use Rattle.pb_base.specs.InParts.{InParts}
use Rattle.pb_base.proofs.PartLaws.{parts_more}
use Rattle.inquiry.proofs.PartLaws.{parts-append}
use Rattle.book_model.specs.Contents.{Contents}
use Rattle.book_model.specs.declared.record.Position.{Position}
use Rattle.chosen_parts.specs.Chosen.{position_place, position_ids, added_ids, ids_of_either}
use Rattle.book_compare.specs.Comparison.{IsNoted, IsNotedAt, AreNoted, IsComparison}
use Rattle.book_compare.specs.Searched.{IsPut, ArePut, AddsPlaces}
use Rattle.book_compare.specs.declared.note.CompareNote.{CompareNote}
use Rattle.book_compare.specs.declared.place.Place.{Place}

module _ (first second : Contents) (day : ℕ) where
  pub adds_none : (old : List Place) → AddsPlaces first second day [] old old
  adds_none old = record { places = []; behind = sym (append-nil old); each = refl }

  pub adds_more : (ids : List (List ℕ)) (id : List ℕ) (old mid new own : List Place) → AddsPlaces first second day ids old mid → IsPut first second day id own → new ≡ mid ++ own
      → AddsPlaces first second day (ids ++ id ∷ []) old new
  adds_more ids id old mid new own so_far is_put put = record {
    places = so_far.places ++ own;
    behind = rw (put, so_far.behind, append_assoc) refl;
    each = parts_more (IsPut first second day) ids id so_far.places own so_far.each is_put;
  }

  ids_more : (ps : List Position) (i : ℕ) (p : Position) → i < length ps → p ≡ get_or ps i p → map (λ (q : Position). q.id) (take (i + 1) ps) ≡ map (λ (q : Position). q.id) (take i ps) ++ p.id ∷ []
  ids_more ps i p within read =
      rw (take_more ps i p within, map-append, ← read) refl

  pub first_more : (ps : List Position) (i : ℕ) (p : Position) (old mid new own : List Place) → i < length ps → p ≡ get_or ps i p
      → AddsPlaces first second day (map (λ q. q.id) (take i ps)) old mid → IsPut first second day p.id own → new ≡ mid ++ own
      → AddsPlaces first second day (map (λ q. q.id) (take (i + 1) ps)) old new
  first_more ps i p old mid new own within read so_far is_put put =
      rw (ids_more ps i p within read)
      (adds_more (map (λ (q : Position). q.id) (take i ps)) p.id old mid new own so_far is_put put)

  added_split : (ps : List Position) (i : ℕ) (p : Position) → i < length ps → p ≡ get_or ps i p
      → filter (λ id. is_none (position_place first id)) (map (λ q. q.id) (take (i + 1) ps))
      ≡ filter (λ id. is_none (position_place first id)) (map (λ q. q.id) (take i ps)) ++ cond (is_none (position_place first p.id)) (p.id ∷ []) []
  added_split ps i p within read =
      rw (ids_more ps i p within read) (filter-append (λ id. is_none (position_place first id)) (map (λ (q : Position). q.id) (take i ps)) (p.id ∷ []))

  pub added_more : (ps : List Position) (i : ℕ) (p : Position) (old mid new own : List Place) → i < length ps → p ≡ get_or ps i p → is_none (position_place first p.id) ≡ true
      → AddsPlaces first second day (filter (λ id. is_none (position_place first id)) (map (λ q. q.id) (take i ps))) old mid → IsPut first second day p.id own → new ≡ mid ++ own
      → AddsPlaces first second day (filter (λ id. is_none (position_place first id)) (map (λ q. q.id) (take (i + 1) ps))) old new
  added_more ps i p old mid new own within read only so_far is_put put =
      rw (added_split ps i p within read, only)
      (adds_more (filter (λ id. is_none (position_place first id)) (map (λ (q : Position). q.id) (take i ps))) p.id old mid new own so_far is_put put)

  pub added_same : (ps : List Position) (i : ℕ) (p : Position) (old new : List Place) → i < length ps → p ≡ get_or ps i p → is_none (position_place first p.id) ≡ false
      → AddsPlaces first second day (filter (λ id. is_none (position_place first id)) (map (λ q. q.id) (take i ps))) old new
      → AddsPlaces first second day (filter (λ id. is_none (position_place first id)) (map (λ q. q.id) (take (i + 1) ps))) old new
  added_same ps i p old new within read shared so_far =
      rw (added_split ps i p within read, shared, append-nil) so_far

  pub added_step : (ps : List Position) (i : ℕ) (p : Position) (old mid new : List Place) (place : Option Place) → i < length ps → p ≡ get_or ps i p
      → AddsPlaces first second day (filter (λ id. is_none (position_place first id)) (map (λ q. q.id) (take i ps))) old mid
      → (position_place first p.id ≡ None → IsPut first second day p.id (option_to_list place)) → ((at : ℕ) → position_place first p.id ≡ Some at → place ≡ None)
      → new ≡ mid ++ option_to_list place → AddsPlaces first second day (filter (λ id. is_none (position_place first id)) (map (λ q. q.id) (take (i + 1) ps))) old new
  added_step ps i p old mid new place within read so_far added shared put = elim (cases_option (position_place first p.id)) [
    | inl none ↦ added_more ps i p old mid new (option_to_list place) within read (ap is_none none) so_far (added none) put
    | inr some ↦ rw (put, shared some.0 some.1, append-nil) (added_same ps i p old mid within read (ap is_none some.1) so_far)
  ]

  pub whole : (start mid all : List Place) → start ≡ [] → AddsPlaces first second day (position_ids first) start mid → AddsPlaces first second day (added_ids first second) mid all → ArePut first second day all
  whole start mid all none one other =
      rw (other.behind, one.behind, none)
      (parts-append (IsPut first second day) (position_ids first) (added_ids first second) one.places other.places one.each other.each)

  -- the notes on what was searched are those on all positions
  module _ (budget : ℕ) where
    noted_step : (id : List ℕ) (ids : List (List ℕ)) (own rest : List Place) (notes : List CompareNote)
        → ((ns : List CompareNote) → AreNoted first second day budget rest ns → InParts (IsNoted first second day budget) ids ns)
        → IsPut first second day id own → AreNoted first second day budget (own ++ rest) notes → InParts (IsNoted first second day budget) (id ∷ ids) notes
    noted_step id ids [] rest notes later put noted = ([], notes, refl, put, later notes noted)
    noted_step id ids (p ∷ []) rest notes later put noted =
        (noted.0, noted.1, noted.2, subst (λ (name : List ℕ). IsNoted first second day budget name noted.0) put noted.3, later noted.1 noted.4)
    noted_step id ids (p ∷ q ∷ own) rest notes later put noted = absurd put

    noted_all : (ids : List (List ℕ)) (ps : List Place) (notes : List CompareNote) → InParts (IsPut first second day) ids ps → AreNoted first second day budget ps notes
        → InParts (IsNoted first second day budget) ids notes
    noted_all [] ps notes put noted = subst (λ (qs : List Place). AreNoted first second day budget qs notes) put noted
    noted_all (id ∷ ids) ps notes put noted =
        noted_step id ids put.0 put.1 notes (λ ns h. noted_all ids put.1 ns put.4 h) put.3
        (subst (λ (qs : List Place). AreNoted first second day budget qs notes) put.2 noted)

    pub compared : (ps : List Place) (notes : List CompareNote) → ArePut first second day ps → AreNoted first second day budget ps notes → IsComparison first second day budget notes
    compared ps notes put noted = noted_all (ids_of_either first second) ps notes put noted
