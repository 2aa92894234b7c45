-- The notes of a comparison with what each book selects, and what it means that there are none.
use Rattle.std.proofs.Common.{◌≡◌, ℕ, zero, suc, true, List, [], ◌∷◌, ◌++◌, Some, map, refl, sym, ap, subst, ◌∙◌, inl, inr, All}
use Rattle.pb_base.proofs.PartLaws.{none_in_parts}
use Rattle.std.specs.List.{AllZip, AllByRecursion, filter, slice_get}
use Rattle.std.specs.Option.{is_none}
use Rattle.std.proofs.lemmas.Bool.{cases_Bool, cond-true, cond-false}
use Rattle.std.proofs.lemmas.List.Elements.{All-from_recursion}
use Rattle.pb_base.specs.InParts.{InParts}
use Rattle.pb_base.specs.NamedSet.{named}
use Rattle.book_model.specs.Contents.{Contents}
use Rattle.book_model.specs.declared.record.Position.{Position}
use Rattle.clausify.proofs.ListLaws.{all_first, all_last}
use Rattle.chosen_parts.specs.Chosen.{chosen, position_place, position_ids, added_ids, ids_of_either, HaveSameParts}
use Rattle.chosen_parts.proofs.SameLaws.{chosen_none, same_everywhere}
use Rattle.book_compare.specs.Common.{IsCommon, AreAlike, DiffersWith}
use Rattle.book_compare.specs.Comparison.{IsNoted, IsNote}
use Rattle.book_compare.specs.declared.note.CompareNote.{CompareNote}
use Rattle.book_compare.specs.declared.note.CompareNote.TheVariants as compared
use Rattle.lost_cars.specs.Losses.{IsCar, KeepsCars}
use Rattle.book_changes.specs.Differs.{IsDifferNote, IsDifferNoted, IsTrueNote, IsSelected}
use Rattle.book_changes.specs.declared.run.DifferNote.{DifferNote}
use Rattle.book_changes.specs.declared.run.DifferNote.TheVariants.{Differs, Undecided}

record Split {X Y : Type 0} (R : X → Y → Type 0) (xs ys : List X) (zs : List Y) : Type 0 where
  own : List Y
  later : List Y
  whole : zs ≡ own ++ later
  own_zip : AllZip R xs own
  later_zip : AllZip R ys later

zip_split : {X Y : Type 0} (R : X → Y → Type 0) (xs ys : List X) (zs : List Y) → AllZip R (xs ++ ys) zs → Split R xs ys zs
zip_split R [] ys zs h = record { own = []; later = zs; whole = refl; own_zip = tt; later_zip = h }
zip_split R (x ∷ xs) ys [] h = absurd h
zip_split {X} {Y} R (x ∷ xs) ys (z ∷ zs) h =
    let s = zip_split R xs ys zs h.1 in
    record { own = z ∷ s.own; later = s.later; whole = ap (λ (us : List Y). z ∷ us) s.whole; own_zip = (h.0, s.own_zip); later_zip = s.later_zip }

module _ (first second : Contents) (day budget : ℕ) where
  note_made : (id : List ℕ) (note : CompareNote) (made : DifferNote) → IsNote first second day budget id note → IsSelected first second day note made → IsDifferNote first second day budget id made
  note_made id (compared.Finding position names) (Differs at car has next) h s = (
    s.0 ∙ h.0,
    rw s.1 h.1,
    rw (s.1, ← h.0) s.2,
    rw (s.1, ← h.0) s.3,
  )
  note_made id (compared.Finding position names) (Undecided at) h s = absurd s
  note_made id (compared.Undecided position learnt) (Differs at car has next) h s = absurd s
  note_made id (compared.Undecided position learnt) (Undecided at) h s = (s ∙ h.0, record { learnt = learnt.clauses; spent = h.1 })

  noted_made : (id : List ℕ) (own : List CompareNote) (made : List DifferNote) → IsNoted first second day budget id own → AllZip (IsSelected first second day) own made
      → IsDifferNoted first second day budget id made
  noted_made id [] [] h s = h
  noted_made id [] (m ∷ ms) h s = absurd s
  noted_made id (note ∷ []) [] h s = absurd s
  noted_made id (note ∷ []) (m ∷ []) h s = note_made id note m h s.0
  noted_made id (note ∷ []) (m ∷ n ∷ ms) h s = absurd s.1
  noted_made id (note ∷ other ∷ more) made h s = absurd h

  pub parts_made : (ids : List (List ℕ)) (notes : List CompareNote) (made : List DifferNote) → InParts (IsNoted first second day budget) ids notes → AllZip (IsSelected first second day) notes made
      → InParts (IsDifferNoted first second day budget) ids made
  parts_made [] notes made parts zip = none made (rw parts at zip)
    where
      none : (ms : List DifferNote) → AllZip (IsSelected first second day) [] ms → ms ≡ []
      none [] h = refl
      none (m ∷ ms) h = absurd h
  parts_made (id ∷ ids) notes made parts zip =
      let s = zip_split (IsSelected first second day) parts.0 parts.1 made (rw parts.2 at zip) in
      (s.own, s.later, s.whole, noted_made id parts.0 s.own parts.3 s.own_zip, parts_made ids parts.1 s.later parts.4 s.later_zip)

  -- each note's car gets other parts
  notes_true : (ids : List (List ℕ)) (notes : List CompareNote) → InParts (IsNoted first second day budget) ids notes → AllByRecursion (IsTrueNote first second day) notes
  notes_true [] notes parts = rw parts tt
  notes_true (id ∷ ids) notes parts = by parts.0 parts.1 parts.2 parts.3 (notes_true ids parts.1 parts.4)
    where
      true_one : (note : CompareNote) → IsNote first second day budget id note → IsTrueNote first second day note
      true_one (compared.Finding position names) h = rw h.0 h.1
      true_one (compared.Undecided position learnt) h = tt

      by : (own rest : List CompareNote) → notes ≡ own ++ rest → IsNoted first second day budget id own → AllByRecursion (IsTrueNote first second day) rest
          → AllByRecursion (IsTrueNote first second day) notes
      by [] rest is h later = rw is later
      by (note ∷ []) rest is h later = rw is (true_one note h, later)
      by (note ∷ other ∷ more) rest is h later = absurd h

  pub all_true : (ids : List (List ℕ)) (notes : List CompareNote) → InParts (IsNoted first second day budget) ids notes → All (IsTrueNote first second day) notes
  all_true ids notes parts = All-from_recursion (IsTrueNote first second day) notes (notes_true ids notes parts)

  -- without a note each position is the same in each car of both
  each_id : (ps : List Position) (k : ℕ) (p : Position) → AllByRecursion (AreAlike first second day) (map (λ q. q.id) ps) → slice_get ps k ≡ Some p → AreAlike first second day p.id
  each_id [] k p h is = cc
  each_id (q ∷ ps) zero p h is = let same : p ≡ q = cc in rw same h.0
  each_id (q ∷ ps) (suc k) p h is = each_id ps k p h.1 is

  each_added : (ps : List Position) (k : ℕ) (p : Position) → AllByRecursion (AreAlike first second day) (filter (λ id. is_none (position_place first id)) (map (λ q. q.id) ps))
      → slice_get ps k ≡ Some p → is_none (position_place first p.id) ≡ true → AreAlike first second day p.id
  each_added [] k p h is only = cc
  each_added (q ∷ ps) zero p h is only =
      let same : p ≡ q = cc in
      let here : is_none (position_place first q.id) ≡ true = rw same at only in
      let all = rw here at h in
      rw same all.0
  each_added (q ∷ ps) (suc k) p h is only =
      let later : AllByRecursion (AreAlike first second day) (filter (λ id. is_none (position_place first id)) (map (λ (r : Position). r.id) ps)) =
      elim (cases_Bool (is_none (position_place first q.id))) [
        | inl some ↦ (let all = rw some at h in all.1)
        | inr none ↦ rw none at h
      ] in
      each_added ps k p later is only

-- where no car is lost and no position differs, each car of the first book has the same parts by both
pub same_on_day : (first second : Contents) (day budget : ℕ) (notes : List DifferNote) → InParts (IsDifferNoted first second day budget) (ids_of_either first second) notes → KeepsCars first second day
    → notes ≡ [] → (names : List (List ℕ)) → IsCar first day names → HaveSameParts first second day (named first.codes names) (named second.codes names)
same_on_day first second day budget notes parts keeps empty names car =
    let alike = none_in_parts (IsDifferNoted first second day budget) (ids_of_either first second) notes empty parts in
    let kept = keeps names car in
    let common : IsCommon first second day names = record {
      distinct = car.distinct;
      in_first = car.named_there;
      in_second = kept.named_there;
      good_in_first = car.good;
      good_in_second = kept.good;
    } in
    same_everywhere first second day (named first.codes names) (named second.codes names)
    (λ place p within there. each_id first second day budget first.positions place p (all_first (AreAlike first second day) (position_ids first) (added_ids first second) alike) there names common)
    (λ place p within there only.
    sym (each_added first second day budget second.positions place p (all_last (AreAlike first second day) (position_ids first) (added_ids first second) alike) there (ap is_none only) names common)
    ∙ chosen_none first day p.id (named first.codes names) only)
