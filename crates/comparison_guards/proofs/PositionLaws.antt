-- What a comparison tells of positions and cars.
use Rattle.std.proofs.Common.{◌≡◌, inl, inr, ℕ, true, List, [], ◌∷◌, ◌++◌, Option, None, sym, ap, ◌∙◌}
use Rattle.std.specs.Prelude.{is_none}
use Rattle.std.specs.List.{AllByRecursion}
use Rattle.std.specs.Option.{option_map_or}
use Rattle.pb_base.specs.NamedSet.{named}
use Rattle.book_model.specs.Contents.{Contents}
use Rattle.chosen_parts.specs.Chosen.{chosen, chosen_at, added_ids, ids_of_either, position_ids, position_place}
use Rattle.book_compare.specs.Common.{DiffersWith}
use Rattle.book_compare.specs.Comparison.{IsComparison, IsNoted}
use Rattle.book_compare.specs.declared.note.CompareNote.{CompareNote}
use Rattle.book_compare.specs.declared.note.CompareNote.TheVariants.{Finding, Undecided}
use Rattle.comparison_guards.specs.Positions.{GetsSome, IsOfBoth, IsTold, IsToldIfAdded, IsToldIfChanged}
use Rattle.comparison_guards.proofs.PartsHave.{all_back, all_filtered, all_map, parts_all, parts_each}

told_front : (id : List ℕ) (one more : List CompareNote) → IsTold id one → IsTold id (one ++ more)
told_front id [] more h = absurd h
told_front id (note ∷ one) more (inl is) = inl is
told_front id (note ∷ one) more (inr later) = inr (told_front id one more later)

told_back : (id : List ℕ) (one more : List CompareNote) → IsTold id more → IsTold id (one ++ more)
told_back id [] more h = h
told_back id (note ∷ one) more h = inr (told_back id one more h)

module _ (first second : Contents) (day budget : ℕ) where
  noted_told : (id : List ℕ) (own : List CompareNote) → IsNoted first second day budget id own → IsToldIfChanged first second day own id
  noted_told id [] h = λ names differs. absurd (differs.differ (h names differs.common))
  noted_told id (Finding position names ∷ []) h = λ _ _. inl h.0
  noted_told id (Undecided position learnt ∷ []) h = λ _ _. inl h.0
  noted_told id (note ∷ other ∷ own) h = absurd h

  noted_of_both : (id : List ℕ) (own : List CompareNote) → IsNoted first second day budget id own → AllByRecursion (IsOfBoth first second day) own
  noted_of_both id [] h = tt
  noted_of_both id (Finding position names ∷ []) h = (h.1.common, tt)
  noted_of_both id (Undecided position learnt ∷ []) h = (tt, tt)
  noted_of_both id (note ∷ other ∷ own) h = absurd h

  pub changed_told : (notes : List CompareNote) → IsComparison first second day budget notes
      → AllByRecursion (IsToldIfChanged first second day notes) (ids_of_either first second)
  changed_told notes h =
      parts_each (IsNoted first second day budget) (λ id ns. IsToldIfChanged first second day ns id) noted_told
      (λ id one more told names differs. told_front id one more (told names differs)) (λ id one more told names differs. told_back id one more (told names differs))
      (ids_of_either first second) notes h

  pub cars_of_both : (notes : List CompareNote) → IsComparison first second day budget notes → AllByRecursion (IsOfBoth first second day) notes
  cars_of_both notes h =
      parts_all (IsNoted first second day budget) (IsOfBoth first second day) noted_of_both (ids_of_either first second) notes h

  gets_other : (id : List ℕ) (names : List (List ℕ)) → position_place first id ≡ None → GetsSome first second day id names → DiffersWith first second day id names
  gets_other id names lacks gets =
      let nothing : chosen first day id (named first.codes names) ≡ [] = ap (λ (o : Option ℕ). option_map_or (chosen_at first day (named first.codes names)) o []) lacks in
      record { common = gets.common; differ = λ same. gets.some (sym same ∙ nothing) }

  pub added_told : (notes : List CompareNote) → IsComparison first second day budget notes
      → AllByRecursion (IsToldIfAdded first second day notes) (position_ids second)
  added_told notes h =
      let told : AllByRecursion (IsToldIfChanged first second day notes) (added_ids first second) =
      all_back (IsToldIfChanged first second day notes) (position_ids first) (added_ids first second) (changed_told notes h) in
      let each : AllByRecursion (λ id. is_none (position_place first id) ≡ true → IsToldIfChanged first second day notes id) (position_ids second) =
      all_filtered (IsToldIfChanged first second day notes) (λ id. is_none (position_place first id)) (position_ids second) told in
      all_map (λ id. is_none (position_place first id) ≡ true → IsToldIfChanged first second day notes id) (IsToldIfAdded first second day notes)
      (λ id is lacks names gets. is (ap is_none lacks) names (gets_other id names lacks gets)) (position_ids second) each
