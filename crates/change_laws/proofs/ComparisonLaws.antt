-- Two comparisons in which no search was left tell the same, but for the cars.
use Rattle.std.proofs.Common.{◌≡◌, ℕ, suc, Bool, true, false, ◌||◌, List, [], ◌∷◌, map, refl, sym, ap, ◌∙◌}
use Rattle.std.specs.List.{list_any}
use Rattle.std.proofs.lemmas.Bool.{true≢false}
use Rattle.shared_work.proofs.SameLaws.{parts_same}
use Rattle.book_model.specs.Contents.{Contents}
use Rattle.chosen_parts.specs.Chosen.{ids_of_either}
use Rattle.book_compare.specs.CompareText.{findings_in, is_finding, is_undecided}
use Rattle.book_compare.specs.Comparison.{IsComparison, IsNoted}
use Rattle.book_compare.specs.declared.note.CompareNote.{CompareNote}
use Rattle.book_compare.specs.declared.note.CompareNote.TheVariants.{Finding, Undecided}
use Rattle.change_laws.specs.Comparisons.{AreDecided, TellSame, bare}

module _ (first second : Contents) (day budget other : ℕ) where
  -- the notes on one position
  noted_same : (id : List ℕ) (xs ys : List CompareNote) → IsNoted first second day budget id xs → IsNoted first second day other id ys
      → list_any is_undecided xs ≡ false → list_any is_undecided ys ≡ false → map bare xs ≡ map bare ys
  noted_same id [] [] h k none also = refl
  noted_same id [] (Finding position names ∷ []) h k none also = absurd (k.1.differ (h names k.1.common))
  noted_same id [] (Undecided position learnt ∷ []) h k none also = absurd (true≢false also)
  noted_same id [] (y ∷ z ∷ ys) h k none also = absurd k
  noted_same id (Finding position names ∷ []) [] h k none also = absurd (h.1.differ (k names h.1.common))
  noted_same id (Finding position names ∷ []) (Finding at others ∷ []) h k none also = ap (λ (p : List ℕ). Finding p [] ∷ []) (h.0 ∙ sym k.0)
  noted_same id (Finding position names ∷ []) (Undecided at learnt ∷ []) h k none also = absurd (true≢false also)
  noted_same id (Finding position names ∷ []) (y ∷ z ∷ ys) h k none also = absurd k
  noted_same id (Undecided position learnt ∷ []) ys h k none also = absurd (true≢false none)
  noted_same id (x ∷ w ∷ xs) ys h k none also = absurd h

-- what is counted hangs on no car
bare_any : (notes : List CompareNote) → list_any is_finding notes ≡ list_any is_finding (map bare notes)
bare_any [] = refl
bare_any (Finding position names ∷ notes) = ap (λ (t : Bool). true || t) (bare_any notes)
bare_any (Undecided position learnt ∷ notes) = ap (λ (t : Bool). false || t) (bare_any notes)

bare_count : (notes : List CompareNote) → findings_in notes ≡ findings_in (map bare notes)
bare_count [] = refl
bare_count (Finding position names ∷ notes) = ap suc (bare_count notes)
bare_count (Undecided position learnt ∷ notes) = bare_count notes

pub same_comparison : (first second : Contents) (day budget other : ℕ) (one two : List CompareNote) → IsComparison first second day budget one → IsComparison first second day other two
    → AreDecided one → AreDecided two → TellSame one two
same_comparison first second day budget other one two h k none also =
    let same : map bare one ≡ map bare two =
    parts_same (IsNoted first second day budget) (IsNoted first second day other) is_undecided bare (noted_same first second day budget other) (ids_of_either first second) one two h k none also in
    record {
      notes = same;
      differ = bare_any one ∙ ap (list_any is_finding) same ∙ sym (bare_any two);
      count = bare_count one ∙ ap findings_in same ∙ sym (bare_count two);
    }
