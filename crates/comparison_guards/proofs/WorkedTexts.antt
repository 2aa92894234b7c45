-- What the texts tell of small values.
use Rattle.std.proofs.Common.{◌≡◌, ℕ, true, false, List, [], ◌∷◌, ◌++◌, Some, refl}
use Rattle.std.specs.Prelude.{codes}
use Rattle.book_model.specs.Contents.{Contents}
use Rattle.book_model.specs.Slices.{days_from_to}
use Rattle.book_changes.specs.ChangesText.{joined_from}
use Rattle.left_cars.specs.declared.states.CodeState.TheVariants.{Open}
use Rattle.free_answers.specs.FreeText.{lines_from}
use Rattle.order_days.specs.DaysText.{Built, run_text, runs_text}
use Rattle.order_days.specs.declared.run.Run.{Run}
use Rattle.parts_usage.specs.declared.judgement.Outcome.TheVariants.{Refused}

-- days 1 to 3 and 5 to 6, with another run between them, are two pairs; 1 to 3 and 4 to 6 are one
apart : joined_from (days_from_to 1 3) (days_from_to 5 6 ∷ []) ≡ days_from_to 1 3 ∷ days_from_to 5 6 ∷ []
apart = refl

touching : joined_from (days_from_to 1 3) (days_from_to 4 6 ∷ []) ≡ days_from_to 1 6 ∷ []
touching = refl

-- of two open codes just the one that comes with the order as it stands is told so
one_comes : lines_from 0 (true ∷ false ∷ []) (Open ∷ Open ∷ []) (codes "A" ∷ codes "B" ∷ []) ≡ codes "comes A\nopen B\n"
one_comes = refl

-- a run behind a refused one is told beside the last that was accepted
module _ (b : Contents) (before : Built) (rest : List Run) where
  beside_accepted : (rule : ℕ) (refused : Run) → refused.outcome ≡ Refused rule
      → runs_text b (Some before) (refused ∷ rest) ≡ run_text b (Some before) refused ++ runs_text b (Some before) rest
  beside_accepted rule refused is = rw is refl
