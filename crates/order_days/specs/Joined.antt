-- How runs come of the slices of a term.
--     run_on b names slice        a slice as a run: what the order comes to on its first day
--     joined_from b run next      the runs that a run makes with those after it: it goes on over each that tells the same
--     joined b runs               the same of all
use Rattle.std.specs.Prelude.{ℕ, List, [], ◌∷◌, map, if◌then◌else◌}
use Rattle.pb_base.specs.NamedSet.{named}
use Rattle.book_model.specs.Contents.{Contents}
use Rattle.book_model.specs.declared.record.Slice.{Slice}
use Rattle.supplement.specs.Completion.{completion_of}
use Rattle.parts_usage.specs.Outcome.{outcome_of_set}
use Rattle.parts_usage.specs.declared.judgement.Outcome.{Outcome}
use Rattle.order_days.specs.Days.{told_by}
use Rattle.order_days.specs.Same.{is_told_same}
use Rattle.order_days.specs.declared.run.Run.{Run}

abbrev pub outcome_on : Contents → List (List ℕ) → ℕ → Outcome
outcome_on b names day = outcome_of_set b day (completion_of b day (named b.codes names)).set

abbrev pub run_on : Contents → List (List ℕ) → Slice → Run
run_on b names slice = record { first = slice.first; last = slice.last; outcome = outcome_on b names slice.first }

abbrev pub onward : Run → Run → Run
onward run next = record { first = run.first; last = next.last; outcome = run.outcome }

abbrev pub joined_from : Contents → Run → List Run → List Run
joined_from b run [] = run ∷ []
joined_from b run (next ∷ more) =
    if is_told_same (told_by b run) (told_by b next) then joined_from b (onward run next) more else run ∷ joined_from b next more

abbrev pub joined : Contents → List Run → List Run
joined b [] = []
joined b (run ∷ runs) = joined_from b run runs

abbrev pub runs_on : Contents → List (List ℕ) → List Slice → List Run
runs_on b names slices = map (run_on b names) slices
