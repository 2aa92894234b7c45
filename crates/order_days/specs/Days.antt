-- What an order of some codes comes to on every day of a book's term.
--     parts_on b day x             what stands at each position, in record order
--     told_of b day outcome        what is told of the outcome of a day: a rule, a position with its count, or the codes and the parts
--     IsToldOn b names run day     on this day the order comes to what the run tells
--     IsRun b names run            the run has the outcome of its first day, and tells what the order comes to on each of its days
--     AreApart b runs              no two neighbours tell the same
--     days_fault b names           the first name that is at fault, else that the term has too many slices
--     AreRuns b names runs         the runs have all days of the term, in order, and are the longest ones
use Rattle.std.specs.Prelude.{◌≡◌, ℕ, suc, ◌-◌, ◌≤◌, Bool, List, [], ◌∷◌, Option, None, Some, Result, Ok, Err, All, IsTrue, length, map}
use Rattle.std.specs.List.{flat_map, range_with_len}
use Rattle.std.specs.Option.{option_map, option_or}
use Rattle.pb_base.specs.NamedSet.{first_fault}
use Rattle.book_model.specs.Activity.{is_within}
use Rattle.book_model.specs.Contents.{Contents}
use Rattle.book_model.specs.Slices.{days_of, slices_of}
use Rattle.book_model.specs.declared.record.Slice.{Slice}
use Rattle.book_model.specs.declared.slicing.LimitFault.{LimitFault}
use Rattle.parts_usage.specs.Fault.{fault_of_name}
use Rattle.parts_usage.specs.Outcome.{outcome_of}
use Rattle.parts_usage.specs.declared.judgement.Outcome.{Outcome}
use Rattle.parts_usage.specs.declared.judgement.Outcome.TheVariants.{Accepted, Refused, Unfit}
use Rattle.chosen_parts.specs.Chosen.{chosen, AreFew}
use Rattle.chosen_parts.specs.declared.part_use.PartUse.{PartUse}
use Rattle.order_days.specs.declared.days.DaysFault.{DaysFault}
use Rattle.order_days.specs.declared.days.DaysFault.TheVariants.{Order, Limit}
use Rattle.order_days.specs.declared.run.Run.{Run}

abbrev pub parts_on : Contents → ℕ → List Bool → List (List PartUse)
parts_on b day x = map (λ p. chosen b day p.id x) b.positions

pub data Told : Type 0 where
  builds : List Bool → List (List PartUse) → Told
  refuses : ℕ → Told
  misfits : ℕ → ℕ → Told

abbrev pub told_of : Contents → ℕ → Outcome → Told
told_of b day (Accepted x list) = builds x (parts_on b day x)
told_of b day (Refused rule) = refuses rule
told_of b day (Unfit position count) = misfits position count

abbrev pub told_by : Contents → Run → Told
told_by b run = told_of b run.first run.outcome

pub record IsToldOn (b : Contents) (names : List (List ℕ)) (run : Run) (day : ℕ) : Type 0 where
  pub outcome : Outcome
  pub comes_to : outcome_of b day names ≡ Ok outcome
  pub told : told_of b day outcome ≡ told_by b run

pub record IsRun (b : Contents) (names : List (List ℕ)) (run : Run) : Type 0 where
  pub comes_to : outcome_of b run.first names ≡ Ok run.outcome
  pub order : run.first ≤ run.last
  pub each : (day : ℕ) → IsTrue (is_within run.first run.last day) → IsToldOn b names run day

abbrev pub AreApart : Contents → List Run → Type 0
AreApart b [] = Unit {0}
AreApart b (run ∷ []) = Unit {0}
AreApart b (run ∷ next ∷ runs) = (told_by b run ≡ told_by b next → ⊥) × AreApart b (next ∷ runs)

abbrev pub days_in_run : Run → List ℕ
days_in_run run = range_with_len run.first (suc (run.last - run.first))

abbrev pub limit_fault : Result (List Slice) LimitFault → Option DaysFault
limit_fault (Ok slices) = None
limit_fault (Err fault) = Some (Limit fault)

abbrev pub days_fault : Contents → List (List ℕ) → Option DaysFault
days_fault b names = option_or (option_map (λ fault. Order (fault_of_name fault)) (first_fault b.codes [] names)) (limit_fault (slices_of b))

pub record AreRuns (b : Contents) (names : List (List ℕ)) (runs : List Run) : Type 0 where
  pub faultless : days_fault b names ≡ None
  pub days : flat_map days_in_run runs ≡ days_of b
  pub told : All (IsRun b names) runs
  pub longest : AreApart b runs

-- the set of an accepted order speaks of the codes of the book, and selects at most one variant at each position
abbrev pub FitsOutcome : Contents → ℕ → Outcome → Type 0
FitsOutcome b day (Accepted x list) = (length x ≡ length b.codes) × AreFew b day x
FitsOutcome b day (Refused rule) = Unit {0}
FitsOutcome b day (Unfit position count) = Unit {0}

abbrev pub FitsBook : Contents → Run → Type 0
FitsBook b run = FitsOutcome b run.first run.outcome
