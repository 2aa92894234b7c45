-- What changes from one book to the next, in each run of days of both terms on which neither changes.
--     IsAnyCommon first second day budget common    whether some set of names is a car of both
--     IsRun first second budget r notes     what is told of a run of days
--     IsChanges first second budget notes   of all runs, in order of days
use Rattle.std.specs.Prelude.{◌≡◌, ℕ, not, List, [], IsTrue, Ok}
use Rattle.std.specs.List.{AllZip}
use Rattle.book_model.specs.Activity.{is_within}
use Rattle.book_model.specs.Contents.{Contents}
use Rattle.book_model.specs.Slices.{slices_of}
use Rattle.book_model.specs.declared.record.Slice.{Slice}
use Rattle.pb_base.specs.NamedSet.{named}
use Rattle.chosen_parts.specs.Chosen.{HaveSameParts}
use Rattle.firing_sequence.specs.Sequence.{same_sequences}
use Rattle.lost_cars.specs.CommonCar.{IsCommonCar, IsCommonLeft}
use Rattle.lost_cars.specs.Losses.{AreLosses, KeepsCars, IsCar}
use Rattle.book_changes.specs.Days.{joint_runs}
use Rattle.book_changes.specs.Differs.{AreDifferences}
use Rattle.book_changes.specs.declared.run.Common.{Common}
use Rattle.book_changes.specs.declared.run.Common.TheVariants.{Shared, Nowhere, Undecided}
use Rattle.book_changes.specs.declared.run.RunNotes.{RunNotes}

abbrev pub IsAnyCommon : Contents → Contents → ℕ → ℕ → Common → Type 0
IsAnyCommon first second day budget Shared = (names : List (List ℕ)) × IsCommonCar first second day names
IsAnyCommon first second day budget Nowhere = (names : List (List ℕ)) → IsCommonCar first second day names → ⊥
IsAnyCommon first second day budget Undecided = IsCommonLeft first second day budget

abbrev pub KeepsThrough : Contents → Contents → Slice → Type 0
KeepsThrough own other r = (day : ℕ) → IsTrue (is_within r.first r.last day) → KeepsCars own other day

-- a car of the first book gets by the second the parts that it gets by the first
abbrev pub HaveSameOn : Contents → Contents → ℕ → Type 0
HaveSameOn first second day = (names : List (List ℕ)) → IsCar first day names → HaveSameParts first second day (named first.codes names) (named second.codes names)

abbrev pub HaveSameThrough : Contents → Contents → Slice → Type 0
HaveSameThrough first second r = (day : ℕ) → IsTrue (is_within r.first r.last day) → HaveSameOn first second day

pub record IsRun (first second : Contents) (budget : ℕ) (r : Slice) (notes : RunNotes) : Type 0 where
  pub days : notes.days ≡ r
  pub common : IsAnyCommon first second r.first budget notes.common
  pub lost : AreLosses first second r.first budget notes.lost.items
  pub won : AreLosses second first r.first budget notes.won.items
  pub added : notes.added ≡ not (same_sequences first second r.first)
  pub differ : AreDifferences first second r.first budget notes.differs.items
  -- without a car that is lost, and with nothing undecided of them, each car of the first book on these days is one of the second
  pub keeps : notes.lost.items ≡ [] → KeepsThrough first second r
  pub wins_none : notes.won.items ≡ [] → KeepsThrough second first r
  -- and without one at which parts differ besides, a car of the first book has the same parts by both
  pub same_parts : notes.lost.items ≡ [] → notes.differs.items ≡ [] → HaveSameThrough first second r

pub record IsChanges (first second : Contents) (budget : ℕ) (notes : List RunNotes) : Type 0 where
  pub first_slices : List Slice
  pub second_slices : List Slice
  pub of_first : slices_of first ≡ Ok first_slices
  pub of_second : slices_of second ≡ Ok second_slices
  pub each : AllZip (IsRun first second budget) (joint_runs first_slices second_slices) notes
