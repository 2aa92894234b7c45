-- The text that tells what changes. Runs of which the same is told, but for the cars, are told once, at the place of the first.
--     run_lines first second budget r    the lines of a run, without its days
--     days_like r later       the days of a run and of those behind it that have the same lines; where they touch, they are joined
--     block_text .. before r later    the days and the lines of a run, unless they stand at one before it
--     findings_in r           how many of its lines are a car that is lost or won, other added codes, or a position that differs
--     changes_text first second budget runs    all blocks, and how many such lines stand in them
use Rattle.std.specs.Prelude.{ℕ, ◌+◌, Bool, true, false, ◌||◌, ◌==◌, List, [], ◌∷◌, ◌++◌, Option, None, Some, codes, length, map, filter, if◌then◌else◌}
use Rattle.std.specs.List.{flat_map, list_any}
use Rattle.std.specs.Fmt.{decimal}
use Rattle.book_model.specs.Contents.{Contents}
use Rattle.book_model.specs.Slices.{days_from_to}
use Rattle.book_model.specs.declared.record.Slice.{Slice}
use Rattle.chosen_parts.specs.declared.part_use.PartUse.{PartUse}
use Rattle.pb_base.specs.Lines.{line, number_behind}
use Rattle.pb_base.specs.NamesText.{names_from}
use Rattle.book_compare.specs.CompareText.{name_behind}
use Rattle.lost_cars.specs.declared.note.Cause.{Cause}
use Rattle.lost_cars.specs.declared.note.Cause.TheVariants.{Entry, Code}
use Rattle.lost_cars.specs.declared.note.LossNote.{LossNote}
use Rattle.lost_cars.specs.declared.note.LossNote.TheVariants as loss
use Rattle.book_changes.specs.Alike.{same_lines, told_before}
use Rattle.book_changes.specs.declared.run.Common.{Common}
use Rattle.book_changes.specs.declared.run.Common.TheVariants as common
use Rattle.book_changes.specs.declared.run.DifferNote.{DifferNote}
use Rattle.book_changes.specs.declared.run.DifferNote.TheVariants as differ
use Rattle.book_changes.specs.declared.run.RunNotes.{RunNotes}

abbrev pub cause_text : Cause → List ℕ
cause_text (Entry id) = id
cause_text (Code name) = codes "code " ++ name

abbrev pub with_text : List (List ℕ) → List ℕ
with_text names = codes " with" ++ flat_map name_behind names

-- a search is left when as many clauses have been learnt as the budget allows
abbrev pub after_text : ℕ → List ℕ
after_text budget = codes " after" ++ number_behind budget

-- behind the word `lost ` or `won `, of a car of the book with these codes
abbrev pub loss_line : List ℕ → List (List ℕ) → ℕ → LossNote → List ℕ
loss_line word own budget (loss.Lost cause x) = line (word ++ cause_text cause ++ codes " with" ++ names_from 0 x own)
loss_line word own budget (loss.Undecided cause) = line (codes "undecided " ++ word ++ cause_text cause ++ after_text budget)

abbrev pub use_text : Option PartUse → List ℕ
use_text None = codes " -"
use_text (Some u) = codes " " ++ u.part ++ codes " x" ++ decimal u.quantity

abbrev pub differ_line : ℕ → DifferNote → List ℕ
differ_line budget (differ.Differs position names has next) =
    line (codes "differs " ++ position ++ with_text names ++ codes " has" ++ use_text has ++ codes " next" ++ use_text next)
differ_line budget (differ.Undecided position) = line (codes "undecided differs " ++ position ++ after_text budget)

abbrev pub common_line : ℕ → Common → List ℕ
common_line budget common.Shared = []
common_line budget common.Nowhere = line (codes "no common car")
common_line budget common.Undecided = line (codes "undecided common" ++ after_text budget)

abbrev pub added_line : Bool → List ℕ
added_line added = if added then line (codes "added") else []

abbrev pub run_lines : Contents → Contents → ℕ → RunNotes → List ℕ
run_lines first second budget r =
    common_line budget r.common ++ flat_map (loss_line (codes "lost ") first.codes budget) r.lost.items
    ++ flat_map (loss_line (codes "won ") second.codes budget) r.won.items
    ++ added_line r.added ++ flat_map (differ_line budget) r.differs.items

-- the one day comes next after the other
abbrev pub touches : ℕ → ℕ → Bool
touches last first = last + 1 == first

abbrev pub joined_from : Slice → List Slice → List Slice
joined_from s [] = s ∷ []
joined_from s (t ∷ ts) = if touches s.last t.first then joined_from (days_from_to s.first t.last) ts else s ∷ joined_from t ts

abbrev pub days_behind : RunNotes → Slice → List RunNotes → List Slice
days_behind r pending later = joined_from pending (map (λ s. s.days) (filter (same_lines r) later))

abbrev pub days_like : RunNotes → List RunNotes → List Slice
days_like r later = days_behind r r.days later

abbrev pub pair_text : Slice → List ℕ
pair_text s = number_behind s.first ++ number_behind s.last

abbrev pub days_line : List Slice → List ℕ
days_line ss = line (codes "days" ++ flat_map pair_text ss)

abbrev pub block_text : Contents → Contents → ℕ → List RunNotes → RunNotes → List RunNotes → List ℕ
block_text first second budget before r later = if told_before r before then [] else (days_line (days_like r later) ++ run_lines first second budget r)

-- of these runs, which stand behind those before
abbrev pub blocks_text : Contents → Contents → ℕ → List RunNotes → List RunNotes → List ℕ
blocks_text first second budget before [] = []
blocks_text first second budget before (r ∷ rs) = block_text first second budget before r rs ++ blocks_text first second budget (before ++ r ∷ []) rs

abbrev pub is_loss : LossNote → Bool
is_loss (loss.Lost cause x) = true
is_loss (loss.Undecided cause) = false

abbrev pub is_left_loss : LossNote → Bool
is_left_loss (loss.Lost cause x) = false
is_left_loss (loss.Undecided cause) = true

abbrev pub is_difference : DifferNote → Bool
is_difference (differ.Differs position names has next) = true
is_difference (differ.Undecided position) = false

abbrev pub is_left_difference : DifferNote → Bool
is_left_difference (differ.Differs position names has next) = false
is_left_difference (differ.Undecided position) = true

abbrev pub is_nowhere : Common → Bool
is_nowhere common.Shared = false
is_nowhere common.Nowhere = true
is_nowhere common.Undecided = false

abbrev pub is_left_common : Common → Bool
is_left_common common.Shared = false
is_left_common common.Nowhere = false
is_left_common common.Undecided = true

abbrev pub losses_in : List LossNote → ℕ
losses_in notes = length (filter is_loss notes)

abbrev pub differences_in : List DifferNote → ℕ
differences_in notes = length (filter is_difference notes)

abbrev pub one_if : Bool → ℕ
one_if added = if added then 1 else 0

abbrev pub findings_in : RunNotes → ℕ
findings_in r = losses_in r.lost.items + losses_in r.won.items + one_if r.added + differences_in r.differs.items

abbrev pub told_once : List RunNotes → RunNotes → ℕ
told_once before r = if told_before r before then 0 else findings_in r

abbrev pub told_behind : List RunNotes → List RunNotes → ℕ
told_behind before [] = 0
told_behind before (r ∷ rs) = told_once before r + told_behind (before ++ r ∷ []) rs

abbrev pub end_line : List RunNotes → List ℕ
end_line runs = line (codes "end" ++ number_behind (told_behind [] runs))

abbrev pub changes_text : Contents → Contents → ℕ → List RunNotes → List ℕ
changes_text first second budget runs = blocks_text first second budget [] runs ++ end_line runs

-- something changes: a line of a car that is lost or won, of added codes, of a position that differs, or that no car is one of both
abbrev pub is_changed : RunNotes → Bool
is_changed r = is_nowhere r.common || list_any is_loss r.lost.items || list_any is_loss r.won.items || r.added || list_any is_difference r.differs.items

-- something was left
abbrev pub is_undecided : RunNotes → Bool
is_undecided r =
    is_left_common r.common || list_any is_left_loss r.lost.items || list_any is_left_loss r.won.items || list_any is_left_difference r.differs.items
