-- A report in the log: its findings and the questions that were left, each with the place of its slice.
use Rattle.std.specs.Prelude.{ℕ, suc, ◌+◌, ◌-◌, Bool, true, false, List, [], ◌∷◌}
use Rattle.book_changes.specs.ChangesText.{is_undecided as is_left_in}
use Rattle.book_compare.specs.CompareText.{is_undecided as is_left_open}
use Rattle.findings.specs.Notes.{is_blocking}
use Rattle.findings.specs.declared.report.Note.{Note as Told}
use Rattle.findings.specs.declared.report.Note.TheVariants.{Days, Finding as FindingTold, Undecided}
use Rattle.kept_requirements.specs.Notes.{is_undecided as is_left}
use Rattle.supplement_findings.specs.Notes.{is_undecided}
use Rattle.book_commands.specs.declared.log.Note.{Note}
use Rattle.book_commands.specs.declared.log.Note.TheVariants.{Text, Order, Rule, Limit, Refused, Unfit, Finding, Spent, Cert, Supplement, Compare, Change, Requirement, Stated, Left, BadRow, Count}

-- the same of notes before which so many slices were told; a note is of the last of them
abbrev pub logged_behind : ℕ → List Told → List Note
logged_behind slices [] = []
logged_behind slices (Days first last ∷ notes) = logged_behind (slices + 1) notes
logged_behind slices (FindingTold question set ∷ notes) = Finding (slices - 1) question set ∷ logged_behind slices notes
logged_behind slices (Undecided question learnt ∷ notes) = Spent (slices - 1) question learnt ∷ logged_behind slices notes

abbrev pub logged : List Told → List Note
logged report = logged_behind 0 report

-- the number of slices of which a report tells
abbrev pub slices_told : List Told → ℕ
slices_told [] = 0
slices_told (Days first last ∷ notes) = suc (slices_told notes)
slices_told (FindingTold question set ∷ notes) = slices_told notes
slices_told (Undecided question learnt ∷ notes) = slices_told notes

-- a question that a release asks was left, or one on supplementing rules, or on a position of two books, or a search for a car
abbrev pub is_spent : Note → Bool
is_spent (Text fault) = false
is_spent (Order fault) = false
is_spent (Rule fault) = false
is_spent (Limit fault) = false
is_spent (Refused rule) = false
is_spent (Unfit position count) = false
is_spent (Finding slice question set) = false
is_spent (Spent slice question learnt) = is_blocking question
is_spent (Cert fault) = false
is_spent (Supplement note) = is_undecided note
is_spent (Compare note) = is_left_open note
is_spent (Change run) = is_left_in run
is_spent (Requirement note) = is_left note
is_spent (Stated fault) = false
is_spent (Left learnt) = true
is_spent (BadRow table place) = false
is_spent (Count which before after) = false

-- something was left, whether it blocks a release or not
abbrev pub was_left : Note → Bool
was_left (Spent slice question learnt) = true
was_left note = is_spent note
