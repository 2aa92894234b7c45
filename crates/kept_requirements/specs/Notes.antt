-- What is told of requirements.
--     cells_of s rs answers   what is answered of each requirement on a slice, by the answers to the rules that are asked there
--     IsCell b budget s r cell    this is right
--     lines_of r parts        the notes on a requirement by what is answered of it on the slices where it is asked, in their sequence
--     IsReport b budget rs notes    the notes of each requirement, in order, by right answers on all slices
use Rattle.std.specs.Prelude.{◌≡◌, ℕ, ◌+◌, Bool, true, false, not, ◌&&◌, ◌||◌, ◌==◌, List, [], ◌∷◌, ◌++◌, Option, Some, None, Ok, drop, length, slice_index_or, if◌then◌else◌}
use Rattle.std.specs.List.{AllZip, list_any}
use Rattle.std.specs.Option.{option_to_list}
use Rattle.pb_base.specs.InParts.{InParts}
use Rattle.pb_base.specs.Names.{same_name}
use Rattle.book_model.specs.Contents.{Contents}
use Rattle.book_model.specs.Slices.{slices_of}
use Rattle.book_model.specs.declared.record.Slice.{Slice}
use Rattle.requirements.specs.declared.requirement.Claim.{Claim}
use Rattle.requirements.specs.declared.requirement.Claim.TheVariants.{Meets, Uses}
use Rattle.requirements.specs.declared.requirement.Requirement.{Requirement}
use Rattle.rules_met.specs.Met.{IsAnswer}
use Rattle.rules_met.specs.declared.answer.RuleAnswer.{RuleAnswer}
use Rattle.rules_met.specs.declared.answer.RuleAnswer.TheVariants.{Met, NotMet, Left}
use Rattle.kept_requirements.specs.Kept.{broken_rule, first_on, last_on, is_asked, count_on}
use Rattle.kept_requirements.specs.declared.cells.Part.{Part}
use Rattle.kept_requirements.specs.declared.note.RequirementNote.{RequirementNote}
use Rattle.kept_requirements.specs.declared.note.RequirementNote.TheVariants.{Fails, Idle, Undecided}

abbrev pub meant_of : Claim → List RuleAnswer → RuleAnswer
meant_of (Meets rule) answers = NotMet
meant_of (Uses part rule) answers = slice_index_or answers 1 NotMet

abbrev pub part_of : Slice → Requirement → List RuleAnswer → Part
part_of s r answers = record { first = first_on r s; last = last_on r s; broken = slice_index_or answers 0 NotMet; meant = meant_of r.claim answers }

-- the answers to a requirement's rules come first
abbrev pub cell_of : Slice → Requirement → List RuleAnswer → Option Part
cell_of s r answers = if is_asked r s then Some (part_of s r answers) else None

abbrev pub cells_of : Slice → List Requirement → List RuleAnswer → List (Option Part)
cells_of s [] answers = []
cells_of s (r ∷ rs) answers = cell_of s r answers ∷ cells_of s rs (drop (count_on r s) answers)

-- of a claim about a part it is answered whether a car meets its rule
abbrev pub IsMeant : Contents → ℕ → ℕ → Claim → RuleAnswer → Type 0
IsMeant b day budget (Meets rule) answer = Unit {0}
IsMeant b day budget (Uses part rule) answer = IsAnswer b day budget rule answer

-- what is answered on the first day of a slice, which is answered on all its days
pub record IsPart (b : Contents) (budget : ℕ) (s : Slice) (r : Requirement) (p : Part) : Type 0 where
  pub first : p.first ≡ first_on r s
  pub last : p.last ≡ last_on r s
  pub broken : IsAnswer b s.first budget (broken_rule b s.first r.claim) p.broken
  pub meant : IsMeant b s.first budget r.claim p.meant

abbrev pub IsCell : Contents → ℕ → Slice → Requirement → Option Part → Type 0
IsCell b budget s r None = is_asked r s ≡ false
IsCell b budget s r (Some p) = (is_asked r s ≡ true) × IsPart b budget s r p

abbrev pub IsRow : Contents → ℕ → List Requirement → Slice → List (Option Part) → Type 0
IsRow b budget rs s row = AllZip (IsCell b budget s) rs row

-- whether a car was found that meets the rule
abbrev pub is_met : RuleAnswer → Bool
is_met (Met x) = true
is_met NotMet = false
is_met Left = false

abbrev pub is_left : RuleAnswer → Bool
is_left (Met x) = false
is_left NotMet = false
is_left Left = true

abbrev pub is_meant : Part → Bool
is_meant p = is_met p.broken || is_met p.meant

abbrev pub is_about_part : Claim → Bool
is_about_part (Meets rule) = false
is_about_part (Uses part rule) = true

-- it is not yet shown that the requirement asks something
abbrev pub is_unmet : Claim → List Part → Bool
is_unmet c parts = is_about_part c && not (list_any is_meant parts)

abbrev pub undecided_on : List ℕ → Part → RequirementNote
undecided_on id p = Undecided id p.first p.last

-- what is told of the days of a slice
abbrev pub told_by : RuleAnswer → Bool → List ℕ → Part → Option RequirementNote
told_by (Met x) unmet id p = Some (Fails id p.first p.last x)
told_by Left unmet id p = Some (undecided_on id p)
told_by NotMet unmet id p = if unmet && is_left p.meant then Some (undecided_on id p) else None

abbrev pub note_of : Bool → List ℕ → Part → Option RequirementNote
note_of unmet id p = told_by p.broken unmet id p

abbrev pub touches : ℕ → ℕ → Bool
touches last first = last + 1 == first

-- both are of one kind, and the one goes on where the other ends
abbrev pub extends : RequirementNote → RequirementNote → Bool
extends (Fails i f last x) (Fails j first l y) = touches last first
extends (Undecided i f last) (Undecided j first l) = touches last first
extends _ _ = false

abbrev pub last_day : RequirementNote → ℕ → ℕ
last_day (Fails i f last x) other = last
last_day (Undecided i f last) other = last
last_day (Idle i) other = other

-- the days of both, with the car of the first
abbrev pub extended : RequirementNote → RequirementNote → RequirementNote
extended (Fails id first last x) note = Fails id first (last_day note last) x
extended (Undecided id first last) note = Undecided id first (last_day note last)
extended (Idle id) note = Idle id

-- the notes and one more, which joins the last where it can
abbrev pub added : List RequirementNote → RequirementNote → List RequirementNote
added [] note = note ∷ []
added (before ∷ []) note = if extends before note then extended before note ∷ [] else before ∷ note ∷ []
added (before ∷ next ∷ more) note = before ∷ added (next ∷ more) note

abbrev pub with_run : List RequirementNote → Option RequirementNote → List RequirementNote
with_run notes None = notes
with_run notes (Some note) = added notes note

abbrev pub runs_on : Bool → List ℕ → List RequirementNote → List Part → List RequirementNote
runs_on unmet id notes [] = notes
runs_on unmet id notes (p ∷ ps) = runs_on unmet id (with_run notes (note_of unmet id p)) ps

abbrev pub is_none : {X : Type 0} → List X → Bool
is_none xs = length xs == 0

-- a requirement without a day in the term is idle, and one about a part, too, where no car of any of its days meets its rule
abbrev pub idle_or : Bool → List ℕ → List RequirementNote → List RequirementNote
idle_or idle id notes = if idle then Idle id ∷ [] else notes

abbrev pub runs_of : Requirement → List Part → List RequirementNote
runs_of r parts = runs_on (is_unmet r.claim parts) r.id [] parts

abbrev pub lines_of : Requirement → List Part → List RequirementNote
lines_of r parts = idle_or (is_none parts || (is_unmet r.claim parts && is_none (runs_of r parts))) r.id (runs_of r parts)

-- the cells that are not empty
abbrev pub present : List (Option Part) → List Part
present [] = []
present (cell ∷ cells) = option_to_list cell ++ present cells

-- those of the requirement at a place
abbrev pub parts_at : List (List (Option Part)) → ℕ → List Part
parts_at [] place = []
parts_at (row ∷ rows) place = option_to_list (slice_index_or row place None) ++ parts_at rows place

-- a requirement's notes are those of right answers on all slices
pub record OwnNotes (b : Contents) (budget : ℕ) (slices : List Slice) (r : Requirement) (own : List RequirementNote) : Type 0 where
  pub cells : List (Option Part)
  pub right : AllZip (λ s cell. IsCell b budget s r cell) slices cells
  pub lines : own ≡ lines_of r (present cells)

pub record IsReport (b : Contents) (budget : ℕ) (rs : List Requirement) (notes : List RequirementNote) : Type 0 where
  pub slices : List Slice
  pub within : slices_of b ≡ Ok slices
  pub each : InParts (OwnNotes b budget slices) rs notes

abbrev pub is_failing : RequirementNote → Bool
is_failing (Fails id first last car) = true
is_failing (Idle id) = false
is_failing (Undecided id first last) = false

abbrev pub is_undecided : RequirementNote → Bool
is_undecided (Fails id first last car) = false
is_undecided (Idle id) = false
is_undecided (Undecided id first last) = true

-- how many requirements fail; the notes on one stand together
abbrev pub is_same : Option (List ℕ) → List ℕ → Bool
is_same None id = false
is_same (Some other) id = same_name other id

abbrev pub further : Option (List ℕ) → RequirementNote → ℕ
further before (Fails id first last car) = if is_same before id then 0 else 1
further before (Idle id) = 0
further before (Undecided id first last) = 0

abbrev pub last_failing : Option (List ℕ) → RequirementNote → Option (List ℕ)
last_failing before (Fails id first last car) = Some id
last_failing before (Idle id) = before
last_failing before (Undecided id first last) = before

abbrev pub failing_behind : Option (List ℕ) → List RequirementNote → ℕ
failing_behind before [] = 0
failing_behind before (note ∷ notes) = further before note + failing_behind (last_failing before note) notes

abbrev pub failing : List RequirementNote → ℕ
failing notes = failing_behind None notes
