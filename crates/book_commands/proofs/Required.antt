-- An ample budget leaves nothing of requirements.
use Rattle.std.proofs.Common.{◌≡◌, ◌∙◌, ℕ, ◌<◌, ◌≤◌, ◌^◌, Bool, true, false, ◌&&◌, ◌||◌, List, [], ◌∷◌, Option, None, Some, Result, Ok, Err, length, map, refl, ap, subst, arith, inl, inr}
use Rattle.std.specs.Prelude.{IfOk, IsSomeAnd, if◌then◌else◌}
use Rattle.std.specs.List.{AllByRecursion, AllZip, list_any}
use Rattle.std.proofs.lemmas.Bool.{or_parts, true≢false}
use Rattle.book_model.specs.Contents.{Contents}
use Rattle.book_model.specs.declared.record.Slice.{Slice}
use Rattle.book_text.specs.BookText.{book_of}
use Rattle.book_text.specs.declared.fault.BookFault.{BookFault}
use Rattle.book_text.proofs.BookLaw.{book_of-book}
use Rattle.clausify.proofs.ListLaws.{all_weaker}
use Rattle.clausify.specs.Coded.{usages_start}
use Rattle.clausify.specs.Formulas.{formula_literal}
use Rattle.findings.proofs.LeftLaws.{IsDayOf}
use Rattle.kept_requirements.specs.Kept.{broken_rule, meant_rules}
use Rattle.kept_requirements.specs.Notes.{IsCell, IsMeant, IsPart, IsReport, OwnNotes, added, extended, extends, idle_or, is_failing, is_left, is_undecided, is_unmet, note_of, present, runs_of, runs_on, told_by, undecided_on, with_run}
use Rattle.kept_requirements.specs.declared.cells.Part.{Part}
use Rattle.kept_requirements.specs.declared.note.RequirementNote.{RequirementNote}
use Rattle.kept_requirements.specs.declared.note.RequirementNote.TheVariants.{Fails, Idle, Undecided}
use Rattle.pb_base.specs.Rule.{Rule}
use Rattle.pb_base.specs.declared.limits.TheConstants.{MOST_TEXT_BYTES}
use Rattle.pb_outside.specs.Files.{NamedBytes, FilesTold, content_of, within_room, ReadsFile}
use Rattle.requirements.specs.Requirements.{requirements_of}
use Rattle.requirements.specs.declared.fault.RequirementFault.{RequirementFault}
use Rattle.requirements.specs.declared.requirement.Claim.{Claim}
use Rattle.requirements.specs.declared.requirement.Claim.TheVariants.{Meets, Uses}
use Rattle.requirements.specs.declared.requirement.Requirement.{Requirement}
use Rattle.rules_met.specs.Met.{IsAnswer, IsLeftOn, asked_clauses, asked_variables as rule_variables}
use Rattle.rules_met.specs.declared.answer.RuleAnswer.{RuleAnswer}
use Rattle.rules_met.specs.declared.answer.RuleAnswer.TheVariants.{Met, NotMet, Left}
use Rattle.solver.proofs.CountLaws.{spent_within}
use Rattle.book_commands.specs.Ample.{AreRequirementsDecided, IsAmpleForFile, IsAmpleToRequire, IsDecidedOn}
use Rattle.book_commands.specs.Ends.{LeavesNothing}
use Rattle.book_commands.specs.Logged.{was_left}
use Rattle.book_commands.specs.Require.{RepliesOnBook, RepliesToRead, RepliesToRequire, RepliesToTexts, require_reply}
use Rattle.book_commands.specs.RunReply.{RunReply}
use Rattle.book_commands.specs.declared.log.Note.TheVariants.{Requirement as RequirementLogged}
use Rattle.book_commands.proofs.Nothing.{at_fault, found_status, none_parted, same_reply, slices_in_term}

-- ---- what is answered

pub never_left_on : (b : Contents) (day budget : ℕ) (f : Rule) → 3 ^ rule_variables b day (f ∷ []) < budget → IsLeftOn b day budget f → ⊥
never_left_on b day budget f ample h =
    let most : budget ≤ 3 ^ rule_variables b day (f ∷ []) =
    spent_within (rule_variables b day (f ∷ [])) (asked_clauses b day (f ∷ [])) (formula_literal (length b.codes) (usages_start b day) f ∷ []) budget h.learnt h.spent in
    absurd (omega (arith, ample, most))

decided_answer : (b : Contents) (day budget : ℕ) (f : Rule) (answer : RuleAnswer) → 3 ^ rule_variables b day (f ∷ []) < budget → IsAnswer b day budget f answer
    → is_left answer ≡ false
decided_answer b day budget f (Met x) ample h = refl
decided_answer b day budget f NotMet ample h = refl
decided_answer b day budget f Left ample h = absurd (never_left_on b day budget f ample h)

and_off : (t : Bool) → (t && false) ≡ false
and_off true = refl
and_off false = refl

-- of a claim about no part it isn't asked whether a car meets its rule
meant_decided : (b : Contents) (day budget : ℕ) (c : Claim) (meant : RuleAnswer) (parts : List Part)
    → AllByRecursion (λ f. 3 ^ rule_variables b day (f ∷ []) < budget) (meant_rules c) → IsMeant b day budget c meant
    → (is_unmet c parts && is_left meant) ≡ false
meant_decided b day budget (Meets rule) meant parts ample is = refl
meant_decided b day budget (Uses part rule) meant parts ample is =
    ap (λ t. is_unmet (Uses part rule) parts && t) (decided_answer b day budget rule meant ample.0 is) ∙ and_off (is_unmet (Uses part rule) parts)

-- ---- what is told of a slice

abbrev is_left_note : Option RequirementNote → Bool
is_left_note None = false
is_left_note (Some note) = is_undecided note

told_decided : (broken : RuleAnswer) (unmet : Bool) (id : List ℕ) (p : Part) → is_left broken ≡ false → (unmet && is_left p.meant) ≡ false
    → is_left_note (told_by broken unmet id p) ≡ false
told_decided (Met x) unmet id p decided settled = refl
told_decided NotMet unmet id p decided settled = ap (λ t. is_left_note (if t then Some (undecided_on id p) else None)) settled
told_decided Left unmet id p decided settled = absurd (true≢false decided)

part_decided : (b : Contents) (budget : ℕ) (s : Slice) (r : Requirement) (p : Part) (parts : List Part) → IsDecidedOn budget b r s.first → IsPart b budget s r p
    → is_left_note (note_of (is_unmet r.claim parts) r.id p) ≡ false
part_decided b budget s r p parts ample is =
    told_decided p.broken (is_unmet r.claim parts) r.id p (decided_answer b s.first budget (broken_rule b s.first r.claim) p.broken ample.0 is.broken)
    (meant_decided b s.first budget r.claim p.meant parts ample.1 is.meant)

cells_decided : (b : Contents) (budget : ℕ) (r : Requirement) (parts : List Part) (slices : List Slice) (cells : List (Option Part))
    → AllByRecursion (λ (s : Slice). IsDecidedOn budget b r s.first) slices → AllZip (λ s cell. IsCell b budget s r cell) slices cells
    → AllByRecursion (λ p. is_left_note (note_of (is_unmet r.claim parts) r.id p) ≡ false) (present cells)
cells_decided b budget r parts [] [] ample right = tt
cells_decided b budget r parts [] (cell ∷ cells) ample right = absurd right
cells_decided b budget r parts (s ∷ slices) [] ample right = absurd right
cells_decided b budget r parts (s ∷ slices) (None ∷ cells) ample right = cells_decided b budget r parts slices cells ample.1 right.1
cells_decided b budget r parts (s ∷ slices) (Some p ∷ cells) ample right =
    (part_decided b budget s r p parts ample.0 right.0.1, cells_decided b budget r parts slices cells ample.1 right.1)

-- ---- joined over the slices

extended_kind : (before note : RequirementNote) → is_undecided (extended before note) ≡ is_undecided before
extended_kind (Fails id first last x) note = refl
extended_kind (Undecided id first last) note = refl
extended_kind (Idle id) note = refl

joined_decided : (before note : RequirementNote) (joins : Bool) → list_any is_undecided (before ∷ []) ≡ false → is_undecided note ≡ false
    → list_any is_undecided (if joins then extended before note ∷ [] else before ∷ note ∷ []) ≡ false
joined_decided before note true none decided = ap (λ t. t || false) (extended_kind before note) ∙ none
joined_decided before note false none decided =
    ap (λ t. t || (is_undecided note || false)) (or_parts (is_undecided before) false none).0 ∙ ap (λ t. t || false) decided

added_decided : (notes : List RequirementNote) (note : RequirementNote) → list_any is_undecided notes ≡ false → is_undecided note ≡ false
    → list_any is_undecided (added notes note) ≡ false
added_decided [] note none decided = ap (λ t. t || false) decided
added_decided (before ∷ []) note none decided = joined_decided before note (extends before note) none decided
added_decided (before ∷ next ∷ more) note none decided =
    let parts = or_parts (is_undecided before) (list_any is_undecided (next ∷ more)) none in
    ap (λ t. t || list_any is_undecided (added (next ∷ more) note)) parts.0 ∙ added_decided (next ∷ more) note parts.1 decided

run_decided : (notes : List RequirementNote) (found : Option RequirementNote) → list_any is_undecided notes ≡ false → is_left_note found ≡ false
    → list_any is_undecided (with_run notes found) ≡ false
run_decided notes None none decided = none
run_decided notes (Some note) none decided = added_decided notes note none decided

runs_decided : (unmet : Bool) (id : List ℕ) (notes : List RequirementNote) (ps : List Part) → list_any is_undecided notes ≡ false
    → AllByRecursion (λ p. is_left_note (note_of unmet id p) ≡ false) ps → list_any is_undecided (runs_on unmet id notes ps) ≡ false
runs_decided unmet id notes [] none each = none
runs_decided unmet id notes (p ∷ ps) none each =
    runs_decided unmet id (with_run notes (note_of unmet id p)) ps (run_decided notes (note_of unmet id p) none each.0) each.1

idle_decided : (idle : Bool) (id : List ℕ) (notes : List RequirementNote) → list_any is_undecided notes ≡ false → list_any is_undecided (idle_or idle id notes) ≡ false
idle_decided true id notes none = refl
idle_decided false id notes none = none

own_decided : (b : Contents) (budget : ℕ) (slices : List Slice) (r : Requirement) (own : List RequirementNote)
    → AllByRecursion (λ (s : Slice). IsDecidedOn budget b r s.first) slices → OwnNotes b budget slices r own → list_any is_undecided own ≡ false
own_decided b budget slices r own ample h =
    let parts : List Part = present h.cells in
    ap (list_any is_undecided) h.lines
    ∙ idle_decided _ r.id (runs_of r parts) (runs_decided (is_unmet r.claim parts) r.id [] parts refl (cells_decided b budget r parts slices h.cells ample h.right))

notes_decided : (b : Contents) (budget : ℕ) (rs : List Requirement) (notes : List RequirementNote) → b.first ≤ b.last → AreRequirementsDecided budget b rs
    → IsReport b budget rs notes → list_any is_undecided notes ≡ false
notes_decided b budget rs notes term ample h =
    none_parted (OwnNotes b budget h.slices) is_undecided rs notes
    (all_weaker (λ (r : Requirement). (day : ℕ) → b.first ≤ day → day ≤ b.last → IsDecidedOn budget b r day)
    (λ (r : Requirement). (own : List RequirementNote) → OwnNotes b budget h.slices r own → list_any is_undecided own ≡ false)
    (λ r above own is. own_decided b budget h.slices r own
    (all_weaker (λ (s : Slice). IsDayOf b s.first) (λ (s : Slice). IsDecidedOn budget b r s.first) (λ s day. above s.first day.0 day.1) h.slices
    (slices_in_term b h.slices term h.within)) is) rs ample) h.each

-- ---- replies

notes_logged : (notes : List RequirementNote) → list_any was_left (map RequirementLogged notes) ≡ list_any is_undecided notes
notes_logged [] = refl
notes_logged (note ∷ notes) = ap (λ (later : Bool). is_undecided note || later) (notes_logged notes)

read_nothing : (b : Contents) (read : Result (List Requirement) RequirementFault) (budget : ℕ) (reply : RunReply) → b.first ≤ b.last
    → IfOk read (AreRequirementsDecided budget b) → RepliesToRead b read budget reply → LeavesNothing reply
read_nothing b (Ok rs) budget reply term ample (inl right) =
    let none : list_any is_undecided right.notes ≡ false = notes_decided b budget rs right.notes term ample right.is_right in
    same_reply (require_reply b budget right.notes) reply right.answer
    (record { none = notes_logged right.notes ∙ none; decided = found_status (list_any is_failing right.notes) (list_any is_undecided right.notes) none })
read_nothing b (Ok rs) budget reply term ample (inr limit) = at_fault _ reply limit.answer refl refl
read_nothing b (Err fault) budget reply term ample h = at_fault _ reply h refl refl

texts_nothing : (input : List ℕ) (book : Result Contents BookFault) (stated : List ℕ) (fits : Bool) (content : Option (List ℕ)) (budget : ℕ) (reply : RunReply)
    → book_of input ≡ book → IfOk book (λ b. IfOk (requirements_of b stated) (AreRequirementsDecided budget b)) → content ≡ (if fits then Some stated else None)
    → RepliesToTexts book content budget reply → LeavesNothing reply
texts_nothing input (Ok b) stated true content budget reply e ample read h =
    read_nothing b (requirements_of b stated) budget reply (book_of-book input b e).term ample
    (subst (λ (c : Option (List ℕ)). RepliesOnBook b c budget reply) read h)
texts_nothing input (Ok b) stated false content budget reply e ample read h =
    at_fault _ reply (subst (λ (c : Option (List ℕ)). RepliesOnBook b c budget reply) read h) refl refl
texts_nothing input (Err fault) stated fits content budget reply e ample read h = at_fault _ reply h refl refl

file_nothing : (input : List ℕ) (found : Option (List ℕ)) (budget : ℕ) (content : Option (List ℕ)) (reply : RunReply)
    → IsSomeAnd found (IsAmpleToRequire budget input) → IsSomeAnd found (λ text. content ≡ within_room MOST_TEXT_BYTES text)
    → RepliesToTexts (book_of input) content budget reply → LeavesNothing reply
file_nothing input None budget content reply ample read h = absurd ample
file_nothing input (Some text) budget content reply ample read h = texts_nothing input (book_of input) text _ content budget reply refl ample read h

files_nothing : (input file : List ℕ) (files : Option (List NamedBytes)) (budget : ℕ) (content : Option (List ℕ)) (reply : RunReply)
    → IsAmpleForFile (IsAmpleToRequire budget) file input files → ReadsFile file MOST_TEXT_BYTES files content
    → RepliesToTexts (book_of input) content budget reply → LeavesNothing reply
files_nothing input file None budget content reply ample read h = absurd ample
files_nothing input file (Some all) budget content reply ample read h = file_nothing input (content_of all file) budget content reply ample read h

pub require_nothing : (input file : List ℕ) (budget : ℕ) (files files' : FilesTold) (reply : RunReply)
    → IsAmpleForFile (IsAmpleToRequire budget) file input files.files → RepliesToRequire input file budget files files' reply → LeavesNothing reply
require_nothing input file budget files files' reply ample h = files_nothing input file files.files budget h.content reply ample h.read h.answer
