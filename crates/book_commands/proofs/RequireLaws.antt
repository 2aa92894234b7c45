-- The statuses of the replies to `require`, and its answers.
use Rattle.std.proofs.Common.{◌≡◌, ◌∙◌, inl, inr, ℕ, Bool, true, false, cond, List, [], Result, Ok, Err, refl, sym, subst, ap}
use Rattle.std.specs.Prelude.{Option, None, Some, IsOk, IfOk, IfSome, IsSomeAnd, if◌then◌else◌}
use Rattle.std.specs.List.{list_any}
use Rattle.book_model.specs.Contents.{Contents}
use Rattle.book_model.specs.Slices.{slices_of}
use Rattle.book_model.specs.declared.record.Slice.{Slice}
use Rattle.book_model.specs.declared.slicing.LimitFault.{LimitFault}
use Rattle.book_text.specs.BookText.{book_of}
use Rattle.book_text.specs.declared.fault.BookFault.{BookFault}
use Rattle.kept_requirements.specs.Notes.{IsReport, is_failing, is_undecided}
use Rattle.kept_requirements.specs.declared.note.RequirementNote.{RequirementNote}
use Rattle.pb_base.specs.declared.limits.TheConstants.{MOST_TEXT_BYTES}
use Rattle.pb_outside.specs.Files.{NamedBytes, FilesTold, content_of, ReadsFile, within_room}
use Rattle.requirements.specs.Requirements.{requirements_of}
use Rattle.requirements.specs.declared.fault.RequirementFault.{RequirementFault}
use Rattle.requirements.specs.declared.requirement.Requirement.{Requirement}
use Rattle.book_commands.specs.Ends.{IsCheckStatus}
use Rattle.book_commands.specs.Require.{AreAskable, EndsRequire, IsCheckReply, IsValidRequire, RepliesOnBook, RepliesToRead, RepliesToRequire, RepliesToTexts, require_reply, require_status}
use Rattle.book_commands.specs.RunReply.{RunReply, limit_fault_reply}
use Rattle.book_commands.specs.declared.run_status.RunStatus.TheVariants as statuses
use Rattle.book_commands.proofs.Statuses.{same-kind}

by_both : (f u : Bool) → IsCheckStatus (cond f statuses.Refused (cond u statuses.Undecided statuses.Done)) × EndsRequire (cond f statuses.Refused (cond u statuses.Undecided statuses.Done)) []
by_both true u = (inl (inr refl), inl (inr refl))
by_both false true = (inr (inl refl), inr refl)
by_both false false = (inl (inl refl), inl (inl refl))

told_kind : (notes : List RequirementNote) → IsCheckStatus (require_status notes)
told_kind notes = (by_both (list_any is_failing notes) (list_any is_undecided notes)).0

told_end : (notes : List RequirementNote) → EndsRequire (require_status notes) []
told_end notes = (by_both (list_any is_failing notes) (list_any is_undecided notes)).1

checked-kind : (b : Contents) (rs : List Requirement) (budget : ℕ) (reply : RunReply) → IsCheckReply b rs budget reply → IsCheckStatus reply.status
checked-kind b rs budget reply (inl told) = same-kind IsCheckStatus _ reply told.answer (told_kind told.notes)
checked-kind b rs budget reply (inr limit) = same-kind IsCheckStatus _ reply limit.answer (inr (inr refl))

read-kind : (b : Contents) (read : Result (List Requirement) RequirementFault) (budget : ℕ) (reply : RunReply) → RepliesToRead b read budget reply → IsCheckStatus reply.status
read-kind b (Ok rs) budget reply h = checked-kind b rs budget reply h
read-kind b (Err fault) budget reply h = same-kind IsCheckStatus _ reply h (inr (inr refl))

book-kind : (b : Contents) (stated : Option (List ℕ)) (budget : ℕ) (reply : RunReply) → RepliesOnBook b stated budget reply → IsCheckStatus reply.status
book-kind b None budget reply h = same-kind IsCheckStatus _ reply h (inr (inr refl))
book-kind b (Some text) budget reply h = read-kind b (requirements_of b text) budget reply h

pub require-kind : (book : Result Contents BookFault) (stated : Option (List ℕ)) (budget : ℕ) (reply : RunReply) → RepliesToTexts book stated budget reply → IsCheckStatus reply.status
require-kind (Ok b) stated budget reply h = book-kind b stated budget reply h
require-kind (Err fault) stated budget reply h = same-kind IsCheckStatus _ reply h (inr (inr refl))

-- the limits are kept
no_limit : (b : Contents) (found : Result (List Slice) LimitFault) (fault : LimitFault) → IsOk found → found ≡ Err fault → ⊥
no_limit b (Ok slices) fault ok is = absurd (cc)
no_limit b (Err other) fault ok is = let clash : false ≡ true = ok in absurd (cc)

read-answered : (b : Contents) (read : Result (List Requirement) RequirementFault) (budget : ℕ) (reply : RunReply) → IsOk (slices_of b) → IsOk read → RepliesToRead b read budget reply
    → EndsRequire reply.status reply.notes
read-answered b (Ok rs) budget reply few ok (inl told) = subst (λ (r : RunReply). EndsRequire r.status r.notes) (sym told.answer) (told_end told.notes)
read-answered b (Ok rs) budget reply few ok (inr limit) = absurd (no_limit b (slices_of b) limit.fault few limit.exceeds)
read-answered b (Err fault) budget reply few ok h = let clash : false ≡ true = ok in absurd (cc)

pub require-answered : (book : Result Contents BookFault) (text : List ℕ) (budget : ℕ) (reply : RunReply) → IsOk book → IfOk book (λ b. IsOk (slices_of b)) → IfOk book (λ b. IsOk (requirements_of b text))
    → RepliesToTexts book (Some text) budget reply → EndsRequire reply.status reply.notes
require-answered (Ok b) text budget reply ok few stated h = read-answered b (requirements_of b text) budget reply few stated h
require-answered (Err fault) text budget reply ok few stated h = let clash : false ≡ true = ok in absurd (cc)

-- a right report, told
pub report_told : {E : Type 0} (b : Contents) (rs : List Requirement) (budget : ℕ) (notes : List RequirementNote) (made : Result RunReply E) → IsReport b budget rs notes
    → IfOk made (λ reply. reply ≡ require_reply b budget notes) → IfOk made (IsCheckReply b rs budget)
report_told b rs budget notes (Ok reply) right is = inl (record { notes = notes; is_right = right; answer = is })
report_told b rs budget notes (Err wanting) right is = tt

pub limit_told : {E : Type 0} (b : Contents) (rs : List Requirement) (budget : ℕ) (fault : LimitFault) (made : Result RunReply E) → slices_of b ≡ Err fault
    → IfOk made (λ reply. reply ≡ limit_fault_reply fault) → IfOk made (IsCheckReply b rs budget)
limit_told b rs budget fault (Ok reply) exceeds is = inr (record { fault = fault; exceeds = exceeds; answer = is })
limit_told b rs budget fault (Err wanting) exceeds is = tt

-- the reply by what was read
pub by_stated : {E : Type 0} (b : Contents) (budget : ℕ) (read found : Result (List Requirement) RequirementFault) (made : Result RunReply E) → read ≡ found
    → IfOk made (RepliesToRead b found budget) → IfOk made (RepliesToRead b read budget)
by_stated b budget read found made is h = subst (λ (r : Result (List Requirement) RequirementFault). IfOk made (RepliesToRead b r budget)) (sym is) h

-- the file is there, and its content is what was read
found_stated : (input : List ℕ) (found content : Option (List ℕ)) → IsSomeAnd found (AreAskable input) → IsSomeAnd found (λ text. content ≡ within_room MOST_TEXT_BYTES text)
    → IsSomeAnd content (AreAskable input)
found_stated input None content on read = absurd on
found_stated input (Some text) content on read =
    let whole : within_room MOST_TEXT_BYTES text ≡ Some text = ap (λ (fits : Bool). if fits then Some text else None) on.limit in
    subst (λ (c : Option (List ℕ)). IsSomeAnd c (AreAskable input)) (sym (read ∙ whole)) on

file_stated : (input : List ℕ) (files : Option (List NamedBytes)) (file : List ℕ) (content : Option (List ℕ)) → IsValidRequire input files file → ReadsFile file MOST_TEXT_BYTES files content
    → IsSomeAnd content (AreAskable input)
file_stated input None file content on read = absurd on
file_stated input (Some all) file content on read = found_stated input (content_of all file) content on read

content_answered : (input : List ℕ) (content : Option (List ℕ)) (budget : ℕ) (reply : RunReply) → IsSomeAnd content (AreAskable input) → RepliesToTexts (book_of input) content budget reply
    → EndsRequire reply.status reply.notes
content_answered input None budget reply on h = absurd on
content_answered input (Some text) budget reply on h = require-answered (book_of input) text budget reply on.book on.slices on.stated h

pub require-told : (input file : List ℕ) (budget : ℕ) (files files' : FilesTold) (reply : RunReply) → IsValidRequire input files.files file → RepliesToRequire input file budget files files' reply
    → EndsRequire reply.status reply.notes
require-told input file budget files files' reply valid h = content_answered input h.content budget reply (file_stated input files.files file h.content valid h.read) h.answer

has_stated_text : (input : List ℕ) (found : Option (List ℕ)) → IsSomeAnd found (AreAskable input) → found ≡ None → ⊥
has_stated_text input None has none = has
has_stated_text input (Some text) has none = cc

pub has_stated : (input : List ℕ) (files : Option (List NamedBytes)) (file : List ℕ) → IsValidRequire input files file → IfSome files (λ all. content_of all file ≡ None) → ⊥
has_stated input None file has none = has
has_stated input (Some all) file has none = has_stated_text input (content_of all file) has none
