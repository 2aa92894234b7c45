-- The book of a file, and the statuses of what is told in its place.
use Rattle.std.proofs.Common.{◌≡◌, ◌∙◌, ℕ, List, Bool, cond, inl, inr, refl, sym, ap, subst}
use Rattle.std.specs.Prelude.{Option, None, Some, Result, Ok, Err, IfOk, IfSome, IsSomeAnd}
use Rattle.pb_base.specs.declared.answer.Memory.{Memory}
use Rattle.pb_base.specs.declared.limits.TheConstants.{DEFAULT_BUDGET, MOST_TEXT_BYTES}
use Rattle.book_model.specs.Contents.{Contents}
use Rattle.book_text.specs.BookText.{book_of}
use Rattle.pb_outside.specs.Files.{NamedBytes, FilesTold, content_of, ReadsFile, within_room}
use Rattle.release_check.specs.NotReleased.{IsRefusal}
use Rattle.release_check.specs.declared.not_released.NotReleased.{NotReleased}
use Rattle.book_commands.specs.BookFile.{RepliesToContent, IsBookOf, HasBook, kept_back, no_memory, IsBookFile, IsKeptBackStatus, IsBookText, IsValidBook}
use Rattle.book_commands.specs.Checks.{kept_back_reply}
use Rattle.book_commands.specs.CompareReply.{IsKeptBack, IsReleased}
use Rattle.book_commands.specs.Ends.{IsCheckStatus, EndsCheck}
use Rattle.book_commands.specs.RunReply.{RunReply}
use Rattle.book_commands.specs.declared.book_file.BookFile.{BookFile}
use Rattle.book_commands.specs.declared.book_file.BookFile.TheVariants.{Released, KeptBack}
use Rattle.book_commands.specs.declared.run_status.RunStatus.{RunStatus}
use Rattle.book_commands.specs.declared.run_status.RunStatus.TheVariants as statuses
use Rattle.book_commands.proofs.Statuses.{proof-kind, proof-answered}
use Rattle.book_commands.proofs.TextLaws.{kept_by_refusal}

pub refused_book : (text : List ℕ) (why : NotReleased) (made : Result RunReply Memory) → IsRefusal text DEFAULT_BUDGET why
    → IfOk made (λ reply. reply ≡ kept_back_reply why) → IfOk made (RepliesToContent (Some text))
refused_book text why (Ok reply) refusal is = subst (IsKeptBack text DEFAULT_BUDGET) (sym is) (kept_by_refusal text DEFAULT_BUDGET why refusal)
refused_book text why (Err wanting) refusal is = tt

released_found : (file : List ℕ) (files files' : FilesTold) (content : Option (List ℕ)) (b : Contents) → ReadsFile file MOST_TEXT_BYTES files.files content
    → files'.faults.count ≡ files.faults.count → IsSomeAnd content (λ text. IsReleased text b) → HasBook file files files' b
released_found file files files' None b read count is = absurd is
released_found file files files' (Some text) b read count is = record { text = text; read = read; count = count; released = is }

pub found_book : (file : List ℕ) (files files' : FilesTold) (content : Option (List ℕ)) (found : BookFile) → ReadsFile file MOST_TEXT_BYTES files.files content
    → files'.faults.count ≡ files.faults.count → IsBookOf content found → IsBookFile file files files' found
found_book file files files' content (Released r) read count is = released_found file files files' content r.book read count is
found_book file files files' content (KeptBack (Ok reply)) read count is = kept_back content read count is
found_book file files files' content (KeptBack (Err wanting)) read count is = no_memory refl

-- ---- statuses

not_done : (status : RunStatus) → IsCheckStatus status → (status ≡ statuses.Done → ⊥) → IsKeptBackStatus status
not_done status (inl (inl done)) kept = absurd (kept done)
not_done status (inl (inr refused)) kept = inl refused
not_done status (inr (inl left)) kept = inr (inl left)
not_done status (inr (inr faulty)) kept = inr (inr faulty)

pub content_kind : (content : Option (List ℕ)) (reply : RunReply) → RepliesToContent content reply → IsKeptBackStatus reply.status
content_kind None reply is = inr (inr (ap (λ (r : RunReply). r.status) is))
content_kind (Some text) reply kept = not_done reply.status (proof-kind (book_of text) DEFAULT_BUDGET reply kept.answer) kept.kept

-- a file that is told and there can be read
has_text : (found : Option (List ℕ)) → IsSomeAnd found IsBookText → found ≡ None → ⊥
has_text None has none = has
has_text (Some text) has none = let clash : Some text ≡ None = none in cc

pub has_file : (files : Option (List NamedBytes)) (file : List ℕ) → IsValidBook files file → IfSome files (λ all. content_of all file ≡ None) → ⊥
has_file None file has none = has
has_file (Some all) file has none = has_text (content_of all file) has none

found_text : (found content : Option (List ℕ)) → IsSomeAnd found IsBookText → IsSomeAnd found (λ text. content ≡ within_room MOST_TEXT_BYTES text) → IsSomeAnd content IsBookText
found_text None content is read = absurd is
found_text (Some text) content is read =
    let whole : within_room MOST_TEXT_BYTES text ≡ Some text = ap (λ (fits : Bool). cond fits (Some text) None) is.limit in
    subst (λ (c : Option (List ℕ)). IsSomeAnd c IsBookText) (sym (read ∙ whole)) is

pub valid_content : (files : Option (List NamedBytes)) (file : List ℕ) (content : Option (List ℕ)) → IsValidBook files file → ReadsFile file MOST_TEXT_BYTES files content → IsSomeAnd content IsBookText
valid_content None file content is read = absurd is
valid_content (Some all) file content is read = found_text (content_of all file) content is read

-- a book that keeps the limits of a check is refused, or leaves a question
pub content_answered : (content : Option (List ℕ)) (reply : RunReply) → IsSomeAnd content IsBookText → RepliesToContent content reply → EndsCheck reply.status reply.notes
content_answered None reply is replies = absurd is
content_answered (Some text) reply is replies = proof-answered (book_of text) DEFAULT_BUDGET reply is.checkable.no_fault is.checkable.limits replies.answer
