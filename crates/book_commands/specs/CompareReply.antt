-- What the comparison of two books is answered, and what is promised of `compare` and of `changes`.
--     RepliesOver span one other budget reply    of two released books, on one day or on all days of both terms
--     IsKeptBack text budget reply       the text's book is not released, and the reply is that of a proof, which gives no certificate
--     comparison_reply notes             the notes on all positions, which stand in the log
--     RepliesToTexts first second span budget reply
--                                        the books of both texts are released, the first one first, and then compared
use Rattle.std.specs.Prelude.{◌≡◌, ◌⊎◌, ℕ, true, false, List, [], Option, None, Some, Ok, IfOk, IsSomeAnd, IsTrue, codes, length, map, nat_le, if◌then◌else◌}
use Rattle.std.specs.List.{list_any}
use Rattle.pb_base.specs.declared.limits.TheConstants.{MOST_TEXT_BYTES}
use Rattle.book_compare.specs.CompareText.{is_finding, is_undecided, compare_text}
use Rattle.book_compare.specs.Comparison.{IsComparison, outside}
use Rattle.book_compare.specs.declared.note.CompareNote.{CompareNote}
use Rattle.book_compare.specs.declared.note.Outside.{Outside}
use Rattle.book_compare.specs.declared.note.Outside.TheVariants.{First, Second}
use Rattle.book_model.specs.Activity.{is_within}
use Rattle.book_model.specs.Contents.{Contents}
use Rattle.book_model.specs.Sound.{IsReleasable}
use Rattle.book_text.specs.BookText.{book_of}
use Rattle.book_text.specs.declared.fault.BookFault.{BookFault}
use Rattle.book_text.specs.declared.fault.BookKind.TheVariants.{TooLarge}
use Rattle.pb_base.specs.Lines.{line}
use Rattle.pb_outside.specs.Files.{NamedBytes, FilesTold, content_of, ReadsFile, FailsToRead}
use Rattle.book_commands.specs.Ample.{AreChangesDecided, ArePositionsDecided, IsAmpleForBoth, IsAmpleForFile}
use Rattle.book_commands.specs.ChangesReply.{RepliesToChanges}
use Rattle.book_commands.specs.Checks.{RepliesToProof, IsCheckable}
use Rattle.book_commands.specs.Ends.{EndsCheck, IsCheckStatus}
use Rattle.book_commands.specs.Promise.{Promise, ReadsFiles}
use Rattle.book_commands.specs.Require.{EndsRequire}
use Rattle.book_commands.specs.RunReply.{RunReply, book_fault_reply}
use Rattle.book_commands.specs.declared.comparing.Span.{Span}
use Rattle.book_commands.specs.declared.comparing.Span.TheVariants.{OnDay, AllDays}
use Rattle.book_commands.specs.declared.log.Note.TheVariants.{Compare}
use Rattle.book_commands.specs.declared.run_status.RunStatus.{RunStatus}
use Rattle.book_commands.specs.declared.run_status.RunStatus.TheVariants as statuses

-- the text reads as a book that can be released
pub record IsReleased (text : List ℕ) (b : Contents) : Type 0 where
  pub reads : book_of text ≡ Ok b
  pub releasable : IsReleasable b

pub record IsKeptBack (text : List ℕ) (budget : ℕ) (reply : RunReply) : Type 0 where
  pub answer : RepliesToProof (book_of text) budget reply
  pub kept : reply.status ≡ statuses.Done → ⊥

-- a file that is longer than a book's text may be
abbrev pub text_too_large : BookFault
text_too_large = record { row = 0; kind = TooLarge }

abbrev pub outside_text : Outside → List ℕ
outside_text First = line (codes "day outside 1")
outside_text Second = line (codes "day outside 2")

-- the day is not in the term of this book
abbrev pub outside_reply : Outside → RunReply
outside_reply which = record { text = outside_text which; status = statuses.Faulty; notes = [] }

abbrev pub comparison_status : List CompareNote → RunStatus
comparison_status notes =
    if list_any is_finding notes then statuses.Refused else (if list_any is_undecided notes then statuses.Undecided else statuses.Done)

abbrev pub comparison_reply : List CompareNote → RunReply
comparison_reply notes = record { text = compare_text notes; status = comparison_status notes; notes = map Compare notes }

pub record IsComparisonReply (one other : Contents) (day budget : ℕ) (reply : RunReply) : Type 0 where
  pub notes : List CompareNote
  pub is_right : IsComparison one other day budget notes
  pub answer : reply ≡ comparison_reply notes

-- by the book in whose term the day is not, if there is one
abbrev pub RepliesByDay : Option Outside → Contents → Contents → ℕ → ℕ → RunReply → Type 0
RepliesByDay None one other day budget reply = IsComparisonReply one other day budget reply
RepliesByDay (Some which) one other day budget reply = reply ≡ outside_reply which

abbrev pub RepliesOver : Span → Contents → Contents → ℕ → RunReply → Type 0
RepliesOver (OnDay day) one other budget reply = RepliesByDay (outside one other day) one other day budget reply
RepliesOver AllDays one other budget reply = RepliesToChanges one other budget reply

-- the second text's book can be released too
pub record Compares (one : Contents) (text : List ℕ) (span : Span) (budget : ℕ) (reply : RunReply) : Type 0 where
  pub book : Contents
  pub released : IsReleased text book
  pub answer : RepliesOver span one book budget reply

-- of a second text that is too long there is nothing
abbrev pub RepliesToSecond : Contents → Option (List ℕ) → Span → ℕ → RunReply → Type 0
RepliesToSecond one None span budget reply = reply ≡ book_fault_reply text_too_large
RepliesToSecond one (Some text) span budget reply = IsKeptBack text budget reply ⊎ Compares one text span budget reply

-- the first text's book can be released
pub record ComparesFrom (first : List ℕ) (second : Option (List ℕ)) (span : Span) (budget : ℕ) (reply : RunReply) : Type 0 where
  pub book : Contents
  pub released : IsReleased first book
  pub answer : RepliesToSecond book second span budget reply

abbrev pub RepliesToTexts : List ℕ → Option (List ℕ) → Span → ℕ → RunReply → Type 0
RepliesToTexts first second span budget reply = IsKeptBack first budget reply ⊎ ComparesFrom first second span budget reply

-- the second text is the content of the file
pub record RepliesToCompare (first : List ℕ) (span : Span) (file : List ℕ) (budget : ℕ) (files files' : FilesTold) (reply : RunReply) : Type 0 where
  pub content : Option (List ℕ)
  pub read : ReadsFile file MOST_TEXT_BYTES files.files content
  pub answer : RepliesToTexts first content span budget reply
  pub count : files'.faults.count ≡ files.faults.count

-- the book has the day in its term
abbrev pub HasDays : Span → Contents → Type 0
HasDays (OnDay day) b = is_within b.first b.last day ≡ true
HasDays AllDays b = Unit {0}

-- the text is that of a book that keeps the limits of a check, and has the day in its term
pub record IsBookOn (span : Span) (text : List ℕ) : Type 0 where
  pub limit : IsTrue (nat_le (length text) MOST_TEXT_BYTES)
  pub checkable : IsCheckable (book_of text)
  pub term : IfOk (book_of text) (HasDays span)

abbrev pub HasBookOn : Span → Option (List NamedBytes) → List ℕ → Type 0
HasBookOn span files file = IsSomeAnd files (λ all. IsSomeAnd (content_of all file) (IsBookOn span))

-- so is the input, and the file is told, there and has such a text
pub record IsValidCompare (input : List ℕ) (files : Option (List NamedBytes)) (file : List ℕ) (span : Span) : Type 0 where
  pub first : IsBookOn span input
  pub second : HasBookOn span files file

abbrev pub compare_promise : ℕ → List ℕ → ℕ → Promise
compare_promise day file budget = record {
  replies = λ input. RepliesToCompare input (OnDay day) file budget;
  fails_at_file = λ input. FailsToRead file;
  keeps_files = ReadsFiles;
  is_valid = λ input files. IsValidCompare input files file (OnDay day);
  is_status = IsCheckStatus;
  is_answer = EndsCheck;
  tells_release = false;
  tells_refusal = false;
  is_ample = IsAmpleForFile (IsAmpleForBoth budget (ArePositionsDecided budget day)) file;
}

abbrev pub changes_promise : List ℕ → ℕ → Promise
changes_promise file budget = record {
  replies = λ input. RepliesToCompare input AllDays file budget;
  fails_at_file = λ input. FailsToRead file;
  keeps_files = ReadsFiles;
  is_valid = λ input files. IsValidCompare input files file AllDays;
  is_status = IsCheckStatus;
  is_answer = EndsRequire;
  tells_release = false;
  tells_refusal = false;
  is_ample = IsAmpleForFile (IsAmpleForBoth budget (AreChangesDecided budget)) file;
}
