-- The book that a file is, certified, or what is told in its place.
--     HasBook file files files' b          the file was read, and its text is this book, which can be released
--     RepliesToFile file files files' reply    what is told where that isn't so
--     IsValidBook files file               the file is told, there and has the text of a book that keeps the limits of a check
use Rattle.std.specs.Prelude.{◌≡◌, ◌⊎◌, ℕ, List, Option, None, Some, IfOk, IsSomeAnd, IsTrue, length, nat_le}
use Rattle.pb_base.specs.declared.limits.TheConstants.{DEFAULT_BUDGET, MOST_TEXT_BYTES}
use Rattle.book_model.specs.Contents.{Contents}
use Rattle.book_text.specs.BookText.{book_of}
use Rattle.pb_outside.specs.Files.{NamedBytes, FilesTold, content_of, ReadsFile, FailsToRead}
use Rattle.book_commands.specs.Checks.{IsCheckable}
use Rattle.book_commands.specs.CompareReply.{IsKeptBack, IsReleased, text_too_large}
use Rattle.book_commands.specs.RunReply.{RunReply, book_fault_reply, due_of, memory_reply, read_fault_reply}
use Rattle.book_commands.specs.declared.book_file.BookFile.{BookFile}
use Rattle.book_commands.specs.declared.book_file.BookFile.TheVariants.{Released, KeptBack}
use Rattle.book_commands.specs.declared.object.Object.TheVariants.{Files}
use Rattle.book_commands.specs.declared.run_status.RunStatus.{RunStatus}
use Rattle.book_commands.specs.declared.run_status.RunStatus.TheVariants as statuses

-- of a file that is too long there is no text
abbrev pub RepliesToContent : Option (List ℕ) → RunReply → Type 0
RepliesToContent None reply = reply ≡ book_fault_reply text_too_large
RepliesToContent (Some text) reply = IsKeptBack text DEFAULT_BUDGET reply

abbrev pub IsBookOf : Option (List ℕ) → BookFile → Type 0
IsBookOf content (Released r) = IsSomeAnd content (λ text. IsReleased text r.book)
IsBookOf content (KeptBack made) = IfOk made (RepliesToContent content)

pub record HasBook (file : List ℕ) (files files' : FilesTold) (b : Contents) : Type 0 where
  pub text : List ℕ
  pub read : ReadsFile file MOST_TEXT_BYTES files.files (Some text)
  pub count : files'.faults.count ≡ files.faults.count
  pub released : IsReleased text b

pub data RepliesToFile (file : List ℕ) (files files' : FilesTold) (reply : RunReply) : Type 0 where
  unread : FailsToRead file files files' → reply ≡ read_fault_reply Files files.faults.count files'.faults.count → RepliesToFile file files files' reply
  kept_back : (content : Option (List ℕ)) → ReadsFile file MOST_TEXT_BYTES files.files content → files'.faults.count ≡ files.faults.count
      → RepliesToContent content reply → RepliesToFile file files files' reply
  no_memory : reply ≡ memory_reply → RepliesToFile file files files' reply

abbrev pub IsBookFile : List ℕ → FilesTold → FilesTold → BookFile → Type 0
IsBookFile file files files' (Released r) = HasBook file files files' r.book
IsBookFile file files files' (KeptBack made) = RepliesToFile file files files' (due_of made)

-- the statuses in which a book is kept back
abbrev pub IsKeptBackStatus : RunStatus → Type 0
IsKeptBackStatus status = (status ≡ statuses.Refused) ⊎ (status ≡ statuses.Undecided) ⊎ (status ≡ statuses.Faulty)

pub record IsBookText (text : List ℕ) : Type 0 where
  pub limit : IsTrue (nat_le (length text) MOST_TEXT_BYTES)
  pub checkable : IsCheckable (book_of text)

abbrev pub IsValidBook : Option (List NamedBytes) → List ℕ → Type 0
IsValidBook files file = IsSomeAnd files (λ all. IsSomeAnd (content_of all file) IsBookText)
