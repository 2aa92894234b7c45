-- What is promised of a command that reads a book: one record, of which each command has one value (`promise_of`).
use Rattle.std.specs.Prelude.{◌≡◌, ℕ, Bool, List, Option}
use Rattle.pb_outside.specs.Faults.{IsLater}
use Rattle.pb_outside.specs.Files.{NamedBytes, FilesTold}
use Rattle.book_commands.specs.RunReply.{RunReply}
use Rattle.book_commands.specs.declared.log.Note.{Note}
use Rattle.book_commands.specs.declared.run_status.RunStatus.{RunStatus}

pub record Promise : Type 1 where
  -- what is answered to an input, with the files before and after
  pub replies : List ℕ → FilesTold → FilesTold → RunReply → Type 0
  -- the files failed, at a file that the command has to read
  pub fails_at_file : List ℕ → FilesTold → FilesTold → Type 0
  -- what the command leaves as it is of the files, however it ends
  pub keeps_files : FilesTold → FilesTold → Type 0
  -- the input, and what else the command reads, has no fault
  pub is_valid : List ℕ → Option (List NamedBytes) → Type 0
  -- the statuses of its replies, whatever was read
  pub is_status : RunStatus → Type 0
  -- the statuses of its replies where what it reads has no fault, with these notes in the log
  pub is_answer : RunStatus → List Note → Type 0
  -- done says that the book can be released
  pub tells_release : Bool
  -- refused says that it can't be
  pub tells_refusal : Bool
  -- the budget leaves nothing of this input, with these files
  pub is_ample : List ℕ → Option (List NamedBytes) → Type 0

-- ---- a command that reads no file

-- the reply is such an answer to the input alone, and no file was touched
pub record RepliesAlone (IsAnswer : RunReply → Type 0) (files files' : FilesTold) (reply : RunReply) : Type 0 where
  pub is_answer : IsAnswer reply
  pub untouched : files' ≡ files

abbrev pub fails_nowhere : List ℕ → FilesTold → FilesTold → Type 0
fails_nowhere input files files' = ⊥

abbrev pub touches_nothing : FilesTold → FilesTold → Type 0
touches_nothing files files' = files' ≡ files

-- ---- one that reads a file

-- the files stay as they are, and may have been read
pub record ReadsFiles (files files' : FilesTold) : Type 0 where
  pub same : files'.files ≡ files.files
  pub later : IsLater files.faults files'.faults

-- ---- one of which nothing is said of budgets

abbrev pub never_ample : List ℕ → Option (List NamedBytes) → Type 0
never_ample input files = ⊥
