-- What a run's status says of the book that was read, and which words ask for a desk.
use Rattle.std.specs.Prelude.{◌≡◌, ◌⊎◌, ℕ, List, Option, IfSome, IsOkAnd, IsTrue, take}
use Rattle.book_model.specs.Sound.{IsReleasable}
use Rattle.book_text.specs.BookText.{book_of}
use Rattle.command_words.specs.Parts.{Words}
use Rattle.book_commands.specs.Checks.{IsUnreleasable}
use Rattle.book_commands.specs.Inputs.{input_limit}
use Rattle.book_commands.specs.Promises.{promise_of}
use Rattle.command_words.specs.declared.task.BookCommand.{BookCommand}
use Rattle.book_commands.specs.declared.run_status.RunStatus.{RunStatus}
use Rattle.book_commands.specs.declared.run_status.RunStatus.TheVariants as statuses
use Rattle.commands.specs.Outside.{Outside}
use Rattle.command_words.specs.Service.{Service}
use Rattle.command_words.specs.Meaning.{Asks}
use Rattle.command_words.specs.declared.task.Task.TheVariants.{Book, Desk, Serve}

-- the words ask whether the book can be released
pub record AskRelease (words : Words) : Type 0 where
  pub command : BookCommand
  pub asked : Asks words (Book command)
  pub whether : IsTrue (promise_of command).tells_release

-- the words ask what keeps the book from its release
pub record AskCheck (words : Words) : Type 0 where
  pub command : BookCommand
  pub asked : Asks words (Book command)
  pub what : IsTrue (promise_of command).tells_refusal

-- the input is a book that can be released: on every day of its term some set of codes is good, and every good set
-- selects one variant at each mandatory position and nowhere two
abbrev pub IsReleasableInput : Option (List ℕ) → Type 0
IsReleasableInput left = IfSome left (λ all. IsOkAnd (book_of (take input_limit all)) IsReleasable)

-- the input is a book that can't be released
abbrev pub IsBlockedInput : Option (List ℕ) → Type 0
IsBlockedInput left = IfSome left (λ all. IsOkAnd (book_of (take input_limit all)) IsUnreleasable)

-- the words ask for a desk
pub record AskDesk (words : Words) : Type 0 where
  pub store : List ℕ
  pub asked : Asks words (Desk store)

-- no desk was started, and so nothing was read
pub record IsUnstarted (before after : Outside) (status : RunStatus) : Type 0 where
  pub untouched : after.reads ≡ before.reads
  pub statuses : (status ≡ statuses.WriteFault) ⊎ (status ≡ statuses.NotStarted) ⊎ (status ≡ statuses.WantOfMemory)

-- the words ask for a service
pub record AskService (words : Words) : Type 0 where
  pub service : Service
  pub asked : Asks words (Serve service)
