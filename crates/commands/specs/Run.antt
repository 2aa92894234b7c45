-- What a run is, in one record. It is what it does; each other field follows from that, by a law of proofs/Runs.
use Rattle.std.specs.Prelude.{◌≡◌, ◌≢◌, ◌⊎◌, IfOk}
use Rattle.book_text.specs.BookText.{book_of}
use Rattle.command_words.specs.Parts.{Words}
use Rattle.book_commands.specs.Advice.{TellsOrders}
use Rattle.book_commands.specs.Ends.{LeavesNothing}
use Rattle.book_commands.specs.Open.{TellsOpen}
use Rattle.book_commands.specs.declared.run_status.RunStatus.{RunStatus}
use Rattle.book_commands.specs.declared.run_status.RunStatus.TheVariants as statuses
use Rattle.commands.specs.Ample.{AskAmple}
use Rattle.commands.specs.Causes.{GivesReply, IsCaused, IsUsageStatus}
use Rattle.commands.specs.Complete.{IsValidInput, CannotFail, NoCountRose, IsAnswered, LacksRoom}
use Rattle.commands.specs.Does.{Does}
use Rattle.commands.specs.Headline.{DeskHeadline, ServiceHeadline}
use Rattle.commands.specs.Outside.{Outside}
use Rattle.commands.specs.Released.{AskRelease, AskCheck, AskDesk, AskService, IsReleasableInput, IsBlockedInput, IsUnstarted}
use Rattle.command_words.specs.Meaning.{AsksNothing}

pub record IsRun (words : Words) (before after : Outside) (status : RunStatus) : Type 0 where
  -- what the words ask was done: what was read, what was written, and what was left untouched
  pub does : Does words before after status
  -- each status has its cause
  pub causes : IsCaused words before after status
  pub usage : AsksNothing words → IsUsageStatus status
  -- where the words ask whether the book can be released, done says that it can
  pub released : status ≡ statuses.Done → AskRelease words → IsReleasableInput before.reads.source.left
  -- where they ask what keeps it from its release, refused says that it can't be released
  pub blocked : status ≡ statuses.Refused → AskCheck words → IsBlockedInput before.reads.source.left
  -- a question that a check or a proof leaves is open in its slice: propagation doesn't refute it, nor is the budget above the
  -- number of clauses that can be new
  pub leaves_open : (h : GivesReply words before after status) → IfOk (book_of h.input) (λ b. TellsOpen h.command b h.reply)
  -- where the budget is above that number, nothing is left: not by the status, nor by a note of a reply
  pub decided : AskAmple words before → status ≢ statuses.Undecided
  pub leaves_nothing : AskAmple words before → (h : GivesReply words before after status) → LeavesNothing h.reply
  -- what free, why and ask tell is so of the orders that the book accepts
  pub advises : (h : GivesReply words before after status) → IfOk (book_of h.input) (λ b. TellsOrders h.command b h.reply)
  -- whatever the status, a desk that was started keeps what it promises, and so does one that was started for many workers
  pub desk : AskDesk words → IsUnstarted before after status ⊎ DeskHeadline before after
  pub service : (asks : AskService words) → IsUnstarted before after status ⊎ ServiceHeadline asks.service before after
  -- where no call fails from here on, valid words and inputs have their answer, memory and the sink's room allowing
  pub complete : CannotFail words before → IsAnswered words before after status ⊎ LacksRoom words before after status
  -- and they have it where no count rose, memory allowing
  pub unfailing : IsValidInput words before → NoCountRose before after → IsAnswered words before after status
