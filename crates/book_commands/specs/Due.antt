-- The reply that is due to a command that reads a book.
use Rattle.std.specs.Prelude.{◌≡◌, List, ℕ}
use Rattle.pb_outside.specs.Source.{LosesFront}
use Rattle.book_commands.specs.Inputs.{Inputs, input_limit, ReadsInput, FailsAtInput}
use Rattle.book_commands.specs.Promises.{promise_of}
use Rattle.book_commands.specs.RunReply.{RunReply, memory_reply, read_fault_reply}
use Rattle.command_words.specs.declared.task.BookCommand.{BookCommand}
use Rattle.book_commands.specs.declared.object.Object.TheVariants.{Source, Files}

-- the reply that is due to a command: to what it read, or to a fault of what it reads from; want of memory is free
pub data Due (command : BookCommand) (before after : Inputs) (reply : RunReply) : Type 0 where
  answer : (input : List ℕ) → ReadsInput before.source after.source input
      → (promise_of command).replies input before.files after.files reply
      → Due command before after reply
  source_fault : FailsAtInput before.source after.source → after.files ≡ before.files
      → reply ≡ read_fault_reply Source before.source.faults.count after.source.faults.count
      → Due command before after reply
  file_fault : (input : List ℕ) → ReadsInput before.source after.source input
      → (promise_of command).fails_at_file input before.files after.files
      → reply ≡ read_fault_reply Files before.files.faults.count after.files.faults.count
      → Due command before after reply
  no_memory : LosesFront input_limit before.source.left after.source.left
      → reply ≡ memory_reply
      → Due command before after reply
