-- The reply that is due, by what was read.
use Rattle.std.proofs.Common.{◌≡◌, ℕ, List, refl, arith}
use Rattle.std.specs.Prelude.{Option, None, Some, Result, Ok, Err, IfOk}
use Rattle.pb_outside.specs.Source.{ReadsUpTo, LosesFront}
use Rattle.book_commands.specs.Due.{Due, file_fault, no_memory}
use Rattle.book_commands.specs.Inputs.{Inputs, input_limit, ReadsInput}
use Rattle.book_commands.specs.Promises.{promise_of}
use Rattle.book_commands.specs.RunReply.{RunReply, memory_reply, read_fault_reply, due_of}
use Rattle.command_words.specs.declared.task.BookCommand.{BookCommand}
use Rattle.book_commands.specs.declared.object.Object.TheVariants.{Files}

-- what was read is a front of what was left
LosesFront-of_read : (left left' : Option (List ℕ)) (input : List ℕ) → ReadsUpTo input_limit left left' input → LosesFront input_limit left left'
LosesFront-of_read None left' input h = tt
LosesFront-of_read (Some all) left' input h = (input_limit, omega arith, h.1)

pub LosesFront-none : (left : Option (List ℕ)) → LosesFront input_limit left left
LosesFront-none None = tt
LosesFront-none (Some all) = (0, omega arith, refl)

pub Due-of_files : {E : Type 0} (command : BookCommand) (before after : Inputs) (input : List ℕ) (result : Result RunReply E)
    → ReadsInput before.source after.source input → (promise_of command).fails_at_file input before.files after.files
    → IfOk result (λ reply. reply ≡ read_fault_reply Files before.files.faults.count after.files.faults.count)
    → Due command before after (due_of result)
Due-of_files command before after input (Ok reply) read fails is = file_fault input read fails is
Due-of_files command before after input (Err wanting) read fails is = no_memory (LosesFront-of_read before.source.left after.source.left input read.text) refl

pub Due-of_memory : (command : BookCommand) (before after : Inputs) (input : List ℕ) → ReadsInput before.source after.source input
    → Due command before after memory_reply
Due-of_memory command before after input read = no_memory (LosesFront-of_read before.source.left after.source.left input read.text) refl
