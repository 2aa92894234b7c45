-- Which words leave nothing.
--     IsAmpleTask task before    the task's budget leaves nothing of what is read
use Rattle.std.specs.Prelude.{IsSomeAnd, take}
use Rattle.command_words.specs.Parts.{Words}
use Rattle.book_commands.specs.Ample.{IsAmpleFor}
use Rattle.book_commands.specs.Promises.{promise_of}
use Rattle.book_commands.specs.Inputs.{input_limit}
use Rattle.book_sample.specs.Lines.{sample_text}
use Rattle.commands.specs.Outside.{Outside}
use Rattle.command_words.specs.Meaning.{Asks}
use Rattle.command_words.specs.declared.task.Task.{Task}
use Rattle.command_words.specs.declared.task.Task.TheVariants.{Book, Sample}
use Rattle.pb_base.specs.declared.limits.TheConstants.{DEFAULT_BUDGET}

-- of other tasks nothing is said
abbrev pub IsAmpleTask : Task → Outside → Type 0
IsAmpleTask (Book command) before =
    IsSomeAnd before.reads.source.left (λ all. (promise_of command).is_ample (take input_limit all) before.reads.files.files)
IsAmpleTask (Sample size) before = IsAmpleFor DEFAULT_BUDGET (sample_text size.start size.codes)
IsAmpleTask task before = ⊥

pub record AskAmple (words : Words) (before : Outside) : Type 0 where
  pub task : Task
  pub asked : Asks words task
  pub ample : IsAmpleTask task before
