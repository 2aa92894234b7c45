-- Which store and which port words name.
use Rattle.std.specs.Prelude.{◌≡◌, ℕ, List, Option, None, Some}
use Rattle.command_words.specs.Meaning.{Asks}
use Rattle.command_words.specs.Parts.{Words}
use Rattle.command_words.specs.Service.{Service}
use Rattle.command_words.specs.declared.task.Task.{Task}
use Rattle.command_words.specs.declared.task.Task.TheVariants.{Book, Desk, Serve, Rejudge, Impact, Sample}

-- the store whose rows a desk takes up, where the task has one
abbrev pub store_of : Task → Option (List ℕ)
store_of (Book command) = None
store_of (Desk store) = Some store
store_of (Serve service) = Some service.store
store_of (Rejudge r) = Some r.store
store_of (Impact i) = Some i.store
store_of (Sample size) = None

-- the words ask for a task at this store
pub record NamesStore (words : Words) (store : List ℕ) : Type 0 where
  pub task : Task
  pub asked : Asks words task
  pub names : store_of task ≡ Some store

-- the words ask for a service at this port of the machine
pub record NamesPort (words : Words) (port : ℕ) : Type 0 where
  pub service : Service
  pub asked : Asks words (Serve service)
  pub names : service.port ≡ port
