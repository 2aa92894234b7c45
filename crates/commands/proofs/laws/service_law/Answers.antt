use Rattle.command_words.specs.declared.task.Task.TheVariants.{Serve}
use Rattle.commands.proofs.Asked.{Does-of_task}
use Rattle.commands.proofs.Runs.{Does-run}
use Rattle.commands.proofs.laws.service_law.Goals as goal

pub returns : goal.returns
returns c words service before after status asked runs =
    Does-run words before after status (Does-of_task words (Serve service) before after status asked runs)
