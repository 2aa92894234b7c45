use Rattle.std.proofs.Common.{refl}
use Rattle.command_words.specs.declared.task.Task.TheVariants.{Serve}
use Rattle.commands.proofs.Asked.{Does-of_task}
use Rattle.commands.proofs.Runs.{Does-run}
use Rattle.commands.proofs.top_call.run.Goals as goal

pub returns-in-Ended : goal.returns-in-Ended
returns-in-Ended g c = rw c.in-Ended.is at c.begin.ensures.ended

pub run_service-requires-clause-named : goal.run_service-requires-clause-named
run_service-requires-clause-named g c κs within = rw c.in-Awaited.is at c.begin.ensures.startable

pub run_service-requires-clause-at_port : goal.run_service-requires-clause-at_port
run_service-requires-clause-at_port g c κs within =
    let asked = rw c.in-Awaited.is at c.begin.ensures.asked in
    let same = rw c.in-Awaited.is at c.begin.ensures.untouched in
    rw same (c.requires.at_port _ (record { service = c.in-Awaited.service; asked = asked; names = refl }))

pub returns-in-Awaited : goal.returns-in-Awaited
returns-in-Awaited g c =
    let asked = rw c.in-Awaited.is at c.begin.ensures.asked in
    let same = rw c.in-Awaited.is at c.begin.ensures.untouched in
    Does-run _ _ _ _ (Does-of_task _ (Serve c.in-Awaited.service) _ _ _ asked (rw same at c.run_service.ensures))
