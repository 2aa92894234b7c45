use Rattle.std.proofs.Common.{◌≡◌, subst}
use Rattle.command_words.specs.Meaning.{Asks}
use Rattle.command_words.specs.Prepared.{texts_of}
use Rattle.command_words.specs.declared.task.Task.{Task}
use Rattle.command_words.specs.declared.task.Task.TheVariants.{Serve}
use Rattle.commands.proofs.Asked.{Does-of_task, Does-of_usage, Does-of_memory}
use Rattle.commands.proofs.Weaker.{IfEnded-weaker, IfService-weaker}
use Rattle.commands.proofs.Runs.{Does-run}
use Rattle.commands.proofs.beginning.begin.Goals as goal

pub do_task-requires-clause-named : goal.do_task-requires-clause-named
do_task-requires-clause-named g c κs within =
    λ store names. c.requires.named store (record { task = c.in-Ok-Some.task; asked = rw c.in-Ok-Some.field-0-is at c.in-Ok-Some.ensures; names = names })

pub returns-in-Ok-Some-clause-ended : goal.returns-in-Ok-Some-clause-ended
returns-in-Ok-Some-clause-ended g c =
    IfEnded-weaker c.do_task.result _ _
    (λ end does. Does-run _ _ _ _ (Does-of_task _ c.in-Ok-Some.task _ _ _ (rw c.in-Ok-Some.field-0-is at c.in-Ok-Some.ensures) does))
    c.do_task.ensures.ended

pub returns-in-Ok-Some-clause-asked : goal.returns-in-Ok-Some-clause-asked
returns-in-Ok-Some-clause-asked g c =
    IfService-weaker c.do_task.result (λ service left. c.in-Ok-Some.task ≡ Serve service) (λ service left. Asks (texts_of c.args.words.now) (Serve service))
    (λ service left is. subst (λ (task : Task). Asks (texts_of c.args.words.now) task) is (rw c.in-Ok-Some.field-0-is at c.in-Ok-Some.ensures))
    c.do_task.ensures.asked

pub returns-in-Ok-None-clause-ended : goal.returns-in-Ok-None-clause-ended
returns-in-Ok-None-clause-ended g c =
    Does-run _ _ _ _ (Does-of_usage _ _ _ _ (rw c.in-Ok-None.field-0-is at c.in-Ok-None.ensures) c.tell_no_form.ensures)

pub returns-in-Err-clause-ended : goal.returns-in-Err-clause-ended
returns-in-Err-clause-ended g c = Does-run _ _ _ _ (Does-of_memory _ _ _ _ c.tell_no_memory.ensures)
