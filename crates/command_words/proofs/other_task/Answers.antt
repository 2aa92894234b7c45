use Rattle.std.proofs.Common.{sym}
use Rattle.std.proofs.lemmas.Result.{IfOk-weaker}
use Rattle.command_words.specs.Prepared.{texts_of}
use Rattle.command_words.proofs.Meanings.{by_found, by_several}
use Rattle.command_words.proofs.other_task.Goals as goal

pub several_task-requires : goal.several_task-requires
several_task-requires c = sym c.in-Some.ensures

pub returns-in-Some : goal.returns-in-Some
returns-in-Some c =
    IfOk-weaker c.several_task.result _ _ (λ found. by_several (texts_of c.args.words.now) c.in-Some.place found c.requires (sym c.in-Some.ensures)) c.several_task.ensures

pub returns-in-None : goal.returns-in-None
returns-in-None c =
    IfOk-weaker c.form_task.result _ _ (λ found. by_found (texts_of c.args.words.now) found c.requires (sym c.in-None.ensures)) c.form_task.ensures
