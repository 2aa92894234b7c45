use Rattle.std.proofs.Common.{sym}
use Rattle.std.proofs.lemmas.Result.{IfOk-weaker}
use Rattle.command_words.specs.Prepared.{texts_of}
use Rattle.command_words.proofs.Meanings.{begins, cars_found}
use Rattle.command_words.proofs.task_of.Goals as goal

pub returns-in-Some : goal.returns-in-Some
returns-in-Some c =
    let begin = begins (texts_of c.args.words.now) (texts_of c.in-Some.behind.now) (sym c.in-Some.ensures) in
    IfOk-weaker c.ask_task.result _ _ (λ found. cars_found (texts_of c.args.words.now) (texts_of c.in-Some.behind.now) found begin) c.ask_task.ensures
