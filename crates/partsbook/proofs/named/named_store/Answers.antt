use Rattle.std.proofs.Common.{◌≡◌, ap, subst, ◌∙◌}
use Rattle.command_words.proofs.Meanings.{one_task}
use Rattle.command_words.specs.Meaning.{Means}
use Rattle.command_words.specs.Prepared.{texts_of}
use Rattle.commands.specs.Words.{NamesStore, store_of}
use Rattle.partsbook.proofs.named.named_store.Goals as goal

-- the words ask for one task, so its store is the one that they name
pub returns-in-Ok-Some : goal.returns-in-Ok-Some
returns-in-Ok-Some c = λ store names.
    let asks = subst (Means (texts_of c.args.words.now)) c.in-Ok-Some.field-0-is c.in-Ok-Some.ensures in
    c.task_store.ensures store (ap store_of (one_task (texts_of c.args.words.now) c.in-Ok-Some.task names.task asks names.asked) ∙ names.names)
