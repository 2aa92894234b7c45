use Rattle.std.proofs.Common.{◌≡◌, ◌∙◌, ap}
use Rattle.std.specs.Prelude.{Err}
use Rattle.pb_outside.specs.declared.error.OutError.{OutError}
use Rattle.pb_outside.specs.declared.error.OutError.TheVariants.{Failed}
use Rattle.book_commands.specs.Due.{answer}
use Rattle.book_commands.proofs.DueLaws.{Due-of_files, Due-of_memory}
use Rattle.book_commands.proofs.Promises.{lawful}
use Rattle.book_commands.proofs.due.due_reply.Goals as goal

pub returns-in-Err-Failed-clause-files_kept : goal.returns-in-Err-Failed-clause-files_kept
returns-in-Err-Failed-clause-files_kept g c = (lawful c.args.command.now).same_files _

pub returns-in-Err-Memory-clause-files_kept : goal.returns-in-Err-Memory-clause-files_kept
returns-in-Err-Memory-clause-files_kept g c = (lawful c.args.command.now).same_files _

pub returns-in-Ok-command_reply-clause-due : goal.returns-in-Ok-command_reply-clause-due
returns-in-Ok-command_reply-clause-due g c =
    let replies = rw c.deref.ensures.value at c.in-Ok-command_reply.ensures.reply in
    answer c.in-Ok.input.items (record { text = c.in-Ok.ensures.told; count = c.in-Ok.ensures.stays }) replies

pub returns-in-Err-Failed-command_reply-clause-due : goal.returns-in-Err-Failed-command_reply-clause-due
returns-in-Err-Failed-command_reply-clause-due g c =
    let failed : c.command_reply.result ≡ Err Failed = c.in-Err-Failed-command_reply.is ∙ ap (λ (e : OutError). Err e) c.in-Err-Failed-command_reply.field-0-is in
    let fails = rw c.deref.ensures.value at c.command_reply.ensures.cause failed in
    let told = rw (c.faults-files_before.ensures, c.faults.ensures) at c.read_fault-in-Err-Failed-command_reply.ensures in
    Due-of_files _ _ _ c.in-Ok.input.items _ (record { text = c.in-Ok.ensures.told; count = c.in-Ok.ensures.stays }) fails told

pub returns-clause-due : goal.returns-clause-due
returns-clause-due g c = Due-of_memory _ _ _ c.in-Ok.input.items (record { text = c.in-Ok.ensures.told; count = c.in-Ok.ensures.stays })
