-- A run that does what the words ask is all that is promised of it.
use Rattle.command_words.specs.Parts.{Words}
use Rattle.book_commands.specs.declared.run_status.RunStatus.{RunStatus}
use Rattle.book_commands.proofs.AdviceLaws.{tells_orders}
use Rattle.book_commands.proofs.OpenLaws.{tells_open}
use Rattle.commands.specs.Does.{Does}
use Rattle.commands.specs.Outside.{Outside}
use Rattle.commands.specs.Run.{IsRun}
use Rattle.commands.proofs.Caused.{Does-caused, Does-usage}
use Rattle.commands.proofs.Headlines.{Does-desk, Does-service}
use Rattle.commands.proofs.Releasable.{IsCaused-released, IsCaused-blocked}
use Rattle.commands.proofs.Decided.{IsCaused-decided, reply_nothing}
use Rattle.commands.proofs.Sure.{Does-sure, Does-unfailing}

pub Does-run : (words : Words) (before after : Outside) (status : RunStatus) → Does words before after status → IsRun words before after status
Does-run words before after status does = record {
  does = does;
  causes = Does-caused words before after status does;
  usage = Does-usage words before after status does;
  released = IsCaused-released words before after status (Does-caused words before after status does);
  blocked = IsCaused-blocked words before after status (Does-caused words before after status does);
  leaves_open = λ h. tells_open h.command h.input before.reads.files after.reads.files h.reply h.replies;
  decided = IsCaused-decided words before after status (Does-caused words before after status does);
  leaves_nothing = reply_nothing words before after status;
  advises = λ h. tells_orders h.command h.input before.reads.files after.reads.files h.reply h.replies;
  desk = Does-desk words before after status does;
  service = Does-service words before after status does;
  complete = Does-sure words before after status does;
  unfailing = Does-unfailing words before after status does;
}
