-- Which questions check and proof leave.
--     IsOpenNote i note            where it is that a question was left, the book has the slice, and the question is open in it
--     TellsOpen command b reply    so it is with each note of a reply to one of them
use Rattle.std.specs.Prelude.{◌<◌, IsSomeAnd, slice_get}
use Rattle.std.specs.List.{AllByRecursion}
use Rattle.book_model.specs.Contents.{Contents}
use Rattle.book_model.specs.Slices.{all_slices}
use Rattle.command_words.specs.declared.task.BookCommand.{BookCommand}
use Rattle.command_words.specs.declared.task.BookCommand.TheVariants.{Check, Prove}
use Rattle.findings.specs.Left.{IsOpen}
use Rattle.findings.specs.Notes.{Inquiry}
use Rattle.findings.specs.declared.report.Ask.TheVariants.{All, Blocking}
use Rattle.book_commands.specs.Checks.{inquiry}
use Rattle.book_commands.specs.RunReply.{RunReply}
use Rattle.book_commands.specs.declared.log.Note.{Note}
use Rattle.book_commands.specs.declared.log.Note.TheVariants.{Spent}

abbrev pub IsOpenNote : Inquiry → Note → Type 0
IsOpenNote i (Spent place question learnt) = IsSomeAnd (slice_get (all_slices i.book) place) (λ s. IsOpen i s question)
IsOpenNote i note = Unit {0}

abbrev pub AreOpenNotes : Inquiry → RunReply → Type 0
AreOpenNotes i reply = 0 < i.budget → AllByRecursion (IsOpenNote i) reply.notes

abbrev pub TellsOpen : BookCommand → Contents → RunReply → Type 0
TellsOpen (Check budget workers) b reply = AreOpenNotes (inquiry All budget b) reply
TellsOpen (Prove budget workers) b reply = AreOpenNotes (inquiry Blocking budget b) reply
TellsOpen command b reply = Unit {0}
