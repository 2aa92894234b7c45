-- How a run ends that judges the kept orders by the book that a file is.
--     RepliesToImpact b t reply                  what the orders that a desk keeps come to by this book
--     TellsFile asked before after status        the file is no book that can be released: that was told, and no store was touched
--     JudgesByFile how asked before after status the file is a book that can be released, and the orders were judged by it
--     RunsImpact asked before after status       one or the other
use Rattle.std.specs.Prelude.{◌≡◌, List, []}
use Rattle.pb_base.specs.declared.answer.Fail.TheVariants.{Refused as RefusedStart}
use Rattle.pb_outside.specs.Files.{FilesTold}
use Rattle.book_model.specs.Contents.{Contents}
use Rattle.order_again.specs.Again.{AreAgain}
use Rattle.order_again.specs.ImpactText.{impact_text}
use Rattle.order_again.specs.declared.kept.Stock.{Stock}
use Rattle.order_again.specs.declared.outcome.Again.{Again}
use Rattle.order_desk.specs.Tables.{Tables}
use Rattle.command_words.specs.Impact.{Impact}
use Rattle.book_commands.specs.BookFile.{HasBook, RepliesToFile, IsKeptBackStatus}
use Rattle.book_commands.specs.Inputs.{inputs}
use Rattle.book_commands.specs.Promise.{ReadsFiles}
use Rattle.book_commands.specs.RunReply.{RunReply}
use Rattle.book_commands.specs.Tells.{Tells}
use Rattle.book_commands.specs.declared.run_status.RunStatus.{RunStatus}
use Rattle.book_commands.specs.declared.run_status.RunStatus.TheVariants as statuses
use Rattle.commands.specs.Outside.{Outside}
use Rattle.commands.specs.Rejudged.{AreStock, RejudgeEnd, unjudged, judged, JudgesBy}

-- nothing is released, so the desk's own books are as they were
pub record RepliesToImpact (b : Contents) (t : Tables) (reply : RunReply) : Type 0 where
  pub stock : List Stock
  pub told : List Again
  pub kept : AreStock t.books t.orders stock
  pub again : AreAgain b stock told
  pub is : reply ≡ record { text = impact_text b stock told; status = statuses.Done; notes = [] }

-- the outside with the files as they are once one was read
abbrev pub with_files : FilesTold → Outside → Outside
with_files files o = record { reads = inputs o.reads.source files; writes = o.writes; keeper = o.keeper; door = o.door }

pub record TellsFile (asked : Impact) (before after : Outside) (status : RunStatus) : Type 0 where
  pub reply : RunReply
  pub due : RepliesToFile asked.file before.reads.files after.reads.files reply
  pub told : Tells reply before.writes after.writes status
  pub files_kept : ReadsFiles before.reads.files after.reads.files
  pub source : after.reads.source ≡ before.reads.source
  pub kept : after.keeper ≡ before.keeper
  pub door : after.door ≡ before.door

pub record JudgesByFile (how : RejudgeEnd) (asked : Impact) (before after : Outside) (status : RunStatus) : Type 0 where
  pub book : Contents
  pub files : FilesTold
  pub has : HasBook asked.file before.reads.files files book
  pub files_kept : ReadsFiles before.reads.files files
  pub runs : JudgesBy how (RepliesToImpact book) (with_files files before) after status

pub data ImpactEnd : Type 0 where
  kept_back : ImpactEnd
  judged_by : RejudgeEnd → ImpactEnd

abbrev pub ImpactsBy : ImpactEnd → Impact → Outside → Outside → RunStatus → Type 0
ImpactsBy kept_back asked before after status = TellsFile asked before after status
ImpactsBy (judged_by how) asked before after status = JudgesByFile how asked before after status

pub record RunsImpact (asked : Impact) (before after : Outside) (status : RunStatus) : Type 0 where
  pub how : ImpactEnd
  pub runs : ImpactsBy how asked before after status

-- the book is kept back as `prove` keeps it; or the orders were judged; or no desk was started
abbrev pub IsImpactStatus : ImpactEnd → RunStatus → Type 0
IsImpactStatus kept_back status = IsKeptBackStatus status
IsImpactStatus (judged_by judged) status = status ≡ statuses.Done
IsImpactStatus (judged_by (unjudged (RefusedStart fault))) status = status ≡ statuses.NotStarted
IsImpactStatus how status = ⊥
