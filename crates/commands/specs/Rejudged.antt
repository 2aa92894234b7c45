-- How a run ends that judges the kept orders again.
--     IsStock book key order s                this order, with its own book
--     AreStock books orders stock             all kept orders, each with its own book
--     RepliesToRejudge asked t reply          the reply over what a desk keeps
--     RunsRejudge asked before after status   a desk was started, its orders were judged again, and it was finished
use Rattle.std.specs.Prelude.{◌≡◌, ◌⊎◌, List, [], ◌∷◌, Option, None, Some, IfSome, codes}
use Rattle.book_model.specs.Contents.{Contents}
use Rattle.pb_base.specs.declared.answer.Fail.{Fail}
use Rattle.desk_words.specs.declared.order_words.OrderWords.{OrderWords}
use Rattle.release.specs.Release.{Release}
use Rattle.order_again.specs.Again.{AreAgain}
use Rattle.order_again.specs.StockText.{stock_text}
use Rattle.order_again.specs.declared.kept.Stock.{Stock}
use Rattle.order_again.specs.declared.outcome.Again.{Again}
use Rattle.order_desk.specs.Rows.{rows_of}
use Rattle.order_desk.specs.Tables.{State, Tables, book_at}
use Rattle.order_desk.specs.declared.kept_book.KeptBook.{KeptBook}
use Rattle.order_desk.specs.declared.order_key.OrderKey.{OrderKey}
use Rattle.order_desk.specs.declared.start.StartFault.{StartFault}
use Rattle.desk_run.specs.DeskRun.{IsStarted}
use Rattle.book_commands.specs.RunReply.{RunReply, memory_reply}
use Rattle.book_commands.specs.Tells.{Tells}
use Rattle.book_commands.specs.declared.run_status.RunStatus.{RunStatus}
use Rattle.book_commands.specs.declared.run_status.RunStatus.TheVariants as statuses
use Rattle.commands.specs.DeskEnds.{desk_outside}
use Rattle.commands.specs.Outside.{Outside}
use Rattle.command_words.specs.Rejudging.{Rejudging}
use Rattle.commands.specs.Serves.{HasNotServed}

-- ---- what is judged, and what is told of it

pub record IsStock (book : Release) (key : OrderKey) (order : OrderWords) (s : Stock) : Type 0 where
  pub caller : s.caller ≡ key.caller
  pub number : s.number ≡ key.number
  pub words : s.order ≡ order
  pub own : s.book.value ≡ book

-- its own book is the one that the order names
pub record IsKeptStock (books : List KeptBook) (key : OrderKey) (order : OrderWords) (s : Stock) : Type 0 where
  pub book : KeptBook
  pub there : book_at books order.book ≡ Some book
  pub stock : IsStock book.released key order s

-- in the order of callers and numbers
abbrev pub AreStock : List KeptBook → List (OrderKey × OrderWords) → List Stock → Type 0
AreStock books [] [] = Unit {0}
AreStock books (e ∷ orders) (s ∷ stock) = IsKeptStock books e.0 e.1 s × AreStock books orders stock
AreStock books orders stock = ⊥

-- what each kept order comes to by the other book
pub record RepliesAgain (t : Tables) (to : Contents) (reply : RunReply) : Type 0 where
  pub stock : List Stock
  pub told : List Again
  pub kept : AreStock t.books t.orders stock
  pub again : AreAgain to stock told
  pub is : reply ≡ record { text = stock_text to stock told; status = statuses.Done; notes = [] }

abbrev pub no_book_reply : RunReply
no_book_reply = record { text = codes "no such book\n"; status = statuses.Faulty; notes = [] }

abbrev pub RepliesBy : Option KeptBook → Tables → RunReply → Type 0
RepliesBy (Some book) t reply = RepliesAgain t book.released.book reply
RepliesBy None t reply = reply ≡ no_book_reply

-- by the book of that number, in force or not
abbrev pub RepliesToRejudge : Rejudging → Tables → RunReply → Type 0
RepliesToRejudge asked t reply = RepliesBy (book_at t.books asked.book) t reply

-- ---- the run, by what is replied over what a desk keeps

-- the orders of a desk in this state were judged again: the reply was told, or want of memory, and the rows that are kept are
-- those of the state
pub record JudgesAgain (Replies : Tables → RunReply → Type 0) (old : State) (before after : Outside) (status : RunStatus) : Type 0 where
  pub reply : RunReply
  pub due : Replies old.tables reply ⊎ (reply ≡ memory_reply)
  pub told : Tells reply before.writes after.writes status
  pub rows : IfSome after.keeper.rows (λ rows. rows ≡ rows_of old.tables)
  pub count : after.keeper.faults ≡ old.faults
  pub untouched : after.reads ≡ before.reads
  pub door : after.door ≡ before.door

-- the desk was started from the rows
pub record HasJudged (Replies : Tables → RunReply → Type 0) (before after : Outside) (status : RunStatus) : Type 0 where
  pub old : State
  pub started : IsStarted (desk_outside before before.writes.sink) old
  pub judges : JudgesAgain Replies old before after status

pub data RejudgeEnd : Type 0 where
  unjudged : Fail StartFault → RejudgeEnd
  judged : RejudgeEnd

abbrev pub JudgesBy : RejudgeEnd → (Tables → RunReply → Type 0) → Outside → Outside → RunStatus → Type 0
JudgesBy (unjudged why) Replies before after status = HasNotServed why before after status
JudgesBy judged Replies before after status = HasJudged Replies before after status

pub record Judges (Replies : Tables → RunReply → Type 0) (before after : Outside) (status : RunStatus) : Type 0 where
  pub how : RejudgeEnd
  pub runs : JudgesBy how Replies before after status

abbrev pub RunsRejudge : Rejudging → Outside → Outside → RunStatus → Type 0
RunsRejudge asked before after status = Judges (RepliesToRejudge asked) before after status
