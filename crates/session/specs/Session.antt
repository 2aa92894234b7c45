-- What a session does to its link and to the holder of the desk.
--     LinkTold                               what a link tells of its two ends
--     IsDue stop left h out new              this is what has to be written, where so much was left to be read and the session
--                                            stopped there
--     FailsLast messages h out new ..        writing failed at the last piece that was due
--     IsSession end h before after new       a session that ended so
use Rattle.std.specs.Prelude.{◌≡◌, ℕ, ◌≤◌, List, [], ◌++◌, Option, Some, IfSome, length}
use Rattle.pb_outside.specs.Faults.{Faults, IsLater}
use Rattle.pb_outside.specs.Sink.{SinkTold, Takes, Refuses}
use Rattle.pb_outside.specs.Source.{SourceTold}
use Rattle.http_wire.specs.Items.{ended, refused, cut, closed}
use Rattle.http_wire.specs.Stream.{ReadFails}
use Rattle.http_wire.specs.declared.message.Message.{Message}
use Rattle.answering.specs.Hand.{Hand}
use Rattle.session.specs.Reading.{Stop, whole, unread, wanting, Reads}
use Rattle.session.specs.Responses.{AnswersAll, IsLast}
use Rattle.session.specs.declared.end.SessionEnd.{SessionEnd}
use Rattle.session.specs.declared.end.SessionEnd.TheVariants.{Done, Broken, ReadFault, WriteFault, Memory}
use Rattle.session.specs.declared.end.WriteFault.{WriteFault as Unwritten}

pub record LinkTold : Type 0 where
  pub input : SourceTold
  pub output : SinkTold

abbrev pub told : SourceTold → SinkTold → LinkTold
told input output = record { input = input; output = output }

-- the responses to all messages that were read, in order, and then what is written where the session stops. Whether or not
-- the link tells its bytes there are such messages; where it does, they are those of the stream
pub record IsDue (stop : Stop) (left : Option (List ℕ)) (h : Hand) (out : List ℕ) (new : Hand) : Type 0 where
  pub messages : List Message
  pub read : IfSome left (λ s. Reads stop s messages)
  pub responses : List ℕ
  pub answered : AnswersAll messages h responses new
  pub last : List ℕ
  pub behind : IsLast stop last
  pub joined : out ≡ responses ++ last

-- where each end stops reading; writing may fail at any place
abbrev pub StopsAt : SessionEnd → Stop → Type 0
StopsAt Done (whole ended) = Unit {0}
StopsAt Done (whole closed) = Unit {0}
StopsAt Broken (whole (refused refusal)) = Unit {0}
StopsAt Broken (whole (cut head)) = Unit {0}
StopsAt (ReadFault fault) (unread head) = Unit {0}
StopsAt (WriteFault fault) stop = Unit {0}
StopsAt Memory (wanting head) = Unit {0}
StopsAt end stop = ⊥

-- a write failed: both counts are told, and a front of the piece was taken
pub record WriteFails (piece : List ℕ) (before after : SinkTold) (fault : Unwritten) : Type 0 where
  pub count_before : fault.before ≡ before.faults
  pub count_after : fault.after ≡ after.faults
  pub refused : Refuses piece before after

-- all that is due was written, or writing failed
abbrev pub IsWritten : SessionEnd → List ℕ → SinkTold → SinkTold → Type 0
IsWritten (WriteFault fault) out before after = WriteFails out before after fault
IsWritten Done out before after = Takes out before after
IsWritten Broken out before after = Takes out before after
IsWritten (ReadFault fault) out before after = Takes out before after
IsWritten Memory out before after = Takes out before after

-- what is due for all messages but at most one was written; after the piece whose writing failed nothing was done
pub record FailsLast (messages : List Message) (h : Hand) (out : List ℕ) (before after : SinkTold) (fault : Unwritten) : Type 0 where
  pub done : List Message
  pub last : List Message
  pub are_all : messages ≡ done ++ last
  pub one : length last ≤ 1
  pub responses : List ℕ
  pub between : Hand
  pub answered : AnswersAll done h responses between
  pub piece : List ℕ
  pub joined : out ≡ responses ++ piece
  pub middle : SinkTold
  pub whole : Takes responses before middle
  pub fails : WriteFails piece middle after fault

abbrev pub StopsWriting : SessionEnd → List Message → Hand → List ℕ → SinkTold → SinkTold → Type 0
StopsWriting (WriteFault fault) messages h out before after = FailsLast messages h out before after fault
StopsWriting Done messages h out before after = Unit {0}
StopsWriting Broken messages h out before after = Unit {0}
StopsWriting (ReadFault fault) messages h out before after = Unit {0}
StopsWriting Memory messages h out before after = Unit {0}

-- no read failed, or just the last one; where writing failed or memory is wanting nothing is said of it
abbrev pub IsCounted : SessionEnd → Faults → Faults → Type 0
IsCounted Done before after = after.count ≡ before.count
IsCounted Broken before after = after.count ≡ before.count
IsCounted (ReadFault fault) before after = ReadFails before after fault
IsCounted (WriteFault fault) before after = Unit {0}
IsCounted Memory before after = Unit {0}

-- at the end of the input nothing is left
abbrev pub NothingLeft : Option (List ℕ) → Option (List ℕ) → Type 0
NothingLeft left left' = IfSome left (λ s. left' ≡ Some [])

abbrev pub IsReadOut : Stop → Option (List ℕ) → Option (List ℕ) → Type 0
IsReadOut (whole ended) left left' = NothingLeft left left'
IsReadOut (whole (cut head)) left left' = NothingLeft left left'
IsReadOut stop left left' = Unit {0}

pub record IsSession (end : SessionEnd) (h : Hand) (before after : LinkTold) (new : Hand) : Type 0 where
  pub stop : Stop
  pub stops : StopsAt end stop
  pub out : List ℕ
  pub due : IsDue stop before.input.left h out new
  pub written : IsWritten end out before.output after.output
  pub stops_writing : StopsWriting end due.messages h out before.output after.output
  pub counted : IsCounted end before.input.faults after.input.faults
  pub later : IsLater before.input.faults after.input.faults
  pub read_out : IsReadOut stop before.input.left after.input.left
