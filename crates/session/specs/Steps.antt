-- The parts of a session, for its inner functions: no public contract has them.
--     seen held input output          what a link tells, where these bytes were read of it and are not used yet
--     ReceivesHead head before after  the next head was read
--     Receives m before after         the next message was read, and what it awaits before its body was written
--     EndsUnanswered end before after the session ended before one more message was answered
--     GoesOn h before new after       whatever session follows makes a whole session with what went before
use Rattle.std.specs.Prelude.{◌≡◌, ◌⊎◌, ℕ, ◌≤◌, true, List, ◌++◌, Option, None, Some, Result, Ok, Err, IfSome, IsSomeAnd, length}
use Rattle.pb_base.specs.declared.answer.Fail.{Fail}
use Rattle.pb_base.specs.declared.answer.Fail.TheVariants.{Refused, Memory as NoRoom}
use Rattle.pb_base.specs.declared.answer.Memory.{Memory as NoMemory}
use Rattle.pb_base.specs.declared.limits.TheConstants.{MOST_TEXT_BYTES}
use Rattle.pb_outside.specs.Faults.{Faults, IsLater}
use Rattle.pb_outside.specs.Sink.{SinkTold, Takes}
use Rattle.pb_outside.specs.Source.{SourceTold}
use Rattle.http_wire.specs.Items.{ReadsHead, refused}
use Rattle.http_wire.specs.declared.fault.ReadFault.{ReadFault as Unread}
use Rattle.http_wire.specs.declared.head.Head.{Head as Kept}
use Rattle.http_wire.specs.declared.head.HeadStep.TheVariants.{Head}
use Rattle.http_wire.specs.declared.message.Message.{Message}
use Rattle.http_wire.specs.declared.refusal.Refusal.{Refusal}
use Rattle.answering.specs.Hand.{Hand}
use Rattle.session.specs.Reading.{whole, ReadsMessage}
use Rattle.session.specs.Responses.{IsLast, closing_memory_response, interim, memory_response}
use Rattle.session.specs.Session.{LinkTold, IsSession, WriteFails, told}
use Rattle.session.specs.declared.end.SessionEnd.{SessionEnd}
use Rattle.session.specs.declared.end.SessionEnd.TheVariants.{Done, Broken, ReadFault, WriteFault, Memory}
use Rattle.session.specs.declared.end.WriteFault.{WriteFault as Unwritten}

-- ---- reading

abbrev pub stream_of : List ℕ → Option (List ℕ) → Option (List ℕ)
stream_of held None = None
stream_of held (Some left) = Some (held ++ left)

abbrev pub seen : List ℕ → SourceTold → SinkTold → LinkTold
seen held input output = told (record { left = stream_of held input.left; faults = input.faults }) output

-- where the stream is told, it is read on like this
abbrev pub ReadsOn : (List ℕ → List ℕ → Type 0) → Option (List ℕ) → Option (List ℕ) → Type 0
ReadsOn R left left' = IfSome left (λ s. IsSomeAnd left' (λ rest. R s rest))

-- no read failed
pub record IsQuiet (before after : Faults) : Type 0 where
  pub count : after.count ≡ before.count
  pub later : IsLater before after

pub record ReceivesHead (head : Kept) (before after : LinkTold) : Type 0 where
  pub read : ReadsOn (ReadsHead (Head head)) before.input.left after.input.left
  pub small : head.length ≤ MOST_TEXT_BYTES
  pub quiet : IsQuiet before.input.faults after.input.faults
  pub output : after.output ≡ before.output

pub record Receives (m : Message) (before after : LinkTold) : Type 0 where
  pub read : ReadsOn (ReadsMessage m) before.input.left after.input.left
  pub small : length m.body ≤ MOST_TEXT_BYTES
  pub quiet : IsQuiet before.input.faults after.input.faults
  pub written : Takes (interim m.head) before.output after.output

abbrev pub EndsUnanswered : SessionEnd → LinkTold → LinkTold → Type 0
EndsUnanswered end before after = (h : Hand) → IsSession end h before after h

-- the next head was read, and what it awaits before its body was written
pub record AwaitsBody (head : Kept) (before after : LinkTold) : Type 0 where
  pub read : ReadsOn (ReadsHead (Head head)) before.input.left after.input.left
  pub small : head.length ≤ MOST_TEXT_BYTES
  pub quiet : IsQuiet before.input.faults after.input.faults
  pub written : Takes (interim head) before.output after.output

-- what follows then, from where the head stood
abbrev pub ReceivesBehind : Kept → Message → LinkTold → LinkTold → Type 0
ReceivesBehind head m before after = (start : LinkTold) → AwaitsBody head start before → Receives m start after

abbrev pub EndsBehind : Kept → SessionEnd → LinkTold → LinkTold → Type 0
EndsBehind head end before after = (start : LinkTold) → AwaitsBody head start before → EndsUnanswered end start after

-- ---- writing

-- the last piece was written and the session ends as is due, or writing it failed
abbrev pub EndsWith : SessionEnd → List ℕ → SessionEnd → SinkTold → SinkTold → Type 0
EndsWith due piece end before after =
    ((end ≡ due) × Takes piece before after)
    ⊎ ((fault : Unwritten) × (end ≡ WriteFault fault) × WriteFails piece before after fault)

-- reading failed, which is only told; or there was no memory for it
abbrev pub EndsUnread : Fail Unread → SessionEnd → SinkTold → SinkTold → Type 0
EndsUnread (Refused fault) end before after = (end ≡ ReadFault fault) × (after ≡ before)
EndsUnread NoRoom end before after = EndsWith Memory closing_memory_response end before after

-- the refusal of what is no head
abbrev pub EndsRefused : Refusal → SessionEnd → SinkTold → SinkTold → Type 0
EndsRefused refusal end before after =
    (last : List ℕ) × IsLast (whole (refused refusal)) last × EndsWith Broken last end before after

-- the response that was made, or that of want of memory
abbrev pub text_of : Kept → Result (List ℕ) NoMemory → List ℕ
text_of head (Ok text) = text
text_of head (Err wanting) = memory_response head

-- behind a message that closes, or where its response could not be written
abbrev pub EndsAnswered : SessionEnd → Kept → List ℕ → SinkTold → SinkTold → Type 0
EndsAnswered Done head text before after = (head.close ≡ true) × Takes text before after
EndsAnswered (WriteFault fault) head text before after = WriteFails text before after fault
EndsAnswered end head text before after = ⊥

-- ---- going on

abbrev pub GoesOn : Hand → LinkTold → Hand → LinkTold → Type 0
GoesOn h before h' after =
    (end : SessionEnd) (last : LinkTold) (new : Hand) → IsSession end h' after last new → IsSession end h before last new
