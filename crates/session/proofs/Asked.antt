-- The text that is written for a message.
use Rattle.std.proofs.Common.{ℕ, List, refl, inl, inr}
use Rattle.std.specs.Prelude.{Result, Ok, Err, IfOk}
use Rattle.pb_base.specs.declared.answer.Memory.{Memory}
use Rattle.desk_words.specs.declared.call.Call.{Call}
use Rattle.http_wire.specs.declared.head.Head.{Head}
use Rattle.http_wire.specs.declared.message.Message.{Message}
use Rattle.http_api.specs.Response.{IsDeniedResponse}
use Rattle.http_api.specs.declared.denied.Denied.{Denied}
use Rattle.answering.specs.Hand.{Hand}
use Rattle.session.specs.Responses.{Asks, AnswersAsked, AnswersMessage, IsDenial, is_bare}
use Rattle.session.specs.Steps.{text_of}

denial : (head : Head) (denied : Denied) (made : Result (List ℕ) Memory) → IfOk made (IsDeniedResponse denied head.target head.close (is_bare head))
    → IsDenial head denied (text_of head made)
denial head denied (Ok text) is = inl is
denial head denied (Err wanting) is = inr refl

pub answers_denied : (m : Message) (denied : Denied) (h : Hand) (made : Result (List ℕ) Memory) → Asks m (Err denied)
    → IfOk made (IsDeniedResponse denied m.head.target m.head.close (is_bare m.head)) → AnswersMessage m h (text_of m.head made) h
answers_denied m denied h made asks is = inl (record { asked = Err denied; asks = asks; answers = (denial m.head denied made is, refl) })

pub answers_call : (m : Message) (call : Call) (h : Hand) (text : List ℕ) (new : Hand) → Asks m (Ok call) → AnswersAsked (Ok call) m.head h text new
    → AnswersMessage m h text new
answers_call m call h text new asks answers = inl (record { asked = Ok call; asks = asks; answers = answers })
