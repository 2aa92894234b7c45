-- Wherever sessions get, legal steps lead there.
use Rattle.std.proofs.Common.{List, [], ◌∷◌, sym, subst, inl, inr}
use Rattle.std.specs.Prelude.{ℕ, Result, Ok, Err}
use Rattle.desk_words.specs.declared.call.Call.{Call}
use Rattle.http_wire.specs.declared.message.Message.{Message}
use Rattle.http_api.specs.declared.denied.Denied.{Denied}
use Rattle.answering.specs.Hand.{Hand}
use Rattle.answering.specs.LaterHand.{IsLaterHand}
use Rattle.answering.proofs.BookNames.{on_course}
use Rattle.answering.proofs.LaterHands.{hand_same, hand_twice}
use Rattle.session.specs.Responses.{AnswersAll, AnswersAsked, AnswersMessage}
use Rattle.session.specs.Session.{LinkTold, IsSession}
use Rattle.session.specs.declared.end.SessionEnd.{SessionEnd}

on_asked : (asked : Result Call Denied) (m : Message) (h : Hand) (text : List ℕ) (new : Hand) → AnswersAsked asked m.head h text new → IsLaterHand h new
on_asked (Ok call) m h text new answers = on_course call.caller call.what h answers.0 new answers.1
on_asked (Err denied) m h text new answers = subst (λ (k : Hand). IsLaterHand h k) (sym answers.1) (hand_same h)

pub on_message : (m : Message) (h : Hand) (text : List ℕ) (new : Hand) → AnswersMessage m h text new → IsLaterHand h new
on_message m h text new (inl call) = on_asked call.asked m h text new call.answers
on_message m h text new (inr unasked) = subst (λ (k : Hand). IsLaterHand h k) (sym unasked.no_effect) (hand_same h)

on_messages : (messages : List Message) (h : Hand) (out : List ℕ) (new : Hand) → AnswersAll messages h out new → IsLaterHand h new
on_messages [] h out new is = subst (λ (k : Hand). IsLaterHand h k) (sym is.1) (hand_same h)
on_messages (m ∷ messages) h out new (between, text, more, one, others, joined) =
    hand_twice h between new (on_message m h text between one) (on_messages messages between more new others)

pub hand_later : (end : SessionEnd) (h : Hand) (before after : LinkTold) (new : Hand) → IsSession end h before after new → IsLaterHand h new
hand_later end h before after new s = on_messages s.due.messages h s.due.responses new s.due.answered
