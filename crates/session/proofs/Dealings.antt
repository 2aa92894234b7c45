-- Each exchange of a session is one in the words of the trade.
use Rattle.std.proofs.Common.{List, [], ◌∷◌, inl, inr}
use Rattle.std.specs.Prelude.{◌⊎◌, ℕ, Result, Ok, Err}
use Rattle.desk_words.specs.declared.call.Call.{Call}
use Rattle.http_wire.specs.declared.message.Message.{Message}
use Rattle.http_api.specs.declared.denied.Denied.{Denied}
use Rattle.order_desk.specs.Valid.{IsValid}
use Rattle.order_desk.proofs.StepValid.{reaches_valid}
use Rattle.answering.specs.Hand.{Hand}
use Rattle.answering.proofs.BookNames.{is_dealt}
use Rattle.session.specs.Dealing.{AreExchanges, DealsWith, HasDealt, IsExchange}
use Rattle.session.specs.Responses.{AnswersAll, AnswersAsked, AnswersMessage, IsUnasked}
use Rattle.session.specs.Session.{LinkTold, IsSession}
use Rattle.session.specs.declared.end.SessionEnd.{SessionEnd}
use Rattle.session.proofs.Hands.{hand_later, on_message}

deals_with : (asked : Result Call Denied) (m : Message) (h : Hand) (text : List ℕ) (new : Hand) → IsValid h.state.tables
    → AnswersAsked asked m.head h text new → DealsWith asked m.head h text new
deals_with (Ok call) m h text new valid (reply, answers, response) =
    record { said = reply; answers = answers; dealt = is_dealt call h reply new valid answers; response = response }
deals_with (Err denied) m h text new valid denies = denies

exchange : (m : Message) (h : Hand) (text : List ℕ) (new : Hand) → IsValid h.state.tables → AnswersMessage m h text new
    → IsExchange m h text new ⊎ IsUnasked m.head h text new
exchange m h text new valid (inl call) =
    inl (record { asked = call.asked; asks = call.asks; deals = deals_with call.asked m h text new valid call.answers })
exchange m h text new valid (inr unasked) = inr unasked

exchanges : (messages : List Message) (h : Hand) (out : List ℕ) (new : Hand) → IsValid h.state.tables → AnswersAll messages h out new
    → AreExchanges messages h out new
exchanges [] h out new valid is = is
exchanges (m ∷ messages) h out new valid (between, text, more, one, others, joined) =
    let valid_between : IsValid between.state.tables = reaches_valid h.state between.state (on_message m h text between one).reaches valid in
    (between, text, more, exchange m h text between valid one, exchanges messages between more new valid_between others, joined)

pub has_dealt : (end : SessionEnd) (h : Hand) (before after : LinkTold) (new : Hand) → IsValid h.state.tables
    → IsSession end h before after new → HasDealt end h before after new
has_dealt end h before after new valid session = record {
  session = session;
  exchanges = exchanges session.due.messages h session.due.responses new valid session.due.answered;
  seen = valid;
  valid = reaches_valid h.state new.state (hand_later end h before after new session).reaches valid;
}
