-- What the exchanges of a session come to, in the words of the trade.
--     IsExchange m h text new        the message asked for a call, which was dealt with as Dealt says, or it was denied
--     AreExchanges messages h ..     each message had such an exchange, or there was no memory for its call
--     HasDealt end h before after    a session whose exchanges are such; what was seen is valid at both ends
-- Where there is no memory for a response, the call has its effect all the same, and the response says so of want of memory.
use Rattle.std.specs.Prelude.{◌≡◌, ◌⊎◌, ℕ, List, [], ◌∷◌, ◌++◌, Result, Ok, Err}
use Rattle.desk_words.specs.declared.call.Call.{Call}
use Rattle.desk_words.specs.declared.reply.Reply.{Reply}
use Rattle.http_wire.specs.declared.head.Head.{Head}
use Rattle.http_wire.specs.declared.message.Message.{Message}
use Rattle.http_api.specs.declared.denied.Denied.{Denied}
use Rattle.order_desk.specs.Valid.{IsValid}
use Rattle.answering.specs.Answers.{Answers}
use Rattle.answering.specs.Dealt.{IsDealt}
use Rattle.answering.specs.Hand.{Hand}
use Rattle.session.specs.Responses.{Asks, IsDenial, IsResponse, IsUnasked, interim}
use Rattle.session.specs.Session.{IsSession, LinkTold}
use Rattle.session.specs.declared.end.SessionEnd.{SessionEnd}

-- a call that was answered, what that comes to, and its response
pub record IsDealing (call : Call) (head : Head) (h : Hand) (text : List ℕ) (new : Hand) : Type 0 where
  pub said : Reply
  pub answers : Answers call h said new
  pub dealt : IsDealt call h said new
  pub response : IsResponse head said text

abbrev pub DealsWith : Result Call Denied → Head → Hand → List ℕ → Hand → Type 0
DealsWith (Ok call) head h text new = IsDealing call head h text new
DealsWith (Err denied) head h text new = IsDenial head denied text × (new ≡ h)

pub record IsExchange (m : Message) (h : Hand) (text : List ℕ) (new : Hand) : Type 0 where
  pub asked : Result Call Denied
  pub asks : Asks m asked
  pub deals : DealsWith asked m.head h text new

abbrev pub AreExchanges : List Message → Hand → List ℕ → Hand → Type 0
AreExchanges [] h out new = (out ≡ []) × (new ≡ h)
AreExchanges (m ∷ messages) h out new =
    (between : Hand) × (text : List ℕ) × (more : List ℕ)
    × (IsExchange m h text between ⊎ IsUnasked m.head h text between) × AreExchanges messages between more new
    × (out ≡ interim m.head ++ text ++ more)

pub record HasDealt (end : SessionEnd) (h : Hand) (before after : LinkTold) (new : Hand) : Type 0 where
  pub session : IsSession end h before after new
  pub exchanges : AreExchanges session.due.messages h session.due.responses new
  pub seen : IsValid h.state.tables
  pub valid : IsValid new.state.tables
