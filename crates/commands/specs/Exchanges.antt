-- The calls that sessions answered, in the words of the trade.
--     Exchange                     a call that was answered: the message, the call that its bytes ask for, the holder who made
--                                  it, before and after, the reply, and the text that was written for it
--     of_session end h ..          those of a session, in their order
--     of_links ends h ..           those of the links of a port, one after the other
-- A message that was denied, or found no memory for its call, changed nothing and isn't among them.
use Rattle.std.proofs.Common.{inl, inr}
use Rattle.std.specs.Prelude.{◌⊎◌, ℕ, List, [], ◌∷◌, ◌++◌, Result, Ok, Err}
use Rattle.pb_door.specs.LinkTold.{LinkTold as Linked}
use Rattle.http_api.specs.declared.denied.Denied.{Denied}
use Rattle.http_wire.specs.declared.message.Message.{Message}
use Rattle.desk_words.specs.declared.call.Call.{Call}
use Rattle.desk_words.specs.declared.reply.Reply.{Reply}
use Rattle.answering.specs.Hand.{Hand}
use Rattle.session.specs.Dealing.{AreExchanges, DealsWith, HasDealt, IsExchange}
use Rattle.session.specs.Responses.{Asks, IsUnasked}
use Rattle.session.specs.Session.{LinkTold, told}
use Rattle.session.specs.declared.end.SessionEnd.{SessionEnd}
use Rattle.serve_run.specs.Work.{ServesLinks}

pub record Exchange : Type 0 where
  pub message : Message
  pub call : Call
  -- the call is the one at the route of the message's path, with what its head and body say
  pub asks : Asks message (Ok call)
  pub before : Hand
  pub said : Reply
  pub after : Hand
  pub text : List ℕ

-- one more, if the message asked for a call
abbrev pub with_asked : (m : Message) (asked : Result Call Denied) → Asks m asked → (h : Hand) (text : List ℕ) (new : Hand)
    → DealsWith asked m.head h text new → List Exchange → List Exchange
with_asked m (Ok call) asks h text new deals later =
    record { message = m; call = call; asks = asks; before = h; said = deals.said; after = new; text = text } ∷ later
with_asked m (Err denied) asks h text new deals later = later

abbrev pub with_message : (m : Message) (h : Hand) (text : List ℕ) (new : Hand) → IsExchange m h text new ⊎ IsUnasked m.head h text new
    → List Exchange → List Exchange
with_message m h text new (inl one) later = with_asked m one.asked one.asks h text new one.deals later
with_message m h text new (inr unasked) later = later

abbrev pub of_messages : (messages : List Message) (h : Hand) (out : List ℕ) (new : Hand) → AreExchanges messages h out new → List Exchange
of_messages [] h out new are = []
of_messages (m ∷ messages) h out new are =
    with_message m h are.1 are.0 are.3 (of_messages messages are.0 are.2 new are.4)

abbrev pub of_session : (end : SessionEnd) (h : Hand) (before after : LinkTold) (new : Hand) → HasDealt end h before after new → List Exchange
of_session end h before after new dealt = of_messages dealt.session.due.messages h dealt.session.due.responses new dealt.exchanges

abbrev pub of_links : (ends : List SessionEnd) (h : Hand) (given ended : List Linked) (new : Hand) → ServesLinks ends h given ended new
    → List Exchange
of_links (end ∷ ends) h (before ∷ given) (after ∷ ended) new serves =
    of_session end h (told before.input before.output) (told after.input after.output) serves.0 serves.1
    ++ of_links ends serves.0 given ended new serves.2
of_links ends h given ended new serves = []
