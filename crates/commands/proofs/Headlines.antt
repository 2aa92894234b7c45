-- What a desk and a service do is what the headline promises.
use Rattle.std.proofs.Common.{◌≡◌, ◌∙◌, List, [], ◌∷◌, ◌++◌, refl, sym, subst, ap, inl, inr}
use Rattle.std.specs.Prelude.{◌⊎◌, ℕ, Result, Ok, Err}
use Rattle.pb_outside.specs.Sink.{SinkTold}
use Rattle.pb_door.specs.LinkTold.{LinkTold as Linked}
use Rattle.pb_door.specs.DoorTold.{counts}
use Rattle.pb_door.specs.PortTold.{PortTold, new_ports}
use Rattle.turn_book.specs.History.{end_of}
use Rattle.turn_book.specs.Standing.{Opened}
use Rattle.command_words.specs.Parts.{Words}
use Rattle.command_words.specs.Service.{Service}
use Rattle.command_words.specs.declared.task.Task.TheVariants.{Desk, Serve}
use Rattle.desk_words.specs.declared.call.Call.{Call}
use Rattle.http_wire.specs.declared.message.Message.{Message}
use Rattle.http_api.specs.declared.denied.Denied.{Denied}
use Rattle.order_desk.specs.History.{IsLegal}
use Rattle.order_desk.specs.Tables.{State}
use Rattle.answering.specs.Hand.{Hand}
use Rattle.answering.proofs.EventNames.{released_book}
use Rattle.session.specs.Dealing.{AreExchanges, DealsWith, HasDealt, IsExchange, IsDealing}
use Rattle.session.specs.Responses.{Asks, IsUnasked}
use Rattle.session.specs.Session.{LinkTold, told}
use Rattle.session.specs.declared.end.SessionEnd.{SessionEnd}
use Rattle.serve_run.specs.ServeRun as serving
use Rattle.serve_run.specs.ServeRun.{ArePortRuns, Log}
use Rattle.serve_run.specs.Work.{ServesLinks}
use Rattle.serve_run.specs.declared.end.ServeEnd.{ServeEnd}
use Rattle.serve_run.specs.declared.end.ServeEnd.TheVariants.{Closed, NoWorkers, Worked}
use Rattle.desk_run.specs.DeskRun as alone
use Rattle.desk_run.specs.declared.end.DeskEnd.{DeskEnd}
use Rattle.desk_run.specs.declared.end.DeskEnd.TheVariants.{NotStarted, Served}
use Rattle.desk_run.proofs.Released.{told_released}
use Rattle.book_commands.specs.declared.run_status.RunStatus.{RunStatus}
use Rattle.commands.specs.Does.{Does}
use Rattle.commands.specs.Exchanges.{Exchange, of_links, of_messages, of_session, with_asked, with_message}
use Rattle.commands.specs.Headline.{AreHolders, AreInTurn, DeskHeadline, IsHeldBy, IsPromised, ServiceHeadline, share_of_steps}
use Rattle.commands.specs.Outside.{Outside}
use Rattle.commands.specs.Released.{AskDesk, AskService, IsUnstarted}
use Rattle.commands.specs.Serves.{HasServed, ServesBy, ServiceEnd, served, unstarted}
use Rattle.commands.proofs.DeskTold.{Ran, ToldFrom, same_reads, unstarted_status}

-- ---- the exchanges of a link

promised : (call : Call) (m : Message) (asks : Asks m (Ok call)) (h : Hand) (text : List ℕ) (new : Hand) (d : IsDealing call m.head h text new)
    → IsPromised (record { message = m; call = call; asks = asks; before = h; said = d.said; after = new; text = text })
promised call m asks h text new d = record {
  books = λ number b there. released_book new.state.tables number b d.dealt.valid there;
  named = d.dealt.book;
  order = d.dealt.order;
  stays = d.dealt.grows;
  later = d.dealt.later;
  written = d.response;
}

from_same : (h between new : Hand) (later : List Exchange) → between ≡ h → AreInTurn between later new → AreInTurn h later new
from_same h between new later same rest = subst (λ (k : Hand). AreInTurn k later new) same rest

asked_first : (asked : Result Call Denied) (m : Message) (asks : Asks m asked) (h : Hand) (text : List ℕ) (between new : Hand)
    (deals : DealsWith asked m.head h text between) (later : List Exchange)
    → AreInTurn between later new → AreInTurn h (with_asked m asked asks h text between deals later) new
asked_first (Ok call) m asks h text between new deals later rest = (refl, promised call m asks h text between deals, rest)
asked_first (Err denied) m asks h text between new denies later rest = from_same h between new later denies.1 rest

message_first : (m : Message) (h : Hand) (text : List ℕ) (between new : Hand)
    (one : IsExchange m h text between ⊎ IsUnasked m.head h text between) (later : List Exchange)
    → AreInTurn between later new → AreInTurn h (with_message m h text between one later) new
message_first m h text between new (inl x) later rest = asked_first x.asked m x.asks h text between new x.deals later rest
message_first m h text between new (inr unasked) later rest = from_same h between new later unasked.no_effect rest

messages_in_turn : (messages : List Message) (h : Hand) (out : List ℕ) (new : Hand) (are : AreExchanges messages h out new)
    → AreInTurn h (of_messages messages h out new are) new
messages_in_turn [] h out new are = are.1
messages_in_turn (m ∷ messages) h out new are =
    message_first m h are.1 are.0 new are.3 (of_messages messages are.0 are.2 new are.4)
    (messages_in_turn messages are.0 are.2 new are.4)

session_in_turn : (end : SessionEnd) (h : Hand) (link link' : LinkTold) (new : Hand) (dealt : HasDealt end h link link' new)
    → AreInTurn h (of_session end h link link' new dealt) new
session_in_turn end h link link' new dealt = messages_in_turn dealt.session.due.messages h dealt.session.due.responses new dealt.exchanges

-- ---- links one after the other

in_turn_append : (xs ys : List Exchange) (h mid new : Hand) → AreInTurn h xs mid → AreInTurn mid ys new → AreInTurn h (xs ++ ys) new
in_turn_append [] ys h mid new same rest = subst (λ (k : Hand). AreInTurn k ys new) same rest
in_turn_append (e ∷ xs) ys h mid new (from, promise, more) rest = (from, promise, in_turn_append xs ys e.after mid new more rest)

links_in_turn : (ends : List SessionEnd) (h : Hand) (given ended : List Linked) (new : Hand) (serves : ServesLinks ends h given ended new)
    → AreInTurn h (of_links ends h given ended new serves) new
links_in_turn [] h [] [] new serves = serves
links_in_turn [] h [] (link' ∷ ended) new serves = absurd serves
links_in_turn [] h (link ∷ given) ended new serves = absurd serves
links_in_turn (end ∷ ends) h [] ended new serves = absurd serves
links_in_turn (end ∷ ends) h (link ∷ given) [] new serves = absurd serves
links_in_turn (end ∷ ends) h (link ∷ given) (link' ∷ ended) new serves =
    let before : LinkTold = told link.input link.output in
    let after : LinkTold = told link'.input link'.output in
    in_turn_append (of_session end h before after serves.0 serves.1) (of_links ends serves.0 given ended new serves.2) h serves.0 new
    (session_in_turn end h before after serves.0 serves.1) (links_in_turn ends serves.0 given ended new serves.2)

holders : (book : Opened State) (share : ℕ) (history : Log) (ports : List PortTold) (places : List (List ℕ)) (faults : List (List SessionEnd))
    → ArePortRuns book share history ports places faults → AreHolders book share history ports places
holders book share history [] [] [] runs = tt
holders book share history (port ∷ ports) (own ∷ places) (kept ∷ faults) runs = (
  record {
    ends = runs.0.ends;
    new = runs.0.hand;
    serves = runs.0.serves;
    in_turn = links_in_turn runs.0.ends (serving.hand_at book share) port.given port.ended runs.0.hand runs.0.serves;
    made = runs.0.made;
    rises = runs.0.rises;
  },
  holders book share history ports places faults runs.1,
)
holders book share history ports places faults runs = absurd runs

-- ---- desks

by_end : (how : DeskEnd) (before after : Outside) (middle : SinkTold) (status : RunStatus) → Ran how before after middle
    → ToldFrom how before after middle status → after.reads.files ≡ before.reads.files
    → IsUnstarted before after status ⊎ DeskHeadline before after
by_end (Served end) before after middle status run ends files =
    let s = run.served in
    inr (record {
      start = run.old;
      started = run.started;
      history = s.reaches.0;
      legal = s.reaches.1;
      last = s.new.state;
      reached = s.reaches.2;
      books = λ number b there. released_book s.new.state.tables number b s.valid there;
      rows = s.rows;
      released = told_released s.new.state.tables after.keeper.rows s.valid s.rows;
      held = record {
        end = end;
        middle = middle;
        new = s.new;
        dealt = s.dealt;
        in_turn = session_in_turn end (alone.hand_at run.old) (told before.reads.source before.writes.sink) (told after.reads.source middle) s.new s.dealt;
        reached = refl;
      };
    })
by_end (NotStarted why) before after middle status run told files = inl (record {
  untouched = same_reads why before after middle run files;
  statuses = unstarted_status why before after middle status told;
})

-- ---- services

-- what a service did, by who made its steps
by_history : (how : ServeEnd) (service : Service) (before after : Outside) (status : RunStatus) (run : HasServed how service before after status)
    (history : Log) → IsLegal run.old history → end_of run.old history ≡ run.serves.new
    → IsHeldBy service before after run.old run.serves.new history → ServiceHeadline service before after
by_history how service before after status run history legal reached held =
    let left = run.serves.new.tables in
    record {
      start = run.old;
      started = run.started;
      history = history;
      legal = legal;
      last = run.serves.new;
      reached = reached;
      books = λ number b there. released_book left number b run.serves.valid there;
      rows = run.serves.rows;
      released = told_released left after.keeper.rows run.serves.valid run.serves.rows;
      held = held;
    }

-- no link was served
unserved : (how : ServeEnd) (service : Service) (before after : Outside) (status : RunStatus) (run : HasServed how service before after status)
    → run.serves.new ≡ run.old
    → (after.door.told ≡ counts after.door.told.faults before.door.told) ⊎ (after.door.told.back ≡ new_ports service.links service.workers)
    → ServiceHeadline service before after
unserved how service before after status run same ports =
    by_history how service before after status run [] tt (sym same) (inr (record { ports = ports; idle = refl; unchanged = same }))

by_workers : (how : ServeEnd) (service : Service) (before after : Outside) (status : RunStatus) → HasServed how service before after status
    → ServiceHeadline service before after
by_workers (Worked end) service before after status run =
    let s = run.serves.run.served in
    let share = share_of_steps service in
    by_history (Worked end) service before after status run s.history s.legal s.reached (inl (record {
      book = s.book;
      opened = s.opened;
      places = s.places;
      holders = holders s.book share s.history after.door.told.back s.places run.serves.faults s.runs;
      whole = s.whole;
    }))
by_workers NoWorkers service before after status run =
    unserved NoWorkers service before after status run run.serves.run.0.0 (inr (ap (λ d. d.back) run.serves.run.1))
by_workers (Closed why) service before after status run =
    unserved (Closed why) service before after status run run.serves.run.0.0 (inl run.serves.run.1)

by_service_end : (how : ServiceEnd) (service : Service) (before after : Outside) (status : RunStatus) → ServesBy how service before after status
    → IsUnstarted before after status ⊎ ServiceHeadline service before after
by_service_end (served how) service before after status run = inr (by_workers how service before after status run)
by_service_end (unstarted why) service before after status run =
    inl (record { untouched = run.untouched; statuses = unstarted_status why before after before.writes.sink status run.told })

pub Does-desk : (words : Words) (before after : Outside) (status : RunStatus) → Does words before after status
    → AskDesk words → IsUnstarted before after status ⊎ DeskHeadline before after
Does-desk words before after status does asks =
    let h = does.asked (Desk asks.store) asks.asked in by_end h.how before after h.middle status h.run h.told h.files

pub Does-service : (words : Words) (before after : Outside) (status : RunStatus) → Does words before after status
    → (asks : AskService words) → IsUnstarted before after status ⊎ ServiceHeadline asks.service before after
Does-service words before after status does asks =
    let h = does.asked (Serve asks.service) asks.asked in by_service_end h.how asks.service before after status h.runs
