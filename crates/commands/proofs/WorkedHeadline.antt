-- What the headline refuses: two engines accepted, on the worked book; a desk that accepts an order and keeps nothing; a service that
-- answers an order and makes no step, or tells that none of its ports gave a link though one did.
use Rattle.std.proofs.Common.{◌≡◌, ◌≤◌, ◌++◌, ◌∙◌, ℕ, zero, suc, Bool, true, List, [], ◌∷◌, None, Some, inl, inr, refl, sym, subst, ap, map}
use Rattle.std.specs.Prelude.{Option, IfSome}
use Rattle.std.specs.Ordering.{match_ordering}
use Rattle.std.specs.declared.cmp.Ordering.{Ordering}
use Rattle.std.specs.declared.cmp.Ordering.TheVariants.{Less, Equal, Greater}
use Rattle.std.specs.List.{AllByRecursion}
use Rattle.std.specs.BTreeMap.{insert_entry}
use Rattle.pb_door.specs.DoorTold.{DoorTold}
use Rattle.pb_door.specs.PortTold.{PortTold, new_port, ports_below, share_of}
use Rattle.turn_book.specs.Places.{at_places}
use Rattle.turn_book.specs.Standing.{Opened}
use Rattle.book_model.specs.Contents.{Contents}
use Rattle.book_model.specs.WorkedBook.{book_t}
use Rattle.command_words.specs.Service.{Service}
use Rattle.desk_words.specs.declared.call.What.TheVariants.{Order}
use Rattle.desk_words.specs.declared.order_words.OrderWords.{OrderWords}
use Rattle.desk_words.specs.declared.reply.Reply.{Reply}
use Rattle.desk_words.specs.declared.reply.Reply.TheVariants.{Placed}
use Rattle.keeper.specs.Rows.{Kept}
use Rattle.release.specs.Orders.{can_be_built}
use Rattle.order_desk.specs.declared.kept_book.KeptBook.{KeptBook}
use Rattle.order_desk.specs.declared.order_key.OrderKey.{OrderKey}
use Rattle.order_desk.specs.Rows.{order_row, rows_of}
use Rattle.order_desk.specs.Tables.{State, by_key, key_of, with_order}
use Rattle.answering.specs.Hand.{Made, with_made}
use Rattle.answering.specs.Headline.{AcceptsExactly, IsNewOrder, OrderComes, PlacesOrder}
use Rattle.answering.specs.Seat.{steps_of}
use Rattle.answering.proofs.WorkedOrders.{two_not_placed, two_order}
use Rattle.session.specs.Session.{told}
use Rattle.desk_run.specs.DeskRun as alone
use Rattle.serve_run.specs.ServeRun as serving
use Rattle.serve_run.specs.ServeRun.{Log}
use Rattle.commands.specs.Exchanges.{Exchange, of_links, of_session}
use Rattle.commands.specs.Headline.{AreInTurn, DeskHeadline, IsHolder, IsPromised, WasUnserved}
use Rattle.commands.specs.Outside.{Outside}

-- in no exchange of a desk a new order for two engines is accepted
two_refused : (e : Exchange) → IsPromised e → e.before.book ≡ None → e.call.what ≡ Order 1 two_order → 2 ≤ e.before.left
    → (b : KeptBook) → IsNewOrder e.before.state.tables e.call.caller 1 two_order b → b.released.book ≡ book_t
    → (fresh : Bool) (text : List ℕ) → e.said ≡ Placed fresh text → ⊥
two_refused e promised alone asked left b new book fresh text said = by (promised.order 1 two_order asked left)
  where
    by : PlacesOrder e.before e.call.caller 1 two_order e.said e.after → ⊥
    by (inl (memory, same)) = cc
    by (inr (last, comes)) =
        let comes_now : OrderComes e.before.state e.call.caller 1 two_order e.said e.after.state =
        subst (λ (s : State). OrderComes s e.call.caller 1 two_order e.said e.after.state) (last.at_once alone) comes in
        let accepts : AcceptsExactly e.before.state e.call.caller 1 two_order book_t e.said e.after.state =
        subst (λ (c : Contents). AcceptsExactly e.before.state e.call.caller 1 two_order c e.said e.after.state) book (comes_now.fresh b new) in
        two_not_placed e.call.caller 1 e.before.state e.after.state fresh text
        (subst (λ (r : Reply). AcceptsExactly e.before.state e.call.caller 1 two_order book_t r e.after.state) said accepts)

-- ---- a desk that accepts an order and keeps nothing

never_empty : (es : List (OrderKey × OrderWords)) (key : OrderKey) (order : OrderWords) → insert_entry by_key es key order ≡ [] → ⊥
never_empty [] key order is = cc
never_empty (e ∷ es) key order is = by (by_key key e.0) is
  where
    by : (o : Ordering) → match_ordering o ((key, order) ∷ e ∷ es) ((e.0, order) ∷ es) (e ∷ insert_entry by_key es key order) ≡ [] → ⊥
    by Less is = cc
    by Equal is = cc
    by Greater is = cc

no_rows : (es : List (OrderKey × OrderWords)) → map order_row es ≡ [] → es ≡ []
no_rows [] none = refl
no_rows (e ∷ es) none = absurd (cc)

-- a new order to a book in force that can be built, which is told as accepted
pub record WasAccepted (e : Exchange) : Type 0 where
  pub number : ℕ
  pub order : OrderWords
  pub asked : e.call.what ≡ Order number order
  pub left : 2 ≤ e.before.left
  pub book : KeptBook
  pub new : IsNewOrder e.before.state.tables e.call.caller number order book
  pub built : can_be_built book.released.book order.day order.codes ≡ true
  pub text : List ℕ
  pub told : e.said ≡ Placed true text

-- who makes all steps keeps it
accepted_kept : (e : Exchange) → IsPromised e → e.before.book ≡ None → (w : WasAccepted e)
    → e.after.state.tables ≡ with_order e.before.state.tables (key_of e.call.caller w.number) w.order
accepted_kept e promised alone w = by (promised.order w.number w.order w.asked w.left)
  where
    by : PlacesOrder e.before e.call.caller w.number w.order e.said e.after
        → e.after.state.tables ≡ with_order e.before.state.tables (key_of e.call.caller w.number) w.order
    by (inl (memory, same)) = let accepted = w.told in absurd (cc)
    by (inr (last, comes)) =
        let comes_now : OrderComes e.before.state e.call.caller w.number w.order e.said e.after.state =
        subst (λ (s : State). OrderComes s e.call.caller w.number w.order e.said e.after.state) (last.at_once alone) comes in
        elim ((comes_now.fresh w.book w.new).built w.built) [
          | inl accepted ↦ accepted.kept
          | inr unkept ↦ elim unkept [
            | inl memory ↦ let was = memory.told in let accepted = w.told in absurd (cc)
            | inr fault ↦ let was = fault.told in let accepted = w.told in absurd (cc)
          ]
        ]

-- no desk answers one call, accepts an order by it, and leaves rows without orders
nothing_kept : (before after : Outside) (d : DeskHeadline before after) (e : Exchange)
    → of_session d.held.end (alone.hand_at d.start) (told before.reads.source before.writes.sink) (told after.reads.source d.held.middle) d.held.new d.held.dealt ≡ e ∷ []
    → WasAccepted e → (rows : Kept) → after.keeper.rows ≡ Some rows → rows.orders ≡ [] → ⊥
nothing_kept before after d e one w rows kept none =
    let turn : AreInTurn (alone.hand_at d.start) (e ∷ []) d.held.new =
    subst (λ (es : List Exchange). AreInTurn (alone.hand_at d.start) es d.held.new) one d.held.in_turn in
    let alone_then : e.before.book ≡ None = ap (λ h. h.book) turn.0 in
    let placed = accepted_kept e turn.1 alone_then w in
    let tables : d.last.tables ≡ e.after.state.tables = ap (λ s. s.tables) (sym d.held.reached) ∙ ap (λ h. h.state.tables) turn.2 in
    let whole : rows ≡ rows_of d.last.tables = subst (λ (o : Option Kept). IfSome o (λ r. r ≡ rows_of d.last.tables)) kept d.rows in
    let orders : map order_row d.last.tables.orders ≡ [] = ap (λ r. r.orders) (sym whole) ∙ none in
    let made : d.last.tables.orders ≡ insert_entry by_key e.before.state.tables.orders (key_of e.call.caller w.number) w.order =
    ap (λ t. t.orders) (tables ∙ placed) in
    never_empty e.before.state.tables.orders (key_of e.call.caller w.number) w.order (sym made ∙ no_rows d.last.tables.orders orders)

-- ---- a service that makes no step

nothing_at : (book : Opened State) (places : List ℕ) → at_places (steps_of book.start []) places ≡ []
nothing_at book [] = refl
nothing_at book (place ∷ places) = nothing_at book places

ends_in : (more : List Made) (one : Made) → more ++ one ∷ [] ≡ [] → ⊥
ends_in [] one is = cc
ends_in (m ∷ more) one is = cc

-- a call by which an order is told as placed is a step of its holder
placed_made : (e : Exchange) → IsPromised e → (book : Opened State) → e.before.book ≡ Some book → (number : ℕ) (order : OrderWords)
    → e.call.what ≡ Order number order → 2 ≤ e.before.left → (fresh : Bool) (text : List ℕ) → e.said ≡ Placed fresh text → e.after.made ≡ [] → ⊥
placed_made e promised book seated number order asked left fresh text said none = by (promised.order number order asked left)
  where
    by : PlacesOrder e.before e.call.caller number order e.said e.after → ⊥
    by (inl (memory, same)) = cc
    by (inr (last, comes)) =
        let one : Made = record { before = last.step.first; event = last.event; answer = last.answer; after = e.after.state } in
        let its : last.between.book ≡ Some book = last.before.book ∙ seated in
        let made : e.after.made ≡ last.between.made ++ one ∷ [] =
        subst (λ (o : Option (Opened State)). e.after.made ≡ with_made o last.between.made one) its last.step.made in
        ends_in last.between.made one (sym made ∙ none)

-- no port of a service whose history has no entry has placed an order by its one call
no_step : (book : Opened State) (share : ℕ) (port : PortTold) (places : List ℕ) (holder : IsHolder book share [] port places) (e : Exchange)
    → of_links holder.ends (serving.hand_at book share) port.given port.ended holder.new holder.serves ≡ e ∷ []
    → (number : ℕ) (order : OrderWords) → e.call.what ≡ Order number order → 2 ≤ e.before.left
    → (fresh : Bool) (text : List ℕ) → e.said ≡ Placed fresh text → ⊥
no_step book share port places holder e one number order asked left fresh text said =
    let turn : AreInTurn (serving.hand_at book share) (e ∷ []) holder.new =
    subst (λ (es : List Exchange). AreInTurn (serving.hand_at book share) es holder.new) one holder.in_turn in
    let none : e.after.made ≡ [] = ap (λ h. h.made) (sym turn.2) ∙ holder.made ∙ nothing_at book places in
    placed_made e turn.1 book (ap (λ h. h.book) turn.0) number order asked left fresh text said none

-- ---- a service that tells of a link that none was given

one_more : (ports : List PortTold) (port : PortTold) → AllByRecursion (λ p. p.given ≡ []) ports → port.given ≡ [] → AllByRecursion (λ p. p.given ≡ []) (ports ++ port ∷ [])
one_more [] port none its = (its, tt)
one_more (p ∷ ports) port none its = (none.0, one_more ports port none.1 its)

none_given : (links workers n : ℕ) → AllByRecursion (λ p. p.given ≡ []) (ports_below links workers n)
none_given links workers zero = tt
none_given links workers (suc n) = one_more (ports_below links workers n) (new_port n (share_of links workers n)) (none_given links workers n) refl

-- of a door that had no ports back, all that are back gave no link
unserved_gave_none : (service : Service) (start last : State) (history : Log) (before after : DoorTold) → WasUnserved service start last history before after
    → before.back ≡ [] → AllByRecursion (λ p. p.given ≡ []) after.back
unserved_gave_none service start last history before after was fresh = elim was.ports [
  | inl as_before ↦ let back : after.back ≡ [] = ap (λ d. d.back) as_before ∙ fresh in rw back tt
  | inr as_given ↦ rw as_given (none_given service.links service.workers service.workers)
]
