-- A call of a pass is a step of the one who holds it.
use Rattle.std.proofs.Common.{◌≡◌, ◌∙◌, ℕ, ◌+◌, ◌-◌, List, [], ◌∷◌, ◌++◌, length, refl, sym, ap, subst, arith, length-append}
use Rattle.turn_book.specs.History.{AddsCall, IsHistory, end_of, entry}
use Rattle.turn_book.specs.Places.{Rises, at_places}
use Rattle.turn_book.specs.Standing.{Opened, Standing}
use Rattle.turn_book.specs.declared.entry.Entry.{Entry}
use Rattle.turn_book.proofs.Histories.{end_of_append, history_front, history_rest, history_weaker}
use Rattle.turn_book.proofs.Places.{at_last, at_places_append, at_places_longer, length_at_places, rises_push, rises_wider}
use Rattle.order_desk.specs.declared.answer.Answer.{Answer}
use Rattle.order_desk.specs.declared.event.Event.{Event}
use Rattle.order_desk.specs.Fits.{Fits}
use Rattle.order_desk.specs.History.{IsLegal}
use Rattle.order_desk.specs.Step.{Step}
use Rattle.order_desk.specs.Tables.{State}
use Rattle.order_desk.specs.Turn.{IsTurn}
use Rattle.order_desk.specs.Valid.{IsValid}
use Rattle.answering.specs.Hand.{Made, Stepped}
use Rattle.answering.specs.Seat.{IsSeated, hand_of, sitting, steps_of}

abbrev Log : Type 0
Log = List (Entry State Event Answer)

abbrev FitsAt : State → Event → Type 0
FitsAt s event = Fits s.tables event

-- a history of turns is a legal history of steps
pub legal_turns : (start : State) (log : Log) → IsHistory FitsAt IsTurn start log → IsLegal start log
legal_turns start log history = history_weaker FitsAt IsTurn Step (λ x c r y turn. turn.step) start log history

-- ---- the steps of a history

pub steps_append : (start : State) (xs ys : Log) → steps_of start (xs ++ ys) ≡ steps_of start xs ++ steps_of (end_of start xs) ys
steps_append start [] ys = refl
steps_append start (e ∷ es) ys =
    ap (λ (l : List Made). record { before = start; event = e.call; answer = e.reply; after = e.after } ∷ l) (steps_append e.after es ys)

length_steps : (start : State) (log : Log) → length (steps_of start log) ≡ length log
length_steps start [] = refl
length_steps start (e ∷ es) = let rest = length_steps e.after es in omega (arith, rest)

rises_steps : (start : State) (log : Log) (places : List ℕ) → Rises 0 (length log) places → Rises 0 (length (steps_of start log)) places
rises_steps start log places rises = subst (λ (n : ℕ). Rises 0 n places) (sym (length_steps start log)) rises

-- as many as there are places
pub length_made : (start : State) (log : Log) (places : List ℕ) → Rises 0 (length log) places → length (at_places (steps_of start log) places) ≡ length places
length_made start log places rises = length_at_places 0 (steps_of start log) places (rises_steps start log places rises)

-- the steps at places of a history stay as it grows
pub steps_longer : (start : State) (log later : Log) (places : List ℕ) → Rises 0 (length log) places
    → at_places (steps_of start (log ++ later)) places ≡ at_places (steps_of start log) places
steps_longer start log later places rises =
    ap (λ (l : List Made). at_places l places) (steps_append start log later)
    ∙ at_places_longer 0 (steps_of start log) (steps_of (end_of start log) later) places (rises_steps start log places rises)

module _ (book : Opened State) (pass : Standing State Event Answer) (seated : IsSeated (sitting book pass)) (event : Event) (answer : Answer)
    (between : Log) (after : State) where
  abbrev front : Log
  front = pass.seen ++ between

  abbrev one : Entry State Event Answer
  one = entry event answer after

  -- the pass behind the call
  abbrev next : ℕ → Standing State Event Answer
  next left = record { table = pass.table; seen = front ++ one ∷ []; own = pass.own ++ length front ∷ []; left = left }

  rises_front : Rises 0 (length front) pass.own
  rises_front =
      rises_wider 0 0 (length pass.seen) (length front) pass.own (omega arith) (omega (arith, length-append pass.seen between)) seated.rises

  abbrev step_to : State → Made
  step_to last = record { before = end_of book.start front; event = event; answer = answer; after = last }

  last_step : at_places (steps_of book.start (front ++ one ∷ [])) (length front ∷ []) ≡ step_to after ∷ []
  last_step =
      ap (λ (l : List Made). at_places l (length front ∷ [])) (steps_append book.start front (one ∷ []))
      ∙ subst (λ (n : ℕ). at_places (steps_of book.start front ++ step_to after ∷ []) (n ∷ []) ≡ step_to after ∷ [])
      (length_steps book.start front) (at_last (steps_of book.start front) (step_to after))

  own_made : at_places (steps_of book.start (front ++ one ∷ [])) (pass.own ++ length front ∷ [])
      ≡ at_places (steps_of book.start pass.seen) pass.own ++ step_to (end_of book.start (front ++ one ∷ [])) ∷ []
  own_made =
      at_places_append (steps_of book.start (front ++ one ∷ [])) pass.own (length front ∷ [])
      ∙ ap (λ (l : List Made). l ++ at_places (steps_of book.start (front ++ one ∷ [])) (length front ∷ []))
      (steps_longer book.start front (one ∷ []) pass.own rises_front ∙ steps_longer book.start pass.seen between pass.own seated.rises)
      ∙ ap (λ (l : List Made). at_places (steps_of book.start pass.seen) pass.own ++ l) last_step
      ∙ ap (λ (s : State). at_places (steps_of book.start pass.seen) pass.own ++ step_to s ∷ []) (sym (end_of_append book.start front (one ∷ [])))

  steps : (left : ℕ) → left + 1 ≡ pass.left → IsLegal book.start (front ++ one ∷ [])
      → Stepped (hand_of (sitting book pass)) event answer (hand_of (sitting book (next left)))
  steps left fewer legal =
      let last = history_rest FitsAt Step book.start front (one ∷ []) legal in
      let until = history_front FitsAt Step book.start front (one ∷ []) legal in
      record {
        first = end_of book.start front;
        begins = (between, history_rest FitsAt Step book.start pass.seen between until, sym (end_of_append book.start pass.seen between));
        fits = last.0;
        step = subst (λ (s : State). Step (end_of book.start front) event answer s) (sym (end_of_append book.start front (one ∷ []))) last.1;
        left = sym fewer;
        made = own_made;
        book = refl;
      }

  seated_next : (left : ℕ) → IsLegal book.start (front ++ one ∷ []) → IsValid (end_of book.start (front ++ one ∷ [])).tables
      → IsSeated (sitting book (next left))
  seated_next left legal valid = record {
    table = seated.table;
    legal = legal;
    valid = valid;
    rises = subst (λ (n : ℕ). Rises 0 n (pass.own ++ length front ∷ [])) (sym (length-append front (one ∷ [])))
        (rises_push 0 (length front) pass.own rises_front);
  }

pub record IsCalled (book : Opened State) (pass : Standing State Event Answer) (event : Event) (answer : Answer) (new : Standing State Event Answer)
    : Type 0 where
  pub step : Stepped (hand_of (sitting book pass)) event answer (hand_of (sitting book new))
  pub seated : IsSeated (sitting book new)

pub called : (book : Opened State) (pass new : Standing State Event Answer) (event : Event) (answer : Answer) → IsSeated (sitting book pass)
    → new.table ≡ pass.table → IsHistory FitsAt IsTurn book.start new.seen → IsValid (end_of book.start new.seen).tables
    → AddsCall pass.seen event answer new.seen → new.own ≡ pass.own ++ (length new.seen - 1) ∷ [] → new.left + 1 ≡ pass.left
    → IsCalled book pass event answer new
called book pass new event answer seated table history valid (between, after, adds) place left =
    let all = (pass.seen ++ between) ++ entry event answer after ∷ [] in
    let front = pass.seen ++ between in
    let legal : IsLegal book.start all = subst (IsLegal book.start) adds (legal_turns book.start new.seen history) in
    let last : length new.seen - 1 ≡ length front = omega (arith, ap length adds, length-append front (entry event answer after ∷ [])) in
    let own : new.own ≡ pass.own ++ length front ∷ [] = place ∙ ap (λ (n : ℕ). pass.own ++ n ∷ []) last in
    let same : new ≡ next book pass seated event answer between after new.left =
    λ i. record { table = table i; seen = adds i; own = own i; left = new.left } in
    subst (IsCalled book pass event answer) (sym same) (record {
      step = steps book pass seated event answer between after new.left left legal;
      seated = seated_next book pass seated event answer between after new.left legal
          (subst (λ (l : Log). IsValid (end_of book.start l).tables) adds valid);
    })
