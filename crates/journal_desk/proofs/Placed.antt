-- An order that was answered as placed is there, and stays.
use Rattle.std.proofs.Common.{◌≡◌, inl, inr, ℕ, Bool, true, false, List, [], ◌∷◌, Option, None, Some, sym, ap, subst, ◌∙◌}
use Rattle.std.specs.Prelude.{Result, Ok, Err, if◌then◌else◌}
use Rattle.desk_words.specs.declared.order_words.OrderWords.{OrderWords}
use Rattle.desk_words.specs.declared.reply.Reply.{Reply}
use Rattle.desk_words.specs.declared.reply.Reply.TheVariants as reply
use Rattle.order_desk.specs.declared.answer.Answer.{Answer}
use Rattle.order_desk.specs.declared.answer.Answer.TheVariants as answer
use Rattle.order_desk.specs.declared.event.Event.TheVariants as event
use Rattle.order_desk.specs.declared.kept_book.KeptBook.{KeptBook}
use Rattle.order_desk.specs.declared.order_key.OrderKey.{OrderKey}
use Rattle.order_desk.specs.Effect.{Effect, says, shows, keeps, go_on, book_of, shows_kept, same_order, unless_kept, to_place, place}
use Rattle.order_desk.specs.Step.{Follows, Step}
use Rattle.order_desk.specs.Tables.{Tables, State, key_of, order_at, with_order}
use Rattle.order_desk.proofs.Entries.{lookup-same}
use Rattle.order_desk.proofs.Growth.{step_grows}
use Rattle.order_desk.proofs.Keys.{by_key_total, by_key_exact}
use Rattle.turn_book.specs.History.{end_of}
use Rattle.journal_desk.specs.Run.{Standing, History, IsRun, WasPlaced}
use Rattle.journal_desk.proofs.OnePut.{still_there}

-- only what keeps the order is answered as placed
abbrev Places : OrderKey → OrderWords → Effect → Type 0
Places key order (says due) = due ≡ answer.Placed → ⊥
Places key order (shows due) = due ≡ answer.Placed → ⊥
Places key order (keeps due after) = order_at after.orders key ≡ Some order

said_not_placed : (said : Reply) → answer.Say said ≡ answer.Placed → ⊥
said_not_placed said is = cc

module _ (t : Tables) (caller : List ℕ) (number : ℕ) (order : OrderWords) where
  free_places : (r : Result KeptBook Reply) → Places (key_of caller number) order (go_on r (λ book. keeps answer.Placed (with_order t (key_of caller number) order)))
  free_places (Err said) = said_not_placed said
  free_places (Ok book) = lookup-same by_key_total by_key_exact (key_of caller number) order t.orders

  shown_places : (kept : OrderWords) (r : Result KeptBook Reply) → Places (key_of caller number) order (go_on r (λ book. shows (answer.Kept kept book.released)))
  shown_places kept (Err said) = said_not_placed said
  shown_places kept (Ok book) = λ is. cc

  repeat_places : (kept : OrderWords) (same : Bool) → Places (key_of caller number) order (if same then shows_kept t kept else says (answer.Say (reply.NumberUsed kept.book)))
  unfolding shows_kept
  repeat_places kept true = shown_places kept (book_of t kept.book)
  repeat_places kept false = said_not_placed (reply.NumberUsed kept.book)

  taken_places : (o : Option OrderWords) → Places (key_of caller number) order
      (unless_kept o t order (go_on (to_place t order) (λ book. keeps answer.Placed (with_order t (key_of caller number) order))))
  taken_places None = free_places (to_place t order)
  taken_places (Some kept) = repeat_places kept (same_order kept order)

  place_places : Places (key_of caller number) order (place t caller number order)
  unfolding place
  place_places = taken_places (order_at t.orders (key_of caller number))

follows_placed : (key : OrderKey) (order : OrderWords) (f : Effect) (old : State) (given : Answer) (new : State) → Places key order f → Follows f old given new
    → given ≡ answer.Placed → order_at new.tables.orders key ≡ Some order
follows_placed key order (says due) old given new places follows placed = absurd (places (sym follows.0 ∙ placed))
follows_placed key order (shows due) old given new places follows placed = elim follows.0 [
  | inl is ↦ absurd (places (sym is ∙ placed))
  | inr memory ↦ absurd (said_not_placed reply.Memory (sym memory ∙ placed))
]
follows_placed key order (keeps due after) old given new places follows placed = elim follows.1 [
  | inl kept ↦ ap (λ (t : Tables). order_at t.orders key) kept.changed ∙ places
  | inr not ↦ elim not.said [
    | inl memory ↦ absurd (said_not_placed reply.Memory (sym memory ∙ placed))
    | inr fault ↦ absurd (said_not_placed (reply.StoreFault old.faults.count new.faults.count) (sym fault.said ∙ placed))
  ]
]

-- ---- a run

orders_last : (s : Standing) (es : History) (key : OrderKey) (order : OrderWords) → IsRun s es → order_at s.desk.tables.orders key ≡ Some order
    → order_at (end_of s es).desk.tables.orders key ≡ Some order
orders_last s [] key order run there = there
orders_last s (e ∷ es) key order run there =
    orders_last e.after es key order run.2
    (still_there (order_at s.desk.tables.orders key) (order_at e.after.desk.tables.orders key) order ((step_grows s.desk e.call e.reply e.after.desk run.1.step).orders key) there)

pub placed_last : (s : Standing) (es : History) (caller : List ℕ) (number : ℕ) (order : OrderWords) → IsRun s es → WasPlaced es caller number order
    → order_at (end_of s es).desk.tables.orders (key_of caller number) ≡ Some order
placed_last s [] caller number order run placed = absurd placed
placed_last s (e ∷ es) caller number order run placed = elim placed [
  | inl now ↦
      let step : Step s.desk (event.Place caller number order) e.reply e.after.desk = subst (λ c. Step s.desk c e.reply e.after.desk) now.0 run.1.step in
      orders_last e.after es (key_of caller number) order run.2
      (follows_placed (key_of caller number) order (place s.desk.tables caller number order) s.desk e.reply e.after.desk (place_places s.desk.tables caller number order) step now.1)
  | inr later ↦ placed_last e.after es caller number order run.2 later
]
