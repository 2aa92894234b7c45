-- Each step of a fitting event leaves valid tables valid, and so does each legal history.
use Rattle.std.proofs.Common.{false, List, [], ◌∷◌, sym, subst}
use Rattle.order_desk.specs.declared.answer.Answer.{Answer}
use Rattle.order_desk.specs.declared.event.Event.{Event}
use Rattle.order_desk.specs.declared.event.Event.TheVariants as event
use Rattle.order_desk.specs.Effect.{effect}
use Rattle.order_desk.specs.Fits.{Fits}
use Rattle.order_desk.specs.History.{IsLegal, Reaches}
use Rattle.order_desk.specs.Step.{Step}
use Rattle.order_desk.specs.Tables.{Tables, State, key_of}
use Rattle.order_desk.specs.Valid.{IsValid}
use Rattle.order_desk.proofs.EffectWrites.{Changes, effect_writes, followed}
use Rattle.order_desk.proofs.Growth.{book_there}
use Rattle.order_desk.proofs.Requests.{next_form, next_room, next_is_later, given_form, given_room, given_is_later, release_room, place_room}
use Rattle.order_desk.proofs.Validity.{valid-with_draft, valid-with_book, valid-with_withdrawn, valid-with_order}
use Rattle.turn_book.specs.History.{end_of}
use Rattle.turn_book.specs.declared.entry.Entry.{Entry}

event_valid : (t : Tables) (e : Event) → IsValid t → Fits t e → Changes IsValid t e
event_valid t (event.PutDraft caller draft text) valid fits = λ d is.
    valid-with_draft t draft d valid (next_form t caller draft text d fits (sym is)) (next_room t caller draft text d (sym is))
    (next_is_later t caller draft text d (sym is))
event_valid t (event.GiveDraft caller draft to) valid fits = λ d is.
    valid-with_draft t draft (record d { owner = to }) valid (given_form t caller draft to d valid fits is)
    (given_room t caller draft d is) (given_is_later t caller draft to d is)
event_valid t (event.Commit caller draft revision released) valid fits = λ d is.
    let room = release_room t caller draft revision d is in
    valid-with_book t (record { draft = draft; revision = revision; released = released; withdrawn = false }) valid fits room.0 room.1
event_valid t (event.Withdraw caller number) valid fits = λ b is. valid-with_withdrawn t number b valid (book_there t number b is)
event_valid t (event.Place caller number order) valid fits = λ b none is.
    valid-with_order t (key_of caller number) order valid fits (place_room t order b is) none
event_valid t (event.Read asked) valid fits = tt

pub step_valid : (old : State) (e : Event) (given : Answer) (new : State) → IsValid old.tables → Fits old.tables e
    → Step old e given new → IsValid new.tables
step_valid old e given new valid fits f =
    followed IsValid (effect old.tables e) old given new valid
    (effect_writes IsValid old.tables e (event_valid old.tables e valid fits)) f

legal_valid : (start : State) (history : List (Entry State Event Answer)) → IsValid start.tables → IsLegal start history
    → IsValid (end_of start history).tables
legal_valid start [] valid legal = valid
legal_valid start (e ∷ es) valid legal =
    legal_valid e.after es (step_valid start e.call e.reply e.after valid legal.0 legal.1) legal.2

pub reaches_valid : (old new : State) → Reaches old new → IsValid old.tables → IsValid new.tables
reaches_valid old new reached valid = subst (λ s. IsValid s.tables) reached.2 (legal_valid old reached.0 valid reached.1)
