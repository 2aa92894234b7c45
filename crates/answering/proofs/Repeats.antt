-- An order whose number is taken: what its events do, and how its call ends.
use Rattle.std.proofs.Common.{◌≡◌, ◌∙◌, ℕ, Bool, true, false, List, Option, None, Some, Ok, Err, Result, refl, ap, subst, inl, inr}
use Rattle.std.specs.Prelude.{ok_or, if◌then◌else◌}
use Rattle.pb_base.specs.Results.{unless}
use Rattle.book_model.specs.Contents.{Contents}
use Rattle.book_model.specs.Parts.{PartsLine, parts}
use Rattle.parts_usage.specs.Broken.{first_broken_of}
use Rattle.parts_usage.specs.Fault.{order_fault}
use Rattle.parts_usage.specs.Outcome.{judged, outcome_of}
use Rattle.parts_usage.specs.Unfit.{first_unfit_of}
use Rattle.parts_usage.specs.declared.fault.OrderFault.{OrderFault}
use Rattle.parts_usage.specs.declared.judgement.Outcome.{Outcome}
use Rattle.parts_usage.specs.declared.judgement.Outcome.TheVariants as outcome
use Rattle.parts_usage.specs.declared.unfit.Unfit.{Unfit}
use Rattle.order_text.specs.OutcomeText.{accepted_text}
use Rattle.release.specs.Orders.{supplemented}
use Rattle.release.specs.Release.{Release}
use Rattle.desk_words.specs.declared.order_words.OrderWords.{OrderWords}
use Rattle.desk_words.specs.declared.reply.Missing.TheVariants as missing
use Rattle.desk_words.specs.declared.reply.Reply.{Reply}
use Rattle.desk_words.specs.declared.reply.Reply.TheVariants as reply
use Rattle.order_desk.specs.declared.answer.Answer.{Answer}
use Rattle.order_desk.specs.declared.answer.Answer.TheVariants as answer
use Rattle.order_desk.specs.declared.kept_book.KeptBook.{KeptBook}
use Rattle.order_desk.specs.Effect.{Effect, says, shows, keeps, go_on, book_of, look, place, same_order, shows_kept, to_place, unless_kept}
use Rattle.order_desk.specs.Step.{Follows, IsOrMemory}
use Rattle.order_desk.specs.Tables.{Tables, State, key_of, order_at, with_order}
use Rattle.order_desk.proofs.SameOrder.{same_order_decides}
use Rattle.answering.specs.Answers.{by_accepted, told_again}
use Rattle.answering.specs.Course.{ends_with}
use Rattle.answering.specs.Hand.{Hand}
use Rattle.answering.specs.Headline.{IsKeptList, IsRepeated, IsUsedFor, list_text}
use Rattle.answering.specs.declared.asked.KeptOrder.{KeptOrder}

-- ---- what the events do

module _ (t : Tables) (caller : List ℕ) (number : ℕ) (order : OrderWords) where
  module _ (b : KeptBook) (again : IsRepeated t caller number order b) where
    shown : shows_kept t order ≡ shows (answer.Kept order b.released)
    unfolding shows_kept book_of
    shown = ap (λ o. go_on (ok_or o (reply.NoSuch missing.Book)) (λ book. shows (answer.Kept order book.released))) again.there

    kept_shown : (free : Effect) → unless_kept (order_at t.orders (key_of caller number)) t order free ≡ shows (answer.Kept order b.released)
    kept_shown free =
        ap (λ o. unless_kept o t order free) again.kept
        ∙ ap (λ same. if same then shows_kept t order else says (answer.Say (reply.NumberUsed order.book))) ((same_order_decides order order).1 refl)
        ∙ shown

    pub look_shows_kept : look t caller number order ≡ shows (answer.Kept order b.released)
    unfolding look
    look_shows_kept = kept_shown (go_on (to_place t order) (λ book. shows (answer.Book book.released)))

    pub place_shows_kept : place t caller number order ≡ shows (answer.Kept order b.released)
    unfolding place
    place_shows_kept = kept_shown (go_on (to_place t order) (λ book. keeps answer.Placed (with_order t (key_of caller number) order)))

  module _ (kept : OrderWords) (used : IsUsedFor t caller number order kept) where
    differs : same_order kept order ≡ false
    differs = by (same_order kept order) refl
      where
        by : (same : Bool) → same_order kept order ≡ same → same_order kept order ≡ false
        by false is = is
        by true is = absurd (used.other ((same_order_decides kept order).0 is))

    said_used : (free : Effect) → unless_kept (order_at t.orders (key_of caller number)) t order free ≡ says (answer.Say (reply.NumberUsed kept.book))
    said_used free =
        ap (λ o. unless_kept o t order free) used.there
        ∙ ap (λ same. if same then shows_kept t kept else says (answer.Say (reply.NumberUsed kept.book))) differs

    pub look_says_used : look t caller number order ≡ says (answer.Say (reply.NumberUsed kept.book))
    unfolding look
    look_says_used = said_used (go_on (to_place t order) (λ book. shows (answer.Book book.released)))

    pub place_says_used : place t caller number order ≡ says (answer.Say (reply.NumberUsed kept.book))
    unfolding place
    place_says_used = said_used (go_on (to_place t order) (λ book. keeps answer.Placed (with_order t (key_of caller number) order)))

-- ---- what a step of them is

pub follows_shown : (u : Effect) (due : Answer) (s : State) (a : Answer) (new : State) → u ≡ shows due → Follows u s a new
    → IsOrMemory due a × (new ≡ s)
follows_shown u due s a new is f = subst (λ v. Follows v s a new) is f

pub follows_said : (u : Effect) (due : Answer) (s : State) (a : Answer) (new : State) → u ≡ says due → Follows u s a new
    → (a ≡ due) × (new ≡ s)
follows_said u due s a new is f = subst (λ v. Follows v s a new) is f

-- ---- what is told of a kept order

-- an order that is accepted has the list of its supplemented codes
accepted_list : (b : Contents) (day : ℕ) (names : List (List ℕ)) (set : List Bool) (list : List PartsLine)
    → outcome_of b day names ≡ Ok (outcome.Accepted set list) → accepted_text b set list ≡ list_text b day names
accepted_list b day names set list is =
    by (order_fault b day names) (first_broken_of b day (supplemented b day names)) (first_unfit_of b day (supplemented b day names)) is
  where
    x : List Bool
    x = supplemented b day names

    Comes : Option OrderFault → Option ℕ → Option Unfit → Result Outcome OrderFault
    Comes fault rule unfit = unless fault (Ok (judged rule unfit (outcome.Accepted x (parts b day x))))

    by : (fault : Option OrderFault) (rule : Option ℕ) (unfit : Option Unfit) → Comes fault rule unfit ≡ Ok (outcome.Accepted set list)
        → accepted_text b set list ≡ list_text b day names
    by (Some f) rule unfit h = absurd (cc)
    by None (Some r) unfit h = absurd (cc)
    by None None (Some u) h = absurd (cc)
    by None None None h =
        let same_set : set ≡ x = cc in
        let same_list : list ≡ parts b day x = cc in
        ap (λ y. accepted_text b y list) same_set ∙ ap (λ l. accepted_text b x l) same_list

pub told_list : (k : KeptOrder) (h : Hand) (said : Reply) (new : Hand) → told_again k.book k.order (reply.Placed false) h said new
    → IsKeptList k.book.book k.order said
told_list k h said new (inl memory) = inr memory.0
told_list k h said new (inr ends) = by (outcome_of k.book.book k.order.day k.order.codes) refl ends
  where
    by : (o : Result Outcome OrderFault) → outcome_of k.book.book k.order.day k.order.codes ≡ o
        → by_accepted o k.book.book (λ text. ends_with (reply.Placed false text)) h said new → IsKeptList k.book.book k.order said
    by (Ok (outcome.Accepted set list)) is (told, same) =
        inl (told ∙ ap (λ text. reply.Placed false text) (accepted_list k.book.book k.order.day k.order.codes set list is))
    by (Ok (outcome.Refused rule)) is none = absurd none
    by (Ok (outcome.Unfit position count)) is none = absurd none
    by (Err fault) is none = absurd none

-- the kept order and its book are those that the answer has
pub kept_list : (k : KeptOrder) (order : OrderWords) (r : Release) (said : Reply) → answer.Kept k.order k.book ≡ answer.Kept order r
    → IsKeptList k.book.book k.order said → IsKeptList r.book order said
kept_list k order r said same is =
    let its_order : k.order ≡ order = cc in
    let its_book : k.book ≡ r = cc in
    subst (λ (q : Release). IsKeptList q.book order said) its_book (subst (λ (o : OrderWords). IsKeptList k.book.book o said) its_order is)
