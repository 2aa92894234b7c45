-- What a holder makes while links are served is within the steps that are left.
use Rattle.std.proofs.Common.{◌≡◌, inl, inr, ℕ, ◌≤◌, List, [], ◌∷◌, ◌++◌, Option, Some, length, refl, sym, subst, ◌∙◌, arith}
use Rattle.std.specs.Prelude.{MatchOption, Result, Ok, Err}
use Rattle.desk_words.specs.declared.call.Call.{Call}
use Rattle.http_wire.specs.declared.message.Message.{Message}
use Rattle.http_api.specs.declared.denied.Denied.{Denied}
use Rattle.order_desk.specs.Tables.{State}
use Rattle.turn_book.specs.Standing.{Opened}
use Rattle.pb_door.specs.LinkTold.{LinkTold}
use Rattle.answering.specs.Hand.{Hand, Made}
use Rattle.answering.specs.LaterHand.{AddsSteps, IsLaterHand}
use Rattle.answering.proofs.BookNames.{on_course}
use Rattle.answering.proofs.LaterHands.{hand_same, hand_twice}
use Rattle.session.specs.Responses.{AnswersAll, AnswersAsked, AnswersMessage}
use Rattle.session.specs.declared.end.SessionEnd.{SessionEnd}
use Rattle.serve_run.specs.Work.{ServesLinks}

on_asked : (asked : Result Call Denied) (m : Message) (h : Hand) (text : List ℕ) (new : Hand) → AnswersAsked asked m.head h text new → IsLaterHand h new
on_asked (Ok call) m h text new answers = on_course call.caller call.what h answers.0 new answers.1
on_asked (Err denied) m h text new answers = subst (λ (k : Hand). IsLaterHand h k) (sym answers.1) (hand_same h)

on_message : (m : Message) (h : Hand) (text : List ℕ) (new : Hand) → AnswersMessage m h text new → IsLaterHand h new
on_message m h text new (inl call) = on_asked call.asked m h text new call.answers
on_message m h text new (inr unasked) = subst (λ (k : Hand). IsLaterHand h k) (sym unasked.no_effect) (hand_same h)

on_messages : (messages : List Message) (h : Hand) (out : List ℕ) (new : Hand) → AnswersAll messages h out new → IsLaterHand h new
on_messages [] h out new is = subst (λ (k : Hand). IsLaterHand h k) (sym is.1) (hand_same h)
on_messages (m ∷ messages) h out new (between, text, more, one, others, joined) =
    hand_twice h between new (on_message m h text between one) (on_messages messages between more new others)

links_later : (ends : List SessionEnd) (h : Hand) (given ended : List LinkTold) (new : Hand) → ServesLinks ends h given ended new → IsLaterHand h new
links_later [] h [] [] new is = subst (λ (k : Hand). IsLaterHand h k) (sym is) (hand_same h)
links_later [] h [] (after ∷ ended) new is = absurd is
links_later [] h (before ∷ given) ended new is = absurd is
links_later (end ∷ ends) h [] ended new is = absurd is
links_later (end ∷ ends) h (before ∷ given) [] new is = absurd is
links_later (end ∷ ends) h (before ∷ given) (after ∷ ended) new (mid, dealt, serves) =
    hand_twice h mid new (on_messages dealt.session.due.messages h dealt.session.due.responses mid dealt.session.due.answered)
    (links_later ends mid given ended new serves)

-- of a holder that has made none
pub made_within : (book : Opened State) (ends : List SessionEnd) (h : Hand) (given ended : List LinkTold) (new : Hand) → h.book ≡ Some book → h.made ≡ []
    → ServesLinks ends h given ended new → length new.made ≤ h.left
made_within book ends h given ended new shared none serves =
    let later : IsLaterHand h new = links_later ends h given ended new serves in
    let adds : AddsSteps h new = subst (λ (o : Option (Opened State)). MatchOption o (new.made ≡ h.made) (λ book. AddsSteps h new)) shared later.made in
    let all : new.made ≡ adds.0 = adds.1 ∙ subst (λ (ms : List Made). h.made ++ adds.0 ≡ ms ++ adds.0) none refl in
    subst (λ (ms : List Made). length ms ≤ h.left) (sym all) (omega (arith, adds.2))
