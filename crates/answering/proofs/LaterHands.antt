-- Wherever steps get, a legal history leads there.
use Rattle.std.proofs.Common.{◌≡◌, ◌+◌, ◌∙◌, List, [], ◌∷◌, ◌++◌, refl, sym, ap, subst, arith, inl, inr, length-append, append_assoc}
use Rattle.std.specs.Prelude.{Option, Some, None, MatchOption}
use Rattle.std.proofs.lemmas.List.{append-nil}
use Rattle.turn_book.specs.History.{end_of, entry, IsHistory}
use Rattle.turn_book.specs.Standing.{Opened}
use Rattle.turn_book.proofs.Histories.{end_of_append, history_append}
use Rattle.order_desk.specs.declared.answer.Answer.{Answer}
use Rattle.order_desk.specs.declared.event.Event.{Event}
use Rattle.order_desk.specs.Fits.{Fits}
use Rattle.order_desk.specs.History.{Reaches}
use Rattle.order_desk.specs.Step.{Step}
use Rattle.order_desk.specs.Tables.{State}
use Rattle.answering.specs.Hand.{Begins, Hand, Made, Stepped, Takes, with_made}
use Rattle.answering.specs.LaterHand.{AddsSteps, IsLaterHand, seen_after}

-- ---- histories

reaches_same : (s : State) → Reaches s s
reaches_same s = ([], tt, refl)

reaches_twice : (x y z : State) → Reaches x y → Reaches y z → Reaches x z
reaches_twice x y z first second = (
  first.0 ++ second.0,
  history_append (λ state. Fits state.tables) Step x first.0 second.0 first.1
      (subst (λ (s : State). IsHistory (λ state. Fits state.tables) Step s second.0) (sym first.2) second.1),
  end_of_append x first.0 second.0 ∙ ap (λ (s : State). end_of s second.0) first.2 ∙ second.2,
)

reaches_step : (x y : State) (e : Event) (a : Answer) → Fits x.tables e → Step x e a y → Reaches x y
reaches_step x y e a fits step = (entry e a y ∷ [], (fits, step, tt), refl)

-- ---- holders

abbrev MadeOn : Option (Opened State) → Hand → Hand → Type 0
MadeOn book h new = MatchOption book (new.made ≡ h.made) (λ _. AddsSteps h new)

made_same : (book : Option (Opened State)) (h : Hand) → MadeOn book h h
made_same None h = refl
made_same (Some book) h = ([], sym (append-nil h.made), omega arith, refl)

pub hand_same : (h : Hand) → IsLaterHand h h
hand_same h = record { reaches = reaches_same h.state; left = omega arith; made = made_same h.book h; book = refl }

seen_append : (s : State) (xs ys : List Made) → seen_after s (xs ++ ys) ≡ seen_after (seen_after s xs) ys
seen_append s [] ys = refl
seen_append s (x ∷ xs) ys = seen_append x.after xs ys

made_twice : (book : Option (Opened State)) (h i j : Hand) → MadeOn book h i → MadeOn book i j → MadeOn book h j
made_twice None h i j first second = second ∙ first
made_twice (Some book) h i j first second = (
  first.0 ++ second.0,
  second.1 ∙ ap (λ (l : List Made). l ++ second.0) first.1 ∙ append_assoc h.made first.0 second.0,
  (let a = first.2 in let b = second.2 in omega (arith, length-append first.0 second.0)),
  second.3 ∙ ap (λ (s : State). seen_after s second.0) first.3 ∙ sym (seen_append h.state first.0 second.0),
)

pub hand_twice : (h i j : Hand) → IsLaterHand h i → IsLaterHand i j → IsLaterHand h j
hand_twice h i j first second = record {
  reaches = reaches_twice h.state i.state j.state first.reaches second.reaches;
  left = let a = first.left in let b = second.left in omega arith;
  made = made_twice h.book h i j first.made (subst (λ (b : Option (Opened State)). MadeOn b i j) first.book second.made);
  book = second.book ∙ first.book;
}

pub begins_reached : (book : Option (Opened State)) (seen first : State) → Begins book seen first → Reaches seen first
begins_reached None seen first same = subst (λ (s : State). Reaches seen s) (sym same) (reaches_same seen)
begins_reached (Some book) seen first reached = reached

made_one : (book : Option (Opened State)) (h new : Hand) (one : Made) → new.made ≡ with_made book h.made one → h.left ≡ new.left + 1
    → new.state ≡ one.after → MadeOn book h new
made_one None h new one made left last = made
made_one (Some book) h new one made left last = (one ∷ [], made, omega arith, last)

pub hand_stepped : (h : Hand) (e : Event) (a : Answer) (new : Hand) → Stepped h e a new → IsLaterHand h new
hand_stepped h e a new s = record {
  reaches = reaches_twice h.state s.first new.state (begins_reached h.book h.state s.first s.begins) (reaches_step s.first new.state e a s.fits s.step);
  left = let less = s.left in omega arith;
  made = made_one h.book h new (record { before = s.first; event = e; answer = a; after = new.state }) s.made s.left refl;
  book = s.book;
}

pub hand_takes : (h : Hand) (e : Event) (a : Answer) (new : Hand) → Takes h e a new → IsLaterHand h new
hand_takes h e a new (inl over) = subst (λ (k : Hand). IsLaterHand h k) (sym over.same) (hand_same h)
hand_takes h e a new (inr stepped) = hand_stepped h e a new stepped
