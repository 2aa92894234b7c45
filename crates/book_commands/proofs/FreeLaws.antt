-- The statuses of the replies to `free`.
use Rattle.std.proofs.Common.{◌≡◌, inl, inr, ℕ, true, false, List, [], ◌∷◌, Option, None, Some, Result, Ok, Err, refl, sym, subst}
use Rattle.std.specs.Prelude.{IsOk, IfOk}
use Rattle.std.specs.List.{flat_map, list_any}
use Rattle.std.proofs.lemmas.Bool.{cases_Bool, cond-true, cond-false}
use Rattle.book_model.specs.Contents.{Contents}
use Rattle.book_text.specs.declared.fault.BookFault.{BookFault}
use Rattle.free_answers.specs.Answer.{IsAnswer}
use Rattle.free_answers.specs.declared.answer.FreeAnswer.{FreeAnswer}
use Rattle.left_cars.specs.declared.states.CodeState.{CodeState}
use Rattle.left_cars.specs.declared.states.CodeState.TheVariants as state
use Rattle.left_cars.specs.declared.states.Freedom.{Freedom}
use Rattle.left_cars.specs.declared.states.Freedom.TheVariants.{NoneLeft, NotDecided, Codes}
use Rattle.parts_usage.specs.Fault.{order_fault}
use Rattle.parts_usage.specs.declared.fault.OrderFault.{OrderFault}
use Rattle.book_commands.specs.Ends.{IsCheckStatus, EndsCheck}
use Rattle.book_commands.specs.Free.{free_reply, free_status, freedom_notes, is_left_open, state_notes, states_status, IsFreeReply, RepliesBeside, RepliesUnless, RepliesToFree}
use Rattle.book_commands.specs.Logged.{is_spent}
use Rattle.book_commands.specs.RunReply.{RunReply, order_fault_reply}
use Rattle.book_commands.specs.declared.run_status.RunStatus.TheVariants.{Done, Undecided}
use Rattle.book_commands.proofs.Statuses.{same-kind}

-- what is left open stands in the log
left_noted : (states : List CodeState) → list_any is_left_open states ≡ true → list_any is_spent (flat_map state_notes states) ≡ true
left_noted [] found = found
left_noted (state.Ordered ∷ states) found = left_noted states found
left_noted (state.Forced ∷ states) found = left_noted states found
left_noted (state.Excluded ∷ states) found = left_noted states found
left_noted (state.Open ∷ states) found = left_noted states found
left_noted (state.Undecided learnt ∷ states) found = refl

states-end : (states : List CodeState) → EndsCheck (states_status states) (flat_map state_notes states)
states-end states =
    elim (cases_Bool (list_any is_left_open states)) [
      | inl found ↦ inr (record { ends = cond-true (list_any is_left_open states) Undecided Done found; spent = left_noted states found })
      | inr closed ↦ inl (inl (cond-false (list_any is_left_open states) Undecided Done closed))
    ]

free-end : (freedom : Freedom) → EndsCheck (free_status freedom) (freedom_notes freedom)
free-end NoneLeft = inl (inr refl)
free-end (NotDecided learnt) = inr (record { ends = refl; spent = refl })
free-end (Codes states) = states-end states.items

told-end : (b : Contents) (day : ℕ) (names : List (List ℕ)) (budget : ℕ) (reply : RunReply) → IsFreeReply b day names budget reply → EndsCheck reply.status reply.notes
told-end b day names budget reply h = subst (λ (r : RunReply). EndsCheck r.status r.notes) (sym h.told) (free-end h.answer.freedom)

end-kind : (reply : RunReply) → EndsCheck reply.status reply.notes → IsCheckStatus reply.status
end-kind reply (inl decided) = inl decided
end-kind reply (inr left) = inr (inl left.ends)

beside-kind : (b : Contents) (day : ℕ) (names : List (List ℕ)) (budget : ℕ) (fault : Option OrderFault) (reply : RunReply)
    → RepliesUnless fault (IsFreeReply b day names budget) reply → IsCheckStatus reply.status
beside-kind b day names budget None reply h = end-kind reply (told-end b day names budget reply h)
beside-kind b day names budget (Some fault) reply h = same-kind IsCheckStatus _ reply h (inr (inr refl))

pub free-kind : (book : Result Contents BookFault) (day : ℕ) (names : List (List ℕ)) (budget : ℕ) (reply : RunReply) → RepliesToFree book day names budget reply
    → IsCheckStatus reply.status
free-kind (Ok b) day names budget reply h = beside-kind b day names budget (order_fault b day names) reply h
free-kind (Err fault) day names budget reply h = same-kind IsCheckStatus _ reply h (inr (inr refl))

beside-answered : (b : Contents) (day : ℕ) (names : List (List ℕ)) (budget : ℕ) (fault : Option OrderFault) (reply : RunReply) → fault ≡ None
    → RepliesUnless fault (IsFreeReply b day names budget) reply → EndsCheck reply.status reply.notes
beside-answered b day names budget None reply none h = told-end b day names budget reply h
beside-answered b day names budget (Some fault) reply none h = absurd (cc)

pub free-answered : (book : Result Contents BookFault) (day : ℕ) (names : List (List ℕ)) (budget : ℕ) (reply : RunReply) → IsOk book
    → IfOk book (λ b. order_fault b day names ≡ None) → RepliesToFree book day names budget reply → EndsCheck reply.status reply.notes
free-answered (Ok b) day names budget reply ok faultless h = beside-answered b day names budget (order_fault b day names) reply faultless h
free-answered (Err fault) day names budget reply ok faultless h = let clash : false ≡ true = ok in cc

-- the reply to an order without a fault, and to one with a fault
pub told_beside : {E : Type 0} (b : Contents) (day : ℕ) (names : List (List ℕ)) (budget : ℕ) (answer : FreeAnswer) (made : Result RunReply E) → IsAnswer b day names budget answer
    → IfOk made (λ r. r ≡ free_reply b answer) → IfOk made (RepliesBeside b day names budget)
told_beside b day names budget answer (Ok reply) right told =
    let is : IsFreeReply b day names budget reply = record { answer = answer; is_right = right; told = told } in
    subst (λ (f : Option OrderFault). RepliesUnless f (IsFreeReply b day names budget) reply) (sym right.faultless) is
told_beside b day names budget answer (Err wanting) right told = tt

pub fault_beside : {E : Type 0} (b : Contents) (day : ℕ) (names : List (List ℕ)) (budget : ℕ) (fault : OrderFault) (made : Result RunReply E) → order_fault b day names ≡ Some fault
    → IfOk made (λ r. r ≡ order_fault_reply fault) → IfOk made (RepliesBeside b day names budget)
fault_beside b day names budget fault (Ok reply) is told = subst (λ (f : Option OrderFault). RepliesUnless f (IsFreeReply b day names budget) reply) (sym is) told
fault_beside b day names budget fault (Err wanting) is told = tt
