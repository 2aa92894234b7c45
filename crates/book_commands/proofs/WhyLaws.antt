-- The statuses of the replies to `why`.
use Rattle.std.proofs.Common.{◌≡◌, inl, inr, ℕ, true, false, List, Option, None, Some, Result, Ok, Err, refl, sym, subst}
use Rattle.std.specs.Prelude.{IsOk, IfOk}
use Rattle.book_model.specs.Contents.{Contents}
use Rattle.book_text.specs.declared.fault.BookFault.{BookFault}
use Rattle.order_repair.specs.Repair.{IsAnswer}
use Rattle.order_repair.specs.declared.answer.WhyAnswer.{WhyAnswer}
use Rattle.parts_usage.specs.Fault.{order_fault}
use Rattle.parts_usage.specs.declared.fault.OrderFault.{OrderFault}
use Rattle.book_commands.specs.Ends.{IsDecided, IsOrderStatus}
use Rattle.book_commands.specs.Free.{RepliesUnless}
use Rattle.book_commands.specs.RunReply.{RunReply, order_fault_reply}
use Rattle.book_commands.specs.Why.{IsWhyReply, RepliesToWhy, RepliesWhy, why_reply}
use Rattle.book_commands.proofs.Statuses.{decided-outcome, same-kind}

told-decided : (b : Contents) (day : ℕ) (names : List (List ℕ)) (budget : ℕ) (reply : RunReply) → IsWhyReply b day names budget reply → IsDecided reply.status
told-decided b day names budget reply h = same-kind IsDecided _ reply h.told (decided-outcome h.answer.outcome)

order-kind : (b : Contents) (day : ℕ) (names : List (List ℕ)) (budget : ℕ) (fault : Option OrderFault) (reply : RunReply)
    → RepliesUnless fault (IsWhyReply b day names budget) reply → IsOrderStatus reply.status
order-kind b day names budget None reply h = inl (told-decided b day names budget reply h)
order-kind b day names budget (Some fault) reply h = same-kind IsOrderStatus _ reply h (inr refl)

pub why-kind : (book : Result Contents BookFault) (day : ℕ) (names : List (List ℕ)) (budget : ℕ) (reply : RunReply) → RepliesToWhy book day names budget reply
    → IsOrderStatus reply.status
why-kind (Ok b) day names budget reply h = order-kind b day names budget (order_fault b day names) reply h
why-kind (Err fault) day names budget reply h = same-kind IsOrderStatus _ reply h (inr refl)

order-answered : (b : Contents) (day : ℕ) (names : List (List ℕ)) (budget : ℕ) (fault : Option OrderFault) (reply : RunReply) → fault ≡ None
    → RepliesUnless fault (IsWhyReply b day names budget) reply → IsDecided reply.status
order-answered b day names budget None reply none h = told-decided b day names budget reply h
order-answered b day names budget (Some fault) reply none h = absurd (cc)

pub why-answered : (book : Result Contents BookFault) (day : ℕ) (names : List (List ℕ)) (budget : ℕ) (reply : RunReply) → IsOk book
    → IfOk book (λ b. order_fault b day names ≡ None) → RepliesToWhy book day names budget reply → IsDecided reply.status
why-answered (Ok b) day names budget reply ok faultless h = order-answered b day names budget (order_fault b day names) reply faultless h
why-answered (Err fault) day names budget reply ok faultless h = let clash : false ≡ true = ok in cc

-- the reply to an order without a fault, and to one with a fault
pub told_why : {E : Type 0} (b : Contents) (day : ℕ) (names : List (List ℕ)) (budget : ℕ) (answer : WhyAnswer) (made : Result RunReply E) → IsAnswer b day names budget answer
    → IfOk made (λ r. r ≡ why_reply b answer) → IfOk made (RepliesWhy b day names budget)
told_why b day names budget answer (Ok reply) right told =
    let is : IsWhyReply b day names budget reply = record { answer = answer; is_right = right; told = told } in
    subst (λ (f : Option OrderFault). RepliesUnless f (IsWhyReply b day names budget) reply) (sym right.faultless) is
told_why b day names budget answer (Err wanting) right told = tt

pub fault_why : {E : Type 0} (b : Contents) (day : ℕ) (names : List (List ℕ)) (budget : ℕ) (fault : OrderFault) (made : Result RunReply E) → order_fault b day names ≡ Some fault
    → IfOk made (λ r. r ≡ order_fault_reply fault) → IfOk made (RepliesWhy b day names budget)
fault_why b day names budget fault (Ok reply) is told = subst (λ (f : Option OrderFault). RepliesUnless f (IsWhyReply b day names budget) reply) (sym is) told
fault_why b day names budget fault (Err wanting) is told = tt
