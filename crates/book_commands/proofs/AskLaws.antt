-- The statuses of the replies to `ask`, and its answers.
use Rattle.std.proofs.Common.{◌≡◌, inl, inr, ℕ, Bool, true, false, List, [], Result, Ok, Err, refl, sym, subst, length}
use Rattle.std.specs.Prelude.{IsOk, IfOk}
use Rattle.blame.specs.Blame.{IsTold}
use Rattle.blame.specs.declared.blamed.Told.{Told}
use Rattle.blame.specs.declared.blamed.Told.TheVariants as told
use Rattle.book_model.specs.Activity.{is_within}
use Rattle.book_model.specs.Book.{RuleFits}
use Rattle.book_model.specs.Contents.{Contents}
use Rattle.book_text.specs.declared.fault.BookFault.{BookFault}
use Rattle.left_laws.specs.Laws.{OrdersMeet}
use Rattle.pb_base.specs.Rule.{Rule}
use Rattle.rule_text.specs.Reading.{rule_of}
use Rattle.rule_text.specs.declared.fault.RuleFault.{RuleFault}
use Rattle.rule_text.proofs.Counts.{rule_of-codes, rule_of-nodes}
use Rattle.book_commands.specs.Ask.{ask_notes, ask_status, told_reply, IsAskReply, RepliesByRule, RepliesOnDay, RepliesToAsk}
use Rattle.book_commands.specs.Ends.{IsCheckStatus, EndsCheck}
use Rattle.book_commands.specs.RunReply.{RunReply}
use Rattle.book_commands.proofs.Statuses.{same-kind}

told-end : (t : Told) → EndsCheck (ask_status t) (ask_notes t)
told-end (told.Car set) = inl (inl refl)
told-end (told.NoCar m) = inl (inr refl)
told-end (told.Undecided learnt) = inr (record { ends = refl; spent = refl })

reply-end : (b : Contents) (day : ℕ) (rule : Rule) (budget : ℕ) (reply : RunReply) → IsAskReply b day rule budget reply → EndsCheck reply.status reply.notes
reply-end b day rule budget reply h = subst (λ (r : RunReply). EndsCheck r.status r.notes) (sym h.answer) (told-end h.found)

end-kind : (reply : RunReply) → EndsCheck reply.status reply.notes → IsCheckStatus reply.status
end-kind reply (inl decided) = inl decided
end-kind reply (inr left) = inr (inl left.ends)

rule-kind : (b : Contents) (day budget : ℕ) (read : Result Rule RuleFault) (reply : RunReply) → RepliesByRule b day budget read reply → IsCheckStatus reply.status
rule-kind b day budget (Ok rule) reply h = end-kind reply (reply-end b day rule budget reply h)
rule-kind b day budget (Err fault) reply h = same-kind IsCheckStatus _ reply h (inr (inr refl))

day-kind : (b : Contents) (day : ℕ) (text : List ℕ) (budget : ℕ) (in_term : Bool) (reply : RunReply) → RepliesOnDay in_term b day text budget reply → IsCheckStatus reply.status
day-kind b day text budget true reply h = rule-kind b day budget (rule_of b.codes text) reply h
day-kind b day text budget false reply h = same-kind IsCheckStatus _ reply h (inr (inr refl))

pub ask-kind : (book : Result Contents BookFault) (day : ℕ) (text : List ℕ) (budget : ℕ) (reply : RunReply) → RepliesToAsk book day text budget reply → IsCheckStatus reply.status
ask-kind (Ok b) day text budget reply h = day-kind b day text budget (is_within b.first b.last day) reply h
ask-kind (Err fault) day text budget reply h = same-kind IsCheckStatus _ reply h (inr (inr refl))

rule-answered : (b : Contents) (day budget : ℕ) (read : Result Rule RuleFault) (reply : RunReply) → IsOk read → RepliesByRule b day budget read reply
    → EndsCheck reply.status reply.notes
rule-answered b day budget (Ok rule) reply ok h = reply-end b day rule budget reply h
rule-answered b day budget (Err fault) reply ok h = let clash : false ≡ true = ok in cc

day-answered : (b : Contents) (day : ℕ) (text : List ℕ) (budget : ℕ) (in_term : Bool) (reply : RunReply) → in_term ≡ true → IsOk (rule_of b.codes text)
    → RepliesOnDay in_term b day text budget reply → EndsCheck reply.status reply.notes
day-answered b day text budget true reply in_ ok h = rule-answered b day budget (rule_of b.codes text) reply ok h
day-answered b day text budget false reply in_ ok h = let clash : false ≡ true = in_ in cc

pub ask-answered : (book : Result Contents BookFault) (day : ℕ) (text : List ℕ) (budget : ℕ) (reply : RunReply) → IsOk book → IfOk book (λ b. is_within b.first b.last day ≡ true)
    → IfOk book (λ b. IsOk (rule_of b.codes text)) → RepliesToAsk book day text budget reply → EndsCheck reply.status reply.notes
ask-answered (Ok b) day text budget reply ok in_ rule h = day-answered b day text budget (is_within b.first b.last day) reply in_ rule h
ask-answered (Err fault) day text budget reply ok in_ rule h = let clash : false ≡ true = ok in cc

-- what was read fits the book
pub read_fits : (names : List (List ℕ)) (text : List ℕ) (rule : Rule) → rule_of names text ≡ Ok rule → RuleFits (length names) rule
read_fits names text rule is = record { in_range = rule_of-codes names text rule is; size = rule_of-nodes names text rule is }

-- a right answer, told
pub told_right : {E : Type 0} (b : Contents) (day : ℕ) (rule : Rule) (budget : ℕ) (t : Told) (made : Result RunReply E) → IsTold b day [] rule budget t
    → OrdersMeet b day rule t → IfOk made (λ r. r ≡ told_reply b t) → IfOk made (IsAskReply b day rule budget)
told_right b day rule budget t (Ok reply) right orders is = record { found = t; is_right = right; orders = orders; answer = is }
told_right b day rule budget t (Err wanting) right orders is = tt

-- the reply by what was read
pub by_read : {E : Type 0} (b : Contents) (day budget : ℕ) (read found : Result Rule RuleFault) (made : Result RunReply E) → read ≡ found
    → IfOk made (RepliesByRule b day budget found) → IfOk made (RepliesByRule b day budget read)
by_read b day budget read found made is h = subst (λ (r : Result Rule RuleFault). IfOk made (RepliesByRule b day budget r)) (sym is) h
