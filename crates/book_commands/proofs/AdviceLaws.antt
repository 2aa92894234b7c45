-- What `free`, `why` and `ask` tell is so of the orders that the book accepts.
use Rattle.std.proofs.Common.{◌≡◌, ℕ, Bool, true, false, List, Option, None, Some, Result, Ok, Err}
use Rattle.std.specs.Prelude.{IfOk}
use Rattle.book_model.specs.Activity.{is_within}
use Rattle.book_model.specs.Contents.{Contents}
use Rattle.book_text.specs.BookText.{book_of}
use Rattle.book_text.specs.declared.fault.BookFault.{BookFault}
use Rattle.command_words.specs.declared.task.BookCommand.{BookCommand}
use Rattle.command_words.specs.declared.task.BookCommand.TheVariants.{Order, Check, Prove, Verify, Supplements, Compare, Free, Why, Ask, Days, Require, Changes}
use Rattle.parts_usage.specs.Fault.{order_fault}
use Rattle.parts_usage.specs.declared.fault.OrderFault.{OrderFault}
use Rattle.pb_base.specs.Rule.{Rule}
use Rattle.pb_outside.specs.Files.{FilesTold}
use Rattle.rule_text.specs.Reading.{rule_of}
use Rattle.rule_text.specs.declared.fault.RuleFault.{RuleFault}
use Rattle.book_commands.specs.Advice.{TellsFree, TellsWhy, TellsAsk, TellsOrders}
use Rattle.book_commands.specs.Ask.{RepliesToAsk, RepliesOnDay, RepliesByRule}
use Rattle.book_commands.specs.Free.{IsFreeReply, RepliesToFree, RepliesUnless}
use Rattle.book_commands.specs.Promises.{promise_of}
use Rattle.book_commands.specs.RunReply.{RunReply}
use Rattle.book_commands.specs.Why.{IsWhyReply, RepliesToWhy}

unless_so : (P Q : RunReply → Type 0) (fault : Option OrderFault) (reply : RunReply) → (P reply → Q reply) → RepliesUnless fault P reply
    → RepliesUnless fault Q reply
unless_so P Q None reply so h = so h
unless_so P Q (Some fault) reply so h = h

free_so : (book : Result Contents BookFault) (day : ℕ) (names : List (List ℕ)) (budget : ℕ) (reply : RunReply) → RepliesToFree book day names budget reply
    → IfOk book (λ b. TellsOrders (Free day names budget) b reply)
free_so (Ok b) day names budget reply h =
    unless_so (IsFreeReply b day names budget) (TellsFree b day names) (order_fault b day names) reply
    (λ is. record { answer = is.answer; told = is.told; orders = is.is_right.orders }) h
free_so (Err fault) day names budget reply h = tt

why_so : (book : Result Contents BookFault) (day : ℕ) (names : List (List ℕ)) (budget : ℕ) (reply : RunReply) → RepliesToWhy book day names budget reply
    → IfOk book (λ b. TellsOrders (Why day names budget) b reply)
why_so (Ok b) day names budget reply h =
    unless_so (IsWhyReply b day names budget) (TellsWhy b day) (order_fault b day names) reply
    (λ is. record { answer = is.answer; told = is.told; mends = is.is_right.mends }) h
why_so (Err fault) day names budget reply h = tt

rule_so : (b : Contents) (day budget : ℕ) (read : Result Rule RuleFault) (reply : RunReply) → RepliesByRule b day budget read reply
    → IfOk read (λ rule. TellsAsk b day rule reply)
rule_so b day budget (Ok rule) reply h = record { found = h.found; told = h.answer; orders = h.orders }
rule_so b day budget (Err fault) reply h = tt

day_so : (b : Contents) (day : ℕ) (text : List ℕ) (budget : ℕ) (in_term : Bool) (reply : RunReply) → RepliesOnDay in_term b day text budget reply
    → in_term ≡ true → IfOk (rule_of b.codes text) (λ rule. TellsAsk b day rule reply)
day_so b day text budget true reply h within = rule_so b day budget (rule_of b.codes text) reply h
day_so b day text budget false reply h within = let clash : false ≡ true = within in cc

ask_so : (book : Result Contents BookFault) (day : ℕ) (text : List ℕ) (budget : ℕ) (reply : RunReply) → RepliesToAsk book day text budget reply
    → IfOk book (λ b. TellsOrders (Ask day text budget) b reply)
ask_so (Ok b) day text budget reply h = day_so b day text budget (is_within b.first b.last day) reply h
ask_so (Err fault) day text budget reply h = tt

-- of other commands nothing is said
nothing_told : (book : Result Contents BookFault) → IfOk book (λ b. Unit {0})
nothing_told (Ok b) = tt
nothing_told (Err fault) = tt

pub tells_orders : (command : BookCommand) (input : List ℕ) (files files' : FilesTold) (reply : RunReply)
    → (promise_of command).replies input files files' reply → IfOk (book_of input) (λ b. TellsOrders command b reply)
unfolding promise_of
tells_orders (Free day names budget) input files files' reply h = free_so (book_of input) day names budget reply h.is_answer
tells_orders (Why day names budget) input files files' reply h = why_so (book_of input) day names budget reply h.is_answer
tells_orders (Ask day text budget) input files files' reply h = ask_so (book_of input) day text budget reply h.is_answer
tells_orders (Order day ordered) input files files' reply h = nothing_told (book_of input)
tells_orders (Check budget workers) input files files' reply h = nothing_told (book_of input)
tells_orders (Prove budget workers) input files files' reply h = nothing_told (book_of input)
tells_orders (Verify file) input files files' reply h = nothing_told (book_of input)
tells_orders (Supplements budget workers) input files files' reply h = nothing_told (book_of input)
tells_orders (Compare day file budget workers) input files files' reply h = nothing_told (book_of input)
tells_orders (Days ordered) input files files' reply h = nothing_told (book_of input)
tells_orders (Require file budget workers) input files files' reply h = nothing_told (book_of input)
tells_orders (Changes file budget workers) input files files' reply h = nothing_told (book_of input)
