use Rattle.std.proofs.Common.{refl}
use Rattle.book_commands.specs.Promises.{promise_of}
use Rattle.book_commands.proofs.due.command_reply.Goals as goal

pub returns-in_ok-order_reply-in-Order-clause-reply : goal.returns-in_ok-order_reply-in-Order-clause-reply
unfolding promise_of
returns-in_ok-order_reply-in-Order-clause-reply g c = rw c.in-Order.is (record { is_answer = c.in_ok-order_reply-in-Order.ensures; untouched = refl })

pub returns-in_ok-free_reply-in-Free-clause-reply : goal.returns-in_ok-free_reply-in-Free-clause-reply
unfolding promise_of
returns-in_ok-free_reply-in-Free-clause-reply g c = rw c.in-Free.is (record { is_answer = c.in_ok-free_reply-in-Free.ensures; untouched = refl })

pub returns-in_ok-why_reply-in-Why-clause-reply : goal.returns-in_ok-why_reply-in-Why-clause-reply
unfolding promise_of
returns-in_ok-why_reply-in-Why-clause-reply g c = rw c.in-Why.is (record { is_answer = c.in_ok-why_reply-in-Why.ensures; untouched = refl })

pub returns-in_ok-ask_reply-in-Ask-clause-reply : goal.returns-in_ok-ask_reply-in-Ask-clause-reply
unfolding promise_of
returns-in_ok-ask_reply-in-Ask-clause-reply g c = rw c.in-Ask.is (record { is_answer = c.in_ok-ask_reply-in-Ask.ensures; untouched = refl })

pub returns-in_ok-check_reply-in-Check-clause-reply : goal.returns-in_ok-check_reply-in-Check-clause-reply
unfolding promise_of
returns-in_ok-check_reply-in-Check-clause-reply g c = rw c.in-Check.is (record { is_answer = c.in_ok-check_reply-in-Check.ensures; untouched = refl })

pub returns-in_ok-proof_reply-in-Prove-clause-reply : goal.returns-in_ok-proof_reply-in-Prove-clause-reply
unfolding promise_of
returns-in_ok-proof_reply-in-Prove-clause-reply g c = rw c.in-Prove.is (record { is_answer = c.in_ok-proof_reply-in-Prove.ensures; untouched = refl })

pub returns-in_ok-days_reply-in-Days-clause-reply : goal.returns-in_ok-days_reply-in-Days-clause-reply
unfolding promise_of
returns-in_ok-days_reply-in-Days-clause-reply g c = rw c.in-Days.is (record { is_answer = c.in_ok-days_reply-in-Days.ensures; untouched = refl })

pub returns-in-Verify-clause-reply : goal.returns-in-Verify-clause-reply
unfolding promise_of
returns-in-Verify-clause-reply g c = rw c.in-Verify.is c.verify_reply.ensures.reply

pub returns-in-Verify-clause-cause : goal.returns-in-Verify-clause-cause
unfolding promise_of
returns-in-Verify-clause-cause g c = rw c.in-Verify.is c.verify_reply.ensures.cause

pub returns-in-Verify-clause-kept : goal.returns-in-Verify-clause-kept
unfolding promise_of
returns-in-Verify-clause-kept g c = rw c.in-Verify.is c.verify_reply.ensures.kept

pub returns-in_ok-supplements_reply-in-Supplements-clause-reply : goal.returns-in_ok-supplements_reply-in-Supplements-clause-reply
unfolding promise_of
returns-in_ok-supplements_reply-in-Supplements-clause-reply g c =
    rw c.in-Supplements.is (record { is_answer = c.in_ok-supplements_reply-in-Supplements.ensures; untouched = refl })

pub returns-in-Compare-clause-reply : goal.returns-in-Compare-clause-reply
unfolding promise_of
returns-in-Compare-clause-reply g c = rw c.in-Compare.is c.compare_reply.ensures.reply

pub returns-in-Compare-clause-cause : goal.returns-in-Compare-clause-cause
unfolding promise_of
returns-in-Compare-clause-cause g c = rw c.in-Compare.is c.compare_reply.ensures.cause

pub returns-in-Compare-clause-kept : goal.returns-in-Compare-clause-kept
unfolding promise_of
returns-in-Compare-clause-kept g c = rw c.in-Compare.is c.compare_reply.ensures.kept

pub returns-in-Require-clause-reply : goal.returns-in-Require-clause-reply
unfolding promise_of
returns-in-Require-clause-reply g c = rw c.in-Require.is c.require_reply.ensures.reply

pub returns-in-Require-clause-cause : goal.returns-in-Require-clause-cause
unfolding promise_of
returns-in-Require-clause-cause g c = rw c.in-Require.is c.require_reply.ensures.cause

pub returns-in-Require-clause-kept : goal.returns-in-Require-clause-kept
unfolding promise_of
returns-in-Require-clause-kept g c = rw c.in-Require.is c.require_reply.ensures.kept

pub returns-in-Changes-clause-reply : goal.returns-in-Changes-clause-reply
unfolding promise_of
returns-in-Changes-clause-reply g c = rw c.in-Changes.is c.changes_reply.ensures.reply

pub returns-in-Changes-clause-cause : goal.returns-in-Changes-clause-cause
unfolding promise_of
returns-in-Changes-clause-cause g c = rw c.in-Changes.is c.changes_reply.ensures.cause

pub returns-in-Changes-clause-kept : goal.returns-in-Changes-clause-kept
unfolding promise_of
returns-in-Changes-clause-kept g c = rw c.in-Changes.is c.changes_reply.ensures.kept
