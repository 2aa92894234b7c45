use Rattle.caller_laws.proofs.OwnEffects.{seen_valid, seen_with_room}
use Rattle.caller_laws.proofs.OwnHistories.{answered_after, told_alike, told_alone}
use Rattle.caller_laws.proofs.OwnSteps.{answered_alike, others_unseen, unsettled_unchanged}
use Rattle.caller_laws.proofs.laws.caller_laws.Goals as goal

pub returns-clause-valid : goal.returns-clause-valid
returns-clause-valid c = seen_valid

pub returns-clause-own : goal.returns-clause-own
returns-clause-own c = λ caller t event valid own room. seen_with_room caller t event valid.orders_in_order own room

pub returns-clause-steps : goal.returns-clause-steps
returns-clause-steps c = answered_alike

pub returns-clause-others : goal.returns-clause-others
returns-clause-others c = λ caller old new event answer. others_unseen c.history_laws.ensures.reads caller old new event answer

pub returns-clause-unsettled : goal.returns-clause-unsettled
returns-clause-unsettled c = λ old new event answer. unsettled_unchanged c.history_laws.ensures.reads old new event answer

pub returns-clause-alone : goal.returns-clause-alone
returns-clause-alone c = λ caller start history. told_alone c.history_laws.ensures.step c.history_laws.ensures.reads caller start history

pub returns-clause-alike : goal.returns-clause-alike
returns-clause-alike c = λ caller. told_alike c.history_laws.ensures.step c.history_laws.ensures.reads caller

pub returns-clause-changed : goal.returns-clause-changed
returns-clause-changed c = λ caller.
    answered_after c.history_laws.ensures.step c.history_laws.ensures.reads caller c.history_laws.ensures.valid
