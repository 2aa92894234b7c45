use Rattle.commands.proofs.given.begin_given.Goals as goal

pub returns-in-Err-clause-none : goal.returns-in-Err-clause-none
returns-in-Err-clause-none g c = rw c.in-Err.is c.tell_no_words.ensures.none

pub returns-in-Err-clause-want : goal.returns-in-Err-clause-want
returns-in-Err-clause-want g c = rw c.in-Err.is c.tell_no_words.ensures.want
