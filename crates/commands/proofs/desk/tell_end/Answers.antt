use Rattle.commands.proofs.desk.tell_end.Goals as goal

pub returns-in-Served : goal.returns-in-Served
returns-in-Served g c = rw c.in-Served.is c.tell_session.ensures

pub returns-in-NotStarted : goal.returns-in-NotStarted
returns-in-NotStarted g c = rw c.in-NotStarted.is c.tell_start.ensures
