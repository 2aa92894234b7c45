use Rattle.findings.proofs.LeftLaws.{note_open, report_open, report_none, report_decided}
use Rattle.findings.proofs.laws.report_laws.Goals as goal

pub returns-clause-note : goal.returns-clause-note
returns-clause-note c i s a number note its some h = note_open i s some a number note its h

pub returns-clause-open : goal.returns-clause-open
returns-clause-open c i notes some h = report_open i notes some h

pub returns-clause-none : goal.returns-clause-none
returns-clause-none c i notes term ample h = report_none i notes term ample h

pub returns-clause-decided : goal.returns-clause-decided
returns-clause-decided c i notes term ample h = report_decided i notes term ample h
