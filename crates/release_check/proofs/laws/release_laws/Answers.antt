use Rattle.book_text.proofs.BookLaw.{book_of-book}
use Rattle.findings.proofs.LeftLaws.{report_open, report_decided}
use Rattle.release_check.specs.NotReleased.{inquiry_of}
use Rattle.release_check.proofs.laws.release_laws.Goals as goal

pub returns-clause-open : goal.returns-clause-open
returns-clause-open c = λ text budget book report some h. report_open (inquiry_of book budget) report some h.0.report

pub returns-clause-decided : goal.returns-clause-decided
returns-clause-decided c = λ text budget book report ample h. report_decided (inquiry_of book budget) report (book_of-book text book h.0.reads).term ample h.0.report h.1
