use Rattle.std.proofs.Common.{ℕ, List, sym, subst}
use Rattle.book_clauses.specs.BookClauses.{AreUsages}
use Rattle.book_model.specs.declared.record.Slice.{Slice}
use Rattle.chains.specs.Growth.{given_of}
use Rattle.findings.specs.Core.{IsOverBook}
use Rattle.findings.proofs.CoreLaws.{book_begun, usages_begun}
use Rattle.findings.proofs.slice_reports.reports_over.Goals as goal

pub reports_by-requires-clause-over : goal.reports_by-requires-clause-over
reports_by-requires-clause-over c =
    let made = c.args.made in
    let now = c.in_ok-solver.solver in
    subst (λ (ps : List Slice). IsOverBook c.args.book.now ps now) (sym c.deref.ensures.value)
    (book_begun c.args.book.now made.periods.items made.pool.clauses made.vars now c.requires.codes c.requires.periods c.in_ok-solver.ensures.given c.in_ok-solver.ensures.vars
    c.in_ok-solver.ensures.codes)

pub reports_by-requires-clause-usages : goal.reports_by-requires-clause-usages
reports_by-requires-clause-usages c =
    let made = c.args.made in
    let now = c.in_ok-solver.solver in
    subst (λ (lits : List ℕ). AreUsages c.args.book.now (given_of now.kernel) now.vars lits) (sym c.deref-2.ensures.value)
    (usages_begun c.args.book.now made.pool.clauses made.vars made.usages.items now c.requires.usages c.in_ok-solver.ensures.given c.in_ok-solver.ensures.vars)
