use Rattle.std.proofs.Common.{ℕ, ◌<◌, List, length, sym, subst}
use Rattle.clausify.specs.declared.question.Question.TheVariants.{Necessary, Inadmissible}
use Rattle.findings.specs.Core.{Assumes}
use Rattle.findings.proofs.AssumeLaws.{assumes_absent, assumes_present}
use Rattle.findings.proofs.assuming.assume.Goals as goal

pub returns-in_ok-assume_one-in-Necessary : goal.returns-in_ok-assume_one-in-Necessary
returns-in_ok-assume_one-in-Necessary c =
    let b = c.args.book.now in
    let within : c.in-Necessary.code < length b.codes = rw c.in-Necessary.is at c.requires.fits in
    rw c.in-Necessary.is (λ cs vars few _ _.
    subst (λ (ls : List ℕ). Assumes b cs vars c.args.day (Necessary c.in-Necessary.code) ls) (sym c.in_ok-assume_one-in-Necessary.ensures)
    (assumes_absent b cs vars c.args.day c.in-Necessary.code c.new.result few within c.new.ensures))

pub returns-in_ok-assume_one-in-Inadmissible : goal.returns-in_ok-assume_one-in-Inadmissible
returns-in_ok-assume_one-in-Inadmissible c =
    let b = c.args.book.now in
    let within : c.in-Inadmissible.code < length b.codes = rw c.in-Inadmissible.is at c.requires.fits in
    rw c.in-Inadmissible.is (λ cs vars few _ _.
    subst (λ (ls : List ℕ). Assumes b cs vars c.args.day (Inadmissible c.in-Inadmissible.code) ls) (sym c.in_ok-assume_one-in-Inadmissible.ensures)
    (assumes_present b cs vars c.args.day c.in-Inadmissible.code c.new-in-Inadmissible.result few within c.new-in-Inadmissible.ensures))

pub returns-in-Superfluous : goal.returns-in-Superfluous
returns-in-Superfluous c = rw c.in-Superfluous.is (λ cs vars few are. c.assume_usage.ensures c.args.book.now cs vars c.args.day are)

pub returns-in-Ambiguous : goal.returns-in-Ambiguous
returns-in-Ambiguous c = rw c.in-Ambiguous.is (λ cs vars few are. c.assume_both.ensures c.args.book.now cs vars c.args.day c.in-Ambiguous.position are)

pub returns-in-Uncovered : goal.returns-in-Uncovered
returns-in-Uncovered c = rw c.in-Uncovered.is (λ cs vars few are. c.assume_none.ensures cs vars are)
