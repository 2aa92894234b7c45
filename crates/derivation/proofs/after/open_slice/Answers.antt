use Rattle.std.proofs.Common.{◌*◌, ap, sym, subst, ◌∙◌, arith}
use Rattle.clausify.specs.Questions.{questions}
use Rattle.clause_pool.specs.Clause.{AreBelow}
use Rattle.derivation.specs.Stage.{to_close}
use Rattle.derivation.proofs.LimitLaws.{few_asked}
use Rattle.derivation.proofs.NamedLaws.{named_opened}
use Rattle.derivation.proofs.after.open_slice.Goals as goal

pub to_close-requires : goal.to_close-requires
to_close-requires c =
    rw c.deref.ensures.value
    (few_asked c.in_ok-coded.coded.questions.items (questions c.args.book.now c.args.slice.now.first) c.in_ok-coded.ensures.questions c.requires)

pub returns-clause-named : goal.returns-clause-named
returns-clause-named c =
    let coded = c.in_ok-coded.coded in
    let checker = c.of-checker.result in
    let asked = few_asked coded.questions.items (questions c.args.book.now c.args.slice.now.first) c.in_ok-coded.ensures.questions c.requires in
    named_opened (record { slice = c.args.number; clauses = checker; left = c.in_ok-to_close.to_close.items }) coded.questions.items coded.vars (omega arith) c.checker_laws.ensures c.coded_laws.ensures
    (subst (AreBelow (2 * coded.vars)) (sym c.of-checker.ensures) c.in_ok-coded.ensures.ranges.literals_below) asked (c.in_ok-to_close.ensures ∙ ap (to_close 0) c.deref.ensures.value)
