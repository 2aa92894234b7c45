use Rattle.std.proofs.Common.{rules, ℕ, List, true, ◌≡◌, subst}
use Rattle.clause_pool.specs.Clause.{has}
use Rattle.propagate.proofs.LookLaws.{keeps_not, keeps_grown, other_in, reason_conflict, reason_by}
use Rattle.propagate.proofs.visit.look_further.Goals as goal

pub returns-then-is_true-clause-keeps : goal.returns-then-is_true-clause-keeps
returns-then-is_true-clause-keeps c = keeps_not c.args.assignment.now c.args.watched.now

pub returns-then-is_true-clause-looks : goal.returns-then-is_true-clause-looks
returns-then-is_true-clause-looks c =
    (c.other_of-other.result, other_in c.args.watched.now c.args.entry.clause c.other_of-other.result c.requires.fits.pair c.other_of-other.ensures.pair, search rules)

pub returns-in-Some-clause-keeps : goal.returns-in-Some-clause-keeps
returns-in-Some-clause-keeps c = keeps_not c.args.assignment.now c.args.watched.now

pub returns-in-Some-clause-looks : goal.returns-in-Some-clause-looks
returns-in-Some-clause-looks c = record {
  one = c.other_of-other.ensures.pair;
  not_code = c.other_of-other.ensures.other c.requires.fits.pair.apart;
  other_in = other_in c.args.watched.now c.args.entry.clause c.other_of-other.result c.requires.fits.pair c.other_of-other.ensures.pair;
  is_in = subst (λ (xs : List ℕ). has xs c.in-Some.fresh ≡ true) c.codes.ensures.codes c.in-Some.ensures.is_in;
  below = c.requires.watching.below c.args.entry.clause c.in-Some.fresh (subst (λ (xs : List ℕ). has xs c.in-Some.fresh ≡ true) c.codes.ensures.codes c.in-Some.ensures.is_in);
  apart = c.in-Some.ensures.apart;
  not_false = c.in-Some.ensures.not_false;
}

pub returns-then-put_last-clause-keeps : goal.returns-then-put_last-clause-keeps
returns-then-put_last-clause-keeps c =
    let is_in = other_in c.args.watched.now c.args.entry.clause c.other_of-other.result c.requires.fits.pair c.other_of-other.ensures.pair in
    let reason = reason_by c.args.watched.now.clauses c.args.assignment.now.lits c.codes.result.now c.other_of-other.result c.args.entry.clause c.requires.fits.attached is_in c.codes.ensures.codes c.in_default.ensures.none in
    keeps_grown c.args.assignment.now c.put_last.new.assignment c.args.watched.now c.put_last.ensures.grown (c.put_last.ensures.reasoned c.args.watched.now.clauses reason)

pub returns-then-put_last-clause-looks : goal.returns-then-put_last-clause-looks
returns-then-put_last-clause-looks c =
    (c.other_of-other.result, other_in c.args.watched.now c.args.entry.clause c.other_of-other.result c.requires.fits.pair c.other_of-other.ensures.pair, c.if-put_last.ensures.put)

pub returns-clause-keeps : goal.returns-clause-keeps
returns-clause-keeps c =
    let is_in = other_in c.args.watched.now c.args.entry.clause c.other_of-other.result c.requires.fits.pair c.other_of-other.ensures.pair in
    let reason = reason_by c.args.watched.now.clauses c.args.assignment.now.lits c.codes.result.now c.other_of-other.result c.args.entry.clause c.requires.fits.attached is_in c.codes.ensures.codes c.in_default.ensures.none in
    keeps_grown c.args.assignment.now c.put_last.new.assignment c.args.watched.now c.put_last.ensures.grown (c.put_last.ensures.reasoned c.args.watched.now.clauses reason)

pub returns-clause-looks : goal.returns-clause-looks
returns-clause-looks c =
    let is_in = other_in c.args.watched.now c.args.entry.clause c.other_of-other.result c.requires.fits.pair c.other_of-other.ensures.pair in
    let reason = reason_by c.args.watched.now.clauses c.args.assignment.now.lits c.codes.result.now c.other_of-other.result c.args.entry.clause c.requires.fits.attached is_in c.codes.ensures.codes c.in_default.ensures.none in
    reason_conflict c.args.assignment.now c.put_last.new.assignment c.args.watched.now c.other_of-other.result c.args.entry.clause reason c.if-put_last.ensures.unchanged c.if-put_last.ensures.is_false
