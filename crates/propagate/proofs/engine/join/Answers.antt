use Rattle.std.proofs.Common.{◌≡◌, ℕ, ◌-◌, length, ◌∙◌, ap}
use Rattle.propagate.specs.Assignment.{end_of}
use Rattle.propagate.specs.Watching.{IsPairIn}
use Rattle.propagate.proofs.KeepLaws.{grown_not}
use Rattle.propagate.proofs.JoinLaws.{joined, reason_here, held_open, held_late, held_fixed, no_level, false_for_good}
use Rattle.propagate.proofs.engine.join.Goals as goal

pub returns-in_default-clause-joined : goal.returns-in_default-clause-joined
returns-in_default-clause-joined c =
    joined c.args.assignment.now c.args.assignment.now c.args.watched.now c.push_plain.new.self c.args.lits.now _ c.in_ok-push_plain.ensures.attached (grown_not c.args.assignment.now) (λ r. r)

pub returns-in-Some-other_open-clause-joined : goal.returns-in-Some-other_open-clause-joined
returns-in-Some-other_open-clause-joined c =
    joined c.args.assignment.now c.args.assignment.now c.args.watched.now c.push_pair.new.self c.args.lits.now _ c.in_ok-push_pair.ensures.attached (grown_not c.args.assignment.now) (λ r. r)

pub returns-in-Some-other_late-clause-joined : goal.returns-in-Some-other_late-clause-joined
returns-in-Some-other_late-clause-joined c =
    let attached = c.in_ok-push_pair-2.ensures.attached in
    let reason = reason_here c.args.assignment.now c.args.watched.now c.push_pair-in-Some-other_late.new.self c.args.lits.now _ c.in-Some.first c.args.clause attached c.requires.place c.in-Some.ensures.is_in c.in_default-other_open.ensures.none in
    joined c.args.assignment.now c.put_only.new.assignment c.args.watched.now c.push_pair-in-Some-other_late.new.self c.args.lits.now _ attached c.put_only.ensures.grown (c.put_only.ensures.reasoned c.push_pair-in-Some-other_late.new.self.clauses reason)

pub returns-clause-joined : goal.returns-clause-joined
returns-clause-joined c =
    let attached = c.in_ok-push_plain-2.ensures.attached in
    let reason = reason_here c.args.assignment.now c.args.watched.now c.push_plain-2.new.self c.args.lits.now _ c.in-Some.first c.args.clause attached c.requires.place c.in-Some.ensures.is_in c.in_default-other_open.ensures.none in
    joined c.args.assignment.now c.put_only-2.new.assignment c.args.watched.now c.push_plain-2.new.self c.args.lits.now _ attached c.put_only-2.ensures.grown (c.put_only-2.ensures.reasoned c.push_plain-2.new.self.clauses reason)

pub returns-in_default-clause-refuted : goal.returns-in_default-clause-refuted
returns-in_default-clause-refuted c = λ e. false_for_good c.args.assignment.now c.args.watched.now c.args.lits.now c.requires.open_above c.in_default.ensures.none

pub returns-in-Some-other_open-clause-held : goal.returns-in-Some-other_open-clause-held
returns-in-Some-other_open-clause-held c = λ e v visiting.
    let in_clause : IsPairIn c.args.lits.now (record { first = c.in-Some.first; second = c.in-Some-other_open.second }) = record { first_in = c.in-Some.ensures.is_in; second_in = c.in-Some-other_open.ensures.is_in; apart = c.in-Some-other_open.ensures.apart } in
    held_open c.args.assignment.now v c.args.watched.now c.push_pair.new.self c.args.lits.now (record { first = c.in-Some.first; second = c.in-Some-other_open.second }) c.in_ok-push_pair.ensures.attached in_clause
    c.in_ok-push_pair.ensures.first c.in_ok-push_pair.ensures.second c.in-Some.ensures.not_false c.in-Some-other_open.ensures.not_false

pub returns-in-Some-other_late-clause-held : goal.returns-in-Some-other_late-clause-held
returns-in-Some-other_late-clause-held c = λ e v visiting.
    let at : c.end_of-end.result ≡ end_of c.args.assignment.now (length c.args.assignment.now.starts - 1) =
    c.end_of-end.ensures ∙ ap (λ (n : ℕ). end_of c.args.assignment.now n) (c.saturating_sub.ensures ∙ ap (λ (n : ℕ). n - 1) c.level.ensures.levels) in
    let in_clause : IsPairIn c.args.lits.now (record { first = c.in-Some.first; second = c.in-Some-other_late.second }) = record { first_in = c.in-Some.ensures.is_in; second_in = c.in-Some-other_late.ensures.is_in; apart = c.in-Some-other_late.ensures.apart } in
    held_late c.args.assignment.now c.put_only.new.assignment v c.args.watched.now c.push_pair-in-Some-other_late.new.self c.args.lits.now (record { first = c.in-Some.first; second = c.in-Some-other_late.second }) c.end_of-end.result at c.in_ok-push_pair-2.ensures.attached in_clause
    c.in_ok-push_pair-2.ensures.first c.in_ok-push_pair-2.ensures.second c.assigned_law.ensures.assigned c.put_only.ensures.grown c.put_only.ensures.assigned.consistent c.put_only.ensures.put c.in-Some-other_late.ensures.late visiting

pub returns-clause-held : goal.returns-clause-held
returns-clause-held c = λ e v visiting.
    let at : c.end_of-end.result ≡ end_of c.args.assignment.now (length c.args.assignment.now.starts - 1) =
    c.end_of-end.ensures ∙ ap (λ (n : ℕ). end_of c.args.assignment.now n) (c.saturating_sub.ensures ∙ ap (λ (n : ℕ). n - 1) c.level.ensures.levels) in
    let none = no_level c.args.assignment.now c.args.watched.now c.args.lits.now c.in-Some.first c.end_of-end.result at c.requires.open_above c.in_default-other_open.ensures.none c.in_default-other_late.ensures.none in
    held_fixed c.args.assignment.now c.put_only-2.new.assignment v c.args.watched.now c.push_plain-2.new.self c.args.lits.now _ c.in-Some.first c.in_ok-push_plain-2.ensures.attached c.put_only-2.ensures.grown none c.in-Some.ensures.is_in c.put_only-2.ensures.put
