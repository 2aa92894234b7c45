use Rattle.std.proofs.Common.{List, sym, subst, ◌∙◌, All, ap}
use Rattle.std.specs.List.{AllZip}
use Rattle.book_model.specs.declared.record.Slice.{Slice}
use Rattle.book_changes.specs.Changes.{IsRun}
use Rattle.book_changes.specs.Days.{IsJointRun, joint_runs}
use Rattle.book_changes.proofs.DayLaws.{runs_are}
use Rattle.book_changes.proofs.runs.changes_on.Goals as goal

pub make_all-requires-clause-given : goal.make_all-requires-clause-given
make_all-requires-clause-given g c κs lives =
    let one = c.args.first.now.book in
    let other = c.args.second.now.book in
    let runs = c.deref.ensures.value ∙ c.in_ok-runs.ensures ∙ ap (λ (ss : List Slice). joint_runs ss c.as_slice-2.result.now) c.as_slice.ensures ∙ ap (joint_runs c.args.own.now) c.as_slice-2.ensures in
    subst (All (IsJointRun one other)) (sym runs) (runs_are one other c.args.own.now c.args.others.now c.requires.own.each c.requires.others.each)

pub returns : goal.returns
returns g c =
    let one = c.args.first.now.book in
    let other = c.args.second.now.book in
    let runs = c.deref.ensures.value ∙ c.in_ok-runs.ensures ∙ ap (λ (ss : List Slice). joint_runs ss c.as_slice-2.result.now) c.as_slice.ensures ∙ ap (joint_runs c.args.own.now) c.as_slice-2.ensures in
    record {
      first_slices = c.args.own.now;
      second_slices = c.args.others.now;
      of_first = c.requires.own.are;
      of_second = c.requires.others.are;
      each = subst (λ (rs : List Slice). AllZip (IsRun one other c.args.budget) rs c.in_ok-notes.notes.items) runs c.in_ok-notes.ensures;
    }
