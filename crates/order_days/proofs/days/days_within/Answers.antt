use Rattle.std.proofs.Common.{List, sym, ap, subst, ◌∙◌}
use Rattle.book_model.specs.declared.record.Slice.{Slice}
use Rattle.order_days.specs.Days.{AreRuns}
use Rattle.order_days.specs.Joined.{joined, runs_on}
use Rattle.order_days.proofs.RunLaws.{all_faultless, are_runs, fit_runs}
use Rattle.order_days.proofs.days.days_within.Goals as goal

pub joined_runs-requires : goal.joined_runs-requires
joined_runs-requires c =
    rw c.as_slice.ensures (all_faultless c.args.book.now c.args.names.now c.requires _ c.codes-codes.ensures.book.term c.in-Ok.ensures.partition c.in-Ok.ensures.order)

pub returns-in_ok-joined_runs-in-Ok-clause-runs : goal.returns-in_ok-joined_runs-in-Ok-clause-runs
returns-in_ok-joined_runs-in-Ok-clause-runs c =
    let b = c.args.book.now in
    let names = c.args.names.now in
    subst (AreRuns b names) (sym (c.in_ok-joined_runs-in-Ok.ensures ∙ ap (λ (ss : List Slice). joined b (runs_on b names ss)) c.as_slice.ensures))
    (are_runs b names c.requires _ c.in-Ok.ensures.value c.codes-codes.ensures.book.term c.in-Ok.ensures.partition c.in-Ok.ensures.order c.in-Ok.ensures.steady)

pub returns-in_ok-joined_runs-in-Ok-clause-fits : goal.returns-in_ok-joined_runs-in-Ok-clause-fits
returns-in_ok-joined_runs-in-Ok-clause-fits c =
    let b = c.args.book.now in
    let names = c.args.names.now in
    fit_runs b names _ c.codes-codes.ensures.book
    (subst (AreRuns b names) (sym (c.in_ok-joined_runs-in-Ok.ensures ∙ ap (λ (ss : List Slice). joined b (runs_on b names ss)) c.as_slice.ensures))
    (are_runs b names c.requires _ c.in-Ok.ensures.value c.codes-codes.ensures.book.term c.in-Ok.ensures.partition c.in-Ok.ensures.order c.in-Ok.ensures.steady))
