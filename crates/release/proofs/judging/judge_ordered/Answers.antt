use Rattle.std.proofs.Common.{◌≡◌, List, Option, Some, None, length, sym, ap, ◌∙◌}
use Rattle.book_model.specs.Contents.{Contents}
use Rattle.book_model.specs.Parts.{PartsLine, parts}
use Rattle.parts_usage.specs.Outcome.{judged}
use Rattle.parts_usage.specs.declared.judgement.Outcome.TheVariants as outcome
use Rattle.supplement.specs.declared.completed.Completed.{Completed}
use Rattle.release.specs.Judged.{fitting_outcome}
use Rattle.release.proofs.NeverUnfit.{broken_in_range}
use Rattle.release.proofs.judging.judge_ordered.Goals as goal

pub first_broken-requires : goal.first_broken-requires
first_broken-requires c = c.in_ok-completed.ensures.same_codes ∙ c.requires

pub select-requires : goal.select-requires
select-requires c =
    c.in_ok-completed.ensures.same_codes ∙ c.requires ∙ sym (ap (λ (b : Contents). length b.codes) c.book.ensures.value)

pub returns-in-Some-clause-outcome : goal.returns-in-Some-clause-outcome
returns-in-Some-clause-outcome c =
    let b = c.args.released.now.book in
    let day = c.args.day in
    let y = c.in_ok-completed.completed.set in
    ap (λ o. judged o None (outcome.Accepted y (parts b day y))) (sym c.in-Some.is ∙ c.first_broken.ensures)
    ∙ ap (λ (k : Completed). fitting_outcome b day k.set) c.in_ok-completed.ensures.completion

pub returns-in-Some-clause-rule : goal.returns-in-Some-clause-rule
returns-in-Some-clause-rule c =
    broken_in_range c.args.released.now.book c.args.day c.in_ok-completed.completed.set c.in-Some.rule (sym c.first_broken.ensures ∙ c.in-Some.is)

pub returns-in_ok-list-in-None-clause-outcome : goal.returns-in_ok-list-in-None-clause-outcome
returns-in_ok-list-in-None-clause-outcome c =
    let b = c.args.released.now.book in
    let day = c.args.day in
    let y = c.in_ok-completed.completed.set in
    let list : c.in_ok-list-in-None.list ≡ parts b day y = c.in_ok-list-in-None.ensures ∙ ap (λ (b : Contents). parts b day y) c.book.ensures.value in
    ap (λ (lines : List PartsLine). outcome.Accepted y lines) list
    ∙ ap (λ o. judged o None (outcome.Accepted y (parts b day y))) (sym c.in-None.is ∙ c.first_broken.ensures)
    ∙ ap (λ (k : Completed). fitting_outcome b day k.set) c.in_ok-completed.ensures.completion
