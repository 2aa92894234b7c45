use Rattle.std.proofs.Common.{◌≡◌, length, Ok, ap, sym, subst, ◌∙◌}
use Rattle.book_model.specs.Contents.{Contents}
use Rattle.book_model.specs.Sound.{IsReleasable}
use Rattle.parts_usage.specs.Outcome.{outcome_of}
use Rattle.supplement.specs.Completion.{completion_of}
use Rattle.release.specs.Judged.{fitting_outcome}
use Rattle.release.proofs.NeverUnfit.{outcome_faultless, length-ordered}
use Rattle.release.proofs.judging.judge.Goals as goal

pub judge_ordered-requires : goal.judge_ordered-requires
judge_ordered-requires c =
    length-ordered c.book-book.result.now c.args.day c.args.codes.now c.in_ok-ordered.ordered c.in_ok-ordered.ensures
    ∙ ap (λ (b : Contents). length b.codes) c.book-book.ensures.value

pub returns-clause-outcome : goal.returns-clause-outcome
returns-clause-outcome c =
    let b : Contents = c.book-book.result.now in
    let own : b ≡ c.args.released.now.book = c.book-book.ensures.value in
    let day = c.args.day in
    let names = c.args.codes.now in
    let ordered = c.in_ok-ordered.ordered in
    let releasable : IsReleasable b = subst IsReleasable (sym own) c.book-book.ensures.release.releasable in
    ap (λ (b : Contents). outcome_of b day names) (sym own)
    ∙ outcome_faultless b day names ordered c.codes-codes.ensures.book releasable c.in_ok-ordered.ensures
    ∙ ap (λ (b : Contents). Ok (fitting_outcome b day (completion_of b day ordered).set)) own
    ∙ ap Ok (sym c.in_ok-judged.ensures.outcome)
