use Rattle.std.proofs.Common.{◌≡◌, Ok, ap, ◌∙◌}
use Rattle.parts_usage.specs.Outcome.{outcome_of}
use Rattle.parts_usage.specs.declared.judgement.Outcome.TheVariants as outcome
use Rattle.release.specs.Judged.{as_outcome}
use Rattle.release.specs.declared.judging.Judged.{Judged}
use Rattle.answering.proofs.TableLaws.{judged_accepted, under_there}
use Rattle.answering.proofs.orders.judge_and_place.Goals as goal

pub place-requires : goal.place-requires
place-requires g c codes =
    let order = c.args.order in
    let b = c.args.book.now.book in
    let accepted : outcome_of b order.day order.codes ≡ Ok (outcome.Accepted c.in-Ok-Accepted.set c.in-Ok-Accepted.list) =
    c.in-Ok-Accepted.ensures.outcome ∙ ap (λ (j : Judged). Ok (as_outcome j)) c.in-Ok-Accepted.field-0-is in
    under_there _ c.args.number order c.args.book.now c.requires.least c.requires.most c.requires.there codes
    (judged_accepted b order.day order.codes c.in-Ok-Accepted.set c.in-Ok-Accepted.list accepted)
