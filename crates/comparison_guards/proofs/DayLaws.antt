-- A run that is told as refused has days on which the order is refused by that rule.
use Rattle.std.proofs.Common.{◌≡◌, ℕ, List, ap, ◌∙◌}
use Rattle.std.specs.Prelude.{Ok}
use Rattle.book_model.specs.Contents.{Contents}
use Rattle.parts_usage.specs.declared.judgement.Outcome.{Outcome}
use Rattle.parts_usage.specs.declared.judgement.Outcome.TheVariants.{Accepted, Refused, Unfit}
use Rattle.order_days.specs.Days.{IsRun, IsToldOn, refuses, told_of}
use Rattle.order_days.specs.declared.run.Run.{Run}
use Rattle.comparison_guards.specs.Days.{IsRefusedThrough}

told_refuses : (b : Contents) (day : ℕ) (outcome : Outcome) (rule : ℕ) → told_of b day outcome ≡ refuses rule → outcome ≡ Refused rule
told_refuses b day (Accepted x list) rule is = cc
told_refuses b day (Refused broken) rule is = cc
told_refuses b day (Unfit position count) rule is = cc

pub refused_through : (b : Contents) (names : List (List ℕ)) (run : Run) → IsRun b names run → IsRefusedThrough b names run
refused_through b names run h = λ rule refused day within.
    let on : IsToldOn b names run day = h.each day within in
    on.comes_to ∙ ap Ok (told_refuses b day on.outcome rule (on.told ∙ ap (told_of b run.first) refused))
