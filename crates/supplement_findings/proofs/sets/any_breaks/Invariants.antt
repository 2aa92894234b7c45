use Rattle.std.proofs.Common.{◌≡◌, drop}
use Rattle.std.specs.List.{list_any}
use Rattle.book_model.specs.Good.{breaks}
use Rattle.supplement_findings.specs.Touching.{construct_at}
use Rattle.supplement_findings.proofs.sets.any_breaks.Given as goal

abbrev pub invariant-loop-place : goal.invariant-loop-place
invariant-loop-place l =
    list_any (λ p. breaks l.day l.set (construct_at l.book p)) (drop l.place-index l.places) ≡ list_any (λ p. breaks l.day l.set (construct_at l.book p)) l.places
