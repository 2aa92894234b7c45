use Rattle.std.proofs.Common.{take}
use Rattle.inquiry.specs.Asking.{IsTried}
use Rattle.inquiry.proofs.tried.try_sets.Given as goal

abbrev pub invariant-loop-place : goal.invariant-loop-place
invariant-loop-place g l = IsTried (g.S.Inquiry.form l.source) (take l.place l.questions) l.tried
