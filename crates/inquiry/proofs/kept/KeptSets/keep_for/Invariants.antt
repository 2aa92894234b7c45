use Rattle.std.proofs.Common.{All}
use Rattle.inquiry.specs.Told.{IsKept}
use Rattle.inquiry.proofs.kept.KeptSets.keep_for.Given as goal

abbrev pub invariant-loop-set : goal.invariant-loop-set
invariant-loop-set g l = All (IsKept (g.S.Inquiry.form l.source) (g.S.Inquiry.MayShow l.source)) l.kept
