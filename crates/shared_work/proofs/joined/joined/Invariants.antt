use Rattle.std.proofs.Common.{◌≡◌, IsOkAnd}
use Rattle.pb_base.specs.InParts.{InParts}
use Rattle.shared_work.proofs.joined.joined.Given as goal

abbrev pub invariant-loop-list : goal.invariant-loop-list
invariant-loop-list g l = InParts (λ list own. IsOkAnd list (λ v. v.items ≡ own)) l.yielded l.all.items
