use Rattle.std.proofs.Common.{◌≡◌}
use Rattle.pb_base.specs.Rule.{nodes}
use Rattle.blame.specs.Plain.{plain_rule}
use Rattle.blame.proofs.plain.is_plain.Given as goal

abbrev pub invariant-sides : goal.invariant-sides
invariant-sides l = plain_rule l.rule ≡ plain_rule l.rest

abbrev pub decreases-sides : goal.decreases-sides
decreases-sides l = nodes l.rest
