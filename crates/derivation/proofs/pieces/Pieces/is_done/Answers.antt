use Rattle.std.proofs.Common.{◌≤◌, ◌+◌, length, arith}
use Rattle.derivation.proofs.PieceLaws.{none_when_done, left_few}
use Rattle.derivation.proofs.pieces.Pieces.is_done.Goals as goal

pub returns-clause-value : goal.returns-clause-value
returns-clause-value c = none_when_done _ _ c.self.inside.separator c.self.inside.rest.now c.self.view_is

pub returns-clause-few : goal.returns-clause-few
returns-clause-few c =
    let few : length c.args.self.now ≤ length c.self.inside.rest.now + 1 = left_few _ _ c.self.inside.separator c.self.inside.rest.now c.self.view_is in
    omega (arith, c.self.told.1)
