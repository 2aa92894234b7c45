use Rattle.std.proofs.Common.{rules}
use Rattle.desk_run.proofs.Dealt.{dealt_as}
use Rattle.desk_run.proofs.run.serve_ends.Goals as goal

pub returns-clause-dealt : goal.returns-clause-dealt
returns-clause-dealt g c = dealt_as _ _ _ _ _ _ _ (search rules) (search rules) c.session.ensures.dealt
