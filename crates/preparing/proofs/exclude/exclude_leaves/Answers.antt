use Rattle.chains.proofs.GrowthLaws.{grows_twice}
use Rattle.preparing.proofs.exclude.exclude_leaves.Goals as goal

pub returns-in_err-exclude_piece : goal.returns-in_err-exclude_piece
returns-in_err-exclude_piece c = grows_twice c.args.kernel.now c.loop-n.kernel c.exclude_piece.new.kernel c.loop-n.invariant c.exclude_piece.ensures

pub loop-n-preserved : goal.loop-n-preserved
loop-n-preserved c = grows_twice c.args.kernel.now c.loop-n.kernel c.exclude_piece.new.kernel c.loop-n.invariant c.exclude_piece.ensures
