use Rattle.std.proofs.Common.{sym, ◌∙◌, arith}
use Rattle.firing_sequence.specs.Sequence.{same_node}
use Rattle.firing_sequence.proofs.SequenceLaws.{zip_passed, zip_ended}
use Rattle.firing_sequence.proofs.same.same_nodes.Goals as goal

pub loop-at-preserved : goal.loop-at-preserved
loop-at-preserved c =
    zip_passed (same_node c.args.codes.now c.args.others.now) c.args.own.now c.args.other.now c.loop-at.at _ _ (omega arith) (omega (arith, c.if-own-other.false)) (sym c.same_node.ensures ∙ c.if-not-same_node.false) c.loop-at.invariant

pub returns : goal.returns
returns c =
    zip_ended (same_node c.args.codes.now c.args.others.now) c.args.own.now c.args.other.now c.loop-at.at (omega (arith, c.loop-at-test.false)) (omega (arith, c.loop-at-test.false, c.if-own-other.false)) c.loop-at.invariant
