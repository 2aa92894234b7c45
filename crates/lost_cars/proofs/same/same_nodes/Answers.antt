use Rattle.std.proofs.Common.{sym, ap, map, ◌∙◌, arith}
use Rattle.std.proofs.lemmas.List.{take_all}
use Rattle.pb_base.specs.Leaves.{node_with}
use Rattle.lost_cars.specs.ByName.{by_name}
use Rattle.lost_cars.proofs.SameLaws.{mapped_more}
use Rattle.lost_cars.proofs.same.same_nodes.Goals as goal

pub loop-place-preserved : goal.loop-place-preserved
loop-place-preserved c =
    mapped_more (node_with (by_name c.args.names.now.own.now c.args.names.now.other.now)) c.args.other.now c.args.own.now c.loop-place.place _ _
    (omega (arith, c.if-own-other.false)) (omega arith) (c.same_node.ensures c.if-not-same_node.false) c.loop-place.invariant

pub returns : goal.returns
returns c = λ _.
    ap (map (node_with (by_name c.args.names.now.own.now c.args.names.now.other.now))) (sym (take_all c.loop-place.place c.args.other.now (omega (arith, c.loop-place-test.false, c.if-own-other.false))))
    ∙ c.loop-place.invariant
    ∙ take_all c.loop-place.place c.args.own.now (omega (arith, c.loop-place-test.false))
