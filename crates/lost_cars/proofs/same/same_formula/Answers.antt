use Rattle.lost_cars.specs.ByName.{by_name}
use Rattle.lost_cars.proofs.SameLaws.{formula_read}
use Rattle.lost_cars.proofs.same.same_formula.Goals as goal

pub returns : goal.returns
returns c = λ equal.
    formula_read (by_name c.args.names.now.own.now c.args.names.now.other.now) c.args.own.now c.args.other.now _ _ c.nodes.ensures c.nodes-2.ensures (c.same_nodes.ensures equal)
