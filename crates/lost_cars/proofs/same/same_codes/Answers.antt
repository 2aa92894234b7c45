use Rattle.std.proofs.Common.{◌≡◌, ◌+◌, ℕ, List, length, get_or, take, sym, ap, map, ◌∙◌, arith, ◌++◌, [], ◌∷◌}
use Rattle.std.proofs.lemmas.List.{take_all}
use Rattle.pb_base.specs.declared.node.Leaf.{Leaf}
use Rattle.pb_base.specs.declared.node.Leaf.TheVariants.{Code as LeafCode}
use Rattle.lost_cars.specs.ByName.{by_name}
use Rattle.lost_cars.proofs.SameLaws.{both_mapped_more}
use Rattle.lost_cars.proofs.same.same_codes.Goals as goal

pub loop-place-preserved : goal.loop-place-preserved
loop-place-preserved c =
    both_mapped_more (by_name c.args.names.now.own.now c.args.names.now.other.now) (λ k. LeafCode k) c.args.other.now c.args.own.now c.loop-place.place _ _
    (omega (arith, c.if-own-other.false)) (omega arith) (c.same_code.ensures c.if-not-same_code.false) c.loop-place.invariant

pub returns : goal.returns
returns c = λ _.
    ap (map (by_name c.args.names.now.own.now c.args.names.now.other.now)) (sym (take_all c.loop-place.place c.args.other.now (omega (arith, c.loop-place-test.false, c.if-own-other.false))))
    ∙ c.loop-place.invariant
    ∙ ap (map (λ (k : ℕ). LeafCode k)) (take_all c.loop-place.place c.args.own.now (omega (arith, c.loop-place-test.false)))
