use Rattle.std.proofs.Common.{◌<◌, length, sym, arith}
use Rattle.left_cars.proofs.SeenLaws.{IsNoted, noted, noted_upto}
use Rattle.left_cars.proofs.seen.see.Goals as goal

pub loop-place-preserved : goal.loop-place-preserved
loop-place-preserved c =
    let within : c.loop-place.place < length c.args.book.now.codes = omega (arith, c.requires.counted) in
    let n : IsNoted c.args.book.now c.args.day c.args.chosen.now c.loop-place.seen c.see_code.new.seen c.loop-place.place =
    noted c.args.book.now c.args.day c.args.chosen.now c.loop-place.seen c.see_code.new.seen c.loop-place.place c.has.result c.loop-place.invariant.seen within
    (record { car = c.args.car.now; left = c.requires.left; shows = sym c.has.ensures }) c.see_code.ensures.with_it c.see_code.ensures.without in
    record {
      seen = n.seen;
      upto = noted_upto c.args.book.now c.args.day c.args.chosen.now c.loop-place.seen c.see_code.new.seen c.loop-place.place n c.loop-place.invariant.upto;
    }

pub returns-clause-all : goal.returns-clause-all
returns-clause-all c = λ p low. c.loop-place.invariant.upto p (omega (arith, c.requires.counted))
