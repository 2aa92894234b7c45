use Rattle.std.proofs.Common.{sym, ◌∙◌, arith}
use Rattle.book_compare.proofs.StepRuns.{shared_more, new_more, shared_further, new_further}
use Rattle.book_compare.proofs.numbering.Numbering.of.Goals as goal
use Rattle.book_compare.proofs.numbering.Numbering.of.Goals.{in-Some+in_ok-push-in-Some, in-None+in_ok-push-in-None}

pub loop-place-preserved : goal.loop-place-preserved
loop-place-preserved c =
    elim c.match-place_of.branch [
      | in-Some+in_ok-push-in-Some w ↦
          rw (w.next-is, w.numbers-is)
          (record {
            numbers = shared_more c.loop-place.next c.args.first.now c.args.second.now c.loop-place.place c.name_of.result.now c.loop-place.numbers.items w.push.new.self.items _ c.name_of.ensures c.loop-place.invariant.numbers
                w.in-Some.shared (sym c.place_of.ensures ∙ w.in-Some.is) w.in_ok-push-in-Some.ensures.items;
            further = omega (
              arith,
              c.loop-place.invariant.further,
              shared_further c.args.first.now c.args.second.now c.loop-place.place c.name_of.result.now w.in-Some.shared c.name_of.ensures (sym c.place_of.ensures ∙ w.in-Some.is),
            );
            few = omega (arith, c.loop-place.invariant.few);
            behind = c.loop-place.invariant.behind;
          })
      | in-None+in_ok-push-in-None w ↦
          rw (w.next-is, w.numbers-is)
          (record {
            numbers = new_more c.loop-place.next c.args.first.now c.args.second.now c.loop-place.place c.name_of.result.now c.loop-place.numbers.items w.push-in-None.new.self.items _ c.name_of.ensures c.loop-place.invariant.numbers
                (sym c.place_of.ensures ∙ w.in-None.is) w.in_ok-push-in-None.ensures.items;
            further = omega (
              arith,
              c.loop-place.invariant.further,
              new_further c.args.first.now c.args.second.now c.loop-place.place c.name_of.result.now c.name_of.ensures (sym c.place_of.ensures ∙ w.in-None.is),
            );
            few = omega (arith, c.loop-place.invariant.few);
            behind = c.loop-place.invariant.behind;
          })
    ]
