use Rattle.std.proofs.Common.{◌≡◌, ◌<◌, ◌≤◌, length, ap, arith, sym, subst, ◌∙◌}
use Rattle.std.specs.Prelude.{All}
use Rattle.supplement_findings.specs.Counting.{pairs_at}
use Rattle.supplement_findings.specs.Questions.{QuestionFits}
use Rattle.supplement_findings.proofs.CountLaws.{IsCounting, counting_begins, counting_goes_on, counting_within, counting_ends, pairs_fit_all}
use Rattle.supplement_findings.proofs.counting.all_counted.Goals.{After-deref-in-loop-place}
use Rattle.supplement_findings.proofs.counting.all_counted.Goals as goal

few : (c : After-deref-in-loop-place) → length c.args.book.now.supplements ≤ 5000
few c = omega (arith, c.supplements-rules.ensures.limit, ap length c.supplements-rules.ensures.value)

within : (c : After-deref-in-loop-place) → c.loop-place.place < length c.args.book.now.supplements
within c = omega (arith, c.loop-place-test.true, ap length c.supplements-rules.ensures.value)

counting : (c : After-deref-in-loop-place) → IsCounting c.args.book.now c.args.slices.now c.loop-place.place c.deref.result.now
counting c = subst (IsCounting c.args.book.now c.args.slices.now c.loop-place.place) (sym c.deref.ensures.value) c.loop-place.invariant

row : (c : After-deref-in-loop-place) → c.deref-in-loop-place.result.now ≡ pairs_at c.args.book.now c.loop-place.place
row c = c.deref-in-loop-place.ensures.value ∙ c.in_ok-row.ensures

pub loop-place-init : goal.loop-place-init
loop-place-init c =
    counting_begins c.args.book.now c.args.slices.now c.in_ok-tallies.tallies.items
    (omega (arith, c.supplements-rules.ensures.limit, ap length c.supplements-rules.ensures.value)) c.in_ok-tallies.ensures

pub row_counted-requires-clause-few : goal.row_counted-requires-clause-few
row_counted-requires-clause-few c =
    counting_within c.args.book.now c.args.slices.now c.loop-place.place c.deref.result.now c.deref-in-loop-place.result.now (few c) (within c) (counting c) (row c)

pub row_counted-requires-clause-fits : goal.row_counted-requires-clause-fits
row_counted-requires-clause-fits c = subst (All (QuestionFits c.args.book.now)) (sym (row c)) (pairs_fit_all c.args.book.now c.loop-place.place (within c))

pub loop-place-preserved : goal.loop-place-preserved
loop-place-preserved c =
    let at = (goal.at.loop-place-preserved c).After-deref-in-loop-place in
    counting_goes_on c.args.book.now c.args.slices.now c.loop-place.place c.deref.result.now c.in_ok-tallies-2.tallies.items c.deref-in-loop-place.result.now
    (few at) (within at) (counting at) (row at) c.in_ok-tallies-2.ensures

pub returns : goal.returns
returns c =
    counting_ends c.args.book.now c.args.slices.now c.loop-place.place c.loop-place.tallies.items
    (omega (arith, c.loop-place-test.false, ap length c.supplements-rules.ensures.value)) c.loop-place.invariant
