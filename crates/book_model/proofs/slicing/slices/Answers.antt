-- The days that were found are the book's change days, and the slices run from one to the next.
use Rattle.std.proofs.Common.{◌≡◌, ap, ◌∙◌}
use Rattle.std.specs.List.{All, flat_map}
use Rattle.book_model.specs.Slices.{change_days, runs_from, all_slices, days_in, days_of, IsOrdered, IsSteady}
use Rattle.book_model.proofs.Runs.{change_days-are, of_given, answers_slices}
use Rattle.book_model.proofs.SliceLaws.{slices_ordered, slices_partition, slices_steady}
use Rattle.book_model.proofs.slicing.slices.Goals as goal

pub returns : goal.returns
returns c =
    let b = c.args.book.now in
    let days = c.deref-2.result.now in
    let last = c.term-term.result.last in
    let answer = c.runs_within.result in
    let ordered = c.term-term.ensures.order in
    let are : days ≡ change_days b = c.deref-2.ensures.value ∙ change_days-are b c.term-term.result.first last c.deref.result.now c.in_ok-days.days.items c.term-term.ensures.first c.term-term.ensures.last (c.deref.ensures.value ∙ c.in_ok-periods.ensures.value) c.in_ok-days.ensures.days in
    let all : runs_from days last ≡ all_slices b = ap (λ ds. runs_from ds last) are ∙ ap (λ k. runs_from (change_days b) k) c.term-term.ensures.last in
    let told = c.runs_within.ensures in
    record {
      value = answers_slices b answer (runs_from days last) all told;
      partition = of_given answer (runs_from days last) (λ slices. flat_map days_in slices ≡ days_of b) told (ap (flat_map days_in) all ∙ slices_partition b ordered);
      order = of_given answer (runs_from days last) (All IsOrdered) told (rw all (slices_ordered b ordered));
      steady = of_given answer (runs_from days last) (All (IsSteady b)) told (rw all (slices_steady b ordered));
    }
