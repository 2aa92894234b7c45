-- The first rule of the heap comes before all of it.
use Rattle.std.proofs.Common.{sym, ap, ◌∙◌, arith}
use Rattle.std.specs.Ordering.{is_lt}
use Rattle.std.specs.BinaryHeap.{heap_items}
use Rattle.std.specs.declared.cmp.Reverse.{Reverse}
use Rattle.std.proofs.lemmas.Bool.{false≢true}
use Rattle.std.proofs.lemmas.List.{length-map}
use Rattle.supplement.specs.declared.worklist.Candidate.{Candidate}
use Rattle.supplement.proofs.WorklistLemmas.{first_before, none_before, none_in}
use Rattle.supplement.proofs.worklist.has_before.Goals as goal

pub returns-in-None : goal.returns-in-None
returns-in-None c = record {
  some = λ on. absurd (false≢true on);
  before = λ on t all. absurd (false≢true on);
  none = λ off. none_in c.args.candidate _ c.in-None.ensures.item.3;
}

pub returns-in-Some : goal.returns-in-Some
returns-in-Some c =
    let some = c.in-Some.ensures.item.3.0 in
    let tested = c.is_lt.ensures ∙ ap is_lt c.cmp.ensures in
    record {
      some = λ on. omega (arith, some, length-map (heap_items c.args.pushed.now) (λ (r : Reverse Candidate). r.0));
      before = λ on t all. first_before c.in-Some.first.now _ c.args.candidate t some c.in-Some.ensures.lookup (sym tested ∙ on) all;
      none = λ off. none_before c.in-Some.first.now _ c.args.candidate (sym tested ∙ off) (c.in-Some.ensures.greatest c.requires);
    }
