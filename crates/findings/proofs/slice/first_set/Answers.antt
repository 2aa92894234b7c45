use Rattle.std.proofs.Common.{[], ap, ◌∙◌, length}
use Rattle.std.proofs.lemmas.List.Elements.{All-nil, All-same}
use Rattle.book_model.specs.Good.{is_good}
use Rattle.slice_hints.specs.Found.{IsFound}
use Rattle.findings.proofs.Lifting.{on_first}
use Rattle.findings.proofs.slice.first_set.Goals as goal

pub returns : goal.returns
returns c =
    let b = c.args.book.now in
    let s = c.args.slice.now in
    let same = c.in_ok-found.ensures.set ∙ c.in_ok-copy.ensures in
    c.put.ensures b s.first (All-same (IsFound b s.first) c.in_ok-sets.sets [] c.in_ok-sets.ensures (All-nil (IsFound b s.first)))
    (record {
      counted = ap length same ∙ c.requires.counted;
      good_then = ap (is_good b s.first) same ∙ c.requires.void.good_then s.first (on_first s c.requires.order);
      usages = c.in_ok-found.ensures.usages;
    })
