use Rattle.std.proofs.Common.{not, ap, ◌∙◌}
use Rattle.book_model.specs.Contents.{Contents}
use Rattle.firing_sequence.specs.Sequence.{same_sequences}
use Rattle.book_changes.proofs.run_work.any_added.Goals as goal

pub returns : goal.returns
returns c =
    let day = c.args.run.first in
    ap not (c.in_ok-same.ensures ∙ ap (λ (b : Contents). same_sequences b c.book-other.result.now day) c.book-one.ensures.value
    ∙ ap (λ (b : Contents). same_sequences c.args.first.now.book b day) c.book-other.ensures.value)
