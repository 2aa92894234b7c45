use Rattle.std.proofs.Common.{List, sym, subst, ◌∙◌}
use Rattle.blame.specs.Entries.{Among}
use Rattle.blame.specs.declared.entries.Entry.{Entry}
use Rattle.blame.proofs.EntryLaws.{all_fit, all_few}
use Rattle.blame.proofs.telling.blame_by.Goals as goal

pub blame_some-requires-clause-fit : goal.blame_some-requires-clause-fit
blame_some-requires-clause-fit c =
    all_fit c.args.book.now c.args.day c.args.chosen.now c.deref-3.result.now c.requires.chosen (c.deref-3.ensures.value ∙ c.in_ok-all.ensures)

pub blame_some-requires-clause-few : goal.blame_some-requires-clause-few
blame_some-requires-clause-few c =
    all_few c.args.book.now c.args.day c.codes-codes.ensures.book c.args.chosen.now c.deref-3.result.now c.requires.few (c.deref-3.ensures.value ∙ c.in_ok-all.ensures)

pub blame_some-requires-clause-among : goal.blame_some-requires-clause-among
blame_some-requires-clause-among c =
    subst (λ (es : List Entry). Among es c.in_ok-used.used.items) (c.deref.ensures.value ∙ sym c.deref-3.ensures.value) c.in_ok-used.ensures
