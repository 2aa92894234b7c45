use Rattle.std.proofs.Common.{ap, subst, ◌∙◌}
use Rattle.std.specs.List.{IsDistinct}
use Rattle.pb_base.specs.Names.{same_name}
use Rattle.book_model.specs.Contents.{Contents}
use Rattle.book_changes.proofs.RunLaws.{some_common}
use Rattle.book_changes.proofs.run_work.kept_common.Goals as goal

pub returns : goal.returns
returns c = λ budget.
    let one = c.args.first.now.book in
    some_common one c.args.second.now.book c.args.run c.book.ensures.release.releasable
    (subst (IsDistinct same_name) (c.codes.ensures.value ∙ ap (λ (b : Contents). b.codes) c.book.ensures.value) c.names_law.ensures.distinct) c.requires.run.one c.requires.keeps
