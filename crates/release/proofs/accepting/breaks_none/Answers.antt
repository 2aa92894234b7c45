use Rattle.std.proofs.Common.{ap, ◌∙◌}
use Rattle.std.specs.Prelude.{is_none}
use Rattle.book_model.specs.Contents.{Contents}
use Rattle.parts_usage.specs.Broken.{first_broken_of}
use Rattle.supplement.specs.declared.completed.Completed.{Completed}
use Rattle.release.proofs.Accepted.{is_none_told}
use Rattle.release.proofs.accepting.breaks_none.Goals as goal

pub first_broken-requires : goal.first_broken-requires
first_broken-requires c = c.in_ok-completed.ensures.same_codes ∙ c.requires

pub returns : goal.returns
returns c =
    let b : Contents = c.args.released.now.book in
    is_none_told _ _ c.is_none.ensures
    ∙ ap is_none (c.first_broken.ensures
    ∙ ap (λ (k : Completed). first_broken_of b c.args.day k.set) c.in_ok-completed.ensures.completion)
