use Rattle.std.proofs.Common.{not, ap, sym, ◌∙◌}
use Rattle.pb_base.specs.Rule.{holds}
use Rattle.clausify.specs.Choices.{active_variants}
use Rattle.clausify.specs.Questions.{goal as goal_of}
use Rattle.clausify.specs.declared.question.Question.{Question}
use Rattle.slice_hints.proofs.UsageLaws.{none_used}
use Rattle.slice_hints.proofs.found.meets.Goals as goal

pub returns-in-Uncovered : goal.returns-in-Uncovered
returns-in-Uncovered c =
    ap not c.any_used.ensures
    ∙ sym (none_used c.args.book.now c.args.found.now.set (active_variants c.args.book.now c.args.day c.in-Uncovered.position))
    ∙ ap (λ (q : Question). holds (goal_of c.args.book.now c.args.day q) c.args.found.now.set) (sym c.in-Uncovered.is)
