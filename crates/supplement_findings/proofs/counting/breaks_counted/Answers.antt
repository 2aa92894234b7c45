use Rattle.std.proofs.Common.{sym, subst, ◌∙◌}
use Rattle.std.specs.Prelude.{All}
use Rattle.supplement_findings.specs.Questions.{QuestionFits}
use Rattle.supplement_findings.proofs.CountLaws.{breaks_fit_all}
use Rattle.supplement_findings.proofs.counting.breaks_counted.Goals as goal

pub put_count-requires : goal.put_count-requires
put_count-requires c = subst (All (QuestionFits c.args.book.now)) (sym (c.deref.ensures.value ∙ c.loop-slice.invariant.0)) (breaks_fit_all c.args.book.now)
