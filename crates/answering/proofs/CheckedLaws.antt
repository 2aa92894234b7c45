-- What the check of a text comes to: the report of all questions, or why there is none.
use Rattle.std.proofs.Common.{◌≡◌, ℕ, List, inr, sym, subst}
use Rattle.book_model.specs.Contents.{Contents}
use Rattle.desk_words.specs.declared.reply.Reply.{Reply}
use Rattle.desk_words.specs.declared.reply.Reply.TheVariants as reply
use Rattle.findings.specs.declared.report.Note.{Note}
use Rattle.release_check.specs.Checked.{IsNotChecked, IsReportedBook}
use Rattle.release_check.specs.declared.checking.NotChecked.{NotChecked}
use Rattle.release_check.specs.declared.checking.NotChecked.TheVariants.{Text, Limit}
use Rattle.answering.specs.Answers.{IsChecked, IsTold, by_limits, by_reading, unchecked}

pub report_checked : (text : List ℕ) (budget : ℕ) (b : Contents) (notes : List Note) (said : Reply) → IsReportedBook text budget b notes
    → IsTold reply.Report b notes said → IsChecked text budget said
report_checked text budget b notes said is told =
    inr (subst (λ read. by_reading read budget said) (sym is.reads)
    (subst (λ limits. by_limits limits b budget said) (sym is.report.within) (notes, is.report, told)))

pub why_told : (text : List ℕ) (budget : ℕ) (why : NotChecked) (said : Reply) → IsNotChecked text why → said ≡ unchecked why
    → IsChecked text budget said
why_told text budget (Text fault) said is told = inr (subst (λ read. by_reading read budget said) (sym is) told)
why_told text budget (Limit fault) said limit told =
    inr (subst (λ read. by_reading read budget said) (sym limit.1)
    (subst (λ limits. by_limits limits limit.0 budget said) (sym limit.2) told))
