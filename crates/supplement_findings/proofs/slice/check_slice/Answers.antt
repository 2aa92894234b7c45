use Rattle.std.proofs.Common.{◌≡◌, true, List, All, sym, subst, ◌∙◌}
use Rattle.pb_base.specs.InParts.{InParts}
use Rattle.supplement_findings.specs.Answering.{inquiry}
use Rattle.supplement_findings.specs.Notes.{OwnNotes}
use Rattle.supplement_findings.specs.Questions.{is_put, QuestionFits}
use Rattle.supplement_findings.specs.declared.question.SupplementQuestion.{SupplementQuestion}
use Rattle.supplement_findings.proofs.ReportLaws.{slice_notes, questions_put, questions_fitting}
use Rattle.supplement_findings.proofs.slice.check_slice.Goals as goal

pub notes_on-requires-clause-fit : goal.notes_on-requires-clause-fit
notes_on-requires-clause-fit c =
    let b = c.args.book.now in
    subst (All (QuestionFits b)) (sym (c.deref.ensures.value ∙ c.in_ok-questions.ensures)) (questions_fitting b c.args.task.slice.first)

pub notes_on-requires-clause-put : goal.notes_on-requires-clause-put
notes_on-requires-clause-put c =
    let b = c.args.book.now in
    let day = c.args.task.slice.first in
    subst (All (λ q. is_put b day q ≡ true)) (sym (c.deref.ensures.value ∙ c.in_ok-questions.ensures)) (questions_put b day)

pub returns-clause-notes : goal.returns-clause-notes
returns-clause-notes c =
    let b = c.args.book.now in
    let budget = c.args.task.budget in
    let s = c.args.task.slice in
    slice_notes b budget s c.in_ok-own.own.items c.in_ok-notes.notes.items c.codes.ensures.book c.requires.task.order c.requires.task.steady
    (subst (λ (qs : List SupplementQuestion). InParts (OwnNotes (inquiry b budget) s) qs c.in_ok-own.own.items) (c.deref.ensures.value ∙ c.in_ok-questions.ensures) c.in_ok-own.ensures.notes)
    c.in_ok-notes.ensures
