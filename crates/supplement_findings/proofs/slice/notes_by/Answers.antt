use Rattle.std.proofs.Common.{All, sym, subst}
use Rattle.std.proofs.lemmas.List.Elements.{recursion_from_All}
use Rattle.pb_base.specs.InParts.{InParts}
use Rattle.inquiry.specs.Told.{IsTold}
use Rattle.supplement_findings.specs.Answering.{IsBuilt, IsPosed, form, inquiry}
use Rattle.supplement_findings.specs.Notes.{OwnNotes}
use Rattle.supplement_findings.proofs.ReportLaws.{all_noted, kept_of_built, built_of_kept}
use Rattle.supplement_findings.proofs.slice.notes_by.Goals as goal

pub answer_all-requires-clause-posed : goal.answer_all-requires-clause-posed
answer_all-requires-clause-posed c =
    subst (λ day. All (IsPosed c.args.source.now.book.now day c.args.source.now.codes.now) c.args.questions.now) (sym c.requires.day) c.requires.posed

pub answer_all-requires-clause-kept : goal.answer_all-requires-clause-kept
answer_all-requires-clause-kept c =
    let source = c.args.source.now in
    kept_of_built source.book.now source.day source.codes.now c.args.sets.now (subst (λ day. All (IsBuilt source.book.now day) c.args.sets.now) (sym c.requires.day) c.requires.built)

pub returns-clause-built : goal.returns-clause-built
returns-clause-built c =
    let source = c.args.source.now in
    subst (λ day. All (IsBuilt source.book.now day) c.answer_all.new.sets) c.requires.day
    (built_of_kept source.book.now source.day source.codes.now c.answer_all.new.sets c.answer_all.ensures.kept)

pub returns-clause-notes : goal.returns-clause-notes
returns-clause-notes c =
    let source = c.args.source.now in
    let b = source.book.now in
    let s = c.args.task.slice in
    let budget = c.args.task.budget in
    let told = c.in_ok-told.told.items in
    let on_first = subst (λ day. InParts (IsTold (form b day source.codes.now) budget) c.args.questions.now told) c.requires.day c.in_ok-told.ensures.told in
    subst (InParts (OwnNotes (inquiry b budget) s) c.args.questions.now) (sym c.in_ok-notes.ensures)
    (all_noted b budget s source.codes.now c.args.questions.now told c.requires.task.steady
    (recursion_from_All (IsPosed b s.first source.codes.now) c.args.questions.now c.requires.posed) on_first)
