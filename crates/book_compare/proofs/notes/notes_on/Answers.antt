use Rattle.std.proofs.Common.{ℕ, List, length, map, sym, ap, subst, ◌∙◌, arith}
use Rattle.book_compare.specs.Comparison.{AreNoted}
use Rattle.book_compare.specs.Source.{note_of}
use Rattle.book_compare.specs.declared.note.CompareNote.{CompareNote}
use Rattle.book_compare.proofs.SourceLaws.{all_noted}
use Rattle.book_compare.proofs.notes.notes_on.Goals as goal

pub answer_all-requires-clause-posed : goal.answer_all-requires-clause-posed
answer_all-requires-clause-posed c = λ k p within. tt

pub answer_all-requires-clause-kept : goal.answer_all-requires-clause-kept
answer_all-requires-clause-kept c = λ k x within. absurd (omega (arith, within, ap length c.new-sets.ensures))

pub returns : goal.returns
returns c =
    let first = c.args.comparing.now.first.now in
    let second = c.args.comparing.now.second.now in
    let day = c.args.comparing.now.day in
    let told = c.in_ok-told.told.items in
    subst (λ (ns : List CompareNote). AreNoted first second day c.args.budget c.args.places.now ns)
    (sym (c.in_ok-notes.ensures ∙ ap (λ (cs : List (List ℕ)). map (note_of cs) told) c.codes.ensures.value))
    (all_noted first second day c.requires.ready.books c.requires.ready.distinct c.args.budget c.args.places.now told c.in_ok-told.ensures.told)
