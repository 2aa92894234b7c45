use Rattle.std.proofs.Common.{List, [], ◌∷◌, ◌++◌, length, map-id, rules, sym, subst, ◌∙◌}
use Rattle.std.specs.List.{AllZip}
use Rattle.std.proofs.lemmas.Iterator.Adapters.{YieldsList-from_vec}
use Rattle.std.proofs.lemmas.Iterator.Consumers.{YieldsList-end, YieldsList-turn}
use Rattle.std.proofs.lemmas.List.Elements.{All-get_or}
use Rattle.book_compare.specs.declared.note.CompareNote.{CompareNote}
use Rattle.book_changes.specs.Differs.{IsSelected, IsTrueNote}
use Rattle.book_changes.specs.declared.run.DifferNote.{DifferNote}
use Rattle.shared_work.proofs.JoinLaws.{zip-append}
use Rattle.book_changes.proofs.differs.with_parts.Goals as goal

pub note_with_parts-requires-clause-note : goal.note_with_parts-requires-clause-note
note_with_parts-requires-clause-note c =
    let holds = IsTrueNote c.args.first.now.book c.args.second.now.book c.args.run.first in
    let turn = YieldsList-turn (YieldsList-from_vec {s = c.into_iter-note-iterator.result} c.args.notes.items (search rules) (search rules))
    c.loop-note.yielded c.loop-note.note-iterator c.loop-note.yielded_by c.next.result c.next.new.self c.in-Some.note c.in-Some.is c.next.ensures.steps in
    subst holds (sym turn.1) (All-get_or holds c.args.notes.items (length c.loop-note.yielded) c.in-Some.note turn.0 c.requires.notes)

pub loop-note-preserved : goal.loop-note-preserved
loop-note-preserved c =
    let selected = IsSelected c.args.first.now.book c.args.second.now.book c.args.run.first in
    subst (λ (ms : List DifferNote). AllZip selected (c.loop-note.yielded ++ c.in-Some.note ∷ []) ms) (sym c.in_ok-push.ensures.items)
    (zip-append selected c.loop-note.yielded (c.in-Some.note ∷ []) c.loop-note.made.items (c.in_ok-own.own ∷ []) c.loop-note.invariant (c.in_ok-own.ensures, tt))

pub returns : goal.returns
returns c =
    let selected = IsSelected c.args.first.now.book c.args.second.now.book c.args.run.first in
    let end = YieldsList-end (YieldsList-from_vec {s = c.into_iter-note-iterator.result} c.args.notes.items (search rules) (search rules))
    c.loop-note.yielded c.loop-note.note-iterator c.loop-note.yielded_by c.next.result c.next.new.self c.in-None.is c.next.ensures.steps in
    subst (λ (ns : List CompareNote). AllZip selected ns c.loop-note.made.items) (sym (map-id c.loop-note.yielded) ∙ end.0) c.loop-note.invariant
