use Rattle.std.proofs.Common.{List, [], ◌∷◌, ◌++◌, map, map-id, rules, sym, ap, ◌∙◌}
use Rattle.std.proofs.lemmas.Iterator.Adapters.{YieldsList-from_vec}
use Rattle.std.proofs.lemmas.Iterator.Consumers.{YieldsList-end}
use Rattle.std.proofs.lemmas.List.{map-append}
use Rattle.book_compare.specs.Source.{note_of}
use Rattle.book_compare.specs.declared.note.CompareNote.{CompareNote}
use Rattle.book_compare.proofs.notes.notes_of.Goals as goal

pub loop-own-preserved : goal.loop-own-preserved
loop-own-preserved c =
    c.in_ok-put.ensures ∙ ap (λ (ns : List CompareNote). ns ++ note_of c.args.codes.now c.in-Some.own ∷ []) c.loop-own.invariant
    ∙ sym (map-append (note_of c.args.codes.now) c.loop-own.yielded (c.in-Some.own ∷ []))

pub returns : goal.returns
returns c =
    let end = YieldsList-end (YieldsList-from_vec {s = c.into_iter-own-iterator.result} c.args.told.items (search rules) (search rules))
    c.loop-own.yielded c.loop-own.own-iterator c.loop-own.yielded_by c.next.result c.next.new.self c.in-None.is c.next.ensures.steps in
    c.loop-own.invariant ∙ ap (map (note_of c.args.codes.now)) (sym (map-id c.loop-own.yielded) ∙ end.0)
