use Rattle.std.proofs.Common.{[], ◌∷◌, ◌++◌, map, map-id, rules, sym, ap, ◌∙◌}
use Rattle.std.proofs.lemmas.Iterator.Adapters.{YieldsList-from_vec}
use Rattle.std.proofs.lemmas.Iterator.Consumers.{YieldsList-end}
use Rattle.std.proofs.lemmas.List.{map_push}
use Rattle.order_desk.specs.declared.checking.BookPlace.{BookPlace}
use Rattle.order_desk.proofs.book_rows.places_of.Goals as goal

pub loop-row-preserved : goal.loop-row-preserved
loop-row-preserved c =
    ap (map (λ (p : BookPlace). p.row)) c.in_ok-push.ensures.items
    ∙ map_push (λ (p : BookPlace). p.row) c.loop-row.places.items _
    ∙ ap (λ rows. rows ++ c.in-Some.row ∷ []) c.loop-row.invariant

pub returns : goal.returns
returns c =
    let end = YieldsList-end (YieldsList-from_vec {s = c.into_iter-row-iterator.result} c.args.rows.items (search rules) (search rules))
    c.loop-row.yielded c.loop-row.row-iterator c.loop-row.yielded_by c.next.result c.next.new.self c.in-None.is c.next.ensures.steps in
    c.loop-row.invariant ∙ sym (map-id c.loop-row.yielded) ∙ end.0
