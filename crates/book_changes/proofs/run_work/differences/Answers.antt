use Rattle.chosen_parts.specs.Chosen.{ids_of_either}
use Rattle.book_changes.proofs.DifferLaws.{all_true, parts_made}
use Rattle.book_changes.proofs.run_work.differences.Goals as goal

pub with_parts-requires-clause-notes : goal.with_parts-requires-clause-notes
with_parts-requires-clause-notes c =
    let one = c.args.first.now.book in
    let other = c.args.second.now.book in
    all_true one other c.args.run.first c.args.budget (ids_of_either one other) c.in_ok-compared.compared.items c.in_ok-compared.ensures

pub returns : goal.returns
returns c =
    let one = c.args.first.now.book in
    let other = c.args.second.now.book in
    parts_made one other c.args.run.first c.args.budget (ids_of_either one other) c.in_ok-compared.compared.items c.in_ok-notes.notes.items c.in_ok-compared.ensures c.in_ok-notes.ensures
