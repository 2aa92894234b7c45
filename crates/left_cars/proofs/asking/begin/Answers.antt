use Rattle.std.proofs.Common.{ℕ, IfOk, length, subst, ap, ◌∙◌}
use Rattle.clausify.proofs.CodedLaws.{begun, rules_room}
use Rattle.item_search.specs.Search.{IsOver}
use Rattle.item_search.proofs.EncodedLaws.{encoded_below, encoded_within}
use Rattle.left_cars.specs.Left.{left_items}
use Rattle.left_cars.proofs.LeftLaws.{IsMade, made_truth, made_encoded, made_fit}
use Rattle.left_cars.proofs.asking.begin.Goals as goal

pub add_rules-requires-clause-truth : goal.add_rules-requires-clause-truth
add_rules-requires-clause-truth c = c.in_ok-encoder.ensures.truth ∙ c.len.ensures.value ∙ ap length c.codes.ensures.value

pub add_rules-requires-clause-room : goal.add_rules-requires-clause-room
add_rules-requires-clause-room c =
    rules_room c.args.book.now c.args.day c.in_ok-encoder.encoder c.codes.ensures.book
    (begun c.args.book.now c.in_ok-encoder.encoder c.len.result (c.len.ensures.value ∙ ap length c.codes.ensures.value) c.in_ok-encoder.ensures.clauses c.in_ok-encoder.ensures.truth c.in_ok-encoder.ensures.next c.in_ok-encoder.ensures.first)

pub solver_over-requires-clause-below : goal.solver_over-requires-clause-below
solver_over-requires-clause-below c =
    let b = c.args.book.now in
    let chosen = c.args.chosen.now in
    let m0 = c.in_ok-encoder.encoder in
    let m1 = c.add_rules.new.encoder in
    let m2 = c.add_chosen.new.encoder in
    let made : IsMade b c.args.day chosen m0 m1 m2 = record {
      begun = begun b m0 c.len.result (c.len.ensures.value ∙ ap length c.codes.ensures.value) c.in_ok-encoder.ensures.clauses c.in_ok-encoder.ensures.truth c.in_ok-encoder.ensures.next c.in_ok-encoder.ensures.first;
      rules = c.in_ok-add_rules.ensures.made;
      codes = c.in_ok-add_chosen.ensures;
    } in
    encoded_below (left_items b c.args.day chosen) m2 (made_fit b c.args.day chosen m0 m1 m2 c.codes.ensures.book c.requires made) (made_encoded b c.args.day chosen m0 m1 m2 made)

pub solver_over-requires-clause-codes : goal.solver_over-requires-clause-codes
solver_over-requires-clause-codes c =
    let b = c.args.book.now in
    let chosen = c.args.chosen.now in
    let m0 = c.in_ok-encoder.encoder in
    let m1 = c.add_rules.new.encoder in
    let m2 = c.add_chosen.new.encoder in
    let made : IsMade b c.args.day chosen m0 m1 m2 = record {
      begun = begun b m0 c.len.result (c.len.ensures.value ∙ ap length c.codes.ensures.value) c.in_ok-encoder.ensures.clauses c.in_ok-encoder.ensures.truth c.in_ok-encoder.ensures.next c.in_ok-encoder.ensures.first;
      rules = c.in_ok-add_rules.ensures.made;
      codes = c.in_ok-add_chosen.ensures;
    } in
    encoded_within (left_items b c.args.day chosen) m2 (made_encoded b c.args.day chosen m0 m1 m2 made)

pub returns : goal.returns
returns c =
    let b = c.args.book.now in
    let chosen = c.args.chosen.now in
    let m0 = c.in_ok-encoder.encoder in
    let m1 = c.add_rules.new.encoder in
    let m2 = c.add_chosen.new.encoder in
    let made : IsMade b c.args.day chosen m0 m1 m2 = record {
      begun = begun b m0 c.len.result (c.len.ensures.value ∙ ap length c.codes.ensures.value) c.in_ok-encoder.ensures.clauses c.in_ok-encoder.ensures.truth c.in_ok-encoder.ensures.next c.in_ok-encoder.ensures.first;
      rules = c.in_ok-add_rules.ensures.made;
      codes = c.in_ok-add_chosen.ensures;
    } in
    subst (λ (n : ℕ). IfOk c.solver_over.result (IsOver n (left_items b c.args.day chosen))) (made_truth b c.args.day chosen m0 m1 m2 made)
    (c.solver_over.ensures.over (left_items b c.args.day chosen) (made_encoded b c.args.day chosen m0 m1 m2 made))
