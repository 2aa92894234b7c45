use Rattle.std.proofs.Common.{ℕ, IfOk, length, subst, ap, ◌∙◌}
use Rattle.clausify.specs.Items.{rule_items}
use Rattle.clausify.proofs.CodedLaws.{begun, rules_room}
use Rattle.item_search.specs.Search.{IsOver}
use Rattle.item_search.proofs.EncodedLaws.{encoded_below, encoded_within}
use Rattle.order_stays.proofs.FindLaws.{IsMade, made_truth, made_encoded, made_fit}
use Rattle.order_stays.proofs.finding.solver_of.Goals as goal

pub add_rules-requires-clause-truth : goal.add_rules-requires-clause-truth
add_rules-requires-clause-truth c = c.in_ok-encoder.ensures.truth ∙ c.len.ensures.value ∙ ap length c.codes.ensures.value

pub add_rules-requires-clause-room : goal.add_rules-requires-clause-room
add_rules-requires-clause-room c =
    rules_room c.args.book.now c.args.day c.in_ok-encoder.encoder c.codes.ensures.book
    (begun c.args.book.now c.in_ok-encoder.encoder c.len.result (c.len.ensures.value ∙ ap length c.codes.ensures.value) c.in_ok-encoder.ensures.clauses c.in_ok-encoder.ensures.truth c.in_ok-encoder.ensures.next c.in_ok-encoder.ensures.first)

pub solver_over-requires-clause-below : goal.solver_over-requires-clause-below
solver_over-requires-clause-below c =
    let b = c.args.book.now in
    let m0 = c.in_ok-encoder.encoder in
    let m1 = c.add_rules.new.encoder in
    let made : IsMade b c.args.day m0 m1 = record {
      begun = begun b m0 c.len.result (c.len.ensures.value ∙ ap length c.codes.ensures.value) c.in_ok-encoder.ensures.clauses c.in_ok-encoder.ensures.truth c.in_ok-encoder.ensures.next c.in_ok-encoder.ensures.first;
      rules = c.in_ok-add_rules.ensures.made;
    } in
    encoded_below (rule_items b c.args.day) m1 (made_fit b c.args.day m0 m1 c.codes.ensures.book made) (made_encoded b c.args.day m0 m1 made)

pub solver_over-requires-clause-codes : goal.solver_over-requires-clause-codes
solver_over-requires-clause-codes c =
    let b = c.args.book.now in
    let m0 = c.in_ok-encoder.encoder in
    let m1 = c.add_rules.new.encoder in
    let made : IsMade b c.args.day m0 m1 = record {
      begun = begun b m0 c.len.result (c.len.ensures.value ∙ ap length c.codes.ensures.value) c.in_ok-encoder.ensures.clauses c.in_ok-encoder.ensures.truth c.in_ok-encoder.ensures.next c.in_ok-encoder.ensures.first;
      rules = c.in_ok-add_rules.ensures.made;
    } in
    encoded_within (rule_items b c.args.day) m1 (made_encoded b c.args.day m0 m1 made)

pub returns : goal.returns
returns c =
    let b = c.args.book.now in
    let m0 = c.in_ok-encoder.encoder in
    let m1 = c.add_rules.new.encoder in
    let made : IsMade b c.args.day m0 m1 = record {
      begun = begun b m0 c.len.result (c.len.ensures.value ∙ ap length c.codes.ensures.value) c.in_ok-encoder.ensures.clauses c.in_ok-encoder.ensures.truth c.in_ok-encoder.ensures.next c.in_ok-encoder.ensures.first;
      rules = c.in_ok-add_rules.ensures.made;
    } in
    subst (λ (n : ℕ). IfOk c.solver_over.result (IsOver n (rule_items b c.args.day))) (made_truth b c.args.day m0 m1 made)
    (c.solver_over.ensures.over (rule_items b c.args.day) (made_encoded b c.args.day m0 m1 made))
