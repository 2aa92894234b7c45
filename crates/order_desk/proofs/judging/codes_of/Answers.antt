use Rattle.std.proofs.Common.{◌≡◌, ◌==◌, false, length, sym, ap, ◌∙◌, nat_eq, rules, tests}
use Rattle.std.specs.List.{list_all}
use Rattle.std.proofs.lemmas.Iterator.Splits.{YieldsList-from_slice_split}
use Rattle.std.proofs.lemmas.Iterator.Consumers.{YieldsList-at, YieldsList-turn, YieldsList-end}
use Rattle.std.proofs.lemmas.List.Folds.{list_all_at}
use Rattle.pb_base.specs.Names.{is_code_name}
use Rattle.order_desk.proofs.OrderRows.{codes_split}
use Rattle.order_desk.proofs.judging.codes_of.Goals as goal

pub returns-in-None-of-clause-wrong : goal.returns-in-None-of-clause-wrong
returns-in-None-of-clause-wrong c =
    let turn = YieldsList-turn (YieldsList-at c.into_iter-name-iterator.ensures.into_iter_gives (YieldsList-from_slice_split _ (λ b. nat_eq b 32) c.args.text.now c.split-name-items.ensures.rest c.split-name-items.ensures.done c.split-name-items.ensures.closure (λ x b q k. search (rules, tests))))
    c.loop-name.yielded _ c.loop-name.yielded_by _ _ c.in-Some.name c.in-Some.is c.next.ensures.steps in
    let some : (length c.args.text.now == 0) ≡ false = sym c.is_empty.ensures ∙ c.if-is_empty.false in
    ap (list_all is_code_name) (codes_split c.args.text.now some)
    ∙ list_all_at is_code_name _ (length c.loop-name.yielded) c.in-Some.name.now turn.0 (ap is_code_name (sym turn.1) ∙ c.in-None-of.ensures.none)

pub returns-clause-codes : goal.returns-clause-codes
returns-clause-codes c =
    let end = YieldsList-end (YieldsList-at c.into_iter-name-iterator.ensures.into_iter_gives (YieldsList-from_slice_split _ (λ b. nat_eq b 32) c.args.text.now c.split-name-items.ensures.rest c.split-name-items.ensures.done c.split-name-items.ensures.closure (λ x b q k. search (rules, tests))))
    c.loop-name.yielded _ c.loop-name.yielded_by _ _ c.in-None.is c.next.ensures.steps in
    let some : (length c.args.text.now == 0) ≡ false = sym c.is_empty.ensures ∙ c.if-is_empty.false in
    c.of-2.ensures ∙ c.loop-name.invariant.taken ∙ end.0 ∙ sym (codes_split c.args.text.now some)

pub returns-clause-named : goal.returns-clause-named
returns-clause-named c =
    let end = YieldsList-end (YieldsList-at c.into_iter-name-iterator.ensures.into_iter_gives (YieldsList-from_slice_split _ (λ b. nat_eq b 32) c.args.text.now c.split-name-items.ensures.rest c.split-name-items.ensures.done c.split-name-items.ensures.closure (λ x b q k. search (rules, tests))))
    c.loop-name.yielded _ c.loop-name.yielded_by _ _ c.in-None.is c.next.ensures.steps in
    let some : (length c.args.text.now == 0) ≡ false = sym c.is_empty.ensures ∙ c.if-is_empty.false in
    ap (list_all is_code_name) (codes_split c.args.text.now some ∙ sym end.0) ∙ c.loop-name.invariant.named
