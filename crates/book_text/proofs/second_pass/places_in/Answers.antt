use Rattle.std.proofs.Common.{length, Ok, sym, ap, ◌∙◌, arith, nat_eq, rules, tests}
use Rattle.std.proofs.lemmas.List.{length_push}
use Rattle.std.proofs.lemmas.Result.{err_from_is_err_and}
use Rattle.std.proofs.lemmas.Iterator.Splits.{YieldsList-from_slice_split}
use Rattle.std.proofs.lemmas.Iterator.Consumers.{YieldsList-at, YieldsList-turn, YieldsList-end}
use Rattle.book_text.specs.Group.{slash, names_in}
use Rattle.book_text.proofs.PlaceLemmas.{places-more, places-refused, places-end}
use Rattle.book_text.proofs.second_pass.places_in.Goals as goal

pub loop-name-preserved : goal.loop-name-preserved
loop-name-preserved c =
    let turn = YieldsList-turn (YieldsList-at c.into_iter-name-iterator.ensures.into_iter_gives (YieldsList-from_slice_split _ (λ b. nat_eq b slash) c.args.text.now c.split-name-items.ensures.rest c.split-name-items.ensures.done c.split-name-items.ensures.closure (λ x b q k. search (rules, tests))))
    c.loop-name.yielded _ c.loop-name.yielded_by _ _ c.in-Some.name c.in-Some.is c.next.ensures.steps in
    let inv = c.loop-name.invariant in
    let all = names_in c.args.text.now in
    record {
      next = search rules;
      ends = tt;
      rest =
          rw (length_push c.loop-name.yielded c.in-Some.name, c.in_ok-push.ensures.items)
          (places-more c.args.codes.now all c.loop-name.places.items (length c.loop-name.yielded) c.in-Some.name.now c.in_ok-place_of.field-0 turn.0 turn.1 c.in_ok-place_of.ensures ∙ inv.rest);
    }

pub returns-in_err-place_of : goal.returns-in_err-place_of
returns-in_err-place_of c =
    let turn = YieldsList-turn (YieldsList-at c.into_iter-name-iterator.ensures.into_iter_gives (YieldsList-from_slice_split _ (λ b. nat_eq b slash) c.args.text.now c.split-name-items.ensures.rest c.split-name-items.ensures.done c.split-name-items.ensures.closure (λ x b q k. search (rules, tests))))
    c.loop-name.yielded _ c.loop-name.yielded_by _ _ c.in-Some.name c.in-Some.is c.next.ensures.steps in
    let inv = c.loop-name.invariant in
    let p = err_from_is_err_and c.from_residual.result c.from_residual.ensures.1 in
    rw (p.1, p.2, ← inv.rest)
    (places-refused c.in_err-place_of.field-0.0 c.args.codes.now (names_in c.args.text.now) c.loop-name.places.items (length c.loop-name.yielded) c.in-Some.name.now turn.0 turn.1 c.in_err-place_of.ensures)

pub returns : goal.returns
returns c =
    let end = YieldsList-end (YieldsList-at c.into_iter-name-iterator.ensures.into_iter_gives (YieldsList-from_slice_split _ (λ b. nat_eq b slash) c.args.text.now c.split-name-items.ensures.rest c.split-name-items.ensures.done c.split-name-items.ensures.closure (λ x b q k. search (rules, tests))))
    c.loop-name.yielded _ c.loop-name.yielded_by _ _ c.in-None.is c.next.ensures.steps in
    let inv = c.loop-name.invariant in
    let all = names_in c.args.text.now in
    sym inv.rest ∙ places-end c.args.codes.now all c.loop-name.places.items (length c.loop-name.yielded) (omega (arith, end.1)) ∙ ap (λ l. Ok l) (sym c.of.ensures)
