use Rattle.std.proofs.Common.{◌≡◌, ◌<◌, ◌≤◌, ◌++◌, ◌∷◌, [], true, false, length, map, sym, ap, ◌∙◌, arith, nat_eq, rules, tests}
use Rattle.std.proofs.lemmas.List.{length_push}
use Rattle.std.proofs.lemmas.Iterator.Splits.{YieldsList-from_slice_split}
use Rattle.std.proofs.lemmas.Iterator.Consumers.{YieldsList-at, YieldsList-turn, YieldsList-end}
use Rattle.pb_base.specs.declared.limits.TheConstants.{MOST_GROUP_CODES}
use Rattle.book_text.specs.Group.{slash, names_in, may_follow}
use Rattle.book_text.proofs.GroupLemmas.{codes-more, codes-wrong, are_codes-end, group-of_wrong, group-of_many, group-of_all}
use Rattle.book_text.proofs.group.is_group.Goals.{then-is_full-via-then-is_full, then-is_full-via-else-is_full+then-not-may_follow}
use Rattle.book_text.proofs.group.is_group.Goals as goal

pub loop-name-preserved : goal.loop-name-preserved
loop-name-preserved c =
    let turn = YieldsList-turn (YieldsList-at c.into_iter-name-iterator.ensures.into_iter_gives (YieldsList-from_slice_split _ (λ b. nat_eq b slash) c.args.text.now c.split-name-items.ensures.rest c.split-name-items.ensures.done c.split-name-items.ensures.closure (λ x b q k. search (rules, tests))))
    c.loop-name.yielded _ c.loop-name.yielded_by _ _ c.in-Some.name c.in-Some.is c.next.ensures.steps in
    let inv = c.loop-name.invariant in
    let yielded = c.loop-name.yielded in
    let names = c.deref.ensures.0 ∙ inv.taken in
    let may : may_follow (map (λ n. n.now) yielded) c.in-Some.name.now ≡ true = sym (rw names at c.may_follow.ensures) ∙ c.if-not-may_follow.false in
    record {
      next = search rules;
      ends = tt;
      taken = c.push.ensures.items ∙ ap (λ l. l ++ c.in-Some.name ∷ []) inv.taken;
      rest = rw (length_push yielded c.in-Some.name) (sym (codes-more yielded (names_in c.args.text.now) c.in-Some.name turn.0 turn.1 may) ∙ inv.rest);
    }

pub returns-then-is_full : goal.returns-then-is_full
returns-then-is_full c =
    let turn = YieldsList-turn (YieldsList-at c.into_iter-name-iterator.ensures.into_iter_gives (YieldsList-from_slice_split _ (λ b. nat_eq b slash) c.args.text.now c.split-name-items.ensures.rest c.split-name-items.ensures.done c.split-name-items.ensures.closure (λ x b q k. search (rules, tests))))
    c.loop-name.yielded _ c.loop-name.yielded_by _ _ c.in-Some.name c.in-Some.is c.next.ensures.steps in
    let inv = c.loop-name.invariant in
    let yielded = c.loop-name.yielded in
    let all = names_in c.args.text.now in
    elim c.then-is_full.branch [
      | then-is_full-via-then-is_full w ↦
          let full : length c.loop-name.names.items ≡ MOST_GROUP_CODES = grind (arith, w.if-is_full.true, c.is_full.ensures.value) in
          let many : MOST_GROUP_CODES < length all = omega (arith, full, ap length inv.taken, turn.0) in
          sym (group-of_many all many)
      | then-is_full-via-else-is_full+then-not-may_follow w ↦
          let names = w.deref.ensures.0 ∙ inv.taken in
          let may : may_follow (map (λ n. n.now) yielded) c.in-Some.name.now ≡ false = sym (rw names at w.may_follow.ensures) ∙ w.if-not-may_follow.true in
          sym (group-of_wrong all (sym inv.rest ∙ codes-wrong yielded all c.in-Some.name turn.0 turn.1 may))
    ]

pub returns : goal.returns
returns c =
    let end = YieldsList-end (YieldsList-at c.into_iter-name-iterator.ensures.into_iter_gives (YieldsList-from_slice_split _ (λ b. nat_eq b slash) c.args.text.now c.split-name-items.ensures.rest c.split-name-items.ensures.done c.split-name-items.ensures.closure (λ x b q k. search (rules, tests))))
    c.loop-name.yielded _ c.loop-name.yielded_by _ _ c.in-None.is c.next.ensures.steps in
    let inv = c.loop-name.invariant in
    let all = names_in c.args.text.now in
    let count : c.len.result ≡ length all = c.len.ensures.value ∙ ap length inv.taken ∙ end.1 in
    let fits : c.len.result ≤ MOST_GROUP_CODES = c.len.ensures.fits in
    let few : length all ≤ MOST_GROUP_CODES = omega (arith, fits, count) in
    let past : length all ≤ length c.loop-name.yielded = omega (arith, end.1) in
    let none = are_codes-end (map (λ n. n.now) c.loop-name.yielded) all (length c.loop-name.yielded) past in
    rw count (sym (group-of_all all few (sym inv.rest ∙ none)))
