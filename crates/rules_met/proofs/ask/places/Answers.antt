use Rattle.std.proofs.Common.{◌≡◌, ◌≤◌, ◌++◌, ◌∷◌, [], refl, sym, ap, ◌∙◌, arith}
use Rattle.std.specs.List.{range_with_len}
use Rattle.rules_met.proofs.AnswerLaws.{places_push}
use Rattle.rules_met.proofs.ask.places.Goals as goal

pub loop-place-preserved : goal.loop-place-preserved
loop-place-preserved c =
    let k = c.loop-place.place in
    let inv = c.loop-place.invariant in
    record {
      are = c.in_ok-push.ensures.items ∙ ap (λ ls. ls ++ k ∷ []) inv.are ∙ sym (places_push 0 k k (omega arith));
      within = omega (arith, c.loop-place-test.true);
    }

pub returns : goal.returns
returns c =
    let k = c.loop-place.place in
    let all : k ≡ c.args.count = omega (arith, c.loop-place-test.false, c.loop-place.invariant.within) in
    c.loop-place.invariant.are ∙ ap (range_with_len 0) all
