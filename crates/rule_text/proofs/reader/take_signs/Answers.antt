use Rattle.std.proofs.Common.{◌≡◌, ◌-◌, suc, Some, [], ◌∷◌, ◌++◌, length, length-append, reverse, sym, ap, ◌∙◌, arith}
use Rattle.std.specs.List.{slice_get}
use Rattle.std.specs.Option.{option_to_list}
use Rattle.pb_base.specs.Rule.{negated}
use Rattle.rule_text.specs.Reading.{under_signs}
use Rattle.rule_text.specs.declared.standing.Pending.TheVariants.{Sign}
use Rattle.rule_text.proofs.PendingLemmas.{negated-more, without-sign, under-sign}
use Rattle.rule_text.proofs.reader.take_signs.Goals as goal

pub loop-pending-preserved : goal.loop-pending-preserved
loop-pending-preserved c =
    let all = c.loop-pending.pending.items in
    let rest = c.pop.new.self.items in
    let inv = c.loop-pending.invariant in
    let popped : c.pop.result ≡ Some Sign =
    c.pop.ensures.value ∙ sym (ap (λ xs. slice_get xs (length xs - 1)) c.deref.ensures.0) ∙ sym c.in-Some-Sign.ensures.value ∙ ap Some c.in-Some-Sign.field-0-is in
    let same : all ≡ rest ++ Sign ∷ [] = c.pop.ensures.items ∙ ap (λ sign. rest ++ option_to_list sign) popped in
    let fewer : length all ≡ suc (length rest) = omega (arith, ap length same, length-append rest (Sign ∷ [])) in
    let more : suc (c.len-all.result - length all) ≡ c.len-all.result - length rest = omega (arith, inv.fewer) in
    record {
      fewer = omega (arith, inv.fewer);
      left = sym (without-sign all rest same) ∙ inv.left;
      count = λ rule.
          inv.count rule ∙ under-sign all rest (negated (c.len-all.result - length all) rule) same
          ∙ ap (under_signs (reverse rest)) (negated-more (c.len-all.result - length all) rule ∙ ap (λ n. negated n rule) more);
    }
