use Rattle.std.proofs.Common.{◌<◌, ℕ, length, get_or, ap, ◌∙◌, arith}
use Rattle.pb_base.specs.Leaves.{with_places}
use Rattle.book_compare.proofs.StepRuns.{read_zero, usage_made, usage_pushed}
use Rattle.book_compare.proofs.renaming.add_usages_of.Goals as goal

pub loop-variant-preserved : goal.loop-variant-preserved
loop-variant-preserved c =
    let i : ℕ = c.loop-variant.variant-index in
    let variant : ℕ = get_or c.args.variants.now c.loop-variant.variant-index 0 in
    let within : c.loop-variant.variant-index < length c.args.variants.now = omega arith in
    let rule = c.in_ok-rule.ensures ∙ ap (with_places c.args.numbers.now) c.usage_of.ensures in
    record {
      made = usage_made c.args.numbers.now c.args.book.now c.args.encoder.now c.loop-variant.encoder c.literal.new.self c.args.variants.now i variant _ within (read_zero c.args.variants.now i within) rule c.in_ok-literal.ensures.made
          c.loop-variant.invariant.made;
      usages = usage_pushed c.args.numbers.now c.args.book.now c.args.encoder.now c.loop-variant.encoder c.literal.new.self c.args.variants.now i variant _ within (read_zero c.args.variants.now i within) rule c.in_ok-literal.ensures.made
          c.loop-variant.usages.items c.push.new.self.items _ c.in_ok-literal.literal c.loop-variant.invariant.made.truth c.in_ok-literal.ensures.literal c.in_ok-push.ensures.items c.loop-variant.invariant.usages;
    }
