use Rattle.std.proofs.Common.{[], ◌∷◌, ◌++◌, sym, ap, ◌∙◌, arith}
use Rattle.std.specs.List.{list_any}
use Rattle.chosen_parts.specs.Chosen.{use_of, is_same_use}
use Rattle.chosen_parts.specs.declared.part_use.PartUse.{PartUse}
use Rattle.book_compare.proofs.StepRuns.{key_more, key_seen}
use Rattle.book_compare.proofs.keys.push_keys.Goals as goal
use Rattle.book_compare.proofs.keys.push_keys.Goals.{then-not-has_key+in_ok-push, else-not-has_key}

pub loop-usage-preserved : goal.loop-usage-preserved
loop-usage-preserved c =
    let key : PartUse = use_of c.variant_of-variant.result.now in
    let there = ap (list_any (λ (p : PartUse). is_same_use (use_of c.variant_of-variant.result.now) p)) (sym c.deref.ensures.value) ∙ sym c.has_key.ensures in
    elim c.if-not-has_key.branch [
      | then-not-has_key+in_ok-push w ↦
          rw (w.keys-is)
          (key_more c.args.book.now c.args.usages.now c.loop-usage.usage-index c.usage-item.result (use_of c.variant_of-variant.result.now) c.loop-usage.keys.items _ (omega arith) c.usage-item.is c.variant_of-variant.ensures
          c.loop-usage.invariant w.push.new.self.items (there ∙ w.if-not-has_key.true)
          (w.in_ok-push.ensures.items ∙ ap (λ (k : PartUse). c.loop-usage.keys.items ++ k ∷ []) w.of.ensures))
      | else-not-has_key w ↦
          rw (w.keys-is)
          (key_seen c.args.book.now c.args.usages.now c.loop-usage.usage-index c.usage-item.result (use_of c.variant_of-variant.result.now) c.loop-usage.keys.items _ (omega arith) c.usage-item.is c.variant_of-variant.ensures
          c.loop-usage.invariant (there ∙ w.if-not-has_key.false))
    ]
