use Rattle.std.proofs.Common.{ℕ, length, ap, subst, ◌∙◌, arith}
use Rattle.book_compare.specs.Asking.{TakesKey, key_of}
use Rattle.book_compare.proofs.KeyRuns.{keys_loop}
use Rattle.book_compare.proofs.position.Asking.keys.Goals as goal

pub loop-key-preserved : goal.loop-key-preserved
loop-key-preserved c =
    keys_loop (length c.args.first.now.codes) c.args.self.now c.loop-key.self c.key.new.self c.args.first.now c.args.first_usages.now c.args.second.now c.args.second_usages.now c.args.keys.now c.loop-key.key-index c.key-item.result
    (omega arith) c.key-item.is c.loop-key.invariant c.deref.result.now c.deref-in-loop-key.result.now (c.deref.ensures.value ∙ c.in_ok-one.ensures) (c.deref-in-loop-key.ensures.value ∙ c.in_ok-other.ensures)
    (subst (λ (n : ℕ). TakesKey n c.loop-key.self c.key.new.self (key_of c.deref.result.now c.deref-in-loop-key.result.now)) (c.len-truth.ensures.value ∙ ap length c.codes.ensures.value) c.in_ok-key.ensures)
