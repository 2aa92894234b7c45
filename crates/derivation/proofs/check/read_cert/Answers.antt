use Rattle.std.proofs.Common.{◌≡◌, suc, length, ap, arith}
use Rattle.derivation.proofs.check.read_cert.Goals as goal

pub overflow_add-number : goal.overflow_add-number
overflow_add-number c =
    let read : length c.loop-text.texts ≡ suc (length c.next.new.self) = ap length c.in-Some.ensures in omega arith
