use Rattle.std.proofs.Common.{arith}
use Rattle.turn_book.proofs.Passes.{splits}
use Rattle.turn_book.proofs.steps.cut.Goals as goal

pub split_seat-requires : goal.split_seat-requires
split_seat-requires g c = (c.requires.table.0, omega (arith, c.requires.table.1), splits _ _ _ _ _ _ c.requires.idle (omega (arith, c.requires.portion, c.requires.left)))
