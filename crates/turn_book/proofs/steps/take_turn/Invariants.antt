use Rattle.std.proofs.Common.{Some}
use Rattle.turn_book.proofs.steps.take_turn.Given as goal

abbrev pub ghosts-count : goal.ghosts-count
ghosts-count g a = record { call = Some a.asked.now.value; reply = Some a.said.now.value }
