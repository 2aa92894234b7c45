use Rattle.std.proofs.Common.{Some}
use Rattle.turn_book.proofs.book.TurnBook.call.Given as goal

abbrev pub ghosts-wait_turn : goal.ghosts-wait_turn
ghosts-wait_turn g a = record { start = Some a.table.now.key.start.value }
