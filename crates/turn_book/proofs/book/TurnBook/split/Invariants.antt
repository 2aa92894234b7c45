use Rattle.turn_book.proofs.book.TurnBook.split.Given as goal

abbrev pub ghosts-cut : goal.ghosts-cut
ghosts-cut g a = record { given = a.left }
