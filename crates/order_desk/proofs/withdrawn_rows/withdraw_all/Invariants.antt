use Rattle.order_desk.specs.Rows.{book_rows}
use Rattle.order_desk.proofs.WithdrawnRows.{AreOut}
use Rattle.order_desk.proofs.withdrawn_rows.withdraw_all.Given as goal

abbrev pub invariant-loop-place : goal.invariant-loop-place
invariant-loop-place l = AreOut l.form (book_rows 1 l.initial.books.items) l.numbers l.place l.last l.books.items
