use Rattle.std.proofs.Common.{◌≡◌, ◌+◌, ◌++◌, drop}
use Rattle.order_desk.specs.Listing.{book_lines}
use Rattle.order_desk.proofs.listing.put_books.Given as goal

-- the text so far and the lines that are left make the whole
abbrev pub invariant-loop-place : goal.invariant-loop-place
invariant-loop-place l = l.text ++ book_lines (l.place + 1) (drop l.place l.books) ≡ l.initial.text ++ book_lines 1 l.books
