use Rattle.std.proofs.Common.{refl}
use Rattle.book_changes.proofs.differs.note_with_parts.Goals as goal

pub returns-in-Finding : goal.returns-in-Finding
returns-in-Finding c =
    rw c.in-Finding.is
    (refl, refl, rw c.as_slice.ensures at c.in_ok-has-in-Finding.ensures, rw c.as_slice-in-Finding.ensures at c.in_ok-next-in-Finding.ensures)
