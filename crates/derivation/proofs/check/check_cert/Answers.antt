use Rattle.derivation.proofs.Released.{released}
use Rattle.derivation.proofs.check.check_cert.Goals as goal

pub returns-in-Ok-clause-releasable : goal.returns-in-Ok-clause-releasable
returns-in-Ok-clause-releasable c =
    released c.read_cert.result c.args.book.now c.as_slice.result.now c.args.cert.now c.book_laws.ensures.book
    (rw c.as_slice.ensures c.in-Ok.ensures.answer) c.read_cert.ensures
