-- A released book: its text, the book that the text reads as, and the certificate that the book can be released.
--     Release       these three
--     IsRelease r   the book is that of the text, the certificate has no fault for it, and so the book can be released
use Rattle.std.specs.Prelude.{◌≡◌, ℕ, List, Ok}
use Rattle.book_model.specs.Contents.{Contents}
use Rattle.book_model.specs.Sound.{IsReleasable}
use Rattle.book_text.specs.BookText.{book_of}
use Rattle.derivation.specs.Accepted.{IsAccepted}

pub record Release : Type 0 where
  pub text : List ℕ
  pub book : Contents
  pub cert : List ℕ

pub record IsRelease (r : Release) : Type 0 where
  pub reads : book_of r.text ≡ Ok r.book
  pub accepted : IsAccepted r.book r.cert
  pub releasable : IsReleasable r.book
