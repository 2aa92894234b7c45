-- When a text is a certificate of a book.
--     IsAccepted b text     it has no fault
use Rattle.std.specs.Prelude.{◌≡◌, ℕ, List, Ok}
use Rattle.book_model.specs.Contents.{Contents}
use Rattle.derivation.specs.Certificate.{cert_answer}
use Rattle.derivation.specs.declared.fault.Certified.{Certified}

pub record IsAccepted (b : Contents) (text : List ℕ) : Type 0 where
  pub certified : Certified
  pub answer : cert_answer b text ≡ Ok certified
