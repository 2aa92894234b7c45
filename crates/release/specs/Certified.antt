-- What a text and a certificate come to.
--     release_of text cert   the release of both, or the first fault of the text, or else that of the certificate
use Rattle.std.specs.Prelude.{ℕ, List, Result, Ok, Err}
use Rattle.book_model.specs.Contents.{Contents}
use Rattle.book_text.specs.BookText.{book_of}
use Rattle.book_text.specs.declared.fault.BookFault.{BookFault}
use Rattle.derivation.specs.Certificate.{cert_answer}
use Rattle.derivation.specs.declared.fault.CertFault.{CertFault}
use Rattle.derivation.specs.declared.fault.Certified.{Certified}
use Rattle.release.specs.Release.{Release}
use Rattle.release.specs.declared.certified.FromFault.{FromFault}
use Rattle.release.specs.declared.certified.FromFault.TheVariants.{Text, Cert}

-- with what the certificate is answered
abbrev pub certified_as : Release → Result Certified CertFault → Result Release FromFault
certified_as r (Ok certified) = Ok r
certified_as r (Err fault) = Err (Cert fault)

-- with what the text reads as
abbrev pub release_by : List ℕ → List ℕ → Result Contents BookFault → Result Release FromFault
release_by text cert (Ok book) = certified_as (record { text = text; book = book; cert = cert }) (cert_answer book cert)
release_by text cert (Err fault) = Err (Text fault)

abbrev pub release_of : List ℕ → List ℕ → Result Release FromFault
release_of text cert = release_by text cert (book_of text)
