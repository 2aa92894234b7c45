-- The lines that tell what a certificate is answered.
use Rattle.std.specs.Prelude.{ℕ, List, [], ◌∷◌, ◌++◌, codes}
use Rattle.book_model.specs.Contents.{Contents}
use Rattle.book_model.specs.declared.slicing.LimitFault.{LimitFault}
use Rattle.derivation.specs.declared.fault.CertFault.{CertFault}
use Rattle.derivation.specs.declared.fault.CertKind.{CertKind}
use Rattle.derivation.specs.declared.fault.CertKind.TheVariants.{Syntax, WrongBook, NoSuchStep, NoPivot, NotClosed, BadSet, Trailing, TooLarge, Limit}
use Rattle.derivation.specs.declared.fault.Certified.{Certified}
use Rattle.pb_base.specs.Lines.{line, number_behind}
use Rattle.desk_words.specs.FaultText.{limit_text}

-- the number of a kind
abbrev pub cert_number : CertKind → ℕ
cert_number Syntax = 1
cert_number WrongBook = 2
cert_number NoSuchStep = 3
cert_number NoPivot = 4
cert_number (NotClosed question) = 5
cert_number (BadSet slice) = 6
cert_number Trailing = 7
cert_number TooLarge = 8
cert_number (Limit fault) = 9

-- a space and the limit that checking the book exceeds
abbrev pub limit_behind : LimitFault → List ℕ
limit_behind fault = 32 ∷ limit_text fault

-- what stands behind the number of a kind
abbrev pub cert_detail : CertKind → List ℕ
cert_detail Syntax = []
cert_detail WrongBook = []
cert_detail NoSuchStep = []
cert_detail NoPivot = []
cert_detail (NotClosed question) = number_behind question
cert_detail (BadSet slice) = number_behind slice
cert_detail Trailing = []
cert_detail TooLarge = []
cert_detail (Limit fault) = limit_behind fault

abbrev pub cert_fault_text : CertFault → List ℕ
cert_fault_text fault = line (codes "certificate fault" ++ number_behind fault.line ++ number_behind (cert_number fault.kind) ++ cert_detail fault.kind)

-- the certificate has no fault: the book's name, and how many slices and steps there are
abbrev pub verified_text : Contents → Certified → List ℕ
verified_text b certified = line (codes "verified " ++ b.name ++ codes " slices" ++ number_behind certified.slices ++ codes " steps" ++ number_behind certified.steps)
