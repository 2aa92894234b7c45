-- What holds of valid inputs: the input that was read is the one that was given, and the files that are to be read are there.
use Rattle.std.proofs.Common.{◌≡◌, ◌∙◌, ℕ, List, true, false, sym, take}
use Rattle.std.specs.Prelude.{Option, None, Some, Result, Ok, Err, IsOk, IfOk, IfSome, IsSomeAnd}
use Rattle.book_model.specs.Contents.{Contents}
use Rattle.book_text.specs.declared.fault.BookFault.{BookFault}
use Rattle.pb_outside.specs.Source.{ReadsUpTo}
use Rattle.pb_outside.specs.Files.{NamedBytes, content_of}
use Rattle.book_commands.specs.Inputs.{input_limit}
use Rattle.book_commands.specs.Verify.{IsCertificate, HasCertificate}
use Rattle.book_commands.specs.CompareReply.{IsBookOn, HasBookOn}
use Rattle.book_commands.specs.declared.comparing.Span.{Span}

-- the input that was read is the one that was given
pub same_input : (left left' : Option (List ℕ)) (input read : List ℕ) → IsSomeAnd left (λ all. input ≡ take input_limit all)
    → ReadsUpTo input_limit left left' read → input ≡ read
same_input None left' input read given h = absurd given
same_input (Some all) left' input read given h = given ∙ sym h.0

-- a file with a certificate is there
has_file : (found : Option (List ℕ)) (b : Contents) → IsSomeAnd found (IsCertificate b) → found ≡ None → ⊥
has_file None b has none = has
has_file (Some text) b has none = cc

has_named : (files : Option (List NamedBytes)) (b : Contents) (file : List ℕ) → HasCertificate b files file
    → IfSome files (λ all. content_of all file ≡ None) → ⊥
has_named None b file has none = has
has_named (Some all) b file has none = has_file (content_of all file) b has none

pub has_certificate : (book : Result Contents BookFault) (files : Option (List NamedBytes)) (file : List ℕ) → IsOk book
    → IfOk book (λ b. HasCertificate b files file) → IfSome files (λ all. content_of all file ≡ None) → ⊥
has_certificate (Ok b) files file ok has none = has_named files b file has none
has_certificate (Err fault) files file ok has none = let clash : false ≡ true = ok in cc

-- a file with a book is there
has_text : (span : Span) (found : Option (List ℕ)) → IsSomeAnd found (IsBookOn span) → found ≡ None → ⊥
has_text span None has none = has
has_text span (Some text) has none = cc

pub has_book : (span : Span) (files : Option (List NamedBytes)) (file : List ℕ) → HasBookOn span files file → IfSome files (λ all. content_of all file ≡ None) → ⊥
has_book span None file has none = has
has_book span (Some all) file has none = has_text span (content_of all file) has none
