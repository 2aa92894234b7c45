-- What is promised of `verify`.
--     RepliesToVerify book file files files' reply    the certificate in the file is checked against the book
use Rattle.std.specs.Prelude.{◌≡◌, ℕ, true, false, List, Option, Result, Ok, Err, IsOk, IfOk, IsSomeAnd, IsTrue, nat_le, length}
use Rattle.pb_base.specs.declared.limits.TheConstants.{MOST_CERT_BYTES}
use Rattle.book_model.specs.Contents.{Contents}
use Rattle.book_text.specs.BookText.{book_of}
use Rattle.book_text.specs.declared.fault.BookFault.{BookFault}
use Rattle.derivation.specs.Certificate.{cert_answer}
use Rattle.pb_outside.specs.Files.{NamedBytes, FilesTold, content_of, ReadsFile, FailsToRead}
use Rattle.book_commands.specs.Ends.{IsVerifyStatus}
use Rattle.book_commands.specs.Promise.{Promise, ReadsFiles, never_ample}
use Rattle.book_commands.specs.RunReply.{RunReply, book_fault_reply, content_reply}
use Rattle.book_commands.specs.declared.run_status.RunStatus.TheVariants.{Done}

-- the certificate is the content of its file, of which a longer one than the limit has none
pub record RepliesToFile (b : Contents) (file : List ℕ) (files files' : FilesTold) (reply : RunReply) : Type 0 where
  pub content : Option (List ℕ)
  pub read : ReadsFile file MOST_CERT_BYTES files.files content
  pub answer : reply ≡ content_reply b content
  pub count : files'.faults.count ≡ files.faults.count

-- the book has a fault, and no file was touched
pub record RepliesToFault (fault : BookFault) (files files' : FilesTold) (reply : RunReply) : Type 0 where
  pub answer : reply ≡ book_fault_reply fault
  pub untouched : files' ≡ files

abbrev pub RepliesToVerify : Result Contents BookFault → List ℕ → FilesTold → FilesTold → RunReply → Type 0
RepliesToVerify (Ok b) file files files' reply = RepliesToFile b file files files' reply
RepliesToVerify (Err fault) file files files' reply = RepliesToFault fault files files' reply

-- the book has no fault, and the certificate's file could not be read
pub record FailsAtCertificate (file input : List ℕ) (files files' : FilesTold) : Type 0 where
  pub book : IsOk (book_of input)
  pub fault : FailsToRead file files files'

-- the text is no longer than the limit, and a certificate of the book
pub record IsCertificate (b : Contents) (text : List ℕ) : Type 0 where
  pub limit : IsTrue (nat_le (length text) MOST_CERT_BYTES)
  pub certificate : IsOk (cert_answer b text)

-- the file is told and there, and has a certificate of the book
abbrev pub HasCertificate : Contents → Option (List NamedBytes) → List ℕ → Type 0
HasCertificate b files file = IsSomeAnd files (λ all. IsSomeAnd (content_of all file) (IsCertificate b))

-- the book has no fault, and the file has a certificate of it
pub record IsValidVerify (input : List ℕ) (files : Option (List NamedBytes)) (file : List ℕ) : Type 0 where
  pub book : IsOk (book_of input)
  pub certificate : IfOk (book_of input) (λ b. HasCertificate b files file)

abbrev pub verify_promise : List ℕ → Promise
verify_promise file = record {
  replies = λ input. RepliesToVerify (book_of input) file;
  fails_at_file = FailsAtCertificate file;
  keeps_files = ReadsFiles;
  is_valid = λ input files. IsValidVerify input files file;
  is_status = IsVerifyStatus;
  is_answer = λ status notes. status ≡ Done;
  tells_release = true;
  tells_refusal = false;
  is_ample = never_ample;
}
