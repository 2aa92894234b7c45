-- What says that the book can be released is right.
use Rattle.std.proofs.Common.{◌≡◌, ◌∙◌, ℕ, List, Option, None, Some, Result, Ok, Err, refl, sym, ap}
use Rattle.std.specs.Prelude.{IsOkAnd}
use Rattle.book_model.specs.Contents.{Contents}
use Rattle.book_model.specs.Book.{IsBook}
use Rattle.book_model.specs.Sound.{IsReleasable}
use Rattle.book_model.specs.declared.record.Slice.{Slice}
use Rattle.book_model.specs.declared.slicing.LimitFault.{LimitFault}
use Rattle.book_text.specs.BookText.{book_of}
use Rattle.book_text.specs.declared.fault.BookFault.{BookFault}
use Rattle.book_text.proofs.BookLaw.{book_of-book}
use Rattle.derivation.specs.Certificate.{cert_answer}
use Rattle.derivation.specs.Limits.{slices_within}
use Rattle.derivation.specs.declared.fault.CertFault.{CertFault}
use Rattle.derivation.specs.declared.fault.Certified.{Certified}
use Rattle.derivation.proofs.Released.{releasable_when_answered}
use Rattle.findings.specs.Notes.{verdict_of}
use Rattle.findings.specs.declared.report.Ask.TheVariants.{All, Blocking}
use Rattle.findings.specs.declared.report.Note.{Note as Told}
use Rattle.findings.specs.declared.report.Verdict.{Verdict}
use Rattle.findings.specs.declared.report.Verdict.TheVariants.{Releasable, Blocked, Undecided}
use Rattle.pb_outside.specs.Files.{FilesTold}
use Rattle.book_commands.specs.Checks.{IsReported, IsProvedBy, IsProved, RepliesWithin, inquiry, RepliesToCheck, RepliesToProof}
use Rattle.book_commands.specs.Verify.{RepliesToVerify}
use Rattle.book_commands.specs.RunReply.{RunReply, certified_reply, content_reply, verdict_status, report_reply}
use Rattle.book_commands.specs.declared.run_status.RunStatus.TheVariants.{Done, Faulty}

-- the status of done comes with a certificate of the book
certified-releasable : (b : Contents) (text : List ℕ) (answer : Result Certified CertFault) → cert_answer b text ≡ answer → IsBook b
    → Done ≡ (certified_reply b answer).status → IsReleasable b
certified-releasable b text (Ok certified) is book done = releasable_when_answered b text certified book is
certified-releasable b text (Err fault) is book done = cc

content-releasable : (b : Contents) (content : Option (List ℕ)) → IsBook b → Done ≡ (content_reply b content).status → IsReleasable b
content-releasable b None book done = cc
content-releasable b (Some text) book done = certified-releasable b text (cert_answer b text) refl book done

pub verified-releasable : (input file : List ℕ) (book : Result Contents BookFault) (files files' : FilesTold) (reply : RunReply) → book_of input ≡ book
    → RepliesToVerify book file files files' reply → Done ≡ reply.status → IsOkAnd book IsReleasable
verified-releasable input file (Ok b) files files' reply is h done =
    content-releasable b h.content (book_of-book input b is) (done ∙ ap (λ (r : RunReply). r.status) h.answer)
verified-releasable input file (Err fault) files files' reply is h done = let clash : Done ≡ Faulty = done ∙ ap (λ (r : RunReply). r.status) h.answer in cc

-- the status of done comes with a report by which the book can be released
releasable_by_status : (verdict : Verdict) → Done ≡ verdict_status verdict → verdict ≡ Releasable
releasable_by_status Releasable done = refl
releasable_by_status Blocked done = cc
releasable_by_status Undecided done = cc

report_verdict : (b : Contents) (report : List Told) (reply : RunReply) → reply ≡ report_reply b report → Done ≡ reply.status → verdict_of report ≡ Releasable
report_verdict b report reply e done = releasable_by_status (verdict_of report) (done ∙ ap (λ (r : RunReply). r.status) e)

proved-releasable : (verdict : Verdict) (b : Contents) (report : List Told) (reply : RunReply) → verdict_of report ≡ verdict → IsBook b
    → IsProvedBy verdict b report reply → Done ≡ reply.status → IsReleasable b
proved-releasable Releasable b report reply e book h done = releasable_when_answered b h.text h.accepted.certified book h.accepted.answer
proved-releasable Blocked b report reply e book h done = let clash : Blocked ≡ Releasable = sym e ∙ report_verdict b report reply h done in cc
proved-releasable Undecided b report reply e book h done = let clash : Undecided ≡ Releasable = sym e ∙ report_verdict b report reply h done in cc

within-releasable : (limits : Result (List Slice) LimitFault) (IsAnswer : RunReply → Type 0) (b : Contents) (reply : RunReply)
    → (IsAnswer reply → IsReleasable b) → RepliesWithin limits IsAnswer reply → Done ≡ reply.status → IsReleasable b
within-releasable (Ok slices) IsAnswer b reply shown h done = shown h
within-releasable (Err fault) IsAnswer b reply shown h done =
    let clash : Done ≡ Faulty = done ∙ ap (λ (r : RunReply). r.status) h in cc

pub check-releasable : (book : Result Contents BookFault) (budget : ℕ) (reply : RunReply) → RepliesToCheck book budget reply
    → Done ≡ reply.status → IsOkAnd book IsReleasable
check-releasable (Ok b) budget reply h done =
    within-releasable (slices_within b) (IsReported (inquiry All budget b)) b reply
    (λ is. is.released (report_verdict b is.report reply is.answer done)) h done
check-releasable (Err fault) budget reply h done =
    let clash : Done ≡ Faulty = done ∙ ap (λ (r : RunReply). r.status) h in cc

pub proof-releasable : (input : List ℕ) (book : Result Contents BookFault) (budget : ℕ) (reply : RunReply) → book_of input ≡ book
    → RepliesToProof book budget reply → Done ≡ reply.status → IsOkAnd book IsReleasable
proof-releasable input (Ok b) budget reply is h done =
    within-releasable (slices_within b) (IsProved (inquiry Blocking budget b)) b reply
    (λ p. proved-releasable (verdict_of p.report) b p.report reply refl (book_of-book input b is) p.answer done) h done
proof-releasable input (Err fault) budget reply is h done =
    let clash : Done ≡ Faulty = done ∙ ap (λ (r : RunReply). r.status) h in cc
