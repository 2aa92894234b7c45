-- The statuses of replies, and those of the replies to valid commands.
use Rattle.std.proofs.Common.{◌≡◌, ◌∙◌, ℕ, ◌+◌, Bool, true, false, List, [], ◌∷◌, map, refl, sym, subst, ap, inl, inr}
use Rattle.std.specs.Prelude.{◌⊎◌, ◌||◌, Option, None, Some, Result, Ok, Err, IsOk, IfOk, IsSomeAnd, if◌then◌else◌}
use Rattle.std.specs.List.{list_any}
use Rattle.pb_base.specs.declared.limits.TheConstants.{MOST_CERT_BYTES, MOST_TEXT_BYTES}
use Rattle.pb_base.specs.Results.{and_then, unless}
use Rattle.book_changes.specs.ChangesText.{is_changed, is_undecided as is_left_in}
use Rattle.book_compare.specs.CompareText.{is_finding as is_difference, is_undecided as is_left_open}
use Rattle.book_compare.specs.Comparison.{outside}
use Rattle.book_compare.specs.declared.note.CompareNote.{CompareNote}
use Rattle.book_compare.specs.declared.note.Outside.{Outside}
use Rattle.book_compare.specs.declared.note.Outside.TheVariants.{First, Second}
use Rattle.book_model.specs.Activity.{is_within}
use Rattle.book_model.specs.Contents.{Contents}
use Rattle.book_model.specs.Slices.{slices_of}
use Rattle.book_model.specs.declared.record.Slice.{Slice}
use Rattle.book_model.specs.declared.slicing.LimitFault.{LimitFault}
use Rattle.book_text.specs.BookText.{book_of}
use Rattle.book_text.specs.declared.fault.BookFault.{BookFault}
use Rattle.derivation.specs.Certificate.{cert_answer}
use Rattle.derivation.specs.Limits.{first_over, slices_within}
use Rattle.derivation.specs.declared.fault.CertFault.{CertFault}
use Rattle.derivation.specs.declared.fault.Certified.{Certified}
use Rattle.findings.specs.Notes.{is_blocking, is_fault, is_left, verdict_of}
use Rattle.findings.specs.declared.report.Ask.TheVariants.{All, Blocking}
use Rattle.findings.specs.declared.report.Note.{Note as Told}
use Rattle.findings.specs.declared.report.Note.TheVariants.{Days, Finding, Undecided as UndecidedTold}
use Rattle.findings.specs.declared.report.Verdict.{Verdict}
use Rattle.findings.specs.declared.report.Verdict.TheVariants.{Releasable, Blocked, Undecided}
use Rattle.parts_usage.specs.Fault.{order_fault}
use Rattle.parts_usage.specs.Outcome.{outcome_of}
use Rattle.parts_usage.specs.declared.fault.OrderFault.{OrderFault}
use Rattle.parts_usage.specs.declared.judgement.Outcome.{Outcome}
use Rattle.parts_usage.specs.declared.judgement.Outcome.TheVariants.{Accepted, Refused, Unfit}
use Rattle.supplement_findings.specs.Limits.{slices_within as supplement_slices}
use Rattle.supplement_findings.specs.Notes.{is_finding, is_undecided}
use Rattle.supplement_findings.specs.declared.report.SupplementNote.{SupplementNote}
use Rattle.pb_outside.specs.Files.{NamedBytes, FilesTold, content_of, within_room, ReadsFile}
use Rattle.book_commands.specs.Ends.{IsDecided, IsOrderStatus, IsCheckStatus, IsVerifyStatus, IsSampleStatus, EndsCheck, EndsSample}
use Rattle.book_commands.specs.Logged.{logged_behind, is_spent}
use Rattle.book_commands.specs.RunReply.{RunReply, outcome_status, judged_reply, order_reply, certified_reply, content_reply, verdict_status, report_reply}
use Rattle.book_commands.specs.Checks.{IsReported, IsProvedBy, IsProved, RepliesWithin, inquiry, RepliesToCheck, RepliesToProof}
use Rattle.book_commands.specs.Sample.{RepliesToSample}
use Rattle.command_words.specs.Size.{Size}
use Rattle.book_commands.specs.Supplements.{IsSupplementReply, RepliesToSupplements}
use Rattle.book_commands.specs.ChangesReply.{RepliesToChanges}
use Rattle.book_commands.specs.CompareReply.{HasBookOn, HasDays, IsBookOn, IsComparisonReply, IsReleased, IsValidCompare, RepliesByDay, RepliesOver, RepliesToCompare, RepliesToSecond, RepliesToTexts}
use Rattle.book_commands.specs.Require.{EndsRequire}
use Rattle.book_commands.specs.declared.comparing.Span.{Span}
use Rattle.book_commands.specs.declared.comparing.Span.TheVariants.{OnDay, AllDays}
use Rattle.book_commands.specs.declared.log.Note.TheVariants.{Supplement, Compare as CompareLogged}
use Rattle.book_commands.specs.Verify.{IsCertificate, HasCertificate, RepliesToVerify}
use Rattle.book_commands.specs.declared.run_status.RunStatus.{RunStatus}
use Rattle.book_commands.specs.declared.run_status.RunStatus.TheVariants as statuses

pub decided-outcome : (outcome : Outcome) → IsDecided (outcome_status outcome)
decided-outcome (Accepted set list) = inl refl
decided-outcome (Refused rule) = inr refl
decided-outcome (Unfit position count) = inr refl

judged-kind : (b : Contents) (answer : Result Outcome OrderFault) → IsOrderStatus (judged_reply b answer).status
judged-kind b (Ok outcome) = inl (decided-outcome outcome)
judged-kind b (Err fault) = inr refl

pub order-kind : (book : Result Contents BookFault) (day : ℕ) (ordered : List (List ℕ)) → IsOrderStatus (order_reply book day ordered).status
order-kind (Ok b) day ordered = judged-kind b (outcome_of b day ordered)
order-kind (Err fault) day ordered = inr refl

certified-kind : (b : Contents) (answer : Result Certified CertFault) → IsVerifyStatus (certified_reply b answer).status
certified-kind b (Ok certified) = inl refl
certified-kind b (Err fault) = inr (inl refl)

content-kind : (b : Contents) (content : Option (List ℕ)) → IsVerifyStatus (content_reply b content).status
content-kind b None = inr (inl refl)
content-kind b (Some text) = certified-kind b (cert_answer b text)

-- a reply that is an answer ends as the answer does
pub same-kind : (IsKind : RunStatus → Type 0) (answer reply : RunReply) → reply ≡ answer → IsKind answer.status → IsKind reply.status
same-kind IsKind answer reply e h = subst (λ (r : RunReply). IsKind r.status) (sym e) h

pub verify-kind : (book : Result Contents BookFault) (file : List ℕ) (files files' : FilesTold) (reply : RunReply)
    → RepliesToVerify book file files files' reply → IsVerifyStatus reply.status
verify-kind (Ok b) file files files' reply h = same-kind IsVerifyStatus _ reply h.answer (content-kind b h.content)
verify-kind (Err fault) file files files' reply h = same-kind IsVerifyStatus _ reply h.answer (inr (inr refl))

verdict-kind : (verdict : Verdict) → IsCheckStatus (verdict_status verdict)
verdict-kind Releasable = inl (inl refl)
verdict-kind Blocked = inl (inr refl)
verdict-kind Undecided = inr (inl refl)

report-kind : (b : Contents) (report : List Told) (reply : RunReply) → reply ≡ report_reply b report → IsCheckStatus reply.status
report-kind b report reply e = same-kind IsCheckStatus _ reply e (verdict-kind (verdict_of report))

proved-kind : (verdict : Verdict) (b : Contents) (report : List Told) (reply : RunReply) → IsProvedBy verdict b report reply → IsCheckStatus reply.status
proved-kind Releasable b report reply h = same-kind IsCheckStatus _ reply h.answer (inl (inl refl))
proved-kind Blocked b report reply h = report-kind b report reply h
proved-kind Undecided b report reply h = report-kind b report reply h

within-kind : (limits : Result (List Slice) LimitFault) (IsAnswer : RunReply → Type 0) (reply : RunReply)
    → ((r : RunReply) → IsAnswer r → IsCheckStatus r.status) → RepliesWithin limits IsAnswer reply → IsCheckStatus reply.status
within-kind (Ok slices) IsAnswer reply kind h = kind reply h
within-kind (Err fault) IsAnswer reply kind h = same-kind IsCheckStatus _ reply h (inr (inr refl))

pub check-kind : (book : Result Contents BookFault) (budget : ℕ) (reply : RunReply) → RepliesToCheck book budget reply → IsCheckStatus reply.status
check-kind (Ok b) budget reply h =
    within-kind (slices_within b) (IsReported (inquiry All budget b)) reply (λ r is. report-kind b is.report r is.answer) h
check-kind (Err fault) budget reply h = same-kind IsCheckStatus _ reply h (inr (inr refl))

pub proof-kind : (book : Result Contents BookFault) (budget : ℕ) (reply : RunReply) → RepliesToProof book budget reply → IsCheckStatus reply.status
proof-kind (Ok b) budget reply h =
    within-kind (slices_within b) (IsProved (inquiry Blocking budget b)) reply
    (λ r is. proved-kind (verdict_of is.report) b is.report r is.answer) h
proof-kind (Err fault) budget reply h = same-kind IsCheckStatus _ reply h (inr (inr refl))

supplement-cases : (found left : Bool) → let status : RunStatus = (if found then statuses.Refused else (if left then statuses.Undecided else statuses.Done)) in
    IsDecided status ⊎ ((status ≡ statuses.Undecided) × (left ≡ true))
supplement-cases true left = inl (inr refl)
supplement-cases false true = inr (refl, refl)
supplement-cases false false = inl (inl refl)

pub supplements-kind : (book : Result Contents BookFault) (budget : ℕ) (reply : RunReply) → RepliesToSupplements book budget reply → IsCheckStatus reply.status
supplements-kind (Ok b) budget reply h =
    within-kind (supplement_slices b) (IsSupplementReply (record { book = b; budget = budget })) reply
    (λ r is. same-kind IsCheckStatus _ r is.answer (elim (supplement-cases (list_any is_finding is.report) (list_any is_undecided is.report)) [ inl done ↦ inl done | inr left ↦ inr (inl left.0) ])) h
supplements-kind (Err fault) budget reply h = same-kind IsCheckStatus _ reply h (inr (inr refl))

outside-kind : (o : Option Outside) (one other : Contents) (day budget : ℕ) (reply : RunReply) → RepliesByDay o one other day budget reply → IsCheckStatus reply.status
outside-kind None one other day budget reply h =
    same-kind IsCheckStatus _ reply h.answer (elim (supplement-cases (list_any is_difference h.notes) (list_any is_left_open h.notes)) [ inl done ↦ inl done | inr left ↦ inr (inl left.0) ])
outside-kind (Some which) one other day budget reply h = same-kind IsCheckStatus _ reply h (inr (inr refl))

changes-kind : (one other : Contents) (budget : ℕ) (reply : RunReply) → RepliesToChanges one other budget reply → IsCheckStatus reply.status
changes-kind one other budget reply (inl h) =
    same-kind IsCheckStatus _ reply h.answer (elim (supplement-cases (list_any is_changed h.runs) (list_any is_left_in h.runs)) [ inl done ↦ inl done | inr left ↦ inr (inl left.0) ])
changes-kind one other budget reply (inr limit) = same-kind IsCheckStatus _ reply limit.answer (inr (inr refl))

over-kind : (span : Span) (one other : Contents) (budget : ℕ) (reply : RunReply) → RepliesOver span one other budget reply → IsCheckStatus reply.status
over-kind (OnDay day) one other budget reply h = outside-kind (outside one other day) one other day budget reply h
over-kind AllDays one other budget reply h = changes-kind one other budget reply h

second-kind : (one : Contents) (second : Option (List ℕ)) (span : Span) (budget : ℕ) (reply : RunReply) → RepliesToSecond one second span budget reply → IsCheckStatus reply.status
second-kind one None span budget reply h = same-kind IsCheckStatus _ reply h (inr (inr refl))
second-kind one (Some text) span budget reply h = elim h [
  | inl kept ↦ proof-kind (book_of text) budget reply kept.answer
  | inr compares ↦ over-kind span one compares.book budget reply compares.answer
]

pub texts-kind : (first : List ℕ) (second : Option (List ℕ)) (span : Span) (budget : ℕ) (reply : RunReply) → RepliesToTexts first second span budget reply → IsCheckStatus reply.status
texts-kind first second span budget reply h = elim h [
  | inl kept ↦ proof-kind (book_of first) budget reply kept.answer
  | inr from ↦ second-kind from.book second span budget reply from.answer
]

pub sample-kind : (size : Size) (reply : RunReply) → RepliesToSample size reply → IsSampleStatus reply.status
sample-kind size reply h = elim h.answer [
  | inl released ↦ inl (ap (λ (r : RunReply). r.status) released.answer)
  | inr left ↦ inr (ap (λ (r : RunReply). r.status) left.answer)
]

judged-status : (b : Contents) (fault : Option OrderFault) (outcome : Outcome) → fault ≡ None → IsDecided (judged_reply b (unless fault (Ok outcome))).status
judged-status b fault outcome e =
    subst (λ (f : Option OrderFault). IsDecided (judged_reply b (unless f (Ok outcome))).status) (sym e) (decided-outcome outcome)

pub order-status : (book : Result Contents BookFault) (day : ℕ) (ordered : List (List ℕ)) → IsOk book
    → IfOk book (λ b. order_fault b day ordered ≡ None) → IsDecided (order_reply book day ordered).status
order-status (Ok b) day ordered ok none = judged-status b (order_fault b day ordered) _ none
order-status (Err fault) day ordered ok none = let clash : false ≡ true = ok in cc

certified-status : (b : Contents) (answer : Result Certified CertFault) → IsOk answer → (certified_reply b answer).status ≡ statuses.Done
certified-status b (Ok certified) ok = refl
certified-status b (Err fault) ok = let clash : false ≡ true = ok in cc

-- a file within the limit is read whole
content-status : (b : Contents) (text : List ℕ) (content : Option (List ℕ)) → IsCertificate b text → content ≡ within_room MOST_CERT_BYTES text
    → (content_reply b content).status ≡ statuses.Done
content-status b text content h e =
    let whole : within_room MOST_CERT_BYTES text ≡ Some text = ap (λ (fits : Bool). if fits then Some text else None) h.limit in
    subst (λ (c : Option (List ℕ)). (content_reply b c).status ≡ statuses.Done) (sym (e ∙ whole)) (certified-status b (cert_answer b text) h.certificate)

found-status : (b : Contents) (content found : Option (List ℕ)) → IsSomeAnd found (IsCertificate b)
    → IsSomeAnd found (λ text. content ≡ within_room MOST_CERT_BYTES text) → (content_reply b content).status ≡ statuses.Done
found-status b content None h e = absurd h
found-status b content (Some text) h e = content-status b text content h e

file-status : (b : Contents) (content : Option (List ℕ)) (files : Option (List NamedBytes)) (file : List ℕ) → HasCertificate b files file
    → ReadsFile file MOST_CERT_BYTES files content → (content_reply b content).status ≡ statuses.Done
file-status b content None file h read = absurd h
file-status b content (Some all) file h read = found-status b content (content_of all file) h read

pub verify-status : (book : Result Contents BookFault) (file : List ℕ) (files files' : FilesTold) (reply : RunReply)
    → IsOk book → IfOk book (λ b. HasCertificate b files.files file) → RepliesToVerify book file files files' reply → reply.status ≡ statuses.Done
verify-status (Ok b) file files files' reply ok has h =
    same-kind (λ status. status ≡ statuses.Done) _ reply h.answer (file-status b h.content files.files file has h.read)
verify-status (Err fault) file files files' reply ok has h = let clash : false ≡ true = ok in cc

spent-logged : (slices : ℕ) (report : List Told) → list_any is_spent (logged_behind slices report) ≡ list_any is_left report
spent-logged slices [] = refl
spent-logged slices (Days first last ∷ report) = spent-logged (slices + 1) report
spent-logged slices (Finding question set ∷ report) = spent-logged slices report
spent-logged slices (UndecidedTold question learnt ∷ report) =
    ap (λ (later : Bool). is_blocking question || later) (spent-logged slices report)

verdict-cases : (fault left : Bool) → let verdict : Verdict = (if fault then Blocked else (if left then Undecided else Releasable)) in
    IsDecided (verdict_status verdict) ⊎ ((verdict_status verdict ≡ statuses.Undecided) × (left ≡ true))
verdict-cases true left = inl (inr refl)
verdict-cases false true = inr (refl, refl)
verdict-cases false false = inl (inl refl)

abbrev EndsChecked : RunReply → Type 0
EndsChecked reply = EndsCheck reply.status reply.notes

same-checked : (answer reply : RunReply) → reply ≡ answer → EndsChecked answer → EndsChecked reply
same-checked answer reply e h = subst EndsChecked (sym e) h

report-answered : (b : Contents) (report : List Told) → EndsChecked (report_reply b report)
report-answered b report = elim (verdict-cases (list_any is_fault report) (list_any is_left report)) [
  | inl done ↦ inl done
  | inr left ↦ inr (record { ends = left.0; spent = spent-logged 0 report ∙ left.1 })
]

proved-answered : (verdict : Verdict) (b : Contents) (report : List Told) (reply : RunReply) → IsProvedBy verdict b report reply → EndsChecked reply
proved-answered Releasable b report reply h = same-checked _ reply h.answer (inl (inl refl))
proved-answered Blocked b report reply h = same-checked _ reply h (report-answered b report)
proved-answered Undecided b report reply h = same-checked _ reply h (report-answered b report)

within-answered : (limits : Result (List Slice) LimitFault) (IsAnswer : RunReply → Type 0) (reply : RunReply) → IsOk limits
    → ((r : RunReply) → IsAnswer r → EndsChecked r) → RepliesWithin limits IsAnswer reply → EndsChecked reply
within-answered (Ok slices) IsAnswer reply ok answered h = answered reply h
within-answered (Err fault) IsAnswer reply ok answered h = let clash : false ≡ true = ok in cc

pub check-answered : (book : Result Contents BookFault) (budget : ℕ) (reply : RunReply) → IsOk book → IfOk book (λ b. IsOk (slices_within b))
    → RepliesToCheck book budget reply → EndsChecked reply
check-answered (Ok b) budget reply ok limits h =
    within-answered (slices_within b) (IsReported (inquiry All budget b)) reply limits
    (λ r is. same-checked _ r is.answer (report-answered b is.report)) h
check-answered (Err fault) budget reply ok limits h = let clash : false ≡ true = ok in cc

pub proof-answered : (book : Result Contents BookFault) (budget : ℕ) (reply : RunReply) → IsOk book → IfOk book (λ b. IsOk (slices_within b))
    → RepliesToProof book budget reply → EndsChecked reply
proof-answered (Ok b) budget reply ok limits h =
    within-answered (slices_within b) (IsProved (inquiry Blocking budget b)) reply limits
    (λ r is. proved-answered (verdict_of is.report) b is.report r is.answer) h
proof-answered (Err fault) budget reply ok limits h = let clash : false ≡ true = ok in cc

undecided-logged : (report : List SupplementNote) → list_any is_spent (map Supplement report) ≡ list_any is_undecided report
undecided-logged [] = refl
undecided-logged (note ∷ report) = ap (λ (later : Bool). is_undecided note || later) (undecided-logged report)

pub supplements-answered : (book : Result Contents BookFault) (budget : ℕ) (reply : RunReply) → IsOk book → IfOk book (λ b. IsOk (supplement_slices b))
    → RepliesToSupplements book budget reply → EndsChecked reply
supplements-answered (Ok b) budget reply ok limits h =
    within-answered (supplement_slices b) (IsSupplementReply (record { book = b; budget = budget })) reply limits
    (λ r is. same-checked _ r is.answer (elim (supplement-cases (list_any is_finding is.report) (list_any is_undecided is.report)) [
      | inl done ↦ inl done
      | inr left ↦ inr (record { ends = left.0; spent = undecided-logged is.report ∙ left.1 })
    ])) h
supplements-answered (Err fault) budget reply ok limits h = let clash : false ≡ true = ok in cc

open-logged : (notes : List CompareNote) → list_any is_spent (map CompareLogged notes) ≡ list_any is_left_open notes
open-logged [] = refl
open-logged (note ∷ notes) = ap (λ (later : Bool). is_left_open note || later) (open-logged notes)

comparison-answered : (one other : Contents) (day budget : ℕ) (reply : RunReply) → IsComparisonReply one other day budget reply → EndsChecked reply
comparison-answered one other day budget reply is =
    same-checked _ reply is.answer (elim (supplement-cases (list_any is_difference is.notes) (list_any is_left_open is.notes)) [
      | inl done ↦ inl done
      | inr left ↦ inr (record { ends = left.0; spent = open-logged is.notes ∙ left.1 })
    ])

-- what the valid text says of the book that it reads as
on-days : (text : List ℕ) (b : Contents) (span : Span) → IsBookOn span text → IsReleased text b → HasDays span b
on-days text b span on is = subst (λ (book : Result Contents BookFault). IfOk book (HasDays span)) is.reads on.term

in-limits : (text : List ℕ) (b : Contents) (span : Span) → IsBookOn span text → IsReleased text b → IsOk (slices_within b)
in-limits text b span on is = subst (λ (book : Result Contents BookFault). IfOk book (λ c. IsOk (slices_within c))) is.reads on.checkable.limits

within-both : (one other : Contents) (day : ℕ) → is_within one.first one.last day ≡ true → is_within other.first other.last day ≡ true → outside one other day ≡ None
within-both one other day first second =
    ap (λ (t : Bool). if t then (if is_within other.first other.last day then None else Some Second) else Some First) first
    ∙ ap (λ (t : Bool). if t then None else Some Second) second

-- a book that keeps the limits of a check has slices
limit-kept : (b : Contents) (found : Result (List Slice) LimitFault) (fault : LimitFault) → IsOk (and_then found (λ slices. unless (first_over 0 b slices) (Ok slices))) → found ≡ Err fault → ⊥
limit-kept b (Ok slices) fault ok is = absurd (cc)
limit-kept b (Err other) fault ok is = let clash : false ≡ true = ok in absurd (cc)

never-limited : (b : Contents) (fault : LimitFault) → IsOk (slices_within b) → slices_of b ≡ Err fault → ⊥
never-limited b fault ok is = limit-kept b (slices_of b) fault ok is

changes-answered : (one other : Contents) (budget : ℕ) (reply : RunReply) → IsOk (slices_within one) → IsOk (slices_within other) → RepliesToChanges one other budget reply → EndsRequire reply.status reply.notes
changes-answered one other budget reply first second (inl h) =
    subst (λ (r : RunReply). EndsRequire r.status r.notes) (sym h.answer)
    (elim (supplement-cases (list_any is_changed h.runs) (list_any is_left_in h.runs)) [ inl done ↦ inl done | inr left ↦ inr left.0 ])
changes-answered one other budget reply first second (inr limit) = elim limit.exceeds [
  | inl own ↦ absurd (never-limited one limit.fault first own)
  | inr own ↦ absurd (never-limited other limit.fault second own)
]

-- how a valid command ends: what was learnt is in the log where one day is compared
abbrev EndsOver : Span → RunReply → Type 0
EndsOver (OnDay day) reply = EndsChecked reply
EndsOver AllDays reply = EndsRequire reply.status reply.notes

checked-over : (span : Span) (reply : RunReply) → EndsChecked reply → EndsOver span reply
checked-over (OnDay day) reply h = h
checked-over AllDays reply (inl done) = inl done
checked-over AllDays reply (inr left) = inr left.ends

over-answered : (span : Span) (one other : Contents) (budget : ℕ) (reply : RunReply) → HasDays span one → HasDays span other → IsOk (slices_within one) → IsOk (slices_within other)
    → RepliesOver span one other budget reply → EndsOver span reply
over-answered (OnDay day) one other budget reply first second few few_others h =
    comparison-answered one other day budget reply (subst (λ (o : Option Outside). RepliesByDay o one other day budget reply) (within-both one other day first second) h)
over-answered AllDays one other budget reply first second few few_others h = changes-answered one other budget reply few few_others h

second-answered : (one : Contents) (text : List ℕ) (span : Span) (budget : ℕ) (reply : RunReply) → HasDays span one → IsOk (slices_within one) → IsBookOn span text
    → RepliesToSecond one (Some text) span budget reply → EndsOver span reply
second-answered one text span budget reply first few on h = elim h [
  | inl kept ↦ checked-over span reply (proof-answered (book_of text) budget reply on.checkable.no_fault on.checkable.limits kept.answer)
  | inr compares ↦
      over-answered span one compares.book budget reply first (on-days text compares.book span on compares.released) few (in-limits text compares.book span on compares.released) compares.answer
]

-- the content of the file is a text of a book
content-answered : (one : Contents) (content : Option (List ℕ)) (span : Span) (budget : ℕ) (reply : RunReply) → HasDays span one → IsOk (slices_within one) → IsSomeAnd content (IsBookOn span)
    → RepliesToSecond one content span budget reply → EndsOver span reply
content-answered one None span budget reply first few on h = absurd on
content-answered one (Some text) span budget reply first few on h = second-answered one text span budget reply first few on h

found-text : (span : Span) (found content : Option (List ℕ)) → IsSomeAnd found (IsBookOn span) → IsSomeAnd found (λ text. content ≡ within_room MOST_TEXT_BYTES text) → IsSomeAnd content (IsBookOn span)
found-text span None content on read = absurd on
found-text span (Some text) content on read =
    let whole : within_room MOST_TEXT_BYTES text ≡ Some text = ap (λ (fits : Bool). if fits then Some text else None) on.limit in
    subst (λ (c : Option (List ℕ)). IsSomeAnd c (IsBookOn span)) (sym (read ∙ whole)) on

file-text : (span : Span) (files : Option (List NamedBytes)) (file : List ℕ) (content : Option (List ℕ)) → HasBookOn span files file → ReadsFile file MOST_TEXT_BYTES files content → IsSomeAnd content (IsBookOn span)
file-text span None file content on read = absurd on
file-text span (Some all) file content on read = found-text span (content_of all file) content on read

texts-answered : (input file : List ℕ) (span : Span) (budget : ℕ) (files files' : FilesTold) (reply : RunReply) → IsValidCompare input files.files file span
    → RepliesToCompare input span file budget files files' reply → EndsOver span reply
texts-answered input file span budget files files' reply valid h = elim h.answer [
  | inl kept ↦ checked-over span reply (proof-answered (book_of input) budget reply valid.first.checkable.no_fault valid.first.checkable.limits kept.answer)
  | inr from ↦
      content-answered from.book h.content span budget reply (on-days input from.book span valid.first from.released) (in-limits input from.book span valid.first from.released)
      (file-text span files.files file h.content valid.second h.read) from.answer
]

pub compare-answered : (input file : List ℕ) (day budget : ℕ) (files files' : FilesTold) (reply : RunReply) → IsValidCompare input files.files file (OnDay day)
    → RepliesToCompare input (OnDay day) file budget files files' reply → EndsChecked reply
compare-answered input file day budget files files' reply valid h = texts-answered input file (OnDay day) budget files files' reply valid h

pub changes-told : (input file : List ℕ) (budget : ℕ) (files files' : FilesTold) (reply : RunReply) → IsValidCompare input files.files file AllDays
    → RepliesToCompare input AllDays file budget files files' reply → EndsRequire reply.status reply.notes
changes-told input file budget files files' reply valid h = texts-answered input file AllDays budget files files' reply valid h

left_by_verdict : (fault left : Bool) → (if fault then Blocked else (if left then Undecided else Releasable)) ≡ Undecided → left ≡ true
left_by_verdict true left e = cc
left_by_verdict false true e = refl
left_by_verdict false false e = cc

-- a sample is answered
pub sample-answered : (size : Size) (reply : RunReply) → RepliesToSample size reply → EndsSample reply.status reply.notes
sample-answered size reply h = elim h.answer [
  | inl released ↦ inl (ap (λ (r : RunReply). r.status) released.answer)
  | inr left ↦ inr (record {
    ends = ap (λ (r : RunReply). r.status) left.answer;
    spent = ap (λ (r : RunReply). list_any is_spent r.notes) left.answer ∙ spent-logged 0 left.report
        ∙ left_by_verdict (list_any is_fault left.report) (list_any is_left left.report) left.undecided;
  })
]
