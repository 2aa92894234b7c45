-- How each call goes.
--     IsCall what           a call that may be made: texts, budgets and numbers of orders are in their ranges
--     course_of call        the events of the call, and what is replied
use Rattle.std.specs.Prelude.{◌≡◌, ◌⊎◌, ℕ, ◌<◌, ◌≤◌, true, false, List, Option, None, Some, Result, Ok, Err, length}
use Rattle.pb_base.specs.declared.limits.TheConstants.{MOST_TEXT_BYTES, MOST_BUDGET}
use Rattle.book_model.specs.Contents.{Contents}
use Rattle.book_model.specs.declared.record.Slice.{Slice}
use Rattle.book_model.specs.declared.slicing.LimitFault.{LimitFault}
use Rattle.book_text.specs.BookText.{book_of}
use Rattle.book_text.specs.declared.fault.BookFault.{BookFault}
use Rattle.derivation.specs.Limits.{slices_within}
use Rattle.parts_usage.specs.Fault.{order_fault}
use Rattle.parts_usage.specs.Outcome.{outcome_of}
use Rattle.parts_usage.specs.declared.fault.OrderFault.{OrderFault}
use Rattle.parts_usage.specs.declared.judgement.Outcome.{Outcome}
use Rattle.parts_usage.specs.declared.judgement.Outcome.TheVariants as outcome
use Rattle.free_answers.specs.Answer.{IsAnswer as IsFree}
use Rattle.free_answers.specs.FreeText.{free_text}
use Rattle.free_answers.specs.declared.answer.FreeAnswer.{FreeAnswer}
use Rattle.order_repair.specs.Repair.{IsAnswer as IsWhy}
use Rattle.order_repair.specs.RepairText.{why_text}
use Rattle.order_repair.specs.declared.answer.WhyAnswer.{WhyAnswer}
use Rattle.findings.specs.Notes.{IsReport}
use Rattle.findings.specs.declared.report.Ask.TheVariants as ask
use Rattle.findings.specs.declared.report.Note.{Note}
use Rattle.order_text.specs.OutcomeText.{accepted_text}
use Rattle.book_model.specs.Ids.{construct_id}
use Rattle.findings.specs.ReportText.{report_text}
use Rattle.release_check.specs.NotReleased.{IsRefusal}
use Rattle.release.specs.Release.{Release, IsRelease}
use Rattle.release_check.specs.declared.checking.NotChecked.{NotChecked}
use Rattle.release_check.specs.declared.checking.NotChecked.TheVariants as not_checked
use Rattle.release_check.specs.declared.not_released.NotReleased.{NotReleased}
use Rattle.release_check.specs.declared.not_released.NotReleased.TheVariants as kept_back
use Rattle.desk_words.specs.declared.call.Call.{Call}
use Rattle.desk_words.specs.declared.call.What.{What}
use Rattle.desk_words.specs.declared.call.What.TheVariants as what
use Rattle.desk_words.specs.declared.order_words.OrderWords.{OrderWords}
use Rattle.desk_words.specs.declared.reply.Reply.{Reply}
use Rattle.desk_words.specs.declared.reply.Reply.TheVariants as reply
use Rattle.order_desk.specs.declared.answer.Answer.TheVariants as answer
use Rattle.order_desk.specs.declared.event.Event.TheVariants.{PutDraft, GiveDraft, Commit, Withdraw, Place, Read}
use Rattle.order_desk.specs.declared.event.Reading.TheVariants as reading
use Rattle.order_desk.specs.declared.limits.TheConstants.{MOST_ORDER_NUMBER}
use Rattle.answering.specs.Course.{Course, ends, ends_with, never, or_memory, says, asks}
use Rattle.answering.specs.Hand.{Hand}
use Rattle.answering.specs.Told.{as_kept, as_looked, as_placed, as_taken}
use Rattle.answering.specs.declared.asked.KeptOrder.{KeptOrder}
use Rattle.answering.specs.declared.asked.Looked.{Looked}
use Rattle.answering.specs.declared.asked.Looked.TheVariants.{Free, Kept}

-- a number of learnt clauses for each question
abbrev pub IsBudget : ℕ → Type 0
IsBudget budget = (0 < budget) × (budget ≤ MOST_BUDGET)

abbrev pub IsCall : What → Type 0
IsCall (what.PutDraft draft text) = length text ≤ MOST_TEXT_BYTES
IsCall (what.Check draft budget) = IsBudget budget
IsCall (what.Release draft revision budget) = IsBudget budget
IsCall (what.Free order budget) = IsBudget budget
IsCall (what.Why order budget) = IsBudget budget
IsCall (what.Order number order) = (1 ≤ number) × (number ≤ MOST_ORDER_NUMBER)
IsCall _ = Unit {0}

-- ---- drafts

-- the text is copied outside the turn
abbrev pub showing_draft : List ℕ → Course
showing_draft draft = asks (Read (reading.Draft draft)) as_taken (λ d. or_memory (ends_with (reply.Raw d.text)))

-- ---- checks and releases

-- a report is told by its text, unless there is no memory for that
abbrev pub IsTold : (List ℕ → Reply) → Contents → List Note → Reply → Type 0
IsTold kind b notes said = (said ≡ kind (report_text b notes)) ⊎ (said ≡ reply.Memory)

abbrev pub by_limits : Result (List Slice) LimitFault → Contents → ℕ → Reply → Type 0
by_limits (Err fault) b budget said = said ≡ reply.Limit fault
by_limits (Ok slices) b budget said =
    (notes : List Note) × IsReport (record { book = b; ask = ask.All; budget = budget }) notes × IsTold reply.Report b notes said

abbrev pub by_reading : Result Contents BookFault → ℕ → Reply → Type 0
by_reading (Err fault) budget said = said ≡ reply.TextRefused fault
by_reading (Ok b) budget said = by_limits (slices_within b) b budget said

-- why a text isn't checked, as it is told
abbrev pub unchecked : NotChecked → Reply
unchecked (not_checked.Text fault) = reply.TextRefused fault
unchecked (not_checked.Limit fault) = reply.Limit fault

-- what the check of a text comes to
abbrev pub IsChecked : List ℕ → ℕ → Reply → Type 0
IsChecked text budget said = (said ≡ reply.Memory) ⊎ by_reading (book_of text) budget said

abbrev pub checking : List ℕ → List ℕ → ℕ → Course
checking caller draft budget = asks (Read (reading.Take caller draft None)) as_taken (λ d. ends (IsChecked d.text budget))

-- why a text isn't released, as it is told
abbrev pub IsToldAs : NotReleased → Reply → Type 0
IsToldAs (kept_back.Text fault) said = said ≡ reply.TextRefused fault
IsToldAs (kept_back.Found b report) said = IsTold reply.Found b report said
IsToldAs (kept_back.Undecided b report) said = IsTold reply.Undecided b report said
IsToldAs (kept_back.Limit fault) said = said ≡ reply.Limit fault

abbrev pub IsKeptBack : List ℕ → ℕ → Reply → Type 0
IsKeptBack text budget said = (why : NotReleased) × IsRefusal text budget why × IsToldAs why said

-- some release of this text is handed to the desk
abbrev pub commits : List ℕ → List ℕ → ℕ → List ℕ → Course
commits caller draft revision text h said new =
    (r : Release) × (r.text ≡ text) × IsRelease r × says (Commit caller draft revision r) h said new

abbrev pub either : Course → Course → Course
either c d h said new = c h said new ⊎ d h said new

abbrev pub to_release : List ℕ → List ℕ → ℕ → ℕ → List ℕ → Course
to_release caller draft revision budget text =
    or_memory (either (ends (IsKeptBack text budget)) (commits caller draft revision text))

abbrev pub releasing : List ℕ → List ℕ → ℕ → ℕ → Course
releasing caller draft revision budget =
    asks (Read (reading.Take caller draft (Some revision))) as_taken (λ d. to_release caller draft revision budget d.text)

-- ---- books

abbrev pub text_shown : Release → Reply
text_shown r = reply.Raw r.text

abbrev pub cert_shown : Release → Reply
cert_shown r = reply.Cert r.cert

-- something of a book is copied outside the turn
abbrev pub showing : ℕ → (Release → Reply) → Course
showing book kind = asks (Read (reading.Book book)) answer.Book (λ r. or_memory (ends_with (kind r)))

-- ---- what can be chosen, and how an order would be accepted

-- the text of a right answer to an order without a fault
abbrev pub Telling : Type 1
Telling = Contents → OrderWords → ℕ → List ℕ → Type 0

abbrev pub TellsFree : Telling
TellsFree b order budget text = (a : FreeAnswer) × IsFree b order.day order.codes budget a × (text ≡ free_text b a)

abbrev pub TellsWhy : Telling
TellsWhy b order budget text = (a : WhyAnswer) × IsWhy b order.day order.codes budget a × (text ≡ why_text b a)

-- an order with a fault is told it
abbrev pub by_fault : Telling → Option OrderFault → Contents → OrderWords → ℕ → Reply → Type 0
by_fault tells (Some fault) b order budget said = said ≡ reply.OrderFault fault
by_fault tells None b order budget said = (text : List ℕ) × tells b order budget text × (said ≡ reply.Report text)

abbrev pub IsAdvice : Telling → Contents → OrderWords → ℕ → Reply → Type 0
IsAdvice tells b order budget said =
    (said ≡ reply.Memory) ⊎ by_fault tells (order_fault b order.day order.codes) b order budget said

-- the book is asked outside the turn
abbrev pub advising : Telling → OrderWords → ℕ → Course
advising tells order budget = asks (Read (reading.InForce order.book)) answer.Book (λ r. ends (IsAdvice tells r.book order budget))

-- ---- orders

-- what an order that is kept comes to, which is that it is accepted
abbrev pub by_accepted : Result Outcome OrderFault → Contents → (List ℕ → Course) → Course
by_accepted (Ok (outcome.Accepted set list)) b next = next (accepted_text b set list)
by_accepted other b next = never

-- the text of an order that is accepted
abbrev pub TextBy : Result Outcome OrderFault → Contents → List ℕ → Type 0
TextBy (Ok (outcome.Accepted set list)) b text = text ≡ accepted_text b set list
TextBy other b text = ⊥

abbrev pub told_again : Release → OrderWords → (List ℕ → Reply) → Course
told_again r order kind =
    or_memory (by_accepted (outcome_of r.book order.day order.codes) r.book (λ text. ends_with (kind text)))

-- what a new order comes to
abbrev pub by_outcome : Result Outcome OrderFault → Contents → (List ℕ → Course) → Course
by_outcome (Ok (outcome.Accepted set list)) b next = next (accepted_text b set list)
by_outcome (Ok (outcome.Refused rule)) b next = ends_with (reply.Refused (construct_id b rule))
by_outcome (Ok (outcome.Unfit position count)) b next = never
by_outcome (Err fault) b next = ends_with (reply.OrderFault fault)

-- behind the last event of an order; the text was made before it
abbrev pub after_placing : List ℕ → Option KeptOrder → Course
after_placing text None = ends_with (reply.Placed true text)
after_placing text (Some k) = told_again k.book k.order (reply.Placed false)

abbrev pub placing : List ℕ → ℕ → OrderWords → List ℕ → Course
placing caller number order text = asks (Place caller number order) as_placed (after_placing text)

abbrev pub after_looking : List ℕ → ℕ → OrderWords → Looked → Course
after_looking caller number order (Free r) =
    or_memory (by_outcome (outcome_of r.book order.day order.codes) r.book (placing caller number order))
after_looking caller number order (Kept k) = told_again k.book k.order (reply.Placed false)

abbrev pub ordering : List ℕ → ℕ → OrderWords → Course
ordering caller number order =
    or_memory (asks (Read (reading.Look caller number order)) as_looked (after_looking caller number order))

abbrev pub after_reading : KeptOrder → Course
after_reading k = told_again k.book k.order (reply.OrderIs k.order.book k.order.day)

-- ---- all calls

abbrev pub course_of : List ℕ → What → Course
course_of caller (what.PutDraft draft text) = says (PutDraft caller draft text)
course_of caller (what.GiveDraft draft to) = says (GiveDraft caller draft to)
course_of caller (what.ReadDraft draft) = showing_draft draft
course_of caller (what.ReadOwner draft) = says (Read (reading.Owner draft))
course_of caller (what.Check draft budget) = checking caller draft budget
course_of caller (what.Release draft revision budget) = releasing caller draft revision budget
course_of caller (what.ReadBook book) = showing book text_shown
course_of caller (what.ReadCert book) = showing book cert_shown
course_of caller (what.Withdraw book) = says (Withdraw caller book)
course_of caller (what.Order number order) = ordering caller number order
course_of caller (what.Free order budget) = advising TellsFree order budget
course_of caller (what.Why order budget) = advising TellsWhy order budget
course_of caller (what.ReadOrder number) = asks (Read (reading.Order caller number)) as_kept after_reading
course_of caller what.ReadBooks = says (Read reading.Books)
course_of caller (what.ReadOrders number) = says (Read (reading.Orders caller number))

-- the call is answered with this reply
abbrev pub Answers : Call → Hand → Reply → Hand → Type 0
Answers call h said new = course_of call.caller call.what h said new
