-- Wherever a call gets, legal steps lead there, and a book that its reply tells as a draft's can be released.
use Rattle.std.proofs.Common.{◌≡◌, ℕ, true, false, List, Option, None, Some, Result, Ok, Err, sym, subst, inl, inr}
use Rattle.book_model.specs.Contents.{Contents}
use Rattle.book_model.specs.declared.record.Slice.{Slice}
use Rattle.book_model.specs.declared.slicing.LimitFault.{LimitFault}
use Rattle.book_text.specs.BookText.{book_of as read_as}
use Rattle.book_text.specs.declared.fault.BookFault.{BookFault}
use Rattle.derivation.specs.Limits.{slices_within}
use Rattle.parts_usage.specs.Fault.{order_fault}
use Rattle.parts_usage.specs.Outcome.{outcome_of}
use Rattle.parts_usage.specs.declared.fault.OrderFault.{OrderFault}
use Rattle.parts_usage.specs.declared.judgement.Outcome.{Outcome}
use Rattle.parts_usage.specs.declared.judgement.Outcome.TheVariants as outcome
use Rattle.findings.specs.declared.report.Note.{Note}
use Rattle.order_text.specs.OutcomeText.{accepted_text}
use Rattle.book_model.specs.Ids.{construct_id}
use Rattle.release.specs.Release.{Release}
use Rattle.release_check.specs.declared.not_released.NotReleased.{NotReleased}
use Rattle.release_check.specs.declared.not_released.NotReleased.TheVariants as kept_back
use Rattle.desk_words.specs.declared.call.Call.{Call}
use Rattle.desk_words.specs.declared.call.What.{What}
use Rattle.desk_words.specs.declared.call.What.TheVariants as what
use Rattle.desk_words.specs.declared.order_words.OrderWords.{OrderWords}
use Rattle.desk_words.specs.declared.reply.Reply.{Reply}
use Rattle.desk_words.specs.declared.reply.Reply.TheVariants as reply
use Rattle.order_desk.specs.declared.answer.Answer.{Answer}
use Rattle.order_desk.specs.declared.answer.Answer.TheVariants as answer
use Rattle.order_desk.specs.declared.event.Event.{Event}
use Rattle.order_desk.specs.declared.event.Event.TheVariants.{PutDraft, GiveDraft, Commit, Withdraw, Place, Read}
use Rattle.order_desk.specs.declared.event.Reading.TheVariants as reading
use Rattle.order_desk.specs.Tables.{Tables}
use Rattle.order_desk.specs.Valid.{IsValid}
use Rattle.order_desk.proofs.Growth.{reaches_grows}
use Rattle.order_desk.proofs.StepValid.{reaches_valid}
use Rattle.answering.specs.Answers.{IsAdvice, IsChecked, IsKeptBack, IsTold, IsToldAs, Telling, TellsFree, TellsWhy, advising, after_looking, after_placing, after_reading, by_accepted, by_fault, by_limits, by_outcome, by_reading, cert_shown, commits, course_of, either, placing, showing, text_shown, to_release, told_again}
use Rattle.answering.specs.Course.{Course, asks, ends, ends_with, never, or_memory, says}
use Rattle.answering.specs.Dealt.{IsDealt, NamesReleased}
use Rattle.answering.specs.Hand.{Hand}
use Rattle.answering.specs.LaterHand.{IsLaterHand}
use Rattle.answering.specs.Told.{as_kept, as_looked, as_placed, as_taken}
use Rattle.answering.specs.declared.asked.KeptOrder.{KeptOrder}
use Rattle.answering.specs.declared.asked.Looked.{Looked}
use Rattle.answering.specs.declared.asked.Looked.TheVariants.{Free, Kept}
use Rattle.answering.proofs.EventNames.{says_names}
use Rattle.answering.proofs.LaterHands.{hand_same, hand_takes, hand_twice}
use Rattle.answering.proofs.NewOrders.{places_order}

record Leads (h : Hand) (said : Reply) (new : Hand) : Type 0 where
  later : IsLaterHand h new
  names : IsValid h.state.tables → NamesReleased said new.state.tables

abbrev LeadsOn : Course → Type 0
LeadsOn course = (h : Hand) (said : Reply) (new : Hand) → course h said new → Leads h said new

-- a reply that names no book of a release
abbrev IsOther : Reply → Type 0
IsOther r = (t : Tables) → NamesReleased r t

on_ends : (P : Reply → Type 0) → ((said : Reply) → P said → IsOther said) → LeadsOn (ends P)
on_ends P other = λ h said new is. record {
  later = subst (λ (k : Hand). IsLaterHand h k) (sym is.1) (hand_same h);
  names = λ valid. other said is.0 new.state.tables;
}

is_other : (r said : Reply) → IsOther r → said ≡ r → IsOther said
is_other r said other is = subst (λ (s : Reply). IsOther s) (sym is) other

on_said : (r : Reply) → IsOther r → LeadsOn (ends_with r)
on_said r other = on_ends (λ said. said ≡ r) (λ said is. is_other r said other is)

on_never : LeadsOn never
on_never = λ h said new is. absurd is

on_memory : (course : Course) → LeadsOn course → LeadsOn (or_memory course)
on_memory course on = λ h said new is. elim is [
  | inl is ↦ on_said reply.Memory (λ t. tt) h said new is
  | inr is ↦ on h said new is
]

on_either : (c d : Course) → LeadsOn c → LeadsOn d → LeadsOn (either c d)
on_either c d on_c on_d = λ h said new is. elim is [ inl is ↦ on_c h said new is | inr is ↦ on_d h said new is ]

on_says : (e : Event) → LeadsOn (says e)
on_says e = λ h said new takes. record {
  later = hand_takes h e (answer.Say said) new takes;
  names = λ valid. says_names h e said new valid takes;
}

on_asks : {A : Type 0} (e : Event) (own : A → Answer) (next : A → Course) → ((a : A) → LeadsOn (next a)) → LeadsOn (asks e own next)
on_asks {A} e own next on = λ h said new asked. by h said new asked
  where
    by : (h : Hand) (said : Reply) (new : Hand) → asks e own next h said new → Leads h said new
    by h said new (inl takes) = on_says e h said new takes
    by h said new (inr (a, between, takes, goes)) =
        let first = hand_takes h e (own a) between takes in
        let rest = on a between said new goes in
        record {
          later = hand_twice h between new first rest.later;
          names = λ valid. rest.names (reaches_valid h.state between.state first.reaches valid);
        }

-- ---- calls

told_other : (kind : List ℕ → Reply) → ((text : List ℕ) → IsOther (kind text)) → (b : Contents) (notes : List Note) (said : Reply)
    → IsTold kind b notes said → IsOther said
told_other kind other b notes said (inl is) = subst (λ (s : Reply). IsOther s) (sym is) (other _)
told_other kind other b notes said (inr is) = is_other reply.Memory said (λ t. tt) is

limits_other : (o : Result (List Slice) LimitFault) (b : Contents) (budget : ℕ) (said : Reply) → by_limits o b budget said → IsOther said
limits_other (Err fault) b budget said is = is_other (reply.Limit fault) said (λ t. tt) is
limits_other (Ok slices) b budget said (notes, report, told) = told_other reply.Report (λ text t. tt) b notes said told

reading_other : (o : Result Contents BookFault) (budget : ℕ) (said : Reply) → by_reading o budget said → IsOther said
reading_other (Err fault) budget said is = is_other (reply.TextRefused fault) said (λ t. tt) is
reading_other (Ok b) budget said is = limits_other (slices_within b) b budget said is

checked_other : (text : List ℕ) (budget : ℕ) (said : Reply) → IsChecked text budget said → IsOther said
checked_other text budget said (inl is) = is_other reply.Memory said (λ t. tt) is
checked_other text budget said (inr is) = reading_other (read_as text) budget said is

told_as_other : (why : NotReleased) (said : Reply) → IsToldAs why said → IsOther said
told_as_other (kept_back.Text fault) said is = is_other (reply.TextRefused fault) said (λ t. tt) is
told_as_other (kept_back.Found b report) said is = told_other reply.Found (λ text t. tt) b report said is
told_as_other (kept_back.Undecided b report) said is = told_other reply.Undecided (λ text t. tt) b report said is
told_as_other (kept_back.Limit fault) said is = is_other (reply.Limit fault) said (λ t. tt) is

kept_back_other : (text : List ℕ) (budget : ℕ) (said : Reply) → IsKeptBack text budget said → IsOther said
kept_back_other text budget said (why, refusal, told) = told_as_other why said told

on_accepted : (o : Result Outcome OrderFault) (b : Contents) (next : List ℕ → Course) → ((text : List ℕ) → LeadsOn (next text))
    → LeadsOn (by_accepted o b next)
on_accepted (Ok (outcome.Accepted set list)) b next on = on (accepted_text b set list)
on_accepted (Ok (outcome.Refused rule)) b next on = on_never
on_accepted (Ok (outcome.Unfit position count)) b next on = on_never
on_accepted (Err fault) b next on = on_never

on_outcome : (o : Result Outcome OrderFault) (b : Contents) (next : List ℕ → Course) → ((text : List ℕ) → LeadsOn (next text))
    → LeadsOn (by_outcome o b next)
on_outcome (Ok (outcome.Accepted set list)) b next on = on (accepted_text b set list)
on_outcome (Ok (outcome.Refused rule)) b next on = on_said (reply.Refused (construct_id b rule)) (λ t. tt)
on_outcome (Ok (outcome.Unfit position count)) b next on = on_never
on_outcome (Err fault) b next on = on_said (reply.OrderFault fault) (λ t. tt)

on_told_again : (r : Release) (order : OrderWords) (kind : List ℕ → Reply) → ((text : List ℕ) → IsOther (kind text)) → LeadsOn (told_again r order kind)
on_told_again r order kind other =
    on_memory (by_accepted (outcome_of r.book order.day order.codes) r.book (λ text. ends_with (kind text)))
    (on_accepted (outcome_of r.book order.day order.codes) r.book (λ text. ends_with (kind text)) (λ text. on_said (kind text) (other text)))

on_commits : (caller draft : List ℕ) (revision : ℕ) (text : List ℕ) → LeadsOn (commits caller draft revision text)
on_commits caller draft revision text = λ h said new is. on_says (Commit caller draft revision is.0) h said new is.3

on_release : (caller draft : List ℕ) (revision budget : ℕ) (text : List ℕ) → LeadsOn (to_release caller draft revision budget text)
on_release caller draft revision budget text =
    on_memory (either (ends (IsKeptBack text budget)) (commits caller draft revision text))
    (on_either (ends (IsKeptBack text budget)) (commits caller draft revision text) (on_ends (IsKeptBack text budget) (kept_back_other text budget))
    (on_commits caller draft revision text))

on_showing : (book : ℕ) (kind : Release → Reply) → ((r : Release) → IsOther (kind r)) → LeadsOn (showing book kind)
on_showing book kind other =
    on_asks (Read (reading.Book book)) answer.Book (λ r. or_memory (ends_with (kind r)))
    (λ r. on_memory (ends_with (kind r)) (on_said (kind r) (other r)))

fault_other : (tells : Telling) (o : Option OrderFault) (b : Contents) (order : OrderWords) (budget : ℕ) (said : Reply)
    → by_fault tells o b order budget said → IsOther said
fault_other tells (Some fault) b order budget said is = is_other (reply.OrderFault fault) said (λ t. tt) is
fault_other tells None b order budget said (text, right, told) = is_other (reply.Report text) said (λ t. tt) told

advice_other : (tells : Telling) (b : Contents) (order : OrderWords) (budget : ℕ) (said : Reply) → IsAdvice tells b order budget said → IsOther said
advice_other tells b order budget said (inl is) = is_other reply.Memory said (λ t. tt) is
advice_other tells b order budget said (inr is) = fault_other tells (order_fault b order.day order.codes) b order budget said is

on_advising : (tells : Telling) (order : OrderWords) (budget : ℕ) → LeadsOn (advising tells order budget)
on_advising tells order budget =
    on_asks (Read (reading.InForce order.book)) answer.Book (λ r. ends (IsAdvice tells r.book order budget))
    (λ r. on_ends (IsAdvice tells r.book order budget) (advice_other tells r.book order budget))

on_placing : (text : List ℕ) (o : Option KeptOrder) → LeadsOn (after_placing text o)
on_placing text None = on_said (reply.Placed true text) (λ t. tt)
on_placing text (Some k) = on_told_again k.book k.order (reply.Placed false) (λ text t. tt)

on_looking : (caller : List ℕ) (number : ℕ) (order : OrderWords) (l : Looked) → LeadsOn (after_looking caller number order l)
on_looking caller number order (Free r) =
    on_memory (by_outcome (outcome_of r.book order.day order.codes) r.book (placing caller number order))
    (on_outcome (outcome_of r.book order.day order.codes) r.book (placing caller number order)
    (λ text. on_asks (Place caller number order) as_placed (after_placing text) (on_placing text)))
on_looking caller number order (Kept k) = on_told_again k.book k.order (reply.Placed false) (λ text t. tt)

on_reading : (k : KeptOrder) → LeadsOn (after_reading k)
on_reading k = on_told_again k.book k.order (reply.OrderIs k.order.book k.order.day) (λ text t. tt)

leads : (caller : List ℕ) (asked : What) → LeadsOn (course_of caller asked)
leads caller (what.PutDraft draft text) = on_says (PutDraft caller draft text)
leads caller (what.GiveDraft draft to) = on_says (GiveDraft caller draft to)
leads caller (what.ReadDraft draft) =
    on_asks (Read (reading.Draft draft)) as_taken (λ d. or_memory (ends_with (reply.Raw d.text)))
    (λ d. on_memory (ends_with (reply.Raw d.text)) (on_said (reply.Raw d.text) (λ t. tt)))
leads caller (what.ReadOwner draft) = on_says (Read (reading.Owner draft))
leads caller (what.Check draft budget) =
    on_asks (Read (reading.Take caller draft None)) as_taken (λ d. ends (IsChecked d.text budget))
    (λ d. on_ends (IsChecked d.text budget) (checked_other d.text budget))
leads caller (what.Release draft revision budget) =
    on_asks (Read (reading.Take caller draft (Some revision))) as_taken (λ d. to_release caller draft revision budget d.text)
    (λ d. on_release caller draft revision budget d.text)
leads caller (what.ReadBook book) = on_showing book text_shown (λ r t. tt)
leads caller (what.ReadCert book) = on_showing book cert_shown (λ r t. tt)
leads caller (what.Withdraw book) = on_says (Withdraw caller book)
leads caller (what.Order number order) =
    on_memory (asks (Read (reading.Look caller number order)) as_looked (after_looking caller number order))
    (on_asks (Read (reading.Look caller number order)) as_looked (after_looking caller number order) (on_looking caller number order))
leads caller (what.Free order budget) = on_advising TellsFree order budget
leads caller (what.Why order budget) = on_advising TellsWhy order budget
leads caller (what.ReadOrder number) = on_asks (Read (reading.Order caller number)) as_kept after_reading on_reading
leads caller what.ReadBooks = on_says (Read reading.Books)
leads caller (what.ReadOrders number) = on_says (Read (reading.Orders caller number))

pub on_course : (caller : List ℕ) (asked : What) (h : Hand) (said : Reply) (new : Hand) → course_of caller asked h said new → IsLaterHand h new
on_course caller asked h said new answers = (leads caller asked h said new answers).later

pub is_dealt : (call : Call) (h : Hand) (said : Reply) (new : Hand) → IsValid h.state.tables → course_of call.caller call.what h said new
    → IsDealt call h said new
is_dealt call h said new valid answers =
    let led = leads call.caller call.what h said new answers in
    record {
      valid = reaches_valid h.state new.state led.later.reaches valid;
      later = led.later;
      grows = reaches_grows h.state new.state led.later.reaches;
      order = λ number order is left.
          places_order call.caller number order h said new valid left (subst (λ (w : What). course_of call.caller w h said new) is answers);
      book = led.names valid;
    }
