-- What a run answers: a text, a status, and what the status rests on.
use Rattle.std.specs.Prelude.{ℕ, List, [], ◌∷◌, ◌++◌, Option, None, Some, Result, Ok, Err, codes}
use Rattle.book_model.specs.Contents.{Contents}
use Rattle.book_model.specs.declared.slicing.LimitFault.{LimitFault}
use Rattle.book_text.specs.declared.fault.BookFault.{BookFault}
use Rattle.parts_usage.specs.Outcome.{outcome_of}
use Rattle.parts_usage.specs.declared.fault.OrderFault.{OrderFault}
use Rattle.parts_usage.specs.declared.judgement.Outcome.{Outcome}
use Rattle.parts_usage.specs.declared.judgement.Outcome.TheVariants.{Accepted, Refused, Unfit}
use Rattle.derivation.specs.Certificate.{cert_answer}
use Rattle.derivation.specs.declared.fault.CertFault.{CertFault}
use Rattle.derivation.specs.declared.fault.CertKind.TheVariants.{TooLarge}
use Rattle.derivation.specs.declared.fault.Certified.{Certified}
use Rattle.desk_words.specs.FaultText.{book_fault_text, order_fault_text, limit_fault_text}
use Rattle.findings.specs.Notes.{verdict_of}
use Rattle.findings.specs.declared.report.Note.{Note as Told}
use Rattle.findings.specs.declared.report.Verdict.{Verdict}
use Rattle.findings.specs.declared.report.Verdict.TheVariants.{Releasable, Blocked, Undecided}
use Rattle.order_text.specs.OutcomeText.{outcome_text}
use Rattle.pb_base.specs.Lines.{line, number_behind}
use Rattle.findings.specs.ReportText.{report_text}
use Rattle.book_commands.specs.CertText.{cert_fault_text, verified_text}
use Rattle.book_commands.specs.Logged.{logged}
use Rattle.book_commands.specs.declared.log.Note.{Note}
use Rattle.book_commands.specs.declared.object.Object.{Object}
use Rattle.book_commands.specs.declared.object.Object.TheVariants.{Keeper}
use Rattle.book_commands.specs.declared.run_status.RunStatus.{RunStatus}
use Rattle.book_commands.specs.declared.run_status.RunStatus.TheVariants as statuses
use Rattle.book_commands.specs.declared.log.Note.TheVariants.{Text as TextNote, Order as OrderNote, Limit as LimitNote, Refused as RefusedNote, Unfit as UnfitNote, Cert as CertNote, BadRow as BadRowNote, Count as CountNote}

pub record RunReply : Type 0 where
  pub text : List ℕ
  pub status : RunStatus
  pub notes : List Note

abbrev pub usage_text : List ℕ
usage_text = codes "usage: order DAY CODE.. | check [--budget N] | prove [--budget N] | verify CERTFILE | desk STORE | serve STORE PORT WORKERS LINKS | sample START CODES ORDERS | supplements [--budget N] | compare DAY FILE [--budget N] | rejudge STORE BOOK WORKERS\n"

abbrev pub usage_reply : RunReply
usage_reply = record { text = usage_text; status = statuses.Usage; notes = [] }

abbrev pub read_fault_text : List ℕ
read_fault_text = codes "read fault\n"

-- the source or the files failed; with the counts of faults
abbrev pub read_fault_reply : Object → ℕ → ℕ → RunReply
read_fault_reply which before after = record { text = read_fault_text; status = statuses.ReadFault; notes = CountNote which before after ∷ [] }

abbrev pub memory_text : List ℕ
memory_text = codes "want of memory\n"

abbrev pub memory_reply : RunReply
memory_reply = record { text = memory_text; status = statuses.WantOfMemory; notes = [] }

-- the keeper failed while the desk was started; with its counts of faults
abbrev pub store_fault_reply : ℕ → ℕ → RunReply
store_fault_reply before after = record { text = codes "store fault\n"; status = statuses.NotStarted; notes = CountNote Keeper before after ∷ [] }

abbrev pub bad_row_text : ℕ → ℕ → List ℕ
bad_row_text table place = line (codes "bad row" ++ number_behind table ++ number_behind place)

-- this is the first row that is not right
abbrev pub bad_row_reply : ℕ → ℕ → RunReply
bad_row_reply table place = record { text = bad_row_text table place; status = statuses.NotStarted; notes = BadRowNote table place ∷ [] }

abbrev pub book_fault_reply : BookFault → RunReply
book_fault_reply fault = record { text = book_fault_text fault; status = statuses.Faulty; notes = TextNote fault ∷ [] }

abbrev pub order_fault_reply : OrderFault → RunReply
order_fault_reply fault = record { text = order_fault_text fault; status = statuses.Faulty; notes = OrderNote fault ∷ [] }

abbrev pub outcome_status : Outcome → RunStatus
outcome_status (Accepted set list) = statuses.Done
outcome_status (Refused rule) = statuses.Refused
outcome_status (Unfit position count) = statuses.Refused

abbrev pub outcome_notes : Outcome → List Note
outcome_notes (Accepted set list) = []
outcome_notes (Refused rule) = RefusedNote rule ∷ []
outcome_notes (Unfit position count) = UnfitNote position count ∷ []

abbrev pub outcome_reply : Contents → Outcome → RunReply
outcome_reply b outcome = record { text = outcome_text b outcome; status = outcome_status outcome; notes = outcome_notes outcome }

abbrev pub judged_reply : Contents → Result Outcome OrderFault → RunReply
judged_reply b (Ok outcome) = outcome_reply b outcome
judged_reply b (Err fault) = order_fault_reply fault

-- the reply to an order where the text is a book, or to the text's fault
abbrev pub order_reply : Result Contents BookFault → ℕ → List (List ℕ) → RunReply
order_reply (Ok b) day ordered = judged_reply b (outcome_of b day ordered)
order_reply (Err fault) day ordered = book_fault_reply fault

-- the book exceeds a limit of checking
abbrev pub limit_fault_reply : LimitFault → RunReply
limit_fault_reply fault = record { text = limit_fault_text fault; status = statuses.Faulty; notes = LimitNote fault ∷ [] }

abbrev pub verdict_status : Verdict → RunStatus
verdict_status Releasable = statuses.Done
verdict_status Blocked = statuses.Refused
verdict_status Undecided = statuses.Undecided

-- the report on a book, which stands in the log
abbrev pub report_reply : Contents → List Told → RunReply
report_reply b report =
    record { text = report_text b report; status = verdict_status (verdict_of report); notes = logged report }

-- a certificate that the book can be released
abbrev pub certificate_reply : List ℕ → RunReply
certificate_reply text = record { text = text; status = statuses.Done; notes = [] }

abbrev pub cert_fault_reply : CertFault → RunReply
cert_fault_reply fault = record { text = cert_fault_text fault; status = statuses.BadCertificate; notes = CertNote fault ∷ [] }

abbrev pub certified_reply : Contents → Result Certified CertFault → RunReply
certified_reply b (Ok certified) = record { text = verified_text b certified; status = statuses.Done; notes = [] }
certified_reply b (Err fault) = cert_fault_reply fault

-- the file as a whole is at fault
abbrev pub too_large : CertFault
too_large = record { line = 0; kind = TooLarge }

-- the reply to the content of the certificate's file, or to none where the file is longer than the limit
abbrev pub content_reply : Contents → Option (List ℕ) → RunReply
content_reply b None = cert_fault_reply too_large
content_reply b (Some text) = certified_reply b (cert_answer b text)

-- want of memory has a reply of its own
abbrev pub due_of : {E : Type 0} → Result RunReply E → RunReply
due_of (Ok reply) = reply
due_of (Err wanting) = memory_reply
