-- What a generated book and its orders are answered.
--     sample_orders size        the orders
--     tally_of b size           how many are accepted and refused, and the lines of all their parts lists
--     RepliesToSample size reply
--                               the book is released and its orders are judged, or a question of its release is left
use Rattle.std.specs.Prelude.{◌≡◌, ◌⊎◌, ℕ, zero, suc, ◌+◌, ◌/◌, List, [], ◌∷◌, ◌++◌, Result, Ok, Err, codes, length, map}
use Rattle.std.specs.List.{fold}
use Rattle.book_model.specs.Contents.{Contents}
use Rattle.book_sample.specs.Groups.{behind_groups}
use Rattle.book_sample.specs.Lines.{sample_text}
use Rattle.book_sample.specs.Orders.{Stream, order_at, behind_order}
use Rattle.book_text.specs.BookText.{book_of}
use Rattle.pb_base.specs.Lines.{line, number_behind}
use Rattle.desk_words.specs.declared.order_words.OrderWords.{OrderWords}
use Rattle.derivation.specs.Accepted.{IsAccepted}
use Rattle.findings.specs.Notes.{IsReport, verdict_of}
use Rattle.findings.specs.declared.report.Ask.TheVariants.{Blocking}
use Rattle.findings.specs.declared.report.Note.{Note as Told}
use Rattle.findings.specs.declared.report.Verdict.TheVariants as verdicts
use Rattle.parts_usage.specs.Outcome.{outcome_of}
use Rattle.parts_usage.specs.declared.fault.OrderFault.{OrderFault}
use Rattle.parts_usage.specs.declared.judgement.Outcome.{Outcome}
use Rattle.parts_usage.specs.declared.judgement.Outcome.TheVariants.{Accepted, Refused, Unfit}
use Rattle.findings.specs.ReportText.{report_text}
use Rattle.release.specs.declared.judging.Judged.{Judged}
use Rattle.release.specs.declared.judging.Judged.TheVariants as judged
use Rattle.book_commands.specs.Checks.{inquiry}
use Rattle.book_commands.specs.Logged.{logged}
use Rattle.book_commands.specs.RunReply.{RunReply}
use Rattle.command_words.specs.Size.{Size}
use Rattle.pb_base.specs.declared.limits.TheConstants.{DEFAULT_BUDGET}
use Rattle.book_commands.specs.declared.run_status.RunStatus.TheVariants as statuses
use Rattle.book_commands.specs.declared.tally.Tally.{Tally}

-- the next so many orders
abbrev pub next_orders : ℕ → Stream → List OrderWords
next_orders zero s = []
next_orders (suc n) s =
    order_at s.groups s.state ∷ next_orders n (record { groups = s.groups; state = behind_order s.groups s.state })

-- the orders' draws follow those of the book
abbrev pub behind_book : Size → Stream
behind_book size = record { groups = size.codes / 4; state = behind_groups (size.codes / 4) 0 size.start }

abbrev pub sample_orders : Size → List OrderWords
sample_orders size = next_orders size.orders (behind_book size)

abbrev pub answer_to : Contents → OrderWords → Result Outcome OrderFault
answer_to b order = outcome_of b order.day order.codes

-- with one more order
abbrev pub counted : Tally → Result Outcome OrderFault → Tally
counted t (Ok (Accepted set list)) = record t { accepted = t.accepted + 1; parts = t.parts + length list }
counted t (Ok (Refused rule)) = record t { refused = t.refused + 1 }
counted t (Ok (Unfit position count)) = t
counted t (Err fault) = t

-- the lines of the parts list of an order, of which a refused one has none
abbrev pub lines_in : Judged → ℕ
lines_in (judged.Accepted set list) = length list
lines_in (judged.Refused rule) = 0

abbrev pub nothing_counted : Tally
nothing_counted = record { accepted = 0; refused = 0; parts = 0 }

abbrev pub tally_of : Contents → Size → Tally
tally_of b size = fold counted nothing_counted (map (answer_to b) (sample_orders size))

abbrev pub size_text : Size → List ℕ
size_text size = line (codes "sample" ++ number_behind size.start ++ number_behind size.codes ++ number_behind size.orders)

abbrev pub rules_of : Contents → ℕ
rules_of b = length b.supplements + length b.constructs

abbrev pub counts_text : Contents → List ℕ
counts_text b =
    line (codes "codes" ++ number_behind (length b.codes) ++ codes " rules" ++ number_behind (rules_of b)
    ++ codes " variants" ++ number_behind (length b.variants))

abbrev pub tally_text : Tally → List ℕ
tally_text t =
    line (codes "accepted" ++ number_behind t.accepted ++ codes " refused" ++ number_behind t.refused
    ++ codes " parts" ++ number_behind t.parts)

abbrev pub released_text : Size → Contents → List ℕ
released_text size b = size_text size ++ (counts_text b ++ (codes "released\n" ++ tally_text (tally_of b size)))

abbrev pub undecided_text : Size → Contents → List Told → List ℕ
undecided_text size b report = size_text size ++ (counts_text b ++ (codes "undecided\n" ++ report_text b report))

-- the book was released
abbrev pub released_reply : Size → Contents → RunReply
released_reply size b = record { text = released_text size b; status = statuses.Done; notes = [] }

-- a question was left, as the report and the log say
abbrev pub undecided_reply : Size → Contents → List Told → RunReply
undecided_reply size b report = record { text = undecided_text size b report; status = statuses.Undecided; notes = logged report }

pub record IsReleasedSample (size : Size) (b : Contents) (reply : RunReply) : Type 0 where
  pub cert : List ℕ
  pub accepted : IsAccepted b cert
  pub answer : reply ≡ released_reply size b

pub record IsLeftSample (size : Size) (b : Contents) (reply : RunReply) : Type 0 where
  pub report : List Told
  pub is_right : IsReport (inquiry Blocking DEFAULT_BUDGET b) report
  pub undecided : verdict_of report ≡ verdicts.Undecided
  pub answer : reply ≡ undecided_reply size b report

pub record RepliesToSample (size : Size) (reply : RunReply) : Type 0 where
  pub book : Contents
  pub reads : book_of (sample_text size.start size.codes) ≡ Ok book
  pub answer : IsReleasedSample size book reply ⊎ IsLeftSample size book reply
