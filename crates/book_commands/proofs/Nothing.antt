-- A budget that is ample leaves nothing.
use Rattle.std.proofs.Common.{◌≡◌, ◌∙◌, ℕ, suc, ◌+◌, ◌<◌, ◌≤◌, ◌^◌, Bool, true, false, ◌||◌, List, [], ◌∷◌, Option, None, Some, Result, Ok, Err, length, map, refl, sym, ap, subst, arith, inl, inr}
use Rattle.std.specs.Prelude.{◌≢◌, ◌⊎◌, IfOk, IsSomeAnd, if◌then◌else◌, slice_get}
use Rattle.std.specs.List.{AllByRecursion, flat_map, list_any}
use Rattle.std.proofs.lemmas.List.Folds.{list_any-append}
use Rattle.blame.specs.Blame.{IsTold, blame_items}
use Rattle.blame.specs.Entries.{all_entries}
use Rattle.blame.specs.declared.blamed.Told.{Told as AskTold}
use Rattle.blame.specs.declared.blamed.Told.TheVariants as told
use Rattle.book_compare.specs.Asked.{asked_variables, asked_clauses, asked_goal}
use Rattle.book_compare.specs.CompareText.{is_finding as is_difference, is_undecided as is_left_open}
use Rattle.book_compare.specs.Comparison.{IsLeft as IsLeftAt, IsNoted, outside}
use Rattle.book_compare.specs.declared.note.CompareNote.{CompareNote}
use Rattle.book_compare.specs.declared.note.CompareNote.TheVariants as compared
use Rattle.book_compare.specs.declared.note.Outside.{Outside}
use Rattle.book_model.specs.Activity.{is_within}
use Rattle.book_model.specs.Contents.{Contents}
use Rattle.book_model.specs.Slices.{slices_of}
use Rattle.book_model.specs.declared.record.Slice.{Slice}
use Rattle.book_model.specs.declared.slicing.LimitFault.{LimitFault}
use Rattle.book_text.specs.BookText.{book_of}
use Rattle.book_text.specs.declared.fault.BookFault.{BookFault}
use Rattle.book_text.proofs.BookLaw.{book_of-book}
use Rattle.chosen_parts.specs.Chosen.{ids_of_either}
use Rattle.clausify.proofs.ListLaws.{all_weaker}
use Rattle.clausify.specs.Items.{Item, encoded_items}
use Rattle.derivation.proofs.LimitLaws.{slices_are_all}
use Rattle.derivation.specs.Limits.{slices_within}
use Rattle.findings.specs.Left.{IsAmple, was_left as left_told}
use Rattle.findings.specs.Notes.{Inquiry, verdict_of}
use Rattle.findings.specs.declared.report.Ask.TheVariants.{All, Blocking}
use Rattle.findings.specs.declared.report.Note.{Note as Told}
use Rattle.findings.specs.declared.report.Note.TheVariants.{Days, Finding, Undecided as UndecidedTold}
use Rattle.findings.specs.declared.report.Verdict.{Verdict}
use Rattle.findings.specs.declared.report.Verdict.TheVariants as verdicts
use Rattle.findings.proofs.LeftLaws.{IsDayOf, slices_begin, report_none, report_decided, none_undecided}
use Rattle.item_search.specs.Search.{IsLeft, items_variables}
use Rattle.left_cars.specs.Freedom.{IsFree, IsState}
use Rattle.left_cars.specs.Left.{left_items}
use Rattle.left_cars.specs.declared.states.CodeState.{CodeState}
use Rattle.left_cars.specs.declared.states.CodeState.TheVariants as state
use Rattle.left_cars.specs.declared.states.Freedom.{Freedom}
use Rattle.left_cars.specs.declared.states.Freedom.TheVariants.{NoneLeft, NotDecided, Codes}
use Rattle.order_repair.specs.Repair.{IsRepair, accepts}
use Rattle.order_repair.specs.declared.answer.Repair.{Repair}
use Rattle.order_repair.specs.declared.answer.Repair.TheVariants as repair
use Rattle.parts_usage.specs.Fault.{order_fault}
use Rattle.parts_usage.specs.declared.fault.OrderFault.{OrderFault}
use Rattle.parts_usage.specs.declared.judgement.Outcome.{Outcome}
use Rattle.parts_usage.specs.declared.judgement.Outcome.TheVariants as outcomes
use Rattle.pb_base.specs.InParts.{InParts}
use Rattle.pb_base.specs.Results.{and_then, unless}
use Rattle.pb_base.specs.Places.{places_of}
use Rattle.pb_base.specs.Rule.{Rule, always}
use Rattle.pb_base.specs.declared.limits.TheConstants.{MOST_TEXT_BYTES, DEFAULT_BUDGET}
use Rattle.pb_outside.specs.Files.{NamedBytes, FilesTold, content_of, within_room, ReadsFile}
use Rattle.rule_text.specs.Reading.{rule_of}
use Rattle.rule_text.specs.declared.fault.RuleFault.{RuleFault}
use Rattle.solver.proofs.CountLaws.{spent_within}
use Rattle.supplement_findings.specs.Clauses.{question_variables, question_clauses, question_goal}
use Rattle.supplement_findings.specs.Limits.{slices_within as supplement_slices, first_over}
use Rattle.supplement_findings.specs.Notes.{SupplementInquiry, OwnNotes, SliceNotes, IsReport, is_finding, is_undecided}
use Rattle.supplement_findings.specs.Questions.{questions}
use Rattle.supplement_findings.specs.declared.question.SupplementQuestion.{SupplementQuestion}
use Rattle.supplement_findings.specs.declared.report.SupplementNote.{SupplementNote}
use Rattle.supplement_findings.specs.declared.report.SupplementNote.TheVariants as supplement
use Rattle.book_commands.specs.Ample.{AreRulesDecided, ArePositionsDecided, IsAmpleFor, IsAmpleForBoth, IsAmpleForFile, met_variables}
use Rattle.book_commands.specs.Ask.{RepliesByRule, RepliesOnDay, RepliesToAsk, told_reply}
use Rattle.book_commands.specs.Checks.{IsReported, IsProvedBy, IsProved, RepliesWithin, inquiry, RepliesToCheck, RepliesToProof}
use Rattle.book_commands.specs.CompareReply.{IsComparisonReply, IsKeptBack, RepliesByDay, RepliesOver, RepliesToCompare, RepliesToTexts, comparison_reply}
use Rattle.book_commands.specs.Ends.{IsDecided, LeavesNothing}
use Rattle.book_commands.specs.Free.{IsFreeReply, RepliesToFree, RepliesUnless, free_reply, free_status, freedom_notes, is_left_open as is_undecided_state, state_notes}
use Rattle.book_commands.specs.Logged.{logged_behind, was_left}
use Rattle.book_commands.specs.RunReply.{RunReply, outcome_notes, outcome_status, report_reply, verdict_status}
use Rattle.book_commands.specs.Sample.{RepliesToSample}
use Rattle.book_sample.specs.Lines.{sample_text}
use Rattle.command_words.specs.Size.{Size}
use Rattle.book_commands.specs.Supplements.{IsSupplementReply, RepliesToSupplements, supplement_reply}
use Rattle.book_commands.specs.Why.{IsWhyReply, RepliesToWhy, repair_notes, why_reply}
use Rattle.book_commands.specs.declared.comparing.Span.{Span}
use Rattle.book_commands.specs.declared.comparing.Span.TheVariants.{OnDay}
use Rattle.book_commands.specs.declared.log.Note.TheVariants.{Supplement, Compare as CompareLogged}
use Rattle.book_commands.specs.declared.run_status.RunStatus.{RunStatus}
use Rattle.book_commands.specs.declared.run_status.RunStatus.TheVariants as statuses
use Rattle.book_commands.proofs.Statuses.{decided-outcome}

-- ---- what none of a list's parts has, the list hasn't

pub none_parted : {X N : Type 0} (IsPart : X → List N → Type 0) (p : N → Bool) (xs : List X) (notes : List N)
    → AllByRecursion (λ (x : X). (own : List N) → IsPart x own → list_any p own ≡ false) xs → InParts IsPart xs notes → list_any p notes ≡ false
none_parted IsPart p [] notes each h = ap (list_any p) h
none_parted IsPart p (x ∷ xs) notes each h =
    ap (list_any p) h.2 ∙ list_any-append p h.0 h.1 ∙ ap (λ (t : Bool). t || list_any p h.1) (each.0 h.0 h.3)
    ∙ none_parted IsPart p xs h.1 each.1 h.4

-- ---- statuses

not_undecided : (status : RunStatus) → (status ≡ statuses.Done) ⊎ (status ≡ statuses.Refused) ⊎ (status ≡ statuses.Faulty) → status ≢ statuses.Undecided
not_undecided status (inl done) left = let clash : statuses.Done ≡ statuses.Undecided = sym done ∙ left in cc
not_undecided status (inr (inl refused)) left = let clash : statuses.Refused ≡ statuses.Undecided = sym refused ∙ left in cc
not_undecided status (inr (inr faulty)) left = let clash : statuses.Faulty ≡ statuses.Undecided = sym faulty ∙ left in cc

decided_status : (status : RunStatus) → IsDecided status → status ≢ statuses.Undecided
decided_status status (inl done) = not_undecided status (inl done)
decided_status status (inr refused) = not_undecided status (inr (inl refused))

pub found_status : (found left : Bool) → left ≡ false → (if found then statuses.Refused else (if left then statuses.Undecided else statuses.Done)) ≢ statuses.Undecided
found_status true left none = not_undecided statuses.Refused (inr (inl refl))
found_status false true none = let clash : true ≡ false = none in absurd (cc)
found_status false false none = not_undecided statuses.Done (inl refl)

-- ---- replies

pub same_reply : (answer reply : RunReply) → reply ≡ answer → LeavesNothing answer → LeavesNothing reply
same_reply answer reply e h = subst LeavesNothing (sym e) h

-- a fault has one note, which leaves nothing
pub at_fault : (answer reply : RunReply) → reply ≡ answer → list_any was_left answer.notes ≡ false → answer.status ≡ statuses.Faulty → LeavesNothing reply
at_fault answer reply e none faulty = same_reply answer reply e (record { none = none; decided = not_undecided answer.status (inr (inr faulty)) })

-- ---- check and proof

left_logged : (slices : ℕ) (report : List Told) → list_any was_left (logged_behind slices report) ≡ list_any left_told report
left_logged slices [] = refl
left_logged slices (Days first last ∷ report) = left_logged (slices + 1) report
left_logged slices (Finding question set ∷ report) = left_logged slices report
left_logged slices (UndecidedTold question learnt ∷ report) = refl

verdict_decided : (verdict : Verdict) → verdict ≢ verdicts.Undecided → verdict_status verdict ≢ statuses.Undecided
verdict_decided verdicts.Releasable never = not_undecided statuses.Done (inl refl)
verdict_decided verdicts.Blocked never = not_undecided statuses.Refused (inr (inl refl))
verdict_decided verdicts.Undecided never = absurd (never refl)

report_nothing : (b : Contents) (report : List Told) (reply : RunReply) → reply ≡ report_reply b report → list_any left_told report ≡ false → LeavesNothing reply
report_nothing b report reply e none =
    same_reply (report_reply b report) reply e
    (record { none = left_logged 0 report ∙ none; decided = verdict_decided (verdict_of report) (none_undecided report none) })

within_nothing : (limits : Result (List Slice) LimitFault) (IsAnswer : RunReply → Type 0) (reply : RunReply) → ((r : RunReply) → IsAnswer r → LeavesNothing r)
    → RepliesWithin limits IsAnswer reply → LeavesNothing reply
within_nothing (Ok slices) IsAnswer reply answered h = answered reply h
within_nothing (Err fault) IsAnswer reply answered h = at_fault _ reply h refl refl

pub check_nothing : (text : List ℕ) (book : Result Contents BookFault) (budget : ℕ) (reply : RunReply) → book_of text ≡ book
    → IfOk book (λ b. IsAmple b budget) → RepliesToCheck book budget reply → LeavesNothing reply
check_nothing text (Ok b) budget reply e ample h =
    within_nothing (slices_within b) (IsReported (inquiry All budget b)) reply
    (λ r is. report_nothing b is.report r is.answer (report_none (inquiry All budget b) is.report (book_of-book text b e).term ample is.is_right)) h
check_nothing text (Err fault) budget reply e ample h = at_fault _ reply h refl refl

proved_nothing : (verdict : Verdict) (b : Contents) (report : List Told) (reply : RunReply) → IsProvedBy verdict b report reply
    → list_any left_told report ≡ false → LeavesNothing reply
proved_nothing verdicts.Releasable b report reply h none =
    same_reply _ reply h.answer (record { none = refl; decided = not_undecided statuses.Done (inl refl) })
proved_nothing verdicts.Blocked b report reply h none = report_nothing b report reply h none
proved_nothing verdicts.Undecided b report reply h none = report_nothing b report reply h none

pub proof_nothing : (text : List ℕ) (book : Result Contents BookFault) (budget : ℕ) (reply : RunReply) → book_of text ≡ book
    → IfOk book (λ b. IsAmple b budget) → RepliesToProof book budget reply → LeavesNothing reply
proof_nothing text (Ok b) budget reply e ample h =
    within_nothing (slices_within b) (IsProved (inquiry Blocking budget b)) reply
    (λ r p. proved_nothing (verdict_of p.report) b p.report r p.answer
    (report_none (inquiry Blocking budget b) p.report (book_of-book text b e).term ample p.is_right)) h
proof_nothing text (Err fault) budget reply e ample h = at_fault _ reply h refl refl

-- ---- supplementing rules

rule_nothing : (i : SupplementInquiry) (s : Slice) (q : SupplementQuestion) (own : List SupplementNote) → 3 ^ question_variables i.book s.first q < i.budget
    → OwnNotes i s q own → list_any is_undecided own ≡ false
rule_nothing i s q [] ample h = refl
rule_nothing i s q (supplement.Days first last ∷ []) ample h = absurd h
rule_nothing i s q (supplement.Finding question set ∷ []) ample h = refl
rule_nothing i s q (supplement.Undecided question learnt ∷ []) ample h =
    let most : i.budget ≤ 3 ^ question_variables i.book s.first q =
    spent_within (question_variables i.book s.first q) (question_clauses i.book s.first q) (question_goal i.book s.first q ∷ []) i.budget learnt.clauses h.1 in
    absurd (omega (arith, ample, most))
rule_nothing i s q (note ∷ second ∷ own) ample h = absurd h

slice_nothing : (i : SupplementInquiry) (s : Slice) (notes : List SupplementNote)
    → AllByRecursion (λ (q : SupplementQuestion). 3 ^ question_variables i.book s.first q < i.budget) (questions i.book s.first)
    → SliceNotes i s notes → list_any is_undecided notes ≡ false
slice_nothing i s notes ample h =
    ap (list_any is_undecided) h.days_first
    ∙ none_parted (OwnNotes i s) is_undecided (questions i.book s.first) h.own
    (all_weaker (λ (q : SupplementQuestion). 3 ^ question_variables i.book s.first q < i.budget)
    (λ (q : SupplementQuestion). (own : List SupplementNote) → OwnNotes i s q own → list_any is_undecided own ≡ false)
    (λ q above own is. rule_nothing i s q own above is) (questions i.book s.first) ample) h.answers

-- the slices within the limits are those of the term
ok_unless : (slices all : List Slice) (over : Option LimitFault) → unless over (Ok all) ≡ Ok slices → all ≡ slices
ok_unless slices all None h = cc
ok_unless slices all (Some fault) h = absurd (cc)

slices_behind : (b : Contents) (slices : List Slice) (found : Result (List Slice) LimitFault)
    → and_then found (λ all. unless (first_over 0 b all) (Ok all)) ≡ Ok slices → found ≡ Ok slices
slices_behind b slices (Ok all) h = ap (λ (ss : List Slice). Ok ss) (ok_unless slices all (first_over 0 b all) h)
slices_behind b slices (Err fault) h = absurd (cc)

pub slices_in_term : (b : Contents) (slices : List Slice) → b.first ≤ b.last → slices_of b ≡ Ok slices → AllByRecursion (λ (s : Slice). IsDayOf b s.first) slices
slices_in_term b slices term found = subst (AllByRecursion (λ (s : Slice). IsDayOf b s.first)) (slices_are_all b slices found) (slices_begin b term)

rules_nothing : (i : SupplementInquiry) (notes : List SupplementNote) → i.book.first ≤ i.book.last → AreRulesDecided i.budget i.book → IsReport i notes
    → list_any is_undecided notes ≡ false
rules_nothing i notes term ample h =
    none_parted (SliceNotes i) is_undecided h.slices notes
    (all_weaker (λ (s : Slice). IsDayOf i.book s.first) (λ (s : Slice). (own : List SupplementNote) → SliceNotes i s own → list_any is_undecided own ≡ false)
    (λ s day own is. slice_nothing i s own (ample s.first day.0 day.1) is) h.slices
    (slices_in_term i.book h.slices term (slices_behind i.book h.slices (slices_of i.book) h.within))) h.each

supplement_logged : (report : List SupplementNote) → list_any was_left (map Supplement report) ≡ list_any is_undecided report
supplement_logged [] = refl
supplement_logged (note ∷ report) = ap (λ (later : Bool). is_undecided note || later) (supplement_logged report)

pub supplements_nothing : (text : List ℕ) (book : Result Contents BookFault) (budget : ℕ) (reply : RunReply) → book_of text ≡ book
    → IfOk book (AreRulesDecided budget) → RepliesToSupplements book budget reply → LeavesNothing reply
supplements_nothing text (Ok b) budget reply e ample h =
    within_nothing (supplement_slices b) (IsSupplementReply (record { book = b; budget = budget })) reply
    (λ r is. let none = rules_nothing (record { book = b; budget = budget }) is.report (book_of-book text b e).term ample is.is_right in
    same_reply (supplement_reply b is.report) r is.answer
    (record { none = supplement_logged is.report ∙ none; decided = found_status (list_any is_finding is.report) (list_any is_undecided is.report) none })) h
supplements_nothing text (Err fault) budget reply e ample h = at_fault _ reply h refl refl

-- ---- two books

pub never_left_at : (one other : Contents) (day budget : ℕ) (id : List ℕ) (learnt : List (List ℕ)) → 3 ^ asked_variables one other day id < budget
    → IsLeftAt one other day budget id learnt → ⊥
never_left_at one other day budget id learnt ample h =
    let most : budget ≤ 3 ^ asked_variables one other day id =
    spent_within (asked_variables one other day id) (asked_clauses one other day id) (asked_goal one other day id ∷ []) budget learnt h in
    absurd (omega (arith, ample, most))

position_nothing : (one other : Contents) (day budget : ℕ) (id : List ℕ) (own : List CompareNote) → 3 ^ asked_variables one other day id < budget
    → IsNoted one other day budget id own → list_any is_left_open own ≡ false
position_nothing one other day budget id [] ample h = refl
position_nothing one other day budget id (compared.Finding position names ∷ []) ample h = refl
position_nothing one other day budget id (compared.Undecided position learnt ∷ []) ample h =
    absurd (never_left_at one other day budget id learnt.clauses ample h.1)
position_nothing one other day budget id (note ∷ second ∷ own) ample h = absurd h

compare_logged : (notes : List CompareNote) → list_any was_left (map CompareLogged notes) ≡ list_any is_left_open notes
compare_logged [] = refl
compare_logged (note ∷ notes) = ap (λ (later : Bool). is_left_open note || later) (compare_logged notes)

comparison_nothing : (one other : Contents) (day budget : ℕ) (reply : RunReply) → ArePositionsDecided budget day one other → IsComparisonReply one other day budget reply
    → LeavesNothing reply
comparison_nothing one other day budget reply ample h =
    let none : list_any is_left_open h.notes ≡ false =
    none_parted (IsNoted one other day budget) is_left_open (ids_of_either one other) h.notes
    (all_weaker (λ (id : List ℕ). 3 ^ asked_variables one other day id < budget)
    (λ (id : List ℕ). (own : List CompareNote) → IsNoted one other day budget id own → list_any is_left_open own ≡ false)
    (λ id above own is. position_nothing one other day budget id own above is) (ids_of_either one other) ample) h.is_right in
    same_reply (comparison_reply h.notes) reply h.answer
    (record { none = compare_logged h.notes ∙ none; decided = found_status (list_any is_difference h.notes) (list_any is_left_open h.notes) none })

outside_nothing : (o : Option Outside) (one other : Contents) (day budget : ℕ) (reply : RunReply) → ArePositionsDecided budget day one other
    → RepliesByDay o one other day budget reply → LeavesNothing reply
outside_nothing None one other day budget reply ample h = comparison_nothing one other day budget reply ample h
outside_nothing (Some which) one other day budget reply ample h = at_fault _ reply h refl refl

kept_nothing : (text : List ℕ) (budget : ℕ) (reply : RunReply) → IsAmpleFor budget text → IsKeptBack text budget reply → LeavesNothing reply
kept_nothing text budget reply ample kept = proof_nothing text (book_of text) budget reply refl ample kept.answer

-- what is said of a text's book is said of the book that it reads as
of_book : (P : Contents → Type 0) (text : List ℕ) (b : Contents) → book_of text ≡ Ok b → IfOk (book_of text) P → P b
of_book P text b reads h = subst (λ (book : Result Contents BookFault). IfOk book P) reads h

-- what the comparison leaves is left by the command
module _ (AreDecided : Contents → Contents → Type 0) (span : Span) (budget : ℕ)
    (over : (one other : Contents) (reply : RunReply) → one.first ≤ one.last → other.first ≤ other.last → AreDecided one other → RepliesOver span one other budget reply
    → LeavesNothing reply) where
  both_nothing : (first text : List ℕ) (reply : RunReply) → IsAmpleForBoth budget AreDecided first text → RepliesToTexts first (Some text) span budget reply → LeavesNothing reply
  both_nothing first text reply ample (inl kept) = kept_nothing first budget reply ample.first_check kept
  both_nothing first text reply ample (inr from) = elim from.answer [
    | inl kept ↦ kept_nothing text budget reply ample.second_check kept
    | inr compares ↦
        over from.book compares.book reply (book_of-book first from.book from.released.reads).term (book_of-book text compares.book compares.released.reads).term
        (of_book (AreDecided from.book) text compares.book compares.released.reads
        (of_book (λ (one : Contents). IfOk (book_of text) (AreDecided one)) first from.book from.released.reads ample.between)) compares.answer
  ]

  -- of a file that is too long there is nothing to compare
  long_nothing : (first text : List ℕ) (reply : RunReply) → IsAmpleForBoth budget AreDecided first text → RepliesToTexts first None span budget reply → LeavesNothing reply
  long_nothing first text reply ample (inl kept) = kept_nothing first budget reply ample.first_check kept
  long_nothing first text reply ample (inr from) = at_fault _ reply from.answer refl refl

  content_nothing : (first text : List ℕ) (fits : Bool) (content : Option (List ℕ)) (reply : RunReply) → IsAmpleForBoth budget AreDecided first text
      → content ≡ (if fits then Some text else None) → RepliesToTexts first content span budget reply → LeavesNothing reply
  content_nothing first text true content reply ample read h =
      both_nothing first text reply ample (subst (λ (c : Option (List ℕ)). RepliesToTexts first c span budget reply) read h)
  content_nothing first text false content reply ample read h =
      long_nothing first text reply ample (subst (λ (c : Option (List ℕ)). RepliesToTexts first c span budget reply) read h)

  found_nothing : (input : List ℕ) (found content : Option (List ℕ)) (reply : RunReply)
      → IsSomeAnd found (IsAmpleForBoth budget AreDecided input) → IsSomeAnd found (λ text. content ≡ within_room MOST_TEXT_BYTES text)
      → RepliesToTexts input content span budget reply → LeavesNothing reply
  found_nothing input None content reply ample read h = absurd ample
  found_nothing input (Some text) content reply ample read h = content_nothing input text _ content reply ample read h

  files_nothing : (input file : List ℕ) (files : Option (List NamedBytes)) (content : Option (List ℕ)) (reply : RunReply)
      → IsAmpleForFile (IsAmpleForBoth budget AreDecided) file input files → ReadsFile file MOST_TEXT_BYTES files content
      → RepliesToTexts input content span budget reply → LeavesNothing reply
  files_nothing input file None content reply ample read h = absurd ample
  files_nothing input file (Some all) content reply ample read h = found_nothing input (content_of all file) content reply ample read h

  pub texts_nothing : (input file : List ℕ) (files files' : FilesTold) (reply : RunReply)
      → IsAmpleForFile (IsAmpleForBoth budget AreDecided) file input files.files → RepliesToCompare input span file budget files files' reply → LeavesNothing reply
  texts_nothing input file files files' reply ample h = files_nothing input file files.files h.content reply ample h.read h.answer

pub compare_nothing : (input file : List ℕ) (day budget : ℕ) (files files' : FilesTold) (reply : RunReply)
    → IsAmpleForFile (IsAmpleForBoth budget (ArePositionsDecided budget day)) file input files.files → RepliesToCompare input (OnDay day) file budget files files' reply
    → LeavesNothing reply
compare_nothing input file day budget files files' reply ample h =
    texts_nothing (ArePositionsDecided budget day) (OnDay day) budget
    (λ one other told term terms decided is. outside_nothing (outside one other day) one other day budget told decided is) input file files files' reply ample h

-- ---- searches for a car

never_left : (n : ℕ) (is : List Item) (lits : List ℕ) (budget : ℕ) (learnt : List (List ℕ)) → 3 ^ items_variables n is < budget → IsLeft n is lits budget learnt → ⊥
never_left n is lits budget learnt ample h =
    let most : budget ≤ 3 ^ items_variables n is = spent_within (items_variables n is) (encoded_items n (n + 1) is) lits budget learnt h in
    absurd (omega (arith, ample, most))

unless_nothing : (P : RunReply → Type 0) (fault : Option OrderFault) (reply : RunReply) → (P reply → LeavesNothing reply) → RepliesUnless fault P reply → LeavesNothing reply
unless_nothing P None reply so h = so h
unless_nothing P (Some fault) reply so h = at_fault _ reply h refl refl

module _ (b : Contents) (day : ℕ) (chosen : List ℕ) (budget : ℕ) (ample : 3 ^ items_variables (length b.codes) (left_items b day chosen) < budget) where
  state_decided : (place : ℕ) (s : CodeState) → IsState b day chosen budget place s → is_undecided_state s ≡ false
  state_decided place state.Ordered h = refl
  state_decided place state.Forced h = refl
  state_decided place state.Excluded h = refl
  state_decided place state.Open h = refl
  state_decided place (state.Undecided learnt) h =
      absurd (never_left (length b.codes) (left_items b day chosen) _ budget learnt.clauses ample h.1.given_up)

none_undecided_of : (states : List CodeState) → ((place : ℕ) (s : CodeState) → slice_get states place ≡ Some s → is_undecided_state s ≡ false)
    → list_any is_undecided_state states ≡ false
none_undecided_of [] each = refl
none_undecided_of (s ∷ states) each =
    ap (λ (t : Bool). t || list_any is_undecided_state states) (each 0 s refl) ∙ none_undecided_of states (λ place t there. each (suc place) t there)

none_noted : (states : List CodeState) → list_any was_left (flat_map state_notes states) ≡ list_any is_undecided_state states
none_noted [] = refl
none_noted (state.Ordered ∷ states) = none_noted states
none_noted (state.Forced ∷ states) = none_noted states
none_noted (state.Excluded ∷ states) = none_noted states
none_noted (state.Open ∷ states) = none_noted states
none_noted (state.Undecided learnt ∷ states) = refl

states_decided : (left : Bool) → left ≡ false → (if left then statuses.Undecided else statuses.Done) ≢ statuses.Undecided
states_decided true none = let clash : true ≡ false = none in absurd (cc)
states_decided false none = not_undecided statuses.Done (inl refl)

by_freedom : (b : Contents) (day : ℕ) (chosen : List ℕ) (budget : ℕ) (f : Freedom) → 3 ^ items_variables (length b.codes) (left_items b day chosen) < budget
    → IsFree b day chosen budget f → (list_any was_left (freedom_notes f) ≡ false) × (free_status f ≢ statuses.Undecided)
by_freedom b day chosen budget NoneLeft ample is = (refl, not_undecided statuses.Refused (inr (inl refl)))
by_freedom b day chosen budget (NotDecided learnt) ample is =
    absurd (never_left (length b.codes) (left_items b day chosen) [] budget learnt.clauses ample is)
by_freedom b day chosen budget (Codes states) ample is =
    let none = none_undecided_of states.items (λ place s there. state_decided b day chosen budget ample place s (is.each place s there)) in
    (none_noted states.items ∙ none, states_decided (list_any is_undecided_state states.items) none)

freedom_nothing : (b : Contents) (day : ℕ) (names : List (List ℕ)) (budget : ℕ) (reply : RunReply)
    → 3 ^ items_variables (length b.codes) (left_items b day (places_of b.codes names)) < budget → IsFreeReply b day names budget reply → LeavesNothing reply
freedom_nothing b day names budget reply ample h =
    let all = by_freedom b day (places_of b.codes names) budget h.answer.freedom ample h.is_right.free in
    same_reply (free_reply b h.answer) reply h.told (record { none = all.0; decided = all.1 })

pub free_nothing : (book : Result Contents BookFault) (day : ℕ) (names : List (List ℕ)) (budget : ℕ) (reply : RunReply)
    → IfOk book (λ b. 3 ^ items_variables (length b.codes) (left_items b day (places_of b.codes names)) < budget)
    → RepliesToFree book day names budget reply → LeavesNothing reply
free_nothing (Ok b) day names budget reply ample h =
    unless_nothing (IsFreeReply b day names budget) (order_fault b day names) reply (freedom_nothing b day names budget reply ample) h
free_nothing (Err fault) day names budget reply ample h = at_fault _ reply h refl refl

outcome_nothing : (outcome : Outcome) → list_any was_left (outcome_notes outcome) ≡ false
outcome_nothing (outcomes.Accepted set list) = refl
outcome_nothing (outcomes.Refused rule) = refl
outcome_nothing (outcomes.Unfit position count) = refl

repair_nothing : (b : Contents) (day : ℕ) (chosen : List ℕ) (budget : ℕ) (accepted : Bool) (r : Repair) → ((kept : List ℕ) → 3 ^ met_variables b day kept always < budget)
    → IsRepair b day chosen budget accepted r → list_any was_left (repair_notes r) ≡ false
repair_nothing b day chosen budget accepted repair.NotNeeded ample h = refl
repair_nothing b day chosen budget accepted (repair.Undecided learnt) ample h =
    absurd (never_left (length b.codes) (blame_items b (all_entries b day h.1.kept) always) [] budget learnt.clauses (ample h.1.kept) h.1.left)
repair_nothing b day chosen budget accepted (repair.NoOrder m) ample h = refl
repair_nothing b day chosen budget accepted (repair.Keep k) ample h = refl

mended_nothing : (b : Contents) (day : ℕ) (names : List (List ℕ)) (budget : ℕ) (reply : RunReply) → ((kept : List ℕ) → 3 ^ met_variables b day kept always < budget)
    → IsWhyReply b day names budget reply → LeavesNothing reply
mended_nothing b day names budget reply ample h =
    same_reply (why_reply b h.answer) reply h.told
    (record {
      none =
          list_any-append was_left (outcome_notes h.answer.outcome) (repair_notes h.answer.repair)
          ∙ ap (λ (t : Bool). t || list_any was_left (repair_notes h.answer.repair)) (outcome_nothing h.answer.outcome)
          ∙ repair_nothing b day _ budget (accepts h.answer.outcome) h.answer.repair ample h.is_right.repair;
      decided = decided_status (outcome_status h.answer.outcome) (decided-outcome h.answer.outcome);
    })

pub why_nothing : (book : Result Contents BookFault) (day : ℕ) (names : List (List ℕ)) (budget : ℕ) (reply : RunReply)
    → IfOk book (λ b. (kept : List ℕ) → 3 ^ met_variables b day kept always < budget) → RepliesToWhy book day names budget reply → LeavesNothing reply
why_nothing (Ok b) day names budget reply ample h =
    unless_nothing (IsWhyReply b day names budget) (order_fault b day names) reply (mended_nothing b day names budget reply ample) h
why_nothing (Err fault) day names budget reply ample h = at_fault _ reply h refl refl

told_nothing : (b : Contents) (day : ℕ) (rule : Rule) (budget : ℕ) (found : AskTold) (reply : RunReply) → 3 ^ met_variables b day [] rule < budget
    → IsTold b day [] rule budget found → reply ≡ told_reply b found → LeavesNothing reply
told_nothing b day rule budget (told.Car x) reply ample h e =
    same_reply _ reply e (record { none = refl; decided = not_undecided statuses.Done (inl refl) })
told_nothing b day rule budget (told.NoCar m) reply ample h e =
    same_reply _ reply e (record { none = refl; decided = not_undecided statuses.Refused (inr (inl refl)) })
told_nothing b day rule budget (told.Undecided learnt) reply ample h e =
    absurd (never_left (length b.codes) (blame_items b (all_entries b day []) rule) [] budget learnt.clauses ample h)

rule_read_nothing : (b : Contents) (day budget : ℕ) (read : Result Rule RuleFault) (reply : RunReply) → IfOk read (λ f. 3 ^ met_variables b day [] f < budget)
    → RepliesByRule b day budget read reply → LeavesNothing reply
rule_read_nothing b day budget (Ok rule) reply ample h = told_nothing b day rule budget h.found reply ample h.is_right h.answer
rule_read_nothing b day budget (Err fault) reply ample h = at_fault _ reply h refl refl

day_nothing : (b : Contents) (day : ℕ) (text : List ℕ) (budget : ℕ) (in_term : Bool) (reply : RunReply)
    → IfOk (rule_of b.codes text) (λ f. 3 ^ met_variables b day [] f < budget) → RepliesOnDay in_term b day text budget reply → LeavesNothing reply
day_nothing b day text budget true reply ample h = rule_read_nothing b day budget (rule_of b.codes text) reply ample h
day_nothing b day text budget false reply ample h = at_fault _ reply h refl refl

pub ask_nothing : (book : Result Contents BookFault) (day : ℕ) (text : List ℕ) (budget : ℕ) (reply : RunReply)
    → IfOk book (λ b. IfOk (rule_of b.codes text) (λ f. 3 ^ met_variables b day [] f < budget)) → RepliesToAsk book day text budget reply → LeavesNothing reply
ask_nothing (Ok b) day text budget reply ample h = day_nothing b day text budget (is_within b.first b.last day) reply ample h
ask_nothing (Err fault) day text budget reply ample h = at_fault _ reply h refl refl

-- ---- a generated book

pub sample_decided : (size : Size) (reply : RunReply) → IsAmpleFor DEFAULT_BUDGET (sample_text size.start size.codes) → RepliesToSample size reply
    → reply.status ≢ statuses.Undecided
sample_decided size reply ample h = elim h.answer [
  | inl released ↦ not_undecided reply.status (inl (ap (λ (r : RunReply). r.status) released.answer))
  | inr left ↦
      absurd (report_decided (inquiry Blocking DEFAULT_BUDGET h.book) left.report (book_of-book _ h.book h.reads).term
      (of_book (λ (b : Contents). IsAmple b DEFAULT_BUDGET) _ h.book h.reads ample) left.is_right left.undecided)
]
