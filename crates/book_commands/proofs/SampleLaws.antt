-- What is known of a generated book: no fault, no limit and no finding keeps it from its release, and none of its orders has a
-- fault.
use Rattle.std.proofs.Common.{◌≡◌, ◌∙◌, ℕ, suc, ◌+◌, ◌*◌, ◌-◌, ◌/◌, ◌≤◌, ◌<◌, Bool, List, [], ◌∷◌, Option, None, Some, Result, Ok, Err, length, length-append, map, refl, sym, ap, subst, inl, inr, arith}
use Rattle.std.specs.Prelude.{if◌then◌else◌}
use Rattle.std.specs.List.{filter, fold}
use Rattle.std.proofs.lemmas.Bool.{le-ltb, cases_Bool, cond-true, cond-false}
use Rattle.std.proofs.lemmas.List.{length-map}
use Rattle.pb_base.specs.Results.{and_then, unless}
use Rattle.pb_base.specs.declared.limits.TheConstants.{MOST_QUESTIONS}
use Rattle.book_model.specs.Book.{IsBook}
use Rattle.book_model.specs.Contents.{Contents}
use Rattle.book_model.specs.Parts.{PartsLine, parts, parts_from, lines_at, selected, selected_of, is_selected_at, is_active_position, variants_of}
use Rattle.book_model.specs.Slices.{slices_of}
use Rattle.book_model.specs.Sound.{IsReleasable}
use Rattle.book_model.specs.declared.record.Position.{Position}
use Rattle.book_model.specs.declared.record.Slice.{Slice}
use Rattle.book_model.specs.declared.slicing.LimitFault.{LimitFault}
use Rattle.book_model.specs.declared.slicing.LimitFault.TheVariants.{Questions}
use Rattle.book_sample.specs.Law.{MaySample}
use Rattle.book_sample.specs.Lines.{sample_text}
use Rattle.book_sample.specs.Orders.{Stream, order_at, behind_order}
use Rattle.book_sample.proofs.Whole.{whole_law}
use Rattle.book_text.specs.BookText.{book_of}
use Rattle.book_text.specs.declared.fault.BookFault.{BookFault}
use Rattle.book_text.proofs.BookLaw.{book_of-book}
use Rattle.derivation.specs.Limits.{asked_of, first_over, slices_within}
use Rattle.findings.specs.Notes.{verdict_of}
use Rattle.findings.specs.declared.report.Note.{Note as Told}
use Rattle.findings.specs.declared.report.Verdict.TheVariants as verdicts
use Rattle.desk_words.specs.declared.order_words.OrderWords.{OrderWords}
use Rattle.parts_usage.specs.Fault.{order_fault}
use Rattle.parts_usage.specs.Outcome.{judged, outcome_of, outcome_of_set}
use Rattle.parts_usage.specs.declared.fault.OrderFault.{OrderFault}
use Rattle.parts_usage.specs.declared.judgement.Outcome.{Outcome}
use Rattle.parts_usage.specs.declared.judgement.Outcome.TheVariants as outcomes
use Rattle.parts_usage.specs.declared.unfit.Unfit.{Unfit}
use Rattle.parts_usage.specs.Broken.{first_broken_of}
use Rattle.parts_usage.specs.Unfit.{first_unfit_of}
use Rattle.pb_base.specs.NamedSet.{named}
use Rattle.supplement.specs.Completion.{completion_of}
use Rattle.release.specs.Judged.{as_outcome}
use Rattle.release_check.specs.NotReleased.{IsReportOf}
use Rattle.release.specs.declared.judging.Judged.{Judged}
use Rattle.release.specs.declared.judging.Judged.TheVariants as judgements
use Rattle.book_commands.specs.Sample.{answer_to, counted, lines_in, next_orders}
use Rattle.book_commands.specs.declared.tally.Tally.{Tally}
use Rattle.book_commands.proofs.NeverBlocked.{never_blocked}

same_ok : {A E : Type 0} (x y : A) (result : Result A E) → result ≡ Ok x → result ≡ Ok y → x ≡ y
same_ok x y result e f = let same : Ok x ≡ Ok y = sym e ∙ f in cc

pub never_text : (start codes : ℕ) (fault : BookFault) → MaySample codes → book_of (sample_text start codes) ≡ Err fault → ⊥
never_text start codes fault may e =
    let law = whole_law start codes may in
    let clash : Err fault ≡ Ok law.book = sym e ∙ law.reads in cc

-- a book that was read is that of which the law speaks
of_law : (start codes : ℕ) (b : Contents) → (may : MaySample codes) → book_of (sample_text start codes) ≡ Ok b → (whole_law start codes may).book ≡ b
of_law start codes b may e = same_ok (whole_law start codes may).book b (book_of (sample_text start codes)) (whole_law start codes may).reads e

one_within : (b : Contents) (s : Slice) → slices_of b ≡ Ok (s ∷ []) → asked_of b s ≤ MOST_QUESTIONS → slices_within b ≡ Ok (s ∷ [])
one_within b s is few =
    ap (λ r. and_then r (λ slices. unless (first_over 0 b slices) (Ok slices))) is
    ∙ ap (λ t. unless (if t then Some (Questions 0 (asked_of b s)) else None) (Ok (s ∷ []))) (le-ltb MOST_QUESTIONS (asked_of b s) few)

pub never_limit : (start codes : ℕ) (b : Contents) (fault : LimitFault) → MaySample codes → book_of (sample_text start codes) ≡ Ok b → slices_within b ≡ Err fault → ⊥
never_limit start codes b fault may e limit =
    let law = whole_law start codes may in
    let within = one_within law.book _ law.one_slice (law.few_questions _) in
    let same = ap slices_within (of_law start codes b may e) in
    let clash = sym limit ∙ sym same ∙ within in
    absurd (cc)

pub never_found : (start codes budget : ℕ) (b : Contents) (report : List Told) → MaySample codes → IsReportOf (sample_text start codes) budget b report
    → verdict_of report ≡ verdicts.Blocked → ⊥
never_found start codes budget b report may h blocked =
    never_blocked _ report (book_of-book (sample_text start codes) b h.reads)
    (subst IsReleasable (of_law start codes b may h.reads) (whole_law start codes may).releasable) h.report blocked

pub no_order_fault : (start codes : ℕ) (b : Contents) (s : Stream) → MaySample codes → book_of (sample_text start codes) ≡ Ok b → s.groups ≡ codes / 4
    → order_fault b (order_at s.groups s.state).day (order_at s.groups s.state).codes ≡ None
no_order_fault start codes b s may e groups =
    subst (λ (n : ℕ). order_fault b (order_at n s.state).day (order_at n s.state).codes ≡ None) (sym groups)
    (subst (λ (c : Contents). order_fault c (order_at (codes / 4) s.state).day (order_at (codes / 4) s.state).codes ≡ None) (of_law start codes b may e)
    ((whole_law start codes may).orders s.state))

fewer : (p : ℕ → Bool) (xs : List ℕ) → length (filter p xs) ≤ length xs
fewer p [] = omega arith
fewer p (x ∷ xs) =
    elim (cases_Bool (p x)) [
      | inl yes_ ↦ omega (arith, ap length (cond-true (p x) (x ∷ filter p xs) (filter p xs) yes_), fewer p xs)
      | inr no_ ↦ omega (arith, ap length (cond-false (p x) (x ∷ filter p xs) (filter p xs) no_), fewer p xs)
    ]

selected_few : (b : Contents) (day : ℕ) (x : List Bool) (place : ℕ) (p : Position) → IsBook b → length (selected b day x place p) ≤ 200
selected_few b day x place p book =
    elim (cases_Bool (is_active_position day p)) [
      | inl active ↦ omega (arith, ap length (cond-true (is_active_position day p) (selected_of b day x place) [] active), fewer (is_selected_at b day x) (variants_of place b.variants), book.choices_limit place)
      | inr idle ↦ omega (arith, ap length (cond-false (is_active_position day p) (selected_of b day x place) [] idle))
    ]

parts_few : (i : ℕ) (b : Contents) (day : ℕ) (x : List Bool) (ps : List Position) → IsBook b → length (parts_from i b day x ps) ≤ 200 * length ps
parts_few i b day x [] book = omega arith
parts_few i b day x (p ∷ ps) book =
    let own = selected b day x i p in
    let line : ℕ → PartsLine = λ v. record { position = i; variant = v } in
    omega (arith, length-append (lines_at i own) (parts_from (suc i) b day x ps), length-map own line, selected_few b day x i p book, parts_few (suc i) b day x ps book)

accepted_parts : (broken : Option ℕ) (unfit : Option Unfit) (y set : List Bool) (lines list : List PartsLine) → judged broken unfit (outcomes.Accepted y lines) ≡ outcomes.Accepted set list → lines ≡ list
accepted_parts (Some rule) unfit y set lines list e = absurd (cc)
accepted_parts None (Some u) y set lines list e = absurd (cc)
accepted_parts None None y set lines list e = cc

abbrev same_result : Outcome → Result Outcome OrderFault
same_result o = Ok o

same_outcome : (o o' : Outcome) → same_result o ≡ same_result o' → o ≡ o'
same_outcome o o' e = cc

listed_few : (fault : Option OrderFault) (b : Contents) (day : ℕ) (y set : List Bool) (list : List PartsLine) → IsBook b
    → unless fault (Ok (outcome_of_set b day y)) ≡ same_result (outcomes.Accepted set list) → length list ≤ 1000000
listed_few None b day y set list book e =
    let same : parts b day y ≡ list =
    accepted_parts (first_broken_of b day y) (first_unfit_of b day y) y set (parts b day y) list (same_outcome (outcome_of_set b day y) (outcomes.Accepted set list) e) in
    omega (arith, ap length same, parts_few 0 b day y b.positions book, book.positions_limit)
listed_few (Some fault) b day y set list book e = absurd (cc)

accepted_few : (b : Contents) (day : ℕ) (names : List (List ℕ)) (set : List Bool) (list : List PartsLine) → IsBook b
    → outcome_of b day names ≡ Ok (outcomes.Accepted set list) → length list ≤ 1000000
accepted_few b day names set list book e =
    listed_few (order_fault b day names) b day (completion_of b day (named b.codes names)).set set list book e

-- a parts list has at most 1,000,000 lines
lines_few : (b : Contents) (order : OrderWords) (j : Judged) → IsBook b → answer_to b order ≡ Ok (as_outcome j) → lines_in j ≤ 1000000
lines_few b order (judgements.Accepted set list) book e = accepted_few b order.day order.codes set list book e
lines_few b order (judgements.Refused rule) book e = omega arith

counted_once : (t : Tally) (j : Judged) → (counted t (Ok (as_outcome j))).accepted + (counted t (Ok (as_outcome j))).refused ≡ t.accepted + t.refused + 1
counted_once t (judgements.Accepted set list) = omega arith
counted_once t (judgements.Refused rule) = omega arith

counted_lines : (t : Tally) (j : Judged) → (counted t (Ok (as_outcome j))).parts ≡ t.parts + lines_in j
counted_lines t (judgements.Accepted set list) = refl
counted_lines t (judgements.Refused rule) = omega arith

-- with one more order, each is counted once
pub orders_more : (t t' : Tally) (j : Judged) (n : ℕ) → t' ≡ counted t (Ok (as_outcome j)) → t.accepted + t.refused ≡ n → t'.accepted + t'.refused ≡ n + 1
orders_more t t' j n is h = ap (λ (u : Tally). u.accepted + u.refused) is ∙ counted_once t j ∙ ap (λ k. k + 1) h

-- and each has few lines
pub lines_more : (b : Contents) (order : OrderWords) (t t' : Tally) (j : Judged) (n : ℕ) → IsBook b → answer_to b order ≡ Ok (as_outcome j)
    → t' ≡ counted t (Ok (as_outcome j)) → t.parts ≤ 1000000 * n → t'.parts ≤ 1000000 * (n + 1)
lines_more b order t t' j n book answered is h =
    let same : t'.parts ≡ t.parts + lines_in j = ap (λ (u : Tally). u.parts) is ∙ counted_lines t j in
    omega (arith, same, h, lines_few b order j book answered)

-- and the orders that are left still make the whole
pub tally_more : (b : Contents) (n k : ℕ) (s s' : Stream) (t t' whole : Tally) (order : OrderWords) (j : Judged) → k < n
    → order ≡ order_at s.groups s.state → s' ≡ record { groups = s.groups; state = behind_order s.groups s.state }
    → answer_to b order ≡ Ok (as_outcome j) → t' ≡ counted t (Ok (as_outcome j))
    → fold counted t (map (answer_to b) (next_orders (n - k) s)) ≡ whole
    → fold counted t' (map (answer_to b) (next_orders (n - (k + 1)) s')) ≡ whole
tally_more b n k s s' t t' whole order j below order_is behind answered is h =
    let m : ℕ = n - (k + 1) in
    let step : suc m ≡ n - k = omega (arith, below) in
    let added : t' ≡ counted t (answer_to b (order_at s.groups s.state)) = is ∙ ap (counted t) (sym answered ∙ ap (answer_to b) order_is) in
    ap (λ (u : Tally). fold counted u (map (answer_to b) (next_orders m s'))) added
    ∙ ap (λ (v : Stream). fold counted (counted t (answer_to b (order_at s.groups s.state))) (map (answer_to b) (next_orders m v))) behind
    ∙ ap (λ (i : ℕ). fold counted t (map (answer_to b) (next_orders i s))) step
    ∙ h
