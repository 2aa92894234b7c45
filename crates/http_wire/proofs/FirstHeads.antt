-- A head that is read where it begins is the next of the stream.
use Rattle.std.proofs.Common.{◌≡◌, ◌≢◌, ◌≤◌, ◌+◌, ◌∙◌, ℕ, Bool, List, [], ◌++◌, length, take, drop, refl, sym, ap, subst, arith, inl, inr, append-nil, length-take, length-drop}
use Rattle.std.specs.Prelude.{Option, Some, None, MatchBool}
use Rattle.std.proofs.lemmas.Bool.{le-ltb}
use Rattle.std.proofs.lemmas.List.{length-map, take_at, take-append-le, drop-append-le}
use Rattle.httparse.specs.Grammar.{RequestHead, print_request, ReadsRequest}
use Rattle.httparse.specs.Spans.{IsRequestAt, header_bytes, name_and_value}
use Rattle.httparse.specs.declared.spans.HeaderSpan.{HeaderSpan}
use Rattle.httparse.specs.declared.spans.RequestSpans.{RequestSpans}
use Rattle.http_wire.specs.declared.head.HeadStep.{HeadStep}
use Rattle.http_wire.specs.declared.head.HeadStep.TheVariants.{Bad}
use Rattle.http_wire.specs.declared.refusal.Refusal.TheVariants.{Malformed, LongHead}
use Rattle.http_wire.specs.declared.front.Front.{Front}
use Rattle.http_wire.specs.Front.{skipped_bytes, block_length}
use Rattle.http_wire.specs.FirstHeads.{ReadsHeld}
use Rattle.http_wire.specs.Items.{behind, ReadsFront, ReadsHead}
use Rattle.http_wire.specs.Parts.{parts_of}
use Rattle.http_wire.specs.Reading.{field_lines, judge, ReadsLines, ReadsBlock}
use Rattle.http_wire.specs.Stream.{StreamStep, SameStream}
use Rattle.http_wire.proofs.FrontLaws.{skipped_within, found_front}
use Rattle.http_wire.proofs.StreamSteps.{behind-append}
use Rattle.http_wire.proofs.LineCounts.{few_fields}
use Rattle.http_wire.proofs.WholeHeads.{head_block, head_lines}

-- there are no more fields than there is room
fields_fit : (s : List ℕ) (spans : List HeaderSpan) (found : RequestSpans) (h : RequestHead) → IsRequestAt s spans found h → length h.fields ≤ length spans
fields_fit s spans found h is =
    let all = ap length is.fields in
    let given = length-map (take found.headers spans) (header_bytes s) in
    let named = length-map h.fields name_and_value in
    omega (arith, all, given, named, length-take found.headers spans)

few_lines : (block : List ℕ) (step : HeadStep) → field_lines block ≤ 64 → ReadsLines block step → ReadsBlock block step
few_lines block step few reads = subst (λ (many : Bool). MatchBool many (step ≡ Bad LongHead) (ReadsLines block step)) (sym (le-ltb 64 (field_lines block) few)) reads

pub first_block : (s : List ℕ) (spans : List HeaderSpan) (found : RequestSpans) (h : RequestHead) (step : HeadStep) → skipped_bytes s ≡ 0 → length spans ≤ 64
    → IsRequestAt s spans found h → step ≡ judge (parts_of h) → (block_length s ≡ Some found.len) × ReadsBlock (take found.len s) step
first_block s spans found h step none room is judged =
    let len : length (print_request h) ≡ found.len = sym is.len in
    let front : take found.len s ≡ print_request h = ap (λ (t : List ℕ). take found.len t) is.reads.1 ∙ take_at (print_request h) (drop found.len s) found.len len in
    let lines : field_lines (print_request h) ≡ length h.fields = head_lines s h (drop found.len s) is.reads none in
    let few : field_lines (print_request h) ≤ 64 = omega (arith, lines, fields_fit s spans found h is) in
    let whole : ReadsRequest (print_request h) h [] = (is.reads.0, sym (append-nil (print_request h))) in (
      head_block s h (drop found.len s) is.reads none ∙ ap (λ (n : ℕ). Some n) len,
      subst (λ (block : List ℕ). ReadsBlock block step) (sym front) (few_lines (print_request h) step few (inl (h, whole, judged))),
    )

-- whatever follows, it comes next
pub next_of : (held held' : List ℕ) (skipped n : ℕ) (step : HeadStep) → length held ≤ 16384 → skipped ≡ skipped_bytes held
    → (block_length (drop skipped held) ≡ Some n) × ReadsBlock (take n (drop skipped held)) step → n ≤ length (drop skipped held) → held' ≡ behind step (skipped + n) held → ReadsHeld step held held'
next_of held held' skipped n step small is_skipped first within rest more =
    let same_rest : drop skipped (held ++ more) ≡ drop skipped held ++ more = drop-append-le skipped held more before in
    let same : take n (drop skipped (held ++ more)) ≡ take n (drop skipped held) = ap (λ (s : List ℕ). take n s) same_rest ∙ take-append-le n (drop skipped held) more within in
    subst (λ (found : Front). ReadsFront found step (held ++ more) (held' ++ more)) (sym (found_front held skipped n small is_skipped first.0 more)) (
      subst (λ (block : List ℕ). ReadsBlock block step) (sym same) first.1,
      ap (λ (h : List ℕ). h ++ more) rest ∙ sym (behind-append step (skipped + n) held more (omega (arith, before, within, length-drop skipped held))),
    )
  where
    before : skipped ≤ length held
    before = let most = skipped_within held in omega (arith, most, is_skipped)

-- what comes next in a stream does so in the one before it, which is the same
pub same_before : (step : HeadStep) (was : List ℕ) (first : Option (List ℕ)) (held : List ℕ) (left : Option (List ℕ)) (held' : List ℕ) (left' : Option (List ℕ))
    → StreamStep SameStream was first held left → StreamStep (ReadsHead step) held left held' left' → StreamStep (ReadsHead step) was first held' left'
same_before step was None held left held' left' same reads = tt
same_before step was (Some all) held None held' left' same reads = absurd same
same_before step was (Some all) held (Some rest) held' None same reads = absurd reads
same_before step was (Some all) held (Some rest) held' (Some rest') same reads = subst (λ (s : List ℕ). ReadsHead step s (held' ++ rest')) same reads

-- what is no head with few fields is none
pub no_head : (block : List ℕ) → field_lines block ≤ 64 → ((h : RequestHead) → ReadsRequest block h [] → length h.fields ≤ 64 → ⊥) → ReadsBlock block (Bad Malformed)
no_head block few none = few_lines block (Bad Malformed) few (inr ((λ h reads. none h reads (let within = few_fields block h reads in omega arith)), refl))

-- a head of another length is none of just the block
pub other_length : (block : List ℕ) (spans : List HeaderSpan) (found : RequestSpans) (h : RequestHead) → IsRequestAt block spans found h → found.len ≢ length block → ReadsRequest block h [] → ⊥
other_length block spans found h is other reads =
    let whole : block ≡ print_request h = reads.1 ∙ append-nil (print_request h) in
    other (is.len ∙ ap length (sym whole))
