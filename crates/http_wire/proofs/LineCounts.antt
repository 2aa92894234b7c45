-- How many lines a head has.
use Rattle.std.proofs.Common.{◌≡◌, ◌≤◌, ◌+◌, ◌∙◌, ℕ, List, [], ◌∷◌, ◌++◌, length, cond, refl, ap, arith, append-nil}
use Rattle.std.specs.Prelude.{count_by}
use Rattle.std.specs.List.{flat_map}
use Rattle.std.proofs.lemmas.List.Sums.{sum_by-append, sum_by-cons}
use Rattle.httparse.specs.Grammar.{LineEnd, crlf, lf, print_end, Field, print_field, print_section, print_blank, print_version, RequestHead, print_request, ReadsRequest}
use Rattle.http_wire.specs.Front.{is_line_feed}
use Rattle.http_wire.specs.Reading.{field_lines}

unfoldable pub feeds : List ℕ → ℕ
feeds s = count_by is_line_feed s

pub feeds-append : (s t : List ℕ) → feeds (s ++ t) ≡ feeds s + feeds t
unfolding feeds
feeds-append s t = sum_by-append (λ b. cond (is_line_feed b) 1 0) s t

pub feeds-cons : (b : ℕ) (s : List ℕ) → feeds (b ∷ s) ≡ cond (is_line_feed b) 1 0 + feeds s
unfolding feeds
feeds-cons b s = sum_by-cons (λ c. cond (is_line_feed c) 1 0) b s

ends_line : (end : LineEnd) → feeds (print_end end) ≡ 1
unfolding feeds
ends_line crlf = refl
ends_line lf = refl

fields_are_lines : (fields : List Field) → length fields ≤ feeds (flat_map print_field fields)
fields_are_lines [] = omega arith
fields_are_lines (f ∷ fields) =
    let later = fields_are_lines fields in
    let line : List ℕ = f.name ++ 58 ∷ f.raw in
    let parted = feeds-append (print_field f) (flat_map print_field fields) in
    let ended = feeds-append line (print_end f.end) in
    let one = ends_line f.end in
    omega (arith, later, parted, ended, one)

head_lines : (h : RequestHead) → length h.fields + 2 ≤ feeds (print_request h)
unfolding print_request
head_lines h =
    let start : List ℕ = print_blank h.blank ++ h.method ++ 32 ∷ h.target ++ 32 ∷ print_version h.minor in
    let parted = feeds-append (start ++ print_end h.line_end) (print_section h.fields h.last) in
    let first = feeds-append start (print_end h.line_end) in
    let rest = feeds-append (flat_map print_field h.fields) (print_end h.last) in
    omega (arith, parted, first, rest, ends_line h.line_end, ends_line h.last, fields_are_lines h.fields)

-- each field is a line of the head
pub few_fields : (block : List ℕ) (h : RequestHead) → ReadsRequest block h [] → length h.fields ≤ field_lines block
unfolding feeds
few_fields block h reads =
    let whole : block ≡ print_request h = reads.1 ∙ append-nil (print_request h) in
    let count : feeds block ≡ feeds (print_request h) = ap feeds whole in
    let lines = head_lines h in
    omega (arith, count, lines)
