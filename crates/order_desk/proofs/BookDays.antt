-- A day on which a released book accepts an order is one that days go up to.
use Rattle.std.proofs.Common.{◌≡◌, ◌≤◌, ℕ, Bool, true, false, List, [], ◌∷◌, length, Option, Some, None, Result, Ok, Err, refl, subst, arith, if◌then◌else◌}
use Rattle.std.specs.Prelude.{nat_le, nat_lt, not, ◌||◌, ◌&&◌}
use Rattle.std.specs.Option.{option_map}
use Rattle.std.specs.Str.{is_utf8}
use Rattle.std.proofs.lemmas.Bool.{leb-true}
use Rattle.pb_base.specs.Digits.{short_number}
use Rattle.pb_base.specs.NamedSet.{first_fault, named}
use Rattle.pb_base.specs.Results.{and_then, unless}
use Rattle.pb_base.specs.declared.limits.TheConstants.{LAST_DAY, MOST_TEXT_BYTES}
use Rattle.book_model.specs.Activity.{is_within}
use Rattle.book_model.specs.Contents.{Contents}
use Rattle.book_text.specs.BookText.{book_of, book_of_rows, book_behind}
use Rattle.book_text.specs.Entry.{book_in, heading_of, heading_of_kind}
use Rattle.book_text.specs.Fault.{at_row}
use Rattle.book_text.specs.Fields.{day_in, field, form_in, in_range, is_width, name_in, term_of}
use Rattle.book_text.specs.FirstPass.{first_pass}
use Rattle.book_text.specs.Kind.{kind_of}
use Rattle.book_text.specs.Records.{book_with}
use Rattle.book_text.specs.Rows.{Row, rows_of}
use Rattle.book_text.specs.SecondPass.{second_pass}
use Rattle.book_text.specs.declared.entry.Heading.{Heading}
use Rattle.book_text.specs.declared.fault.BookKind.TheVariants.{BadDays, BadNumber, FieldCount, NotUtf8, TooLarge}
use Rattle.book_text.specs.declared.fields.Days.{Days}
use Rattle.book_text.specs.declared.kind.Kind.{Kind}
use Rattle.book_text.specs.declared.kind.Kind.TheVariants as kind
use Rattle.book_text.proofs.Faultless.{Says, says-then, says-else, and_then-Ok, at_row-Ok}
use Rattle.parts_usage.specs.Fault.{fault_of_name}
use Rattle.parts_usage.specs.Outcome.{outcome_of_set}
use Rattle.parts_usage.specs.declared.fault.OrderFault.{OrderFault}
use Rattle.parts_usage.specs.declared.fault.OrderFault.TheVariants.{DayOutsideTerm}
use Rattle.parts_usage.specs.declared.judgement.Outcome.{Outcome}
use Rattle.supplement.specs.Completion.{completion_of}
use Rattle.release.specs.Release.{Release, IsRelease}
use Rattle.order_desk.specs.Judging.{accepts, is_accepted}
use Rattle.order_desk.proofs.Conjunction.{right_of}

abbrev IsInTime : Heading → Type 0
IsInTime heading = heading.term.until ≤ LAST_DAY

range_ends : (number : Option ℕ) (day : ℕ) → in_range 1 LAST_DAY number ≡ Ok day → day ≤ LAST_DAY
range_ends None day is = cc
range_ends (Some value) day is = by (nat_le 1 value && nat_le value LAST_DAY) refl is
  where
    by : (b : Bool) → (nat_le 1 value && nat_le value LAST_DAY) ≡ b → (if b then Ok value else Err BadNumber) ≡ Ok day → day ≤ LAST_DAY
    by true within h =
        let same : value ≡ day = cc in
        subst (λ n. n ≤ LAST_DAY) same (leb-true value LAST_DAY (right_of (nat_le 1 value) (nat_le value LAST_DAY) within))
    by false within h = cc

term_ends : (from until : ℕ) (term : Days) → until ≤ LAST_DAY → term_of from until ≡ Ok term → term.until ≤ LAST_DAY
term_ends from until term last is = by (nat_lt until from) is
  where
    Term : Days
    Term = record { from = from; until = until }

    by : (b : Bool) → (if b then Err BadDays else Ok Term) ≡ Ok term → term.until ≤ LAST_DAY
    by true h = cc
    by false h = let same : Term ≡ term = cc in subst (λ (t : Days). t.until ≤ LAST_DAY) same last

book_in_time : (row : Row) → Says IsInTime (book_in row)
book_in_time row =
    says-else IsInTime (not (is_width 4 row || is_width 5 row)) _ FieldCount (λ _.
    says-then IsInTime (name_in (field row 1)) _ (λ name _.
    says-then IsInTime (day_in (field row 2)) _ (λ from _.
    says-then IsInTime (day_in (field row 3)) _ (λ until until_is.
    says-then IsInTime (form_in (field row 4)) _ (λ form _.
    says-then IsInTime (term_of from until) _ (λ term term_is.
    term_ends from until term (range_ends (short_number (field row 3)) until until_is) term_is))))))

of_kind_in_time : (k : Option Kind) (row : Row) → Says IsInTime (heading_of_kind k row)
of_kind_in_time None row = tt
of_kind_in_time (Some kind.Book) row = book_in_time row
of_kind_in_time (Some kind.Code) row = tt
of_kind_in_time (Some kind.Supplement) row = tt
of_kind_in_time (Some kind.Construct) row = tt
of_kind_in_time (Some kind.Group) row = tt
of_kind_in_time (Some kind.Module) row = tt
of_kind_in_time (Some kind.Position) row = tt
of_kind_in_time (Some kind.Variant) row = tt

heading_in_time : (row : Row) (heading : Heading) → heading_of row ≡ Ok heading → heading.term.until ≤ LAST_DAY
heading_in_time row heading h = rw h at (of_kind_in_time (kind_of (field row 0)) row)

rows_in_time : (rows : List Row) (b : Contents) → book_of_rows rows ≡ Ok b → b.last ≤ LAST_DAY
rows_in_time [] b h = cc
rows_in_time (row ∷ rows) b h =
    let (heading, headed, read) = and_then-Ok (at_row 1 (heading_of row)) (λ heading. book_behind heading rows) b h in
    let (names, first, named) =
    and_then-Ok (first_pass heading rows) (λ names. and_then (second_pass heading names rows) (λ records. Ok (book_with heading names records))) b read in
    let (records, second, same) = and_then-Ok (second_pass heading names rows) (λ records. Ok (book_with heading names records)) b named in
    let is : book_with heading names records ≡ b = cc in
    subst (λ (c : Contents). c.last ≤ LAST_DAY) is (heading_in_time row heading (at_row-Ok 1 (heading_of row) heading headed))

text_in_time : (large utf8 : Bool) (rows : List Row) (b : Contents)
    → (if large then at_row 0 (Err TooLarge) else if not utf8 then at_row 0 (Err NotUtf8) else book_of_rows rows) ≡ Ok b → b.last ≤ LAST_DAY
text_in_time true utf8 rows b h = cc
text_in_time false false rows b h = cc
text_in_time false true rows b h = rows_in_time rows b h

book_ends : (text : List ℕ) (b : Contents) → book_of text ≡ Ok b → b.last ≤ LAST_DAY
unfolding book_of
book_ends text b h = text_in_time (nat_lt MOST_TEXT_BYTES (length text)) (is_utf8 text) (rows_of text) b h

accepted_within : (book : Contents) (day : ℕ) (codes : List (List ℕ)) → accepts book day codes ≡ true → is_within book.first book.last day ≡ true
unfolding accepts
accepted_within book day codes is = by (is_within book.first book.last day) refl is
  where
    judged : Result Outcome OrderFault
    judged = Ok (outcome_of_set book day (completion_of book day (named book.codes codes)).set)

    by : (b : Bool) → is_within book.first book.last day ≡ b
        → is_accepted (unless (if b then option_map fault_of_name (first_fault book.codes [] codes) else Some DayOutsideTerm) judged) ≡ true
        → is_within book.first book.last day ≡ true
    by true within h = within
    by false within h = cc

pub accepted_day : (r : Release) (day : ℕ) (codes : List (List ℕ)) → IsRelease r → accepts r.book day codes ≡ true → day ≤ LAST_DAY
accepted_day r day codes release is =
    let until : day ≤ r.book.last =
    leb-true day r.book.last (right_of (nat_le r.book.first day) (nat_le day r.book.last) (accepted_within r.book day codes is)) in
    omega (arith, until, book_ends r.text r.book release.reads)
