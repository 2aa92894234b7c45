use Rattle.std.proofs.Common.{◌≡◌, ◌-◌, ◌<◌, List, Some, false, length, map, refl, sym, ap, ◌∙◌, inl, inr, arith}
use Rattle.std.specs.List.{list_all, slice_get}
use Rattle.std.specs.Option.{option_map}
use Rattle.std.proofs.lemmas.List.{length-map}
use Rattle.std.proofs.lemmas.Option.{slice_get-map, slice_get_read}
use Rattle.pb_base.specs.Names.{is_code_name}
use Rattle.release.specs.Release.{Release}
use Rattle.order_desk.specs.Judged.{IsJudged}
use Rattle.order_desk.specs.Judging.{accepts}
use Rattle.order_desk.specs.RightRows.{codes_in}
use Rattle.order_desk.specs.declared.kept_book.KeptBook.{KeptBook}
use Rattle.order_desk.proofs.OrderRows.{if_told, judged_at, judged_none, judged_unnamed}
use Rattle.order_desk.proofs.judging.judge_row.Goals as goal

abbrev release_of : KeptBook → Release
release_of b = b.released

pub returns-then-row-from : goal.returns-then-row-from
returns-then-row-from c = λ day codes. absurd (omega (arith, day, c.if-row-from.true, c.from.ensures))

pub returns-then-row-lt1 : goal.returns-then-row-lt1
returns-then-row-lt1 c = judged_none (map release_of c.args.books.now) c.args.row.now (inl c.if-row-lt1.true)

pub returns-then-row-books : goal.returns-then-row-books
returns-then-row-books c =
    judged_none (map release_of c.args.books.now) c.args.row.now (inr (omega (arith, length-map c.args.books.now release_of, c.if-row-books.true)))

pub returns-in-Err-Refused : goal.returns-in-Err-Refused
returns-in-Err-Refused c =
    let wrong : list_all is_code_name (codes_in c.as_slice.result.now) ≡ false = rw c.in-Err-Refused.field-0-is at c.in-Err-Refused.ensures.wrong in
    judged_unnamed (map release_of c.args.books.now) c.args.row.now (ap (λ text. list_all is_code_name (codes_in text)) (sym c.as_slice.ensures) ∙ wrong)

pub returns-in-Ok : goal.returns-in-Ok
returns-in-Ok c =
    let books : List KeptBook = c.args.books.now in
    let releases = map release_of books in
    let row = c.args.row.now in
    let book : KeptBook = c.index-books-place.result in
    let within : row.book - 1 < length books = omega (arith, c.if-row-books.false, c.if-row-lt1.false) in
    let there : slice_get releases (row.book - 1) ≡ Some book.released =
    slice_get-map release_of books (row.book - 1)
    ∙ ap (option_map release_of) (slice_get_read books (length books) (row.book - 1) book refl within c.index-books-place.is) in
    let codes = c.as_slice-in-Ok.result.now in
    let split = c.as_slice-in-Ok.ensures ∙ c.in-Ok.ensures.codes ∙ ap codes_in c.as_slice.ensures in
    if_told (λ accepted. accepted ≡ accepts c.released-released.result.now.book row.day codes) (IsJudged releases row) c.accepts.result
    (λ accepted is day named. is
    ∙ ap (λ (r : Release). accepts r.book row.day codes) c.released-released.ensures
    ∙ judged_at releases row book.released codes (omega (arith, c.if-row-lt1.false)) there split) c.accepts.ensures
