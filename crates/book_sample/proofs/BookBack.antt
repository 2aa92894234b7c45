-- The text of a heading and records that fit reads as their book.
use Rattle.std.proofs.Common.{◌≡◌, false, List, [], ◌∷◌, Ok, length, refl, sym, ap, arith}
use Rattle.std.specs.Prelude.{map, nat_lt}
use Rattle.std.specs.List.{AllByRecursion}
use Rattle.std.proofs.lemmas.Bool.{le-ltb}
use Rattle.pb_base.specs.declared.limits.TheConstants.{MOST_TEXT_BYTES, LAST_DAY}
use Rattle.book_text.specs.BookText.{book_of}
use Rattle.book_text.specs.Entry.{heading_of}
use Rattle.book_text.specs.FirstPass.{first_pass}
use Rattle.book_text.specs.SecondPass.{second_pass}
use Rattle.book_text.specs.Names.{no_names}
use Rattle.book_text.specs.Records.{no_records}
use Rattle.book_text.specs.declared.entry.Heading.{Heading}
use Rattle.book_text.specs.declared.names.Names.{Names}
use Rattle.book_sample.specs.Item.{Item}
use Rattle.book_sample.specs.Rows.{heading_row, row_of}
use Rattle.book_sample.specs.Text.{text_of_rows}
use Rattle.book_sample.specs.Book.{names_of, records_of, contents_of, text_of}
use Rattle.book_sample.specs.Written.{HeadingFits, IsWritten, ItemFits}
use Rattle.book_sample.proofs.Plain.{plain_word, plain_number}
use Rattle.book_sample.proofs.RowsBack.{IsPlainRow, rows_back, rows_utf8}
use Rattle.book_sample.proofs.FieldsBack.{name_back, number_back}
use Rattle.book_sample.proofs.RowSaid.{AreSpelled, spelled_after, row_plain}
use Rattle.book_sample.proofs.NamesBack.{names_back}
use Rattle.book_sample.proofs.RecordsBack.{records_back}

heading_back : (h : Heading) → HeadingFits h → heading_of (heading_row h) ≡ Ok h
heading_back h fits =
    let first = number_back 1 LAST_DAY h.term.from fits.first (omega (arith, fits.order, fits.last)) (omega arith) in
    let last = number_back 1 LAST_DAY h.term.until (omega (arith, fits.first, fits.order)) fits.last (omega arith) in
    let order : nat_lt h.term.until h.term.from ≡ false = le-ltb h.term.until h.term.from fits.order in
    rw (name_back h.name fits.name, first, last, order) (ap (λ f. Ok (record h { form = f })) (sym fits.form))

heading_plain : (h : Heading) → HeadingFits h → IsPlainRow (heading_row h)
heading_plain h fits =
    (refl, (plain_word 8 h.name fits.name, (plain_number h.term.from (omega (arith, fits.order, fits.last)), (plain_number h.term.until (omega (arith, fits.last)), tt))))

rows_plain : (n : Names) (items : List Item) → AreSpelled n → AllByRecursion (ItemFits n) items → AllByRecursion IsPlainRow (map (row_of n) items)
rows_plain n [] s fits = tt
rows_plain n (item ∷ items) s fits = (row_plain n item s fits.0, rows_plain n items s fits.1)

none_spelled : AreSpelled no_names
none_spelled = record { codes = refl; modules = refl; positions = refl }

-- the names of records that fit are names
pub spelled : (items : List Item) → AllByRecursion (ItemFits (names_of items)) items → AreSpelled (names_of items)
spelled items fits = spelled_after no_names (names_of items) items none_spelled fits

pub book_back : (h : Heading) (items : List Item) → IsWritten h items → book_of (text_of h items) ≡ Ok (contents_of h items)
unfolding book_of
book_back h items w =
    let n = names_of items in
    let s = spelled items w.each in
    let rows = heading_row h ∷ map (row_of n) items in
    let plain : AllByRecursion IsPlainRow rows = (heading_plain h w.heading, rows_plain n items s w.each) in
    let first : first_pass h (map (row_of n) items) ≡ Ok n = names_back h n no_names 2 items s w.each w.names in
    let second : second_pass h n (map (row_of n) items) ≡ Ok (records_of h items) = records_back h n 2 no_records items w.names s w.each w.choices in
    rw (le-ltb MOST_TEXT_BYTES (length (text_of_rows rows)) w.size, rows_utf8 rows plain, rows_back rows plain, heading_back h w.heading, first, second) refl
