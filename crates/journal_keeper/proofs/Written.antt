-- What is written is read again.
use Rattle.std.proofs.Common.{◌≡◌, ℕ, ◌+◌, ◌^◌, ◌<◌, List, [], ◌∷◌, ◌++◌, length, Some, refl, ap, ◌∙◌, append_assoc, arith, length-append}
use Rattle.std.specs.Int.{w32, to_be_bytes, from_be_bytes}
use Rattle.std.proofs.lemmas.List.{append-nil}
use Rattle.std.proofs.lemmas.Nat.{from_be_bytes-to_be_bytes_4, from_be_bytes-to_be_bytes_8}
use Rattle.keeper.specs.declared.rows.DraftRow.{DraftRow}
use Rattle.keeper.specs.declared.rows.BookRow.{BookRow}
use Rattle.keeper.specs.declared.rows.OrderRow.{OrderRow}
use Rattle.journal_keeper.specs.Record.{Entry, Draft, Book, Order, Withdrawn, Fits, text_in, draft_in, book_in, order_in, withdrawn_in, entry_in, record_in, text_of, number_of, kind_of, payload_of, record_of}
use Rattle.journal_keeper.specs.Journal.{IsRecord}
use Rattle.journal_keeper.proofs.Records.{cut_at}

text_again : (bytes rest : List ℕ) → length bytes < 2 ^ 32 → text_in (text_of bytes ++ rest) ≡ Some (bytes, rest)
text_again bytes rest small = cut_at (from_be_bytes w32 (to_be_bytes w32 (length bytes))) bytes rest (from_be_bytes-to_be_bytes_4 (length bytes) small)

length_text : (bytes : List ℕ) → length (text_of bytes) ≡ 4 + length bytes
length_text bytes = omega arith

regroup4 : (a b c d : List ℕ) → ((a ++ b) ++ c) ++ d ≡ a ++ (b ++ (c ++ (d ++ [])))
regroup4 a b c d = simp (append_assoc, append-nil)

regroup5 : (a b c d e : List ℕ) → (((a ++ b) ++ c) ++ d) ++ e ≡ a ++ (b ++ (c ++ (d ++ (e ++ []))))
regroup5 a b c d e = simp (append_assoc, append-nil)

long4 : (a b c d : List ℕ) → length (((a ++ b) ++ c) ++ d) ≡ length a + length b + length c + length d
long4 a b c d = omega (arith, length-append ((a ++ b) ++ c) d, length-append (a ++ b) c, length-append a b)

long5 : (a b c d e : List ℕ) → length ((((a ++ b) ++ c) ++ d) ++ e) ≡ length a + length b + length c + length d + length e
long5 a b c d e = omega (arith, long4 a b c d, length-append (((a ++ b) ++ c) ++ d) e)

pub length_draft : (row : DraftRow) → length (payload_of (Draft row)) ≡ 20 + length row.name + length row.owner + length row.text
length_draft row =
    long4 (text_of row.name) (text_of row.owner) (number_of row.revision) (text_of row.text)
    ∙ omega (arith, length_text row.name, length_text row.owner, length_text row.text)

pub length_book : (row : BookRow) → length (payload_of (Book row)) ≡ 28 + length row.draft + length row.text + length row.cert
length_book row =
    long5 (number_of row.number) (text_of row.draft) (number_of row.revision) (text_of row.text) (text_of row.cert)
    ∙ omega (arith, length_text row.draft, length_text row.text, length_text row.cert)

pub length_order : (row : OrderRow) → length (payload_of (Order row)) ≡ 32 + length row.caller + length row.codes
length_order row =
    long5 (text_of row.caller) (number_of row.number) (number_of row.book) (number_of row.day) (text_of row.codes)
    ∙ omega (arith, length_text row.caller, length_text row.codes)

pub length_record : (entry : Entry) → length (record_of entry) ≡ 5 + length (payload_of entry)
length_record entry = omega arith

draft_again : (row : DraftRow) → Fits (Draft row) → length (payload_of (Draft row)) < 2 ^ 32 → draft_in (payload_of (Draft row)) ≡ Some (Draft row)
unfolding draft_in
draft_again row fits small =
    let long = length_draft row in
    let one : length row.name < 2 ^ 32 = omega (arith, long, small) in
    let two : length row.owner < 2 ^ 32 = omega (arith, long, small) in
    let three : length row.text < 2 ^ 32 = omega (arith, long, small) in
    let r3 = text_of row.text ++ [] in
    let r2 = number_of row.revision ++ r3 in
    let r1 = text_of row.owner ++ r2 in
    ap draft_in (regroup4 (text_of row.name) (text_of row.owner) (number_of row.revision) (text_of row.text))
    ∙ rw (text_again row.name r1 one, text_again row.owner r2 two, text_again row.text [] three, from_be_bytes-to_be_bytes_8 row.revision fits) refl

book_again : (row : BookRow) → Fits (Book row) → length (payload_of (Book row)) < 2 ^ 32 → book_in (payload_of (Book row)) ≡ Some (Book row)
unfolding book_in
book_again row fits small =
    let long = length_book row in
    let one : length row.draft < 2 ^ 32 = omega (arith, long, small) in
    let two : length row.text < 2 ^ 32 = omega (arith, long, small) in
    let three : length row.cert < 2 ^ 32 = omega (arith, long, small) in
    let r4 = text_of row.cert ++ [] in
    let r3 = text_of row.text ++ r4 in
    let r2 = number_of row.revision ++ r3 in
    let r1 = text_of row.draft ++ r2 in
    ap book_in (regroup5 (number_of row.number) (text_of row.draft) (number_of row.revision) (text_of row.text) (text_of row.cert))
    ∙ rw (text_again row.draft r2 one, text_again row.text r4 two, text_again row.cert [] three, from_be_bytes-to_be_bytes_8 row.number fits.0, from_be_bytes-to_be_bytes_8 row.revision fits.1) refl

order_again : (row : OrderRow) → Fits (Order row) → length (payload_of (Order row)) < 2 ^ 32 → order_in (payload_of (Order row)) ≡ Some (Order row)
unfolding order_in
order_again row fits small =
    let long = length_order row in
    let one : length row.caller < 2 ^ 32 = omega (arith, long, small) in
    let two : length row.codes < 2 ^ 32 = omega (arith, long, small) in
    let r4 = text_of row.codes ++ [] in
    let r3 = number_of row.day ++ r4 in
    let r2 = number_of row.book ++ r3 in
    let r1 = number_of row.number ++ r2 in
    ap order_in (regroup5 (text_of row.caller) (number_of row.number) (number_of row.book) (number_of row.day) (text_of row.codes))
    ∙ rw (text_again row.caller r1 one, text_again row.codes [] two, from_be_bytes-to_be_bytes_8 row.number fits.0, from_be_bytes-to_be_bytes_8 row.book fits.1, from_be_bytes-to_be_bytes_8 row.day fits.2) refl

withdrawn_again : (number : ℕ) → number < 2 ^ 64 → withdrawn_in (number_of number) ≡ Some (Withdrawn number)
unfolding withdrawn_in
withdrawn_again number small = rw (from_be_bytes-to_be_bytes_8 number small) refl

entry_again : (entry : Entry) → Fits entry → length (payload_of entry) < 2 ^ 32 → entry_in (kind_of entry) (payload_of entry) ≡ Some entry
unfolding entry_in
entry_again (Draft row) fits small = draft_again row fits small
entry_again (Book row) fits small = book_again row fits small
entry_again (Order row) fits small = order_again row fits small
entry_again (Withdrawn number) fits small = withdrawn_again number fits

-- a record that was written reads as its entry
pub is_record : (entry : Entry) → Fits entry → length (payload_of entry) < 2 ^ 32 → IsRecord (record_of entry) entry
unfolding record_in
is_record entry fits small rest =
    let text = text_again (payload_of entry) rest small in
    let read = entry_again entry fits small in
    let long : 5 + length (payload_of entry) ≡ length (record_of entry) = omega arith in
    let reads : record_in (kind_of entry ∷ (text_of (payload_of entry) ++ rest)) ≡ Some (entry, 5 + length (payload_of entry)) = rw (text, read) refl in
    reads ∙ ap (λ n. Some (entry, n)) long
