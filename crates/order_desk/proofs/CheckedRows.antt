-- Rows of books at the places at which their certificates are checked.
use Rattle.std.proofs.Common.{◌≡◌, ℕ, suc, ◌+◌, ◌<◌, false, List, [], ◌∷◌, ◌++◌, Some, Result, Ok, Err, length, get_or, map, take, drop, sym, ap, subst, ◌∙◌, arith}
use Rattle.std.specs.List.{AllZip}
use Rattle.std.specs.Result.{is_ok}
use Rattle.std.proofs.Math.Seq.{take-append_seam}
use Rattle.std.proofs.lemmas.Slice.Zip.{AllZip-long}
use Rattle.book_model.specs.Contents.{Contents}
use Rattle.book_text.specs.BookText.{book_of}
use Rattle.book_text.specs.declared.fault.BookFault.{BookFault}
use Rattle.keeper.specs.declared.rows.BookRow.{BookRow}
use Rattle.keeper.specs.declared.rows.DraftRow.{DraftRow}
use Rattle.pb_base.specs.Answers.{Answers, Changes, ForRefusal}
use Rattle.pb_base.specs.declared.answer.Fail.{Fail}
use Rattle.pb_base.specs.declared.answer.Fail.TheVariants.{Refused, Memory}
use Rattle.release.specs.Certified.{release_of, release_by, certified_as}
use Rattle.release.specs.Release.{Release}
use Rattle.release.specs.declared.certified.FromFault.{FromFault}
use Rattle.order_desk.specs.declared.checking.BookPlace.{BookPlace}
use Rattle.order_desk.specs.declared.kept_book.KeptBook.{KeptBook}
use Rattle.order_desk.specs.Checked.{AreChecked, IsChecked, with_texts}
use Rattle.order_desk.specs.RightRows.{first_wrong, is_book_row}
use Rattle.order_desk.specs.Rows.{book_rows}
use Rattle.order_desk.proofs.BookRows.{AreRead, IsBookOf, book_wrong, books_more, not_released}

-- ---- all places, by each of them

pub each_checked : (old new : List BookPlace) → length new ≡ length old
    → ((k : ℕ) (d : BookPlace) → k < length old → IsChecked (get_or old k d).row (get_or new k d)) → AreChecked old new
each_checked [] [] same each = tt
each_checked [] (n ∷ new) same each = absurd (omega (arith, same))
each_checked (o ∷ old) [] same each = absurd (omega (arith, same))
each_checked (o ∷ old) (n ∷ new) same each =
    (each 0 o (omega arith), each_checked old new (omega (arith, same)) (λ k d low. each (suc k) d (omega (arith, low))))

pub as_many : (old new : List BookPlace) → AreChecked old new → length new ≡ length old
as_many old new checked = AllZip-long (λ (o : BookPlace) (n : BookPlace). IsChecked o.row n) old new checked

-- the list of a vector whose places are written all at once
pub written : (n : ℕ) (new old : List BookPlace) → length new ≡ n → take n (new ++ drop (length new) old) ≡ new
written n new old many = ap (λ (k : ℕ). take k (new ++ drop (length new) old)) (sym many) ∙ take-append_seam new (drop (length new) old)

-- by the rows that were put at the places
rows_at : (old new : List BookPlace) → AreChecked old new → AllZip IsChecked (map (λ (p : BookPlace). p.row) old) new
rows_at [] [] checked = tt
rows_at [] (n ∷ new) checked = absurd checked
rows_at (o ∷ old) [] checked = absurd checked
rows_at (o ∷ old) (n ∷ new) checked = (checked.0, rows_at old new checked.1)

pub rows_checked : (rows : List BookRow) (old new : List BookPlace) → map (λ (p : BookPlace). p.row) old ≡ rows → AreChecked old new
    → AllZip IsChecked rows new
rows_checked rows old new put checked = subst (λ rs. AllZip IsChecked rs new) put (rows_at old new checked)

-- ---- a row, by what its text and its certificate make

as_certified : (w r : Release) (answer : _) → certified_as w answer ≡ Ok r → w ≡ r
as_certified w r (Ok certified) is = cc
as_certified w r (Err fault) is = cc

texts_of : (text cert : List ℕ) (r : Release) (read : Result Contents BookFault) → release_by text cert read ≡ Ok r
    → (r.text ≡ text) × (r.cert ≡ cert)
texts_of text cert r (Ok book) is =
    let w : Release = record { text = text; book = book; cert = cert } in
    let same : w ≡ r = as_certified w r _ is in
    (sym (ap (λ (v : Release). v.text) same), sym (ap (λ (v : Release). v.cert) same))
texts_of text cert r (Err fault) is = cc

made_by : (row : BookRow) (place : BookPlace) (made : Result Release (Fail FromFault)) → place.made ≡ made → IsChecked row place
    → Answers made (release_of row.text row.cert)
made_by row place made is checked = subst (λ (m : Result Release (Fail FromFault)). Answers m (release_of row.text row.cert)) is checked.made

-- the release has the row's text and certificate
pub row_again : (row : BookRow) (place : BookPlace) (r : Release) → place.made ≡ Ok r → IsChecked row place → with_texts place.row r ≡ row
row_again row place r made checked =
    let texts = texts_of row.text row.cert r (book_of row.text) (made_by row place (Ok r) made checked) in
    λ i. record {
      number = checked.number i;
      draft = checked.draft i;
      revision = checked.revision i;
      text = texts.0 i;
      cert = texts.1 i;
    }

-- a row whose text and certificate make none is wrong
pub wrong_cert : {U : Type 0} (R : FromFault → U → Type 0) (drafts : List DraftRow) (before : List BookRow) (row : BookRow) (place : BookPlace) (fail : Fail FromFault)
    (given : Fail U) → place.made ≡ Err fail → Changes fail R given → IsChecked row place
    → ForRefusal given (λ none. is_book_row drafts before row ≡ false)
wrong_cert R drafts before row place (Refused fault) (Refused none) made changes checked =
    not_released drafts before row (ap is_ok (made_by row place (Err (Refused fault)) made checked))
wrong_cert R drafts before row place (Refused fault) Memory made changes checked = tt
wrong_cert R drafts before row place Memory (Refused none) made changes checked = absurd changes
wrong_cert R drafts before row place Memory Memory made changes checked = tt

-- ---- the rows, one after the other

-- the books of the rows that were seen, and the places of the rows that are left
pub record AreLeft (drafts : List DraftRow) (rows : List BookRow) (books : List KeptBook) (places : List BookPlace) : Type 0 where
  pub rest : List BookRow
  pub are : AreRead drafts rows books rest
  pub checked : AllZip IsChecked rest places

module _ (drafts : List DraftRow) (rows : List BookRow) where
  none_rest : (books : List KeptBook) (rest : List BookRow) → AllZip IsChecked rest [] → AreRead drafts rows books rest
      → AreRead drafts rows books []
  none_rest books [] checked are = are
  none_rest books (row ∷ rest) checked are = absurd checked

  pub none_left : (books : List KeptBook) (places : List BookPlace) → places ≡ [] → AreLeft drafts rows books places → AreRead drafts rows books []
  none_left books places none left = none_rest books left.rest (subst (AllZip IsChecked left.rest) none left.checked) left.are

  rest_more : (books : List KeptBook) (place : BookPlace) (places : List BookPlace) (book : KeptBook) (rest : List BookRow)
      → ((row : BookRow) → IsChecked row place → IsBookOf drafts books row book) → AllZip IsChecked rest (place ∷ places)
      → AreRead drafts rows books rest → AreLeft drafts rows (books ++ book ∷ []) places
  rest_more books place places book [] is checked are = absurd checked
  rest_more books place places book (row ∷ rest) is checked are = record {
    rest = rest;
    are = books_more drafts rows books row rest book are (is row checked.0);
    checked = checked.1;
  }

  pub left_more : (books : List KeptBook) (place : BookPlace) (places : List BookPlace) (book : KeptBook)
      → AreLeft drafts rows books (place ∷ places) → ((row : BookRow) → IsChecked row place → IsBookOf drafts books row book)
      → AreLeft drafts rows (books ++ book ∷ []) places
  left_more books place places book left is = rest_more books place places book left.rest is left.checked left.are

  rest_wrong : (books : List KeptBook) (place : BookPlace) (places : List BookPlace) (rest : List BookRow)
      → ((row : BookRow) → IsChecked row place → is_book_row drafts (book_rows 1 books) row ≡ false)
      → AllZip IsChecked rest (place ∷ places) → AreRead drafts rows books rest
      → first_wrong (is_book_row drafts) [] rows ≡ Some (length books + 1)
  rest_wrong books place places [] wrong checked are = absurd checked
  rest_wrong books place places (row ∷ rest) wrong checked are =
      book_wrong drafts rows books row rest are (wrong row checked.0)

  pub left_wrong : (books : List KeptBook) (place : BookPlace) (places : List BookPlace) → AreLeft drafts rows books (place ∷ places)
      → ((row : BookRow) → IsChecked row place → is_book_row drafts (book_rows 1 books) row ≡ false)
      → first_wrong (is_book_row drafts) [] rows ≡ Some (length books + 1)
  left_wrong books place places left wrong = rest_wrong books place places left.rest wrong left.checked left.are
