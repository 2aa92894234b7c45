-- What the certificates of books' rows come to when a desk is started, whoever checks them.
--     IsChecked row place    the place has what the row's text and certificate make, and the rest of the row
--     AreChecked old new     of all places at once
--     with_texts row r       the row with the text and the certificate of the release
use Rattle.std.specs.Prelude.{◌≡◌, List}
use Rattle.std.specs.List.{AllZip}
use Rattle.keeper.specs.declared.rows.BookRow.{BookRow}
use Rattle.pb_base.specs.Answers.{Answers}
use Rattle.release.specs.Certified.{release_of}
use Rattle.release.specs.Release.{Release}
use Rattle.order_desk.specs.declared.checking.BookPlace.{BookPlace}

pub record IsChecked (row : BookRow) (place : BookPlace) : Type 0 where
  pub number : place.row.number ≡ row.number
  pub draft : place.row.draft ≡ row.draft
  pub revision : place.row.revision ≡ row.revision
  pub made : Answers place.made (release_of row.text row.cert)

abbrev pub AreChecked : List BookPlace → List BookPlace → Type 0
AreChecked old new = AllZip (λ (o : BookPlace) (n : BookPlace). IsChecked o.row n) old new

abbrev pub with_texts : BookRow → Release → BookRow
with_texts row r = record {
  number = row.number;
  draft = row.draft;
  revision = row.revision;
  text = r.text;
  cert = r.cert;
}
