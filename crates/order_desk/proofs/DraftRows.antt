-- Rows of drafts as they are read.
use Rattle.std.proofs.Common.{◌≡◌, ℕ, ◌<◌, ◌≤◌, Bool, true, false, List, Some, [], ◌∷◌, ◌++◌, length, map, sym, ap, subst, ◌∙◌, arith}
use Rattle.std.specs.Prelude.{nat_le, nat_lt}
use Rattle.std.specs.BTreeMap.{insert_entry}
use Rattle.std.specs.List.{list_all}
use Rattle.std.specs.Map.{keys_of}
use Rattle.std.specs.Ordering.{is_lt}
use Rattle.std.proofs.lemmas.Bool.{ltb-true}
use Rattle.std.proofs.lemmas.List.{length-append, length-map, map-append}
use Rattle.keeper.specs.Keys as keys
use Rattle.keeper.specs.declared.rows.DraftRow.{DraftRow}
use Rattle.pb_base.specs.Names.{is_name}
use Rattle.pb_base.specs.declared.limits.TheConstants.{MOST_TEXT_BYTES}
use Rattle.order_desk.specs.declared.draft.Draft.{Draft}
use Rattle.order_desk.specs.declared.limits.TheConstants.{MOST_DRAFTS, MOST_REVISION}
use Rattle.order_desk.specs.RightRows.{comes_last, is_draft_row}
use Rattle.order_desk.specs.Rows.{draft_row}
use Rattle.order_desk.specs.Tables.{by_name}
use Rattle.order_desk.proofs.Conjunction.{each_of, one_fails}
use Rattle.order_desk.proofs.Keys.{by_name_total}
use Rattle.order_desk.proofs.FirstWrong.{IsRead, read_more}
use Rattle.order_desk.proofs.RisingKeys.{insert-last, rising_rows}

-- what the tests of a row say
pub record IsDraftRow (before : List DraftRow) (row : DraftRow) : Type 0 where
  pub name : is_name row.name ≡ true
  pub owner : is_name row.owner ≡ true
  pub rises : comes_last keys.by_name before row ≡ true
  pub least : nat_le 1 row.revision ≡ true
  pub most : nat_le row.revision MOST_REVISION ≡ true
  pub size : nat_le (length row.text) MOST_TEXT_BYTES ≡ true
  pub room : nat_lt (length before) MOST_DRAFTS ≡ true

module _ (before : List DraftRow) (row : DraftRow) where
  -- the tests behind the first
  abbrev tests : List Bool
  tests =
      is_name row.owner ∷ comes_last keys.by_name before row ∷ nat_le 1 row.revision ∷ nat_le row.revision MOST_REVISION
      ∷ nat_le (length row.text) MOST_TEXT_BYTES ∷ nat_lt (length before) MOST_DRAFTS ∷ []

  pub draft_row_says : is_draft_row before row ≡ true → IsDraftRow before row
  draft_row_says is =
      let each = each_of (is_name row.name) tests is in
      record {
        name = each.0;
        owner = each.1.0;
        rises = each.1.1.0;
        least = each.1.1.1.0;
        most = each.1.1.1.1.0;
        size = each.1.1.1.1.1.0;
        room = each.1.1.1.1.1.1.0;
      }

  pub draft_row_is : IsDraftRow before row → is_draft_row before row ≡ true
  draft_row_is is = grind (arith, is.name, is.owner, is.rises, is.least, is.most, is.size, is.room)

  pub draft_row_falls : comes_last keys.by_name before row ≡ false → is_draft_row before row ≡ false
  draft_row_falls falls = one_fails (is_name row.name) tests 1 (ap Some falls)

-- the names of rows rise with those of their drafts
pub draft_rises : (es : List (List ℕ × Draft)) (row : DraftRow) (name : List ℕ) → row.name ≡ name
    → comes_last keys.by_name (map draft_row es) row ≡ list_all (λ other. is_lt (by_name other name)) (keys_of es)
draft_rises es row name is = rising_rows by_name keys.by_name draft_row name row (λ e. ap (by_name e.0) is) es

-- the drafts of the rows that were seen, and the rows that are left
pub record AreRead (rows : List DraftRow) (es : List (List ℕ × Draft)) (rest : List DraftRow) : Type 0 where
  pub read : IsRead is_draft_row rows (map draft_row es) rest
  pub few : length es ≤ MOST_DRAFTS

pub drafts_more : (rows : List DraftRow) (es : List (List ℕ × Draft)) (row : DraftRow) (rest : List DraftRow) (name : List ℕ) (draft : Draft)
    → AreRead rows es (row ∷ rest) → is_draft_row (map draft_row es) row ≡ true → draft_row (name, draft) ≡ row
    → AreRead rows (insert_entry by_name es name draft) rest
drafts_more rows es row rest name draft are is row_is =
    let says = draft_row_says (map draft_row es) row is in
    let named : row.name ≡ name = ap (λ (r : DraftRow). r.name) (sym row_is) in
    let rises : list_all (λ other. is_lt (by_name other name)) (keys_of es) ≡ true = sym (draft_rises es row name named) ∙ says.rises in
    let last : insert_entry by_name es name draft ≡ es ++ (name, draft) ∷ [] = insert-last by_name_total es name draft rises in
    let seen : map draft_row (insert_entry by_name es name draft) ≡ map draft_row es ++ row ∷ [] =
    ap (map draft_row) last ∙ map-append draft_row es ((name, draft) ∷ []) ∙ ap (λ r. map draft_row es ++ r ∷ []) row_is in
    let room : length (map draft_row es) < MOST_DRAFTS = ltb-true (length (map draft_row es)) MOST_DRAFTS says.room in
    record {
      read = subst (λ l. IsRead is_draft_row rows l rest) (sym seen) (read_more is_draft_row rows (map draft_row es) row rest are.read is);
      few = omega (arith, ap length last, length-append es ((name, draft) ∷ []), length-map es draft_row, room);
    }
