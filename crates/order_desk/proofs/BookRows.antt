-- Rows of books as they are read.
use Rattle.std.proofs.Common.{◌≡◌, ℕ, ◌+◌, ◌<◌, ◌≤◌, ◌==◌, suc, cond, Bool, true, false, ◌&&◌, ◌||◌, not, List, [], ◌∷◌, ◌++◌, Option, None, Some, length, map, refl, sym, ap, subst, ◌∙◌, arith}
use Rattle.std.specs.Prelude.{find, is_some, nat_lt}
use Rattle.std.specs.BTreeMap.{is_at}
use Rattle.std.specs.Cmp.{nat_eq_equiv}
use Rattle.std.specs.Cmp.Lexicographic.{bytes_decides, nat_list_eq_equiv, texts_ties}
use Rattle.std.specs.List.{AllByRecursion, list_any, position_from}
use Rattle.std.specs.Option.{option_map}
use Rattle.std.specs.Result.{is_ok}
use Rattle.std.proofs.lemmas.Bool.{ltb-true}
use Rattle.std.proofs.lemmas.List.{length-append}
use Rattle.keeper.specs.declared.rows.BookRow.{BookRow}
use Rattle.keeper.specs.declared.rows.DraftRow.{DraftRow}
use Rattle.pb_base.specs.Names.{is_name, same_name}
use Rattle.release.specs.Certified.{release_of}
use Rattle.release.specs.Release.{IsRelease}
use Rattle.order_desk.specs.declared.draft.Draft.{Draft}
use Rattle.order_desk.specs.declared.kept_book.KeptBook.{KeptBook}
use Rattle.order_desk.specs.declared.limits.TheConstants.{MOST_BOOKS}
use Rattle.order_desk.specs.RightRows.{first_wrong, has_reached, have_one_revision, is_book_row}
use Rattle.order_desk.specs.Rows.{book_row, book_rows, draft_row, withdrawn_rows}
use Rattle.order_desk.specs.Tables.{by_name, draft_at, is_of}
use Rattle.order_desk.proofs.Conjunction.{left_of, right_of, not_left, not_right}
use Rattle.order_desk.proofs.FirstWrong.{IsRead, read_more, read_wrong}
use Rattle.order_desk.proofs.RowsAfter.{withdrawn_rows-push}
use Rattle.order_desk.proofs.Validity.{all-push}

-- what the tests of a row say
pub record IsBookRow (drafts : List DraftRow) (before : List BookRow) (row : BookRow) : Type 0 where
  pub next : (row.number == length before + 1) ≡ true
  pub room : nat_lt (length before) MOST_BOOKS ≡ true
  pub reached : has_reached (find (λ draft. same_name draft.name row.draft) drafts) row ≡ true
  pub fresh : list_any (have_one_revision row) before ≡ false
  pub released : is_ok (release_of row.text row.cert) ≡ true

pub book_row_is : (drafts : List DraftRow) (before : List BookRow) (row : BookRow) → IsBookRow drafts before row
    → is_book_row drafts before row ≡ true
book_row_is drafts before row is = grind (arith, is.next, is.room, is.reached, is.fresh, is.released)

module _ (drafts : List DraftRow) (before : List BookRow) (row : BookRow) where
  abbrev n : Bool
  n = row.number == length before + 1

  abbrev f : Bool
  f = nat_lt (length before) MOST_BOOKS

  abbrev r : Bool
  r = has_reached (find (λ draft. same_name draft.name row.draft) drafts) row

  abbrev d : Bool
  d = not (list_any (have_one_revision row) before)

  abbrev o : Bool
  o = is_ok (release_of row.text row.cert)

  pub wrong_number : (row.number == length before + 1) ≡ false → is_book_row drafts before row ≡ false
  wrong_number h = not_left (n && f && r && d) o (not_left (n && f && r) d (not_left (n && f) r (not_left n f h)))

  pub no_room : nat_lt (length before) MOST_BOOKS ≡ false → is_book_row drafts before row ≡ false
  no_room h = not_left (n && f && r && d) o (not_left (n && f && r) d (not_left (n && f) r (not_right n f h)))

  pub not_reached : has_reached (find (λ draft. same_name draft.name row.draft) drafts) row ≡ false → is_book_row drafts before row ≡ false
  not_reached h = not_left (n && f && r && d) o (not_left (n && f && r) d (not_right (n && f) r h))

  pub released_again : list_any (have_one_revision row) before ≡ true → is_book_row drafts before row ≡ false
  released_again h = not_left (n && f && r && d) o (not_right (n && f && r) d (ap not h))

  pub right_row_has_room : is_book_row drafts before row ≡ true → nat_lt (length before) MOST_BOOKS ≡ true
  right_row_has_room is = right_of n f (left_of (n && f) r (left_of (n && f && r) d (left_of (n && f && r && d) o is)))

  pub not_released : is_ok (release_of row.text row.cert) ≡ false → is_book_row drafts before row ≡ false
  not_released h = not_right (n && f && r && d) o h

pub length-book_rows : (n : ℕ) (books : List KeptBook) → length (book_rows n books) ≡ length books
length-book_rows n [] = refl
length-book_rows n (b ∷ bs) = ap suc (length-book_rows (n + 1) bs)

pub is_next : (books : List KeptBook) (row : BookRow) → row.number ≡ length books + 1 → (row.number == length (book_rows 1 books) + 1) ≡ true
is_next books row next = grind (arith, next, length-book_rows 1 books)

pub not_next : (drafts : List DraftRow) (books : List KeptBook) (row : BookRow) → (row.number ≡ length books + 1 → ⊥)
    → is_book_row drafts (book_rows 1 books) row ≡ false
not_next drafts books row other = wrong_number drafts (book_rows 1 books) row (grind (arith, other, length-book_rows 1 books))

pub has_room : (books : List KeptBook) → length books < MOST_BOOKS → nat_lt (length (book_rows 1 books)) MOST_BOOKS ≡ true
has_room books less = grind (arith, less, length-book_rows 1 books)

pub is_full : (drafts : List DraftRow) (books : List KeptBook) (row : BookRow) → MOST_BOOKS ≤ length books
    → is_book_row drafts (book_rows 1 books) row ≡ false
is_full drafts books row full = no_room drafts (book_rows 1 books) row (grind (arith, full, length-book_rows 1 books))

-- the row of a draft is found where the draft is
same_key : (a name : List ℕ) → same_name a name ≡ is_at (by_name name) a
same_key a name = nat_list_eq_equiv.symm a name ∙ texts_ties name a

pub find_draft : (name : List ℕ) (es : List (List ℕ × Draft))
    → find (λ (d : DraftRow). same_name d.name name) (map draft_row es) ≡ option_map (λ d. draft_row (name, d)) (draft_at es name)
find_draft name [] = refl
find_draft name (e ∷ es) =
    ap (λ b. cond b (Some (draft_row e)) (find (λ (d : DraftRow). same_name d.name name) (map draft_row es))) (same_key e.0 name)
    ∙ by (same_name e.0 name) refl (is_at (by_name name) e.0) (same_key e.0 name) (find_draft name es)
  where
    by : (c : Bool) → same_name e.0 name ≡ c → (b : Bool) → same_name e.0 name ≡ b
        → find (λ (d : DraftRow). same_name d.name name) (map draft_row es) ≡ option_map (λ d. draft_row (name, d)) (draft_at es name)
        → cond b (Some (draft_row e)) (find (λ (d : DraftRow). same_name d.name name) (map draft_row es))
        ≡ option_map (λ d. draft_row (name, d)) (cond b (Some e.1) (draft_at es name))
    by c is true at later = ap (λ k. Some (draft_row (k, e.1))) ((bytes_decides e.0 name).0 at)
    by c is false at later = later

pub no_draft : (name : List ℕ) (es : List (List ℕ × Draft)) → AllByRecursion (λ e. is_name e.0 ≡ true) es → is_name name ≡ false
    → find (λ (d : DraftRow). same_name d.name name) (map draft_row es) ≡ None
no_draft name [] all none = refl
no_draft name (e ∷ es) all none = by (same_name e.0 name) refl (no_draft name es all.1 none)
  where
    by : (b : Bool) → same_name e.0 name ≡ b → find (λ (d : DraftRow). same_name d.name name) (map draft_row es) ≡ None
        → cond b (Some (draft_row e)) (find (λ (d : DraftRow). same_name d.name name) (map draft_row es)) ≡ None
    by true at later =
        let same : e.0 ≡ name = (bytes_decides e.0 name).0 at in
        let named : is_name name ≡ true = subst (λ k. is_name k ≡ true) same all.0 in
        cc
    by false at later = later

-- a revision is released again where a row before has it
pub released_before : (row : BookRow) (draft : List ℕ) (revision : ℕ) → row.draft ≡ draft → row.revision ≡ revision
    → (n : ℕ) (books : List KeptBook) → list_any (have_one_revision row) (book_rows n books) ≡ is_some (position_from (is_of draft revision) n books)
released_before row draft revision named at n [] = refl
released_before row draft revision named at n (b ∷ bs) =
    ap (λ x. x || list_any (have_one_revision row) (book_rows (n + 1) bs)) same
    ∙ by (is_of draft revision b) (released_before row draft revision named at (n + 1) bs)
  where
    same : have_one_revision row (book_row n b) ≡ is_of draft revision b
    same =
        ap (λ k. same_name k b.draft && row.revision == b.revision) named
        ∙ ap (λ k. same_name draft b.draft && k == b.revision) at
        ∙ ap (λ x. x && revision == b.revision) (nat_list_eq_equiv.symm draft b.draft)
        ∙ ap (λ x. same_name b.draft draft && x) (nat_eq_equiv.symm revision b.revision)

    by : (x : Bool) → list_any (have_one_revision row) (book_rows (n + 1) bs) ≡ is_some (position_from (is_of draft revision) (n + 1) bs)
        → (x || list_any (have_one_revision row) (book_rows (n + 1) bs)) ≡ is_some (cond x (Some n) (position_from (is_of draft revision) (n + 1) bs))
    by true later = refl
    by false later = later

-- what a draft has reached, by what the row is looked up by
pub reached_at : (es : List (List ℕ × Draft)) (name : List ℕ) (row : BookRow) (o : Option Draft) → name ≡ row.draft → o ≡ draft_at es name
    → has_reached (find (λ draft. same_name draft.name row.draft) (map draft_row es)) row ≡ has_reached (option_map (λ d. draft_row (name, d)) o) row
reached_at es name row o named at =
    ap (λ k. has_reached (find (λ draft. same_name draft.name k) (map draft_row es)) row) (sym named)
    ∙ ap (λ found. has_reached found row) (find_draft name es)
    ∙ ap (λ d. has_reached (option_map (λ d. draft_row (name, d)) d) row) (sym at)

pub reached_before : (d : DraftRow) (row : BookRow) → row.revision < d.revision → has_reached (Some d) row ≡ true
reached_before d row less = grind (arith, less)

pub reached_now : (d : DraftRow) (row : BookRow) → row.revision ≤ d.revision → same_name row.text d.text ≡ true → has_reached (Some d) row ≡ true
reached_now d row within same = grind (arith, within, same)

-- a book that is read goes behind the others, under the next number
pub book_rows-append : (n : ℕ) (books : List KeptBook) (book : KeptBook)
    → book_rows n (books ++ book ∷ []) ≡ book_rows n books ++ book_row (length books + n) book ∷ []
book_rows-append n [] book = ap (λ k. book_row k book ∷ []) (omega arith)
book_rows-append n (b ∷ bs) book =
    ap (λ rows. book_row n b ∷ rows)
    (book_rows-append (n + 1) bs book ∙ ap (λ k. book_rows (n + 1) bs ++ book_row k book ∷ []) (omega arith))

-- the books of the rows that were seen, and the rows that are left
pub record AreRead (drafts : List DraftRow) (rows : List BookRow) (books : List KeptBook) (rest : List BookRow) : Type 0 where
  pub read : IsRead (is_book_row drafts) rows (book_rows 1 books) rest
  pub few : length books ≤ MOST_BOOKS
  pub in_force : withdrawn_rows 1 books ≡ []
  pub released : AllByRecursion (λ b. IsRelease b.released) books

-- what a row says of its book
pub record IsBookOf (drafts : List DraftRow) (books : List KeptBook) (row : BookRow) (book : KeptBook) : Type 0 where
  pub right : is_book_row drafts (book_rows 1 books) row ≡ true
  pub row_is : book_row (length books + 1) book ≡ row
  pub in_force : book.withdrawn ≡ false
  pub released : IsRelease book.released

pub books_more : (drafts : List DraftRow) (rows : List BookRow) (books : List KeptBook) (row : BookRow) (rest : List BookRow) (book : KeptBook)
    → AreRead drafts rows books (row ∷ rest) → IsBookOf drafts books row book → AreRead drafts rows (books ++ book ∷ []) rest
books_more drafts rows books row rest book are is =
    let room : length (book_rows 1 books) < MOST_BOOKS = ltb-true (length (book_rows 1 books)) MOST_BOOKS (right_row_has_room drafts (book_rows 1 books) row is.right) in
    let seen : book_rows 1 (books ++ book ∷ []) ≡ book_rows 1 books ++ row ∷ [] =
    book_rows-append 1 books book ∙ ap (λ r. book_rows 1 books ++ r ∷ []) is.row_is in
    record {
      read = subst (λ l. IsRead (is_book_row drafts) rows l rest) (sym seen)
          (read_more (is_book_row drafts) rows (book_rows 1 books) row rest are.read is.right);
      few = omega (arith, length-append books (book ∷ []), length-book_rows 1 books, room);
      in_force = withdrawn_rows-push 1 books book is.in_force ∙ are.in_force;
      released = all-push (λ b. IsRelease b.released) books book are.released is.released;
    }

pub book_wrong : (drafts : List DraftRow) (rows : List BookRow) (books : List KeptBook) (row : BookRow) (rest : List BookRow)
    → AreRead drafts rows books (row ∷ rest) → is_book_row drafts (book_rows 1 books) row ≡ false
    → first_wrong (is_book_row drafts) [] rows ≡ Some (length books + 1)
book_wrong drafts rows books row rest are wrong =
    read_wrong (is_book_row drafts) rows (book_rows 1 books) row rest are.read wrong ∙ ap (λ k. Some (k + 1)) (length-book_rows 1 books)
