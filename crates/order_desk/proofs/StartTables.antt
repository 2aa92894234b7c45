-- Tables whose rows are right are valid.
use Rattle.std.proofs.Common.{◌≡◌, ℕ, ◌+◌, ◌<◌, ◌==◌, Bool, true, false, not, ◌&&◌, ◌||◌, List, [], ◌∷◌, ◌++◌, Option, None, Some, length, map, refl, sym, ap, subst, ◌∙◌, arith, append_assoc, append-nil}
use Rattle.std.specs.Prelude.{find, is_some, nat_lt, if◌then◌else◌}
use Rattle.std.specs.Cmp.Lexicographic.{bytes_decides}
use Rattle.std.specs.List.{AllByRecursion, IsDistinct, list_any}
use Rattle.std.specs.List.Sorted.{IsStrictlySortedBy}
use Rattle.std.specs.Option.{option_map}
use Rattle.std.specs.Result.{is_ok}
use Rattle.std.specs.declared.cmp.Ordering.{Ordering}
use Rattle.std.proofs.lemmas.Bool.{leb-true, ltb-true, eqb-true}
use Rattle.std.proofs.lemmas.List.{length-map, length_push}
use Rattle.desk_words.specs.declared.order_words.OrderWords.{OrderWords}
use Rattle.keeper.specs.declared.rows.BookRow.{BookRow}
use Rattle.keeper.specs.declared.rows.DraftRow.{DraftRow}
use Rattle.keeper.specs.declared.rows.OrderRow.{OrderRow}
use Rattle.pb_base.specs.Names.{is_name, same_name}
use Rattle.pb_base.specs.declared.limits.TheConstants.{MOST_TEXT_BYTES}
use Rattle.release.specs.Certified.{release_of}
use Rattle.release.specs.Release.{Release, IsRelease}
use Rattle.order_desk.specs.declared.draft.Draft.{Draft}
use Rattle.order_desk.specs.declared.kept_book.KeptBook.{KeptBook}
use Rattle.order_desk.specs.declared.limits.TheConstants.{MOST_BOOKS, MOST_DRAFTS, MOST_ORDERS, MOST_ORDER_NUMBER, MOST_REVISION}
use Rattle.order_desk.specs.declared.order_key.OrderKey.{OrderKey}
use Rattle.order_desk.specs.Fits.{AreCodes, IsReleaseOf, IsOrderUnder, IsPlaced}
use Rattle.order_desk.specs.Judging.{accepted_by}
use Rattle.order_desk.specs.RightRows.{first_wrong, has_reached, have_one_revision, is_book_row, is_draft_row, is_order_row}
use Rattle.order_desk.specs.Rows.{book_row, book_rows, draft_row, order_row}
use Rattle.order_desk.specs.Tables.{Tables, by_key, by_name, book_at, draft_at, released_as}
use Rattle.order_desk.specs.Valid.{IsDraft, IsValid}
use Rattle.order_desk.proofs.BookRows.{book_rows-append, find_draft, length-book_rows, released_before}
use Rattle.order_desk.proofs.Conjunction.{left_of, right_of}
use Rattle.order_desk.proofs.DraftRows.{draft_row_says, draft_rises}
use Rattle.order_desk.proofs.Keys.{by_name_total, by_name_exact, by_key_total, by_key_exact}
use Rattle.order_desk.proofs.OrderRows.{IsOrderRow, accepted_as, order_rises, order_row_says}
use Rattle.order_desk.proofs.StartCodes.{codes_same}
use Rattle.order_desk.proofs.TableRight.{IsNext, IsTable, table_right}
use Rattle.order_desk.proofs.Validity.{valid-with_book}

-- ---- drafts

draft_next : (es : List (List ℕ × Draft)) (e : List ℕ × Draft) → is_draft_row (map draft_row es) (draft_row e) ≡ true
    → IsNext by_name MOST_DRAFTS (λ d. IsDraft d.0 d.1) es e
draft_next es e is =
    let says = draft_row_says (map draft_row es) (draft_row e) is in
    record {
      rises = sym (draft_rises es (draft_row e) e.0 refl) ∙ says.rises;
      room = omega (arith, length-map es draft_row, ltb-true (length (map draft_row es)) MOST_DRAFTS says.room);
      is = record {
        draft_name = says.name;
        owner_name = says.owner;
        least = leb-true 1 e.1.revision says.least;
        most = leb-true e.1.revision MOST_REVISION says.most;
        size = leb-true (length e.1.text) MOST_TEXT_BYTES says.size;
      };
    }

no_entries : {K X : Type 0} (R : K → K → Ordering) (most : ℕ) (P : K × X → Type 0) → IsTable R most P []
unfolding IsStrictlySortedBy
no_entries R most P = record { in_order = tt; few = omega arith; all = tt }

pub drafts_right : (es : List (List ℕ × Draft)) → first_wrong is_draft_row [] (map draft_row es) ≡ None
    → IsTable by_name MOST_DRAFTS (λ d. IsDraft d.0 d.1) es
drafts_right es right =
    table_right by_name_total by_name_exact MOST_DRAFTS (λ d. IsDraft d.0 d.1) draft_row is_draft_row draft_next [] es
    (no_entries by_name MOST_DRAFTS (λ d. IsDraft d.0 d.1)) right

pub draft_names : (es : List (List ℕ × Draft)) → AllByRecursion (λ d. IsDraft d.0 d.1) es → AllByRecursion (λ d. is_name d.0 ≡ true) es
draft_names [] all = tt
draft_names (e ∷ es) all = (all.0.draft_name, draft_names es all.1)

-- ---- books

-- what a right row says of its book
record SaysBook (drafts : List DraftRow) (before : List BookRow) (row : BookRow) : Type 0 where
  room : nat_lt (length before) MOST_BOOKS ≡ true
  reached : has_reached (find (λ draft. same_name draft.name row.draft) drafts) row ≡ true
  fresh : not (list_any (have_one_revision row) before) ≡ true

book_row_says : (drafts : List DraftRow) (before : List BookRow) (row : BookRow) → is_book_row drafts before row ≡ true
    → SaysBook drafts before row
book_row_says drafts before row is =
    let n = row.number == length before + 1 in
    let f = nat_lt (length before) MOST_BOOKS in
    let r = has_reached (find (λ draft. same_name draft.name row.draft) drafts) row in
    let d = not (list_any (have_one_revision row) before) in
    let o = is_ok (release_of row.text row.cert) in
    let four = left_of (n && f && r && d) o is in
    let three = left_of (n && f && r) d four in
    let two = left_of (n && f) r three in
    record { room = right_of n f two; reached = right_of (n && f) r three; fresh = right_of (n && f && r) d four }

reached_draft : (es : List (List ℕ × Draft)) (name : List ℕ) (revision number : ℕ) (r : Release) (o : Option Draft) → draft_at es name ≡ o
    → has_reached (option_map (λ d. draft_row (name, d)) o)
    (record { number = number; draft = name; revision = revision; text = r.text; cert = r.cert }) ≡ true
    → IsRelease r → IsReleaseOf es name revision r
reached_draft es name revision number r None at has is = cc
reached_draft es name revision number r (Some d) at has is =
    by (nat_lt revision d.revision) refl (revision == d.revision) refl (same_name r.text d.text) refl has
  where
    by : (less : Bool) → nat_lt revision d.revision ≡ less → (same : Bool) → (revision == d.revision) ≡ same
        → (text : Bool) → same_name r.text d.text ≡ text → (less || (same && text)) ≡ true → IsReleaseOf es name revision r
    by true less same equal text texts h =
        let below : revision < d.revision = ltb-true revision d.revision less in
        record { draft = d; there = at; reached = omega (arith, below); newest = λ now. absurd (omega (arith, below, now)); release = is }
    by false less true equal true texts h =
        let now : revision ≡ d.revision = eqb-true revision d.revision equal in
        record { draft = d; there = at; reached = omega (arith, now); newest = λ _. (bytes_decides r.text d.text).0 texts; release = is }
    by false less true equal false texts h = cc
    by false less false equal text texts h = cc

was_fresh : (o : Option ℕ) → not (is_some o) ≡ true → o ≡ None
was_fresh None h = refl
was_fresh (Some k) h = cc

abbrev with_books : List (List ℕ × Draft) → List KeptBook → Tables
with_books es books = record { drafts = es; books = books; orders = [] }

books_more : (es : List (List ℕ × Draft)) (seen books : List KeptBook) → IsValid (with_books es seen)
    → AllByRecursion (λ b. IsRelease b.released) books
    → first_wrong (is_book_row (map draft_row es)) (book_rows 1 seen) (book_rows (length seen + 1) books) ≡ None
    → IsValid (with_books es (seen ++ books))
books_more es seen [] valid all right = subst (λ l. IsValid (with_books es l)) (sym (append-nil seen)) valid
books_more es seen (b ∷ bs) valid all right =
    by (is_book_row (map draft_row es) (book_rows 1 seen) (book_row (length seen + 1) b)) refl right
    (λ valid rest. subst (λ l. IsValid (with_books es l)) (append_assoc seen (b ∷ []) bs)
    (books_more es (seen ++ b ∷ []) bs valid all.1 rest))
  where
    row : BookRow
    row = book_row (length seen + 1) b

    Later : Option ℕ
    Later = first_wrong (is_book_row (map draft_row es)) (book_rows 1 seen ++ row ∷ []) (book_rows (length seen + 1 + 1) bs)

    next : is_book_row (map draft_row es) (book_rows 1 seen) row ≡ true → IsValid (with_books es (seen ++ b ∷ []))
    next is =
        let says = book_row_says (map draft_row es) (book_rows 1 seen) row is in
        let reached = ap (λ found. has_reached found row) (sym (find_draft b.draft es)) ∙ says.reached in
        let none = was_fresh (released_as seen b.draft b.revision)
        (ap not (sym (released_before row b.draft b.revision refl refl 1 seen)) ∙ says.fresh) in
        valid-with_book (with_books es seen) b valid
        (reached_draft es b.draft b.revision (length seen + 1) b.released (draft_at es b.draft) refl reached all.0)
        (omega (arith, length-book_rows 1 seen, ltb-true (length (book_rows 1 seen)) MOST_BOOKS says.room)) none

    same : Later ≡ first_wrong (is_book_row (map draft_row es)) (book_rows 1 (seen ++ b ∷ [])) (book_rows (length (seen ++ b ∷ []) + 1) bs)
    same =
        ap (λ before. first_wrong (is_book_row (map draft_row es)) before (book_rows (length seen + 1 + 1) bs)) (sym (book_rows-append 1 seen b))
        ∙ ap (λ n. first_wrong (is_book_row (map draft_row es)) (book_rows 1 (seen ++ b ∷ [])) (book_rows (n + 1) bs)) (sym (length_push seen b))

    by : (x : Bool) → is_book_row (map draft_row es) (book_rows 1 seen) row ≡ x
        → (if x then Later else Some (length (book_rows 1 seen) + 1)) ≡ None
        → (IsValid (with_books es (seen ++ b ∷ []))
        → first_wrong (is_book_row (map draft_row es)) (book_rows 1 (seen ++ b ∷ [])) (book_rows (length (seen ++ b ∷ []) + 1) bs) ≡ None
        → IsValid (with_books es (seen ++ b ∷ bs)))
        → IsValid (with_books es (seen ++ b ∷ bs))
    by true is rest goes = goes (next is) (sym same ∙ rest)
    by false is rest goes = cc

no_books : (es : List (List ℕ × Draft)) → IsTable by_name MOST_DRAFTS (λ d. IsDraft d.0 d.1) es → IsValid (with_books es [])
unfolding IsStrictlySortedBy IsDistinct
no_books es drafts = record {
  drafts_in_order = drafts.in_order;
  few_drafts = drafts.few;
  drafts = drafts.all;
  few_books = omega arith;
  books = tt;
  released_once = tt;
  orders_in_order = tt;
  few_orders = omega arith;
  orders = tt;
}

pub books_right : (es : List (List ℕ × Draft)) (books : List KeptBook) → IsTable by_name MOST_DRAFTS (λ d. IsDraft d.0 d.1) es
    → AllByRecursion (λ b. IsRelease b.released) books → first_wrong (is_book_row (map draft_row es)) [] (book_rows 1 books) ≡ None
    → IsValid (with_books es books)
books_right es books drafts all right = books_more es [] books (no_books es drafts) all right

-- ---- orders

-- the order's book is there, and accepts it
order_under : (books : List KeptBook) (before : List OrderRow) (key : OrderKey) (order : OrderWords)
    → AllByRecursion (λ b. IsRelease b.released) books → AreCodes order.codes → IsOrderRow (book_rows 1 books) before (order_row (key, order))
    → IsOrderUnder books key.number order
order_under books before key order released codes says = by (book_at books order.book) refl accepted
  where
    row : OrderRow
    row = order_row (key, order)

    accepted : accepted_by (book_at books order.book) order ≡ true
    accepted = sym (accepted_as books row order.codes released (sym (codes_same order.codes codes))) ∙ says.under

    by : (o : Option KeptBook) → book_at books order.book ≡ o → accepted_by o order ≡ true → IsOrderUnder books key.number order
    by None at h = cc
    by (Some b) at h = record {
      least = leb-true 1 key.number says.least;
      most = leb-true key.number MOST_ORDER_NUMBER says.most;
      book = b;
      there = at;
      codes = codes;
      accepted = h;
    }

order_next : (books : List KeptBook) → AllByRecursion (λ b. IsRelease b.released) books
    → (os : List (OrderKey × OrderWords)) (o : OrderKey × OrderWords) → is_order_row (book_rows 1 books) (map order_row os) (order_row o) ≡ true
    → IsNext by_key MOST_ORDERS (λ e. AreCodes e.1.codes → IsPlaced books e.0.caller e.0.number e.1) os o
order_next books released os o is =
    let says = order_row_says (book_rows 1 books) (map order_row os) (order_row o) is in
    record {
      rises = sym (order_rises os (order_row o) o.0 refl refl) ∙ says.rises;
      room = omega (arith, length-map os order_row, ltb-true (length (map order_row os)) MOST_ORDERS says.room);
      is = λ codes. record { caller_name = says.caller; under = order_under books (map order_row os) o.0 o.1 released codes says };
    }

applied : {A : Type 0} (P Q : A → Type 0) (xs : List A) → AllByRecursion (λ x. P x → Q x) xs → AllByRecursion P xs → AllByRecursion Q xs
applied P Q [] so all = tt
applied P Q (x ∷ xs) so all = (so.0 all.0, applied P Q xs so.1 all.1)

orders_right : (books : List KeptBook) (os : List (OrderKey × OrderWords)) → AllByRecursion (λ b. IsRelease b.released) books
    → first_wrong (is_order_row (book_rows 1 books)) [] (map order_row os) ≡ None
    → IsTable by_key MOST_ORDERS (λ e. AreCodes e.1.codes → IsPlaced books e.0.caller e.0.number e.1) os
orders_right books os released right =
    table_right by_key_total by_key_exact MOST_ORDERS (λ e. AreCodes e.1.codes → IsPlaced books e.0.caller e.0.number e.1) order_row
    (is_order_row (book_rows 1 books)) (order_next books released) [] os
    (no_entries by_key MOST_ORDERS (λ e. AreCodes e.1.codes → IsPlaced books e.0.caller e.0.number e.1)) right

-- ---- all tables

-- released books, and orders of code names
pub record AreTables (t : Tables) : Type 0 where
  pub released : AllByRecursion (λ b. IsRelease b.released) t.books
  pub codes : AllByRecursion (λ e. AreCodes e.1.codes) t.orders

-- the rows of three tables are right
pub record AreRight (t : Tables) : Type 0 where
  pub drafts : first_wrong is_draft_row [] (map draft_row t.drafts) ≡ None
  pub books : first_wrong (is_book_row (map draft_row t.drafts)) [] (book_rows 1 t.books) ≡ None
  pub orders : first_wrong (is_order_row (book_rows 1 t.books)) [] (map order_row t.orders) ≡ None

pub tables_right : (t : Tables) → AreTables t → AreRight t → IsValid t
tables_right t are right =
    let books = books_right t.drafts t.books (drafts_right t.drafts right.drafts) are.released right.books in
    let orders = orders_right t.books t.orders are.released right.orders in
    record {
      drafts_in_order = books.drafts_in_order;
      few_drafts = books.few_drafts;
      drafts = books.drafts;
      few_books = books.few_books;
      books = books.books;
      released_once = books.released_once;
      orders_in_order = orders.in_order;
      few_orders = orders.few;
      orders = applied (λ e. AreCodes e.1.codes) (λ e. IsPlaced t.books e.0.caller e.0.number e.1) t.orders orders.all are.codes;
    }
