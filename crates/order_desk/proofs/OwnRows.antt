-- The rows of valid tables are right.
use Rattle.std.proofs.Common.{◌≡◌, ℕ, ◌+◌, ◌-◌, ◌<◌, ◌≤◌, zero, suc, cond, Bool, true, false, ◌&&◌, List, [], ◌∷◌, ◌++◌, None, Some, length, map, refl, sym, ap, subst, ◌∙◌, arith, append_assoc}
use Rattle.std.specs.Prelude.{find, is_some, slice_get, nat_le, nat_lt, if◌then◌else◌}
use Rattle.std.specs.Cmp.Lexicographic.{bytes_decides}
use Rattle.std.specs.List.{AllByRecursion, IsDistinct, list_all, position_from}
use Rattle.std.specs.List.Sorted.{IsStrictlySortedBy}
use Rattle.std.specs.Map.{keys_of}
use Rattle.std.specs.Option.{option_map}
use Rattle.std.specs.Ordering.{is_lt, nat_cmp}
use Rattle.std.specs.Result.{is_ok}
use Rattle.std.specs.declared.cmp.Ordering.{Ordering}
use Rattle.std.specs.declared.cmp.Ordering.TheVariants.{Less}
use Rattle.std.proofs.lemmas.Bool.{eq-eqb, le-leb, lt-ltb, ltb-true}
use Rattle.std.proofs.lemmas.List.{length-map, length_push, map_push}
use Rattle.std.proofs.lemmas.List.Elements.{recursion_from_All}
use Rattle.desk_words.specs.declared.order_words.OrderWords.{OrderWords}
use Rattle.keeper.specs.declared.rows.BookRow.{BookRow}
use Rattle.keeper.specs.declared.rows.DraftRow.{DraftRow}
use Rattle.pb_base.specs.Names.{is_code_name, same_name}
use Rattle.pb_base.specs.declared.limits.TheConstants.{LAST_DAY, MOST_TEXT_BYTES}
use Rattle.release.specs.Release.{IsRelease}
use Rattle.order_desk.specs.declared.draft.Draft.{Draft}
use Rattle.order_desk.specs.declared.kept_book.KeptBook.{KeptBook}
use Rattle.order_desk.specs.declared.limits.TheConstants.{MOST_BOOKS, MOST_DRAFTS, MOST_ORDERS, MOST_ORDER_NUMBER, MOST_REVISION}
use Rattle.order_desk.specs.declared.order_key.OrderKey.{OrderKey}
use Rattle.order_desk.specs.Fits.{IsReleaseOf, IsPlaced}
use Rattle.order_desk.specs.Judging.{accepted_by}
use Rattle.order_desk.specs.RightRows.{comes_last, first_bad, first_wrong, has_reached, is_book_row, is_draft_row, is_order_row, is_withdrawn_row}
use Rattle.order_desk.specs.Rows.{book_row, book_rows, draft_row, order_row, rows_of, withdrawn_rows}
use Rattle.order_desk.specs.Tables.{Tables, by_key, by_name, is_of}
use Rattle.order_desk.specs.Valid.{IsDraft, IsValid, are_of_one}
use Rattle.order_desk.proofs.BookDays.{accepted_day}
use Rattle.order_desk.proofs.BookRows.{book_row_is, book_rows-append, find_draft, length-book_rows, reached_before, reached_now, released_before}
use Rattle.order_desk.proofs.Conjunction.{both_of}
use Rattle.order_desk.proofs.DraftRows.{draft_row_is, draft_rises}
use Rattle.order_desk.proofs.Entries.{weaker}
use Rattle.order_desk.proofs.Growth.{place_of_number}
use Rattle.order_desk.proofs.OrderRows.{accepted_as, made_of, order_rises, order_row_is}
use Rattle.order_desk.proofs.StartCodes.{codes_same}
use Rattle.order_desk.proofs.StartRows.{none_is_bad}

-- a row that is right leaves the rows behind it
turn : {R : Type 0} (is_right : List R → R → Bool) (before : List R) (row : R) (rows : List R) → is_right before row ≡ true
    → first_wrong is_right before (row ∷ rows) ≡ first_wrong is_right (before ++ row ∷ []) rows
turn is_right before row rows right =
    ap (λ b. if b then first_wrong is_right (before ++ row ∷ []) rows else Some (length before + 1)) right

-- ---- tables in the order of their keys

in_middle : {K X : Type 0} (P : K → Type 0) (seen : List (K × X)) (e : K × X) (es : List (K × X))
    → AllByRecursion P (keys_of (seen ++ e ∷ es)) → P e.0
in_middle P [] e es all = all.0
in_middle P (s ∷ seen) e es all = in_middle P seen e es all.1

-- a key is behind all that stand before it
rises : {K X : Type 0} (R : K → K → Ordering) (seen : List (K × X)) (e : K × X) (es : List (K × X))
    → IsStrictlySortedBy R (keys_of (seen ++ e ∷ es)) → list_all (λ other. is_lt (R other e.0)) (keys_of seen) ≡ true
unfolding IsStrictlySortedBy
rises R [] e es sorted = refl
rises R (s ∷ seen) e es sorted =
    both_of (is_lt (R s.0 e.0)) (list_all (λ other. is_lt (R other e.0)) (keys_of seen))
    (ap is_lt (in_middle (λ k. R s.0 k ≡ Less) seen e es sorted.0)) (rises R seen e es sorted.1)

module _ {K X Row : Type 0} (R : K → K → Ordering) (most : ℕ) (P : K × X → Type 0) (row : K × X → Row) (is_right : List Row → Row → Bool)
    (says : (seen : List (K × X)) (e : K × X) → list_all (λ other. is_lt (R other e.0)) (keys_of seen) ≡ true → length seen < most → P e
    → is_right (map row seen) (row e) ≡ true) where
  table_own : (seen es : List (K × X)) → IsStrictlySortedBy R (keys_of (seen ++ es)) → length seen + length es ≤ most → AllByRecursion P es
      → first_wrong is_right (map row seen) (map row es) ≡ None
  table_own seen [] sorted few all = refl
  table_own seen (e ∷ es) sorted few all =
      turn is_right (map row seen) (row e) (map row es) (says seen e (rises R seen e es sorted) (omega (arith, few)) all.0)
      ∙ ap (λ before. first_wrong is_right before (map row es)) (sym (map_push row seen e))
      ∙ table_own (seen ++ e ∷ []) es (subst (λ l. IsStrictlySortedBy R (keys_of l)) (sym (append_assoc seen (e ∷ []) es)) sorted)
      (omega (arith, length_push seen e, few)) all.1

draft_own : (seen : List (List ℕ × Draft)) (e : List ℕ × Draft) → list_all (λ other. is_lt (by_name other e.0)) (keys_of seen) ≡ true
    → length seen < MOST_DRAFTS → IsDraft e.0 e.1 → is_draft_row (map draft_row seen) (draft_row e) ≡ true
draft_own seen e last room is = draft_row_is (map draft_row seen) (draft_row e) (record {
  name = is.draft_name;
  owner = is.owner_name;
  rises = draft_rises seen (draft_row e) e.0 refl ∙ last;
  least = le-leb 1 e.1.revision is.least;
  most = le-leb e.1.revision MOST_REVISION is.most;
  size = le-leb (length e.1.text) MOST_TEXT_BYTES is.size;
  room = lt-ltb (length (map draft_row seen)) MOST_DRAFTS (omega (arith, length-map seen draft_row, room));
})

-- ---- books

none_of : (draft : List ℕ) (revision n : ℕ) (books : List KeptBook) → AllByRecursion (λ b. is_of draft revision b ≡ false) books
    → is_some (position_from (is_of draft revision) n books) ≡ false
none_of draft revision n [] all = refl
none_of draft revision n (b ∷ bs) all =
    ap (λ x. is_some (cond x (Some n) (position_from (is_of draft revision) (n + 1) bs))) all.0 ∙ none_of draft revision (n + 1) bs all.1

of_others : (seen : List KeptBook) (b : KeptBook) (bs : List KeptBook) → IsDistinct are_of_one (seen ++ b ∷ bs)
    → AllByRecursion (λ s. is_of b.draft b.revision s ≡ false) seen
unfolding IsDistinct
of_others [] b bs distinct = tt
of_others (s ∷ seen) b bs distinct = (at seen distinct.0, of_others seen b bs distinct.1)
  where
    at : (books : List KeptBook) → AllByRecursion (λ y. are_of_one s y ≡ false) (books ++ b ∷ bs) → is_of b.draft b.revision s ≡ false
    at [] all = all.0
    at (c ∷ cs) all = at cs all.1

reached_own : (es : List (List ℕ × Draft)) (number : ℕ) (b : KeptBook) → IsReleaseOf es b.draft b.revision b.released
    → has_reached (find (λ draft. same_name draft.name b.draft) (map draft_row es)) (book_row number b) ≡ true
reached_own es number b is =
    ap (λ found. has_reached found (book_row number b)) (find_draft b.draft es ∙ ap (option_map (λ d. draft_row (b.draft, d))) is.there)
    ∙ by (nat_lt b.revision is.draft.revision) refl
  where
    row : DraftRow
    row = draft_row (b.draft, is.draft)

    by : (less : Bool) → nat_lt b.revision is.draft.revision ≡ less → has_reached (Some row) (book_row number b) ≡ true
    by true less = reached_before row (book_row number b) (ltb-true b.revision is.draft.revision less)
    by false less =
        let now : b.revision ≡ is.draft.revision = grind (arith, less, is.reached) in
        reached_now row (book_row number b) is.reached ((bytes_decides b.released.text is.draft.text).1 (is.newest now))

book_own : (es : List (List ℕ × Draft)) (seen : List KeptBook) (b : KeptBook) (bs : List KeptBook) → IsDistinct are_of_one (seen ++ b ∷ bs)
    → length seen < MOST_BOOKS → IsReleaseOf es b.draft b.revision b.released
    → is_book_row (map draft_row es) (book_rows 1 seen) (book_row (length seen + 1) b) ≡ true
book_own es seen b bs distinct room is = book_row_is (map draft_row es) (book_rows 1 seen) (book_row (length seen + 1) b) (record {
  next = eq-eqb (length seen + 1) (length (book_rows 1 seen) + 1) (omega (arith, length-book_rows 1 seen));
  room = lt-ltb (length (book_rows 1 seen)) MOST_BOOKS (omega (arith, length-book_rows 1 seen, room));
  reached = reached_own es (length seen + 1) b is;
  fresh =
      released_before (book_row (length seen + 1) b) b.draft b.revision refl refl 1 seen
      ∙ none_of b.draft b.revision 1 seen (of_others seen b bs distinct);
  released = ap is_ok (made_of b.released is.release);
})

books_own : (es : List (List ℕ × Draft)) (seen books : List KeptBook) → IsDistinct are_of_one (seen ++ books)
    → length seen + length books ≤ MOST_BOOKS → AllByRecursion (λ b. IsReleaseOf es b.draft b.revision b.released) books
    → first_wrong (is_book_row (map draft_row es)) (book_rows 1 seen) (book_rows (length seen + 1) books) ≡ None
books_own es seen [] distinct few all = refl
books_own es seen (b ∷ bs) distinct few all =
    turn is_right (book_rows 1 seen) (book_row (length seen + 1) b) (book_rows (length seen + 1 + 1) bs)
    (book_own es seen b bs distinct (omega (arith, few)) all.0)
    ∙ ap (λ before. first_wrong is_right before (book_rows (length seen + 1 + 1) bs)) (sym (book_rows-append 1 seen b))
    ∙ ap (λ n. first_wrong is_right (book_rows 1 (seen ++ b ∷ [])) (book_rows (n + 1) bs)) (sym (length_push seen b))
    ∙ books_own es (seen ++ b ∷ []) bs (subst (IsDistinct are_of_one) (sym (append_assoc seen (b ∷ []) bs)) distinct)
    (omega (arith, length_push seen b, few)) all.1
  where
    is_right : List BookRow → BookRow → Bool
    is_right = is_book_row (map draft_row es)

-- ---- orders

released_at : (books : List KeptBook) (place : ℕ) (book : KeptBook) → AllByRecursion (λ b. IsRelease b.released) books
    → slice_get books place ≡ Some book → IsRelease book.released
released_at [] place book all at = cc
released_at (b ∷ bs) zero book all at = let same : b ≡ book = cc in subst (λ x. IsRelease x.released) same all.0
released_at (b ∷ bs) (suc place) book all at = released_at bs place book all.1 at

order_own : (books : List KeptBook) → AllByRecursion (λ b. IsRelease b.released) books
    → (seen : List (OrderKey × OrderWords)) (o : OrderKey × OrderWords) → list_all (λ other. is_lt (by_key other o.0)) (keys_of seen) ≡ true
    → length seen < MOST_ORDERS → IsPlaced books o.0.caller o.0.number o.1
    → is_order_row (book_rows 1 books) (map order_row seen) (order_row o) ≡ true
order_own books released seen o last room is = order_row_is (book_rows 1 books) (map order_row seen) (order_row o) (record {
  caller = is.caller_name;
  least = le-leb 1 o.0.number is.under.least;
  most = le-leb o.0.number MOST_ORDER_NUMBER is.under.most;
  rises = order_rises seen (order_row o) o.0 refl refl ∙ last;
  room = lt-ltb (length (map order_row seen)) MOST_ORDERS (omega (arith, length-map seen order_row, room));
  codes =
      ap (list_all is_code_name) (codes_same o.1.codes is.under.codes)
      ∙ all_named o.1.codes (recursion_from_All (λ code. is_code_name code ≡ true) o.1.codes is.under.codes);
  day =
      le-leb o.1.day LAST_DAY
      (accepted_day is.under.book.released o.1.day o.1.codes
      (released_at books (o.1.book - 1) is.under.book released (place_of_number books o.1.book is.under.book is.under.there)) is.under.accepted);
  under =
      accepted_as books (order_row o) o.1.codes released (sym (codes_same o.1.codes is.under.codes))
      ∙ ap (λ found. accepted_by found o.1) is.under.there ∙ is.under.accepted;
})
  where
    all_named : (codes : List (List ℕ)) → AllByRecursion (λ code. is_code_name code ≡ true) codes → list_all is_code_name codes ≡ true
    all_named [] all = refl
    all_named (c ∷ cs) all = both_of (is_code_name c) (list_all is_code_name cs) all.0 (all_named cs all.1)

-- ---- withdrawn books

is_less : (m n : ℕ) → m < n → is_lt (nat_cmp m n) ≡ true
is_less m n less = grind arith

all_less : (n : ℕ) (before : List ℕ) → AllByRecursion (λ k. k < n) before → comes_last nat_cmp before n ≡ true
all_less n [] below = refl
all_less n (k ∷ ks) below =
    both_of (is_lt (nat_cmp k n)) (comes_last nat_cmp ks n) (is_less k n below.0) (all_less n ks below.1)

all_below : (n : ℕ) (before : List ℕ) → AllByRecursion (λ k. k < n) before → AllByRecursion (λ k. k < n + 1) before
all_below n before below = weaker (λ k. k < n) (λ k. k < n + 1) (λ k less. omega (arith, less)) before below

all_to : (n : ℕ) (before : List ℕ) → AllByRecursion (λ k. k < n) before → AllByRecursion (λ k. k < n + 1) (before ++ n ∷ [])
all_to n [] below = (omega arith, tt)
all_to n (k ∷ ks) below = (omega (arith, below.0), all_to n ks below.1)

withdrawn_own : (books : List BookRow) (n : ℕ) (bs : List KeptBook) (before : List ℕ) → 1 ≤ n → n + length bs ≡ length books + 1
    → AllByRecursion (λ k. k < n) before → first_wrong (is_withdrawn_row 2 books) before (withdrawn_rows n bs) ≡ None
withdrawn_own books n [] before least is below = refl
withdrawn_own books n (b ∷ bs) before least is below =
    by b.withdrawn
    (withdrawn_own books (n + 1) bs before (omega (arith, least)) (omega (arith, is)) (all_below n before below))
    (withdrawn_own books (n + 1) bs (before ++ n ∷ []) (omega (arith, least)) (omega (arith, is)) (all_to n before below))
  where
    rest : List ℕ
    rest = withdrawn_rows (n + 1) bs

    last : Bool
    last = comes_last nat_cmp before n

    right : is_withdrawn_row 2 books before n ≡ true
    right =
        both_of (last && nat_le 1 n) (nat_le n (length books))
        (both_of last (nat_le 1 n) (all_less n before below) (le-leb 1 n least))
        (le-leb n (length books) (omega (arith, is)))

    by : (w : Bool) → first_wrong (is_withdrawn_row 2 books) before rest ≡ None → first_wrong (is_withdrawn_row 2 books) (before ++ n ∷ []) rest ≡ None
        → first_wrong (is_withdrawn_row 2 books) before (if w then n ∷ rest else rest) ≡ None
    by true passed seen = turn (is_withdrawn_row 2 books) before n rest right ∙ seen
    by false passed seen = passed

-- ---- all

pub own_rows_right : (t : Tables) → IsValid t → first_bad (rows_of t) ≡ None
own_rows_right t valid =
    let released = weaker _ _ (λ b is. is.release) t.books valid.books in
    none_is_bad (rows_of t) (record {
      before = record {
        before = record {
          form = refl;
          drafts =
              table_own by_name MOST_DRAFTS (λ e. IsDraft e.0 e.1) draft_row is_draft_row draft_own [] t.drafts
              valid.drafts_in_order (omega (arith, valid.few_drafts)) valid.drafts;
        };
        books = books_own t.drafts [] t.books valid.released_once (omega (arith, valid.few_books)) valid.books;
      };
      orders =
          table_own by_key MOST_ORDERS (λ e. IsPlaced t.books e.0.caller e.0.number e.1) order_row (is_order_row (book_rows 1 t.books))
          (order_own t.books released) [] t.orders valid.orders_in_order (omega (arith, valid.few_orders)) valid.orders;
    })
    (withdrawn_own (book_rows 1 t.books) 1 t.books [] (omega arith) (omega (arith, length-book_rows 1 t.books)) tt)
