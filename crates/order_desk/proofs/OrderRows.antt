-- Rows of orders as they are read.
use Rattle.std.proofs.Common.{◌≡◌, ℕ, ◌+◌, ◌-◌, ◌<◌, ◌≤◌, ◌==◌, ◌⊎◌, inl, inr, zero, suc, cond, Bool, true, false, List, [], ◌∷◌, ◌++◌, Option, None, Some, Result, Ok, Err, length, get_or, map, take, refl, sym, ap, subst, ◌∙◌, arith}
use Rattle.std.specs.Prelude.{IfOk, find, nat_le, nat_lt, slice_get}
use Rattle.std.specs.BTreeMap.{insert_entry}
use Rattle.std.specs.List.{AllByRecursion, AllZip, join_by, join_with_byte, list_all, slice_split}
use Rattle.std.specs.Map.{keys_of}
use Rattle.std.specs.Option.{option_map}
use Rattle.std.specs.Ordering.{is_lt}
use Rattle.std.proofs.lemmas.Bool.{eq-eqb, ltb-true, ne_eqb}
use Rattle.std.proofs.lemmas.List.{append-nil, length_push, map_push, length-map, take_more}
use Rattle.std.proofs.lemmas.List.Sums.{AllPass-from_list_all}
use Rattle.std.proofs.lemmas.List.Splits.{join_with_byte-slice_split}
use Rattle.std.proofs.lemmas.Option.{slice_get-map, slice_get_past}
use Rattle.desk_words.specs.declared.order_words.OrderWords.{OrderWords}
use Rattle.keeper.specs.Keys.{by_caller}
use Rattle.keeper.specs.declared.rows.BookRow.{BookRow}
use Rattle.keeper.specs.declared.rows.OrderRow.{OrderRow}
use Rattle.pb_base.specs.Names.{is_name, is_code_name}
use Rattle.pb_base.specs.declared.limits.TheConstants.{LAST_DAY}
use Rattle.release.specs.Certified.{release_of, release_by, certified_as}
use Rattle.release.specs.Release.{Release, IsRelease}
use Rattle.shared_work.proofs.JoinLaws.{zip-append}
use Rattle.order_desk.specs.declared.kept_book.KeptBook.{KeptBook}
use Rattle.order_desk.specs.declared.limits.TheConstants.{MOST_ORDERS, MOST_ORDER_NUMBER}
use Rattle.order_desk.specs.declared.order_key.OrderKey.{OrderKey}
use Rattle.order_desk.specs.Fits.{AreCodes}
use Rattle.order_desk.specs.Judged.{IsJudged, accepts_order, release_at}
use Rattle.order_desk.specs.Judging.{accepts, accepted_by}
use Rattle.order_desk.specs.RightRows.{accepts_row, codes_in, comes_last, is_order_row, is_under}
use Rattle.order_desk.specs.Rows.{book_row, book_rows, codes_text, order_row}
use Rattle.order_desk.specs.Tables.{book_at, by_key}
use Rattle.order_desk.proofs.Conjunction.{each_of, one_fails}
use Rattle.order_desk.proofs.Entries.{all-insert}
use Rattle.order_desk.proofs.Growth.{place_of_number}
use Rattle.order_desk.proofs.Keys.{by_key_total, by_key_exact}
use Rattle.order_desk.proofs.FirstWrong.{IsRead, read_more}
use Rattle.order_desk.proofs.RisingKeys.{insert-last, rising_rows}

-- ---- the tests of a row

-- what the tests of a row say
pub record IsOrderRow (books : List BookRow) (before : List OrderRow) (row : OrderRow) : Type 0 where
  pub caller : is_name row.caller ≡ true
  pub least : nat_le 1 row.number ≡ true
  pub most : nat_le row.number MOST_ORDER_NUMBER ≡ true
  pub rises : comes_last by_caller before row ≡ true
  pub room : nat_lt (length before) MOST_ORDERS ≡ true
  pub codes : list_all is_code_name (codes_in row.codes) ≡ true
  pub day : nat_le row.day LAST_DAY ≡ true
  pub under : is_under (find (λ book. book.number == row.book) books) row ≡ true

module _ (books : List BookRow) (before : List OrderRow) (row : OrderRow) where
  -- the tests behind the first
  abbrev tests : List Bool
  tests =
      nat_le 1 row.number ∷ nat_le row.number MOST_ORDER_NUMBER ∷ comes_last by_caller before row
      ∷ nat_lt (length before) MOST_ORDERS ∷ list_all is_code_name (codes_in row.codes) ∷ nat_le row.day LAST_DAY
      ∷ is_under (find (λ book. book.number == row.book) books) row ∷ []

  pub order_row_says : is_order_row books before row ≡ true → IsOrderRow books before row
  order_row_says is =
      let each = each_of (is_name row.caller) tests is in
      record {
        caller = each.0;
        least = each.1.0;
        most = each.1.1.0;
        rises = each.1.1.1.0;
        room = each.1.1.1.1.0;
        codes = each.1.1.1.1.1.0;
        day = each.1.1.1.1.1.1.0;
        under = each.1.1.1.1.1.1.1.0;
      }

  pub order_row_is : IsOrderRow books before row → is_order_row books before row ≡ true
  order_row_is is = grind (arith, is.caller, is.least, is.most, is.rises, is.room, is.codes, is.day, is.under)

  pub not_last : comes_last by_caller before row ≡ false → is_order_row books before row ≡ false
  not_last h = one_fails (is_name row.caller) tests 2 (ap Some h)

  pub past_days : nat_le row.day LAST_DAY ≡ false → is_order_row books before row ≡ false
  past_days h = one_fails (is_name row.caller) tests 5 (ap Some h)

  pub not_under : is_under (find (λ book. book.number == row.book) books) row ≡ false → is_order_row books before row ≡ false
  not_under h = one_fails (is_name row.caller) tests 6 (ap Some h)

-- ---- the book of a row

-- a released book is the one that its text and its certificate make
pub made_of : (r : Release) → IsRelease r → release_of r.text r.cert ≡ Ok r
made_of r is =
    ap (release_by r.text r.cert) is.reads
    ∙ ap (certified_as (record { text = r.text; book = r.book; cert = r.cert })) is.accepted.answer

-- the row of a book is found by the number
abbrev numbered : ℕ → List BookRow → Option BookRow
numbered number rows = find (λ (b : BookRow). b.number == number) rows

find_from : (books : List KeptBook) (k n place : ℕ) → n ≡ k + place
    → numbered n (book_rows k books) ≡ option_map (book_row n) (slice_get books place)
find_from [] k n place is = refl
find_from (b ∷ bs) k n zero is =
    let same : k ≡ n = omega (arith, is) in
    ap (λ found. cond found (Some (book_row k b)) (numbered n (book_rows (k + 1) bs))) (eq-eqb k n same)
    ∙ ap (λ number. Some (book_row number b)) same
find_from (b ∷ bs) k n (suc place) is =
    ap (λ found. cond found (Some (book_row k b)) (numbered n (book_rows (k + 1) bs))) (ne_eqb k n (λ same. omega (arith, is)))
    ∙ find_from bs (k + 1) n place (omega (arith, is))

find_before : (books : List KeptBook) (k n : ℕ) → n < k → numbered n (book_rows k books) ≡ None
find_before [] k n less = refl
find_before (b ∷ bs) k n less =
    ap (λ found. cond found (Some (book_row k b)) (numbered n (book_rows (k + 1) bs))) (ne_eqb k n (λ same. omega (arith, less)))
    ∙ find_before bs (k + 1) n (omega (arith, less))

pub find_book : (books : List KeptBook) (n : ℕ) → numbered n (book_rows 1 books) ≡ option_map (book_row n) (book_at books n)
find_book books zero = find_before books 1 0 (omega arith)
find_book books (suc n) = find_from books 1 (suc n) n (omega arith) ∙ sym (ap (option_map (book_row (suc n))) at)
  where
    at : book_at books (suc n) ≡ slice_get books n
    at = ap (λ b. cond b None (slice_get books (suc n - 1))) (ne_eqb (suc n) 0 (λ none. omega arith)) ∙ ap (slice_get books) (omega arith)

pub all_at : {A : Type 0} (P : A → Type 0) (xs : List A) (place : ℕ) (x : A) → AllByRecursion P xs → slice_get xs place ≡ Some x → P x
all_at P [] place x all at = cc
all_at P (y ∷ xs) zero x all at = let same : y ≡ x = cc in subst P same all.0
all_at P (y ∷ xs) (suc place) x all at = all_at P xs place x all.1 at

-- the row of the book accepts what the book accepts
pub accepted_as : (books : List KeptBook) (row : OrderRow) (codes : List (List ℕ)) → AllByRecursion (λ b. IsRelease b.released) books
    → codes ≡ codes_in row.codes
    → is_under (numbered row.book (book_rows 1 books)) row
    ≡ accepted_by (book_at books row.book) (record { book = row.book; day = row.day; codes = codes })
accepted_as books row codes released split =
    ap (λ found. is_under found row) (find_book books row.book) ∙ by (book_at books row.book) refl
  where
    by : (found : Option KeptBook) → book_at books row.book ≡ found
        → is_under (option_map (book_row row.book) found) row
        ≡ accepted_by found (record { book = row.book; day = row.day; codes = codes })
    by None at = refl
    by (Some b) at =
        ap (λ r. accepts_row r row) (made_of b.released
        (all_at (λ x. IsRelease x.released) books (row.book - 1) b released (place_of_number books row.book b at)))
        ∙ ap (accepts b.released.book row.day) (sym split)

pub no_book : (books : List KeptBook) (row : OrderRow) → length books < row.book
    → is_under (numbered row.book (book_rows 1 books)) row ≡ false
no_book books row past = ap (λ found. is_under found row) (find_book books row.book ∙ ap (option_map (book_row row.book)) none)
  where
    none : book_at books row.book ≡ None
    none = ap (λ b. cond b None (slice_get books (row.book - 1))) (ne_eqb row.book 0 (λ zero. omega (arith, past)))
        ∙ slice_get_past books (row.book - 1) (omega (arith, past))

-- ---- what was told of a row

no_release : (releases : List Release) (number : ℕ) → (number < 1) ⊎ (length releases < number) → release_at releases number ≡ None
no_release releases zero outside = refl
no_release releases (suc n) (inl less) = absurd (omega (arith, less))
no_release releases (suc n) (inr past) =
    ap (λ b. cond b None (slice_get releases (suc n - 1))) (ne_eqb (suc n) 0 (λ none. omega arith))
    ∙ slice_get_past releases (suc n - 1) (omega (arith, past))

-- where no book has the number, the order isn't accepted
pub judged_none : (releases : List Release) (row : OrderRow) → (row.book < 1) ⊎ (length releases < row.book) → IsJudged releases row false
judged_none releases row outside = λ day codes. sym (ap (λ found. accepts_order found row) (no_release releases row.book outside))

-- nothing is told of a row with a name that is no code's
pub judged_unnamed : (releases : List Release) (row : OrderRow) → list_all is_code_name (codes_in row.codes) ≡ false → IsJudged releases row false
judged_unnamed releases row wrong = λ day named. cc

-- and else as the release at the book's place accepts it
pub judged_at : (releases : List Release) (row : OrderRow) (judge : Release) (codes : List (List ℕ)) → 1 ≤ row.book
    → slice_get releases (row.book - 1) ≡ Some judge → codes ≡ codes_in row.codes
    → accepts judge.book row.day codes ≡ accepts_order (release_at releases row.book) row
judged_at releases row judge codes least there split =
    let at : release_at releases row.book ≡ Some judge =
    ap (λ b. cond b None (slice_get releases (row.book - 1))) (ne_eqb row.book 0 (λ none. omega (arith, least))) ∙ there in
    ap (accepts judge.book row.day) split ∙ sym (ap (λ found. accepts_order found row) at)

pub if_told : {X E : Type 0} (P Q : X → Type 0) (r : Result X E) → ((x : X) → P x → Q x) → IfOk r P → IfOk r Q
if_told P Q (Ok x) so is = so x is
if_told P Q (Err e) so is = tt

-- a further row and what was told of it
pub told_next : (releases : List Release) (rows : List OrderRow) (told : List Bool) (accepted : Bool) (k : ℕ) (d : OrderRow) → k < length rows
    → AllZip (IsJudged releases) (take k rows) told → IsJudged releases (get_or rows k d) accepted
    → AllZip (IsJudged releases) (take (k + 1) rows) (told ++ accepted ∷ [])
told_next releases rows told accepted k d low so_far is =
    subst (λ (rs : List OrderRow). AllZip (IsJudged releases) rs (told ++ accepted ∷ [])) (sym (take_more rows k d low))
    (zip-append (IsJudged releases) (take k rows) (get_or rows k d ∷ []) told (accepted ∷ []) so_far (is, tt))

zip_at : {X M : Type 0} (P : X → M → Type 0) (before : List X) (x : X) (after : List X) (ms : List M) (d : M)
    → AllZip P (before ++ x ∷ after) ms → (length before < length ms) × P x (get_or ms (length before) d)
zip_at P [] x after [] d zip = absurd zip
zip_at P [] x after (m ∷ ms) d zip = (omega arith, zip.0)
zip_at P (b ∷ before) x after [] d zip = absurd zip
zip_at P (b ∷ before) x after (m ∷ ms) d zip =
    let more = zip_at P before x after ms d zip.1 in
    (let low : length before < length ms = more.0 in omega (arith, low), more.1)

-- the books' releases
abbrev releases_of : List KeptBook → List Release
releases_of books = map (λ (b : KeptBook). b.released) books

release_of_book : (books : List KeptBook) (number : ℕ) → release_at (releases_of books) number ≡ option_map (λ (b : KeptBook). b.released) (book_at books number)
release_of_book books zero = refl
release_of_book books (suc n) =
    ap (λ b. cond b None (slice_get (releases_of books) (suc n - 1))) (ne_eqb (suc n) 0 (λ none. omega arith))
    ∙ slice_get-map (λ (b : KeptBook). b.released) books (suc n - 1)
    ∙ sym (ap (λ b. option_map (λ (k : KeptBook). k.released) (cond b None (slice_get books (suc n - 1)))) (ne_eqb (suc n) 0 (λ none. omega arith)))

-- what was told is what the row of the book says
pub told_under : (books : List KeptBook) (row : OrderRow) (accepted : Bool) → AllByRecursion (λ b. IsRelease b.released) books
    → IsJudged (releases_of books) row accepted → row.day ≤ LAST_DAY → list_all is_code_name (codes_in row.codes) ≡ true
    → is_under (numbered row.book (book_rows 1 books)) row ≡ accepted
told_under books row accepted released judged day codes =
    accepted_as books row (codes_in row.codes) released refl
    ∙ by (book_at books row.book)
    ∙ sym (ap (λ found. accepts_order found row) (release_of_book books row.book))
    ∙ sym (judged day codes)
  where
    by : (found : Option KeptBook)
        → accepted_by found (record { book = row.book; day = row.day; codes = codes_in row.codes })
        ≡ accepts_order (option_map (λ (b : KeptBook). b.released) found) row
    by None = refl
    by (Some b) = refl

-- ---- the codes of a row

joined : (c : ℕ) (names : List (List ℕ)) → join_by (λ name. name) (c ∷ []) names ≡ join_with_byte c names
joined c [] = refl
joined c (x ∷ []) = append-nil x
joined c (x ∷ y ∷ xs) = ap (λ l. x ++ c ∷ l) (joined c (y ∷ xs))

pub codes_back : (text : List ℕ) → codes_text (codes_in text) ≡ text
codes_back [] = refl
codes_back (b ∷ bs) = joined 32 (slice_split (λ byte. byte == 32) (b ∷ bs)) ∙ join_with_byte-slice_split 32 (b ∷ bs)

-- a text that isn't empty is split
pub codes_split : (text : List ℕ) → (length text == 0) ≡ false → codes_in text ≡ slice_split (λ byte. byte == 32) text
codes_split [] some = cc
codes_split (b ∷ bs) some = refl

-- ---- the rows

pub row_is : (row : OrderRow) (caller : List ℕ) (codes : List (List ℕ)) → caller ≡ row.caller → codes ≡ codes_in row.codes
    → order_row (record { caller = caller; number = row.number }, record { book = row.book; day = row.day; codes = codes }) ≡ row
row_is row caller codes named split =
    let text : codes_text codes ≡ row.codes = ap codes_text split ∙ codes_back row.codes in
    λ i. record { caller = named i; number = row.number; book = row.book; day = row.day; codes = text i }

-- the keys of rows rise with those of their orders
pub order_rises : (es : List (OrderKey × OrderWords)) (row : OrderRow) (key : OrderKey) → row.caller ≡ key.caller → row.number ≡ key.number
    → comes_last by_caller (map order_row es) row ≡ list_all (λ other. is_lt (by_key other key)) (keys_of es)
order_rises es row key caller number =
    rising_rows by_key by_caller order_row key row
    (λ e. ap (λ c. by_key e.0 (record { caller = c; number = row.number })) caller
    ∙ ap (λ n. by_key e.0 (record { caller = key.caller; number = n })) number) es

pub codes_named : (text : List ℕ) (codes : List (List ℕ)) → codes ≡ codes_in text → list_all is_code_name (codes_in text) ≡ true
    → AreCodes codes
codes_named text codes split named =
    AllPass-from_list_all is_code_name codes (ap (list_all is_code_name) split ∙ named)

-- the orders of the rows that were seen, and the rows that are left
pub record AreRead (books : List BookRow) (rows : List OrderRow) (es : List (OrderKey × OrderWords)) (rest : List OrderRow) : Type 0 where
  pub read : IsRead (is_order_row books) rows (map order_row es) rest
  pub few : length es ≤ MOST_ORDERS
  pub named : AllByRecursion (λ e. AreCodes e.1.codes) es

-- what was told of the next row
pub told_at : (books : List BookRow) (rows : List OrderRow) (es : List (OrderKey × OrderWords)) (row : OrderRow) (rest : List OrderRow)
    (releases : List Release) (told : List Bool) (d : Bool) → AreRead books rows es (row ∷ rest) → AllZip (IsJudged releases) rows told
    → (length es < length told) × IsJudged releases row (get_or told (length es) d)
told_at books rows es row rest releases told d are zip =
    subst (λ n. (n < length told) × IsJudged releases row (get_or told n d)) (length-map es order_row)
    (zip_at (IsJudged releases) (map order_row es) row rest told d (subst (λ l. AllZip (IsJudged releases) l told) are.read.whole zip))

-- the order of the next row
pub record IsNextOrder (books : List BookRow) (es : List (OrderKey × OrderWords)) (row : OrderRow) (key : OrderKey) (order : OrderWords) : Type 0 where
  pub right : is_order_row books (map order_row es) row ≡ true
  pub said : order_row (key, order) ≡ row
  pub named : AreCodes order.codes

pub orders_more : (books : List BookRow) (rows : List OrderRow) (es : List (OrderKey × OrderWords)) (row : OrderRow) (rest : List OrderRow)
    (key : OrderKey) (order : OrderWords) → AreRead books rows es (row ∷ rest) → IsNextOrder books es row key order
    → AreRead books rows (insert_entry by_key es key order) rest
orders_more books rows es row rest key order are next =
    let says = order_row_says books (map order_row es) row next.right in
    let caller : row.caller ≡ key.caller = ap (λ (r : OrderRow). r.caller) (sym next.said) in
    let number : row.number ≡ key.number = ap (λ (r : OrderRow). r.number) (sym next.said) in
    let rises : list_all (λ other. is_lt (by_key other key)) (keys_of es) ≡ true = sym (order_rises es row key caller number) ∙ says.rises in
    let last : insert_entry by_key es key order ≡ es ++ (key, order) ∷ [] = insert-last by_key_total es key order rises in
    let seen : map order_row (insert_entry by_key es key order) ≡ map order_row es ++ row ∷ [] =
    ap (map order_row) last ∙ map_push order_row es (key, order) ∙ ap (λ r. map order_row es ++ r ∷ []) next.said in
    let room : length (map order_row es) < MOST_ORDERS = ltb-true (length (map order_row es)) MOST_ORDERS says.room in
    record {
      read = subst (λ l. IsRead (is_order_row books) rows l rest) (sym seen) (read_more (is_order_row books) rows (map order_row es) row rest are.read next.right);
      few = omega (arith, ap length last, length_push es (key, order), length-map es order_row, room);
      named = all-insert by_key_total by_key_exact key order (λ e. AreCodes e.1.codes) next.named es are.named;
    }
