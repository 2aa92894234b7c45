-- Rows of withdrawn books as they are read.
use Rattle.std.proofs.Common.{◌≡◌, ℕ, ◌+◌, ◌-◌, ◌<◌, ◌≤◌, ◌==◌, zero, suc, Bool, true, false, ◌&&◌, List, [], ◌∷◌, ◌++◌, Some, length, drop, refl, sym, ap, subst, ◌∙◌, arith}
use Rattle.std.specs.Prelude.{nat_le, nat_lt, slice_get, slice_set, if◌then◌else◌}
use Rattle.std.specs.List.{AllByRecursion}
use Rattle.std.specs.Ordering.{is_lt, nat_cmp}
use Rattle.std.specs.declared.cmp.Ordering.TheVariants.{Greater}
use Rattle.std.proofs.lemmas.Bool.{lt-ltb, ltb-true}
use Rattle.std.proofs.lemmas.List.{length_push}
use Rattle.std.proofs.lemmas.List.Folds.{list_all-append}
use Rattle.keeper.specs.Put.{put, put_by}
use Rattle.keeper.specs.declared.rows.BookRow.{BookRow}
use Rattle.release.specs.Release.{IsRelease}
use Rattle.order_desk.specs.declared.kept_book.KeptBook.{KeptBook}
use Rattle.order_desk.specs.declared.limits.TheConstants.{MOST_BOOKS}
use Rattle.order_desk.specs.RightRows.{comes_last, first_wrong, is_withdrawn_row}
use Rattle.order_desk.specs.Rows.{book_rows, withdrawn_rows}
use Rattle.order_desk.proofs.Conjunction.{left_of, right_of}
use Rattle.order_desk.proofs.FirstWrong.{IsRead, read_more, read_wrong}
use Rattle.order_desk.proofs.RowsAfter.{book_rows-set, withdrawn_rows-set}
use Rattle.order_desk.proofs.Validity.{all-set}

-- ---- numbers that rise

is_below : (k n : ℕ) → is_lt (nat_cmp k n) ≡ nat_lt k n
is_below k n = grind arith

is_above : (k n : ℕ) → k < n → nat_cmp n k ≡ Greater
is_above k n less = grind arith

-- the numbers of books behind those before are the ones above the last
pub record IsLast (before : List ℕ) (last : ℕ) : Type 0 where
  pub above : (n : ℕ) → (comes_last nat_cmp before n && nat_le 1 n) ≡ nat_lt last n

last_more : (before : List ℕ) (last number : ℕ) → IsLast before last → last < number → IsLast (before ++ number ∷ []) number
last_more before last number is less = record {
  above = λ n.
      ap (λ b. b && nat_le 1 n) (list_all-append (λ k. is_lt (nat_cmp k n)) before (number ∷ []))
      ∙ ap (λ b. comes_last nat_cmp before n && (b && true) && nat_le 1 n) (is_below number n)
      ∙ behind (comes_last nat_cmp before n) (nat_lt number n) (nat_le 1 n) (nat_lt last n) (is.above n)
      (λ h. let more : number < n = ltb-true number n h in lt-ltb last n (omega arith));
}
  where
    behind : (earlier later least past : Bool) → (earlier && least) ≡ past → (later ≡ true → past ≡ true)
        → (earlier && (later && true) && least) ≡ later
    behind true true least past is so = is ∙ so refl
    behind false true least past is so = is ∙ so refl
    behind true false least past is so = refl
    behind false false least past is so = refl

behind_last : (before : List ℕ) (last number : ℕ) → IsLast before last → last < number → comes_last nat_cmp before number ≡ true
behind_last before last number is less =
    left_of (comes_last nat_cmp before number) (nat_le 1 number) (is.above number ∙ lt-ltb last number less)

put_last : (number : ℕ) (numbers : List ℕ) → comes_last nat_cmp numbers number ≡ true → put nat_cmp number numbers ≡ numbers ++ number ∷ []
put_last number [] last = refl
put_last number (k ∷ ks) last =
    let first : nat_lt k number ≡ true = sym (is_below k number) ∙ left_of (is_lt (nat_cmp k number)) (comes_last nat_cmp ks number) last in
    let rest : comes_last nat_cmp ks number ≡ true = right_of (is_lt (nat_cmp k number)) (comes_last nat_cmp ks number) last in
    ap (λ o. put_by o number k ks (put nat_cmp number ks)) (is_above k number (ltb-true k number first))
    ∙ ap (λ l. k ∷ l) (put_last number ks rest)

-- ---- books

-- a book whose number is behind all withdrawn ones is in force
in_force_behind : (n number place : ℕ) (books : List KeptBook) (book : KeptBook) → number ≡ n + place → slice_get books place ≡ Some book
    → comes_last nat_cmp (withdrawn_rows n books) number ≡ true → book.withdrawn ≡ false
in_force_behind n number place [] book at is last = cc
in_force_behind n number zero (b ∷ bs) book at is last = let same : b ≡ book = cc in by b.withdrawn refl last (ap (λ x. x.withdrawn) (sym same))
  where
    rest : List ℕ
    rest = withdrawn_rows (n + 1) bs

    by : (w : Bool) → b.withdrawn ≡ w → comes_last nat_cmp (if w then n ∷ rest else rest) number ≡ true → book.withdrawn ≡ b.withdrawn
        → book.withdrawn ≡ false
    by true is behind same =
        let less : nat_lt n number ≡ true = sym (is_below n number) ∙ left_of (is_lt (nat_cmp n number)) (comes_last nat_cmp rest number) behind in
        absurd (omega (arith, ltb-true n number less, at))
    by false is behind same = same ∙ is
in_force_behind n number (suc place) (b ∷ bs) book at is last =
    in_force_behind (n + 1) number place bs book (omega (arith, at)) is (by b.withdrawn last)
  where
    rest : List ℕ
    rest = withdrawn_rows (n + 1) bs

    by : (w : Bool) → comes_last nat_cmp (if w then n ∷ rest else rest) number ≡ true → comes_last nat_cmp rest number ≡ true
    by true behind = right_of (is_lt (nat_cmp n number)) (comes_last nat_cmp rest number) behind
    by false behind = behind

-- its number goes behind the others
withdrawn-last : (books : List KeptBook) (number : ℕ) (book : KeptBook) → 1 ≤ number → slice_get books (number - 1) ≡ Some book
    → comes_last nat_cmp (withdrawn_rows 1 books) number ≡ true
    → withdrawn_rows 1 (slice_set books (number - 1) (record book { withdrawn = true })) ≡ withdrawn_rows 1 books ++ number ∷ []
withdrawn-last books number book least is last =
    withdrawn_rows-set 1 number (number - 1) books book (omega (arith, least)) is
    (in_force_behind 1 number (number - 1) books book (omega (arith, least)) is last)
    ∙ put_last number (withdrawn_rows 1 books) last

-- ---- rows

-- a row is right by the last before it
row_by_last : (form : ℕ) (rows : List BookRow) (before : List ℕ) (last number : ℕ) → IsLast before last
    → is_withdrawn_row form rows before number ≡ (form == 2 && nat_lt last number && nat_le number (length rows))
row_by_last form rows before last number is =
    ap (λ b. b && nat_le number (length rows)) (by (form == 2) ∙ ap (λ b. form == 2 && b) (is.above number))
  where
    by : (f : Bool) → (f && comes_last nat_cmp before number && nat_le 1 number) ≡ (f && (comes_last nat_cmp before number && nat_le 1 number))
    by true = refl
    by false = refl

length-book_rows : (n : ℕ) (books : List KeptBook) → length (book_rows n books) ≡ length books
length-book_rows n [] = refl
length-book_rows n (b ∷ bs) = ap suc (length-book_rows (n + 1) bs)

-- the books of the numbers that were seen are out of force, and the other numbers are left
pub record AreOut (form : ℕ) (rows : List BookRow) (numbers : List ℕ) (place last : ℕ) (books : List KeptBook) : Type 0 where
  pub read : IsRead (is_withdrawn_row form rows) numbers (withdrawn_rows 1 books) (drop place numbers)
  pub count : length (withdrawn_rows 1 books) ≡ place
  pub rising : IsLast (withdrawn_rows 1 books) last
  pub within : place ≤ last
  pub most : last ≤ length books
  pub few : length books ≤ MOST_BOOKS
  pub kept : book_rows 1 books ≡ rows
  pub released : AllByRecursion (λ b. IsRelease b.released) books

module _ (form : ℕ) (rows : List BookRow) (numbers : List ℕ) (place last : ℕ) (books : List KeptBook)
    (are : AreOut form rows numbers place last books) where
  length-rows : length rows ≡ length books
  length-rows = ap length (sym are.kept) ∙ length-book_rows 1 books

  turn : (number : ℕ) → drop place numbers ≡ number ∷ drop (place + 1) numbers
      → IsRead (is_withdrawn_row form rows) numbers (withdrawn_rows 1 books) (number ∷ drop (place + 1) numbers)
  turn number here = subst (IsRead (is_withdrawn_row form rows) numbers (withdrawn_rows 1 books)) here are.read

  tests : (number : ℕ) → is_withdrawn_row form rows (withdrawn_rows 1 books) number
      ≡ (form == 2 && nat_lt last number && nat_le number (length books))
  tests number =
      row_by_last form rows (withdrawn_rows 1 books) last number are.rising
      ∙ ap (λ n. form == 2 && nat_lt last number && nat_le number n) length-rows

  pub out_more : (number : ℕ) (book : KeptBook) → drop place numbers ≡ number ∷ drop (place + 1) numbers
      → form ≡ 2 → last < number → number ≤ length books → slice_get books (number - 1) ≡ Some book
      → AreOut form rows numbers (place + 1) number (slice_set books (number - 1) (record book { withdrawn = true }))
  out_more number book here is_new rises is_one is =
      let after : List KeptBook = slice_set books (number - 1) (record book { withdrawn = true }) in
      let right : is_withdrawn_row form rows (withdrawn_rows 1 books) number ≡ true = tests number ∙ grind (arith, is_new, rises, is_one) in
      let out : withdrawn_rows 1 after ≡ withdrawn_rows 1 books ++ number ∷ [] =
      withdrawn-last books number book (omega arith) is (behind_last (withdrawn_rows 1 books) last number are.rising rises) in
      let same : book_rows 1 after ≡ rows = book_rows-set 1 (number - 1) books book is ∙ are.kept in
      let as_many : length after ≡ length books = sym (length-book_rows 1 after) ∙ ap length same ∙ length-rows in
      record {
        read = subst (λ l. IsRead (is_withdrawn_row form rows) numbers l (drop (place + 1) numbers)) (sym out)
            (read_more (is_withdrawn_row form rows) numbers (withdrawn_rows 1 books) number (drop (place + 1) numbers) (turn number here) right);
        count = ap length out ∙ length_push (withdrawn_rows 1 books) number ∙ ap (λ n. n + 1) are.count;
        rising = subst (λ l. IsLast l number) (sym out) (last_more (withdrawn_rows 1 books) last number are.rising rises);
        within = omega (arith, are.within);
        most = omega (arith, as_many);
        few = omega (arith, as_many, are.few);
        kept = same;
        released = all-set (λ b. IsRelease b.released) (λ b so. so) books (number - 1) book is are.released;
      }

  pub out_wrong : (number : ℕ) → drop place numbers ≡ number ∷ drop (place + 1) numbers
      → (form == 2 && nat_lt last number && nat_le number (length books)) ≡ false
      → first_wrong (is_withdrawn_row form rows) [] numbers ≡ Some (place + 1)
  out_wrong number here wrong =
      read_wrong (is_withdrawn_row form rows) numbers (withdrawn_rows 1 books) number (drop (place + 1) numbers) (turn number here) (tests number ∙ wrong)
      ∙ ap (λ n. Some (n + 1)) are.count
