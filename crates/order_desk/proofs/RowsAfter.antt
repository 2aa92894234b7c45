-- The rows of tables with one change are the rows that a put leaves.
use Rattle.std.proofs.Common.{◌≡◌, ℕ, ◌+◌, ◌-◌, ◌<◌, ◌≤◌, zero, suc, Bool, true, false, List, [], ◌∷◌, ◌++◌, Some, length, refl, sym, ap, ◌∙◌, arith}
use Rattle.std.specs.Prelude.{slice_get, slice_set, if◌then◌else◌}
use Rattle.std.specs.Ordering.{nat_cmp}
use Rattle.std.specs.declared.cmp.Ordering.TheVariants.{Less, Greater}
use Rattle.keeper.specs.Keys as keys
use Rattle.keeper.specs.Put.{put, put_by}
use Rattle.keeper.specs.Rows as kept
use Rattle.desk_words.specs.declared.order_words.OrderWords.{OrderWords}
use Rattle.order_desk.specs.declared.draft.Draft.{Draft}
use Rattle.order_desk.specs.declared.kept_book.KeptBook.{KeptBook}
use Rattle.order_desk.specs.declared.order_key.OrderKey.{OrderKey}
use Rattle.order_desk.specs.Rows.{draft_row, book_row, order_row, book_rows, withdrawn_rows, rows_of}
use Rattle.order_desk.specs.Tables.{Tables, book_at, with_draft, with_book, with_withdrawn, with_order}
use Rattle.order_desk.proofs.Entries.{map-insert}
use Rattle.order_desk.proofs.Growth.{place_of_number}
use Rattle.order_desk.proofs.Keys.{by_name_total, by_name_exact, by_key_total, by_key_exact}

pub rows-with_draft : (t : Tables) (name : List ℕ) (draft : Draft) → rows_of (with_draft t name draft) ≡ kept.with_draft (draft_row (name, draft)) (rows_of t)
rows-with_draft t name draft =
    ap (λ drafts. record (rows_of t) { drafts = drafts })
    (map-insert by_name_total by_name_exact name draft draft_row keys.by_name (λ a b. refl) t.drafts)

pub rows-with_order : (t : Tables) (key : OrderKey) (order : OrderWords) → rows_of (with_order t key order) ≡ kept.with_order (order_row (key, order)) (rows_of t)
rows-with_order t key order =
    ap (λ orders. record (rows_of t) { orders = orders })
    (map-insert by_key_total by_key_exact key order order_row keys.by_caller (λ a b. refl) t.orders)

above : (m n : ℕ) → n < m → nat_cmp m n ≡ Greater
above m n less = grind arith

below : (m n : ℕ) → m < n → nat_cmp m n ≡ Less
below m n less = grind arith

-- a book that has the next number goes behind the others
book_rows-push : (n m : ℕ) (books : List KeptBook) (book : KeptBook) → m ≡ n + length books
    → book_rows n (books ++ book ∷ []) ≡ put keys.by_number (book_row m book) (book_rows n books)
book_rows-push n m [] book is = ap (λ k. book_row k book ∷ []) (omega (arith, is))
book_rows-push n m (b ∷ bs) book is =
    ap (λ rows. book_row n b ∷ rows) (book_rows-push (n + 1) m bs book (omega (arith, is)))
    ∙ sym (ap (λ o. put_by o (book_row m book) (book_row n b) (book_rows (n + 1) bs) (put keys.by_number (book_row m book) (book_rows (n + 1) bs)))
    (above m n (omega (arith, is))))

pub withdrawn_rows-push : (n : ℕ) (books : List KeptBook) (book : KeptBook) → book.withdrawn ≡ false
    → withdrawn_rows n (books ++ book ∷ []) ≡ withdrawn_rows n books
withdrawn_rows-push n [] book is = ap (λ b. if b then n ∷ [] else []) is
withdrawn_rows-push n (b ∷ bs) book is =
    ap (λ rows. if b.withdrawn then n ∷ rows else rows) (withdrawn_rows-push (n + 1) bs book is)

pub rows-with_book : (t : Tables) (book : KeptBook) → book.withdrawn ≡ false
    → rows_of (with_book t book) ≡ kept.with_book (book_row (length t.books + 1) book) (rows_of t)
rows-with_book t book is =
    ap (λ books. record (rows_of t) { books = books; withdrawn = withdrawn_rows 1 (t.books ++ book ∷ []) })
    (book_rows-push 1 (length t.books + 1) t.books book (omega arith))
    ∙ ap (λ withdrawn. record (rows_of t) { books = put keys.by_number (book_row (length t.books + 1) book) (book_rows 1 t.books); withdrawn = withdrawn })
    (withdrawn_rows-push 1 t.books book is)

-- the number of a book goes in front of those of later ones
put_in_front : (number n : ℕ) (books : List KeptBook) → number < n → put nat_cmp number (withdrawn_rows n books) ≡ number ∷ withdrawn_rows n books
put_in_front number n [] less = refl
put_in_front number n (b ∷ bs) less = by b.withdrawn (put_in_front number (n + 1) bs (omega (arith, less)))
  where
    rest : List ℕ
    rest = withdrawn_rows (n + 1) bs

    by : (w : Bool) → put nat_cmp number rest ≡ number ∷ rest
        → put nat_cmp number (if w then n ∷ rest else rest) ≡ number ∷ (if w then n ∷ rest else rest)
    by true later = ap (λ o. put_by o number n rest (put nat_cmp number rest)) (below number n less)
    by false later = later

pub withdrawn_rows-set : (n number place : ℕ) (books : List KeptBook) (book : KeptBook) → number ≡ n + place → slice_get books place ≡ Some book
    → book.withdrawn ≡ false
    → withdrawn_rows n (slice_set books place (record book { withdrawn = true })) ≡ put nat_cmp number (withdrawn_rows n books)
withdrawn_rows-set n number place [] book at is in_force = cc
withdrawn_rows-set n number zero (b ∷ bs) book at is in_force =
    let same : b ≡ book = cc in
    let number_is : number ≡ n = omega (arith, at) in
    ap (λ k. k ∷ withdrawn_rows (n + 1) bs) (sym number_is)
    ∙ sym (put_in_front number (n + 1) bs (omega (arith, number_is)))
    ∙ ap (λ w. put nat_cmp number (if w then n ∷ withdrawn_rows (n + 1) bs else withdrawn_rows (n + 1) bs))
    (sym (ap (λ x. x.withdrawn) same ∙ in_force))
withdrawn_rows-set n number (suc place) (b ∷ bs) book at is in_force =
    by b.withdrawn (withdrawn_rows-set (n + 1) number place bs book (omega (arith, at)) is in_force)
  where
    later : List ℕ
    later = withdrawn_rows (n + 1) (slice_set bs place (record book { withdrawn = true }))

    rest : List ℕ
    rest = withdrawn_rows (n + 1) bs

    by : (w : Bool) → later ≡ put nat_cmp number rest → (if w then n ∷ later else later) ≡ put nat_cmp number (if w then n ∷ rest else rest)
    by true so = ap (λ l. n ∷ l) so ∙ sym (ap (λ o. put_by o number n rest (put nat_cmp number rest)) (above number n (omega (arith, at))))
    by false so = so

pub book_rows-set : (n place : ℕ) (books : List KeptBook) (book : KeptBook) → slice_get books place ≡ Some book
    → book_rows n (slice_set books place (record book { withdrawn = true })) ≡ book_rows n books
book_rows-set n place [] book is = refl
book_rows-set n zero (b ∷ bs) book is = let same : b ≡ book = cc in ap (λ x. book_row n x ∷ book_rows (n + 1) bs) (sym same)
book_rows-set n (suc place) (b ∷ bs) book is = ap (λ rows. book_row n b ∷ rows) (book_rows-set (n + 1) place bs book is)

pub rows-with_withdrawn : (t : Tables) (number : ℕ) (book : KeptBook) → book_at t.books number ≡ Some book → 1 ≤ number → book.withdrawn ≡ false
    → rows_of (with_withdrawn t number book) ≡ kept.with_withdrawn number (rows_of t)
rows-with_withdrawn t number book there least in_force =
    let at : slice_get t.books (number - 1) ≡ Some book = place_of_number t.books number book there in
    ap (λ books. record (rows_of t) { books = books; withdrawn = (rows_of (with_withdrawn t number book)).withdrawn })
    (book_rows-set 1 (number - 1) t.books book at)
    ∙ ap (λ withdrawn. record (rows_of t) { withdrawn = withdrawn })
    (withdrawn_rows-set 1 number (number - 1) t.books book (omega (arith, least)) at in_force)
