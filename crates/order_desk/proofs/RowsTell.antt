-- Rows tell the tables: valid tables that have the same rows are the same.
use Rattle.std.proofs.Common.{◌≡◌, ℕ, ◌+◌, ◌<◌, Bool, true, false, List, [], ◌∷◌, Ok, map, refl, sym, ap, ◌∙◌, arith}
use Rattle.std.specs.Prelude.{Result, if◌then◌else◌}
use Rattle.std.specs.List.{AllByRecursion}
use Rattle.desk_words.specs.declared.order_words.OrderWords.{OrderWords}
use Rattle.book_model.specs.Contents.{Contents}
use Rattle.book_text.specs.BookText.{book_of}
use Rattle.book_text.specs.declared.fault.BookFault.{BookFault}
use Rattle.keeper.specs.Rows.{Kept}
use Rattle.keeper.specs.declared.rows.DraftRow.{DraftRow}
use Rattle.keeper.specs.declared.rows.OrderRow.{OrderRow}
use Rattle.release.specs.Release.{Release, IsRelease}
use Rattle.order_desk.specs.declared.draft.Draft.{Draft}
use Rattle.order_desk.specs.declared.kept_book.KeptBook.{KeptBook}
use Rattle.order_desk.specs.declared.order_key.OrderKey.{OrderKey}
use Rattle.order_desk.specs.Fits.{AreCodes}
use Rattle.order_desk.specs.RightRows.{codes_in}
use Rattle.order_desk.specs.Rows.{book_row, book_rows, draft_row, order_row, rows_of, withdrawn_rows}
use Rattle.order_desk.specs.Tables.{Tables}
use Rattle.order_desk.specs.Valid.{IsValid}
use Rattle.order_desk.proofs.Entries.{weaker}
use Rattle.order_desk.proofs.StartCodes.{codes_same}

-- ---- drafts

draft_back : DraftRow → List ℕ × Draft
draft_back row = (row.name, record { owner = row.owner; revision = row.revision; text = row.text })

drafts_back : (es : List (List ℕ × Draft)) → map draft_back (map draft_row es) ≡ es
unfolding draft_back
drafts_back [] = refl
drafts_back (e ∷ es) = ap (λ l. e ∷ l) (drafts_back es)

-- ---- orders

order_back : OrderRow → OrderKey × OrderWords
order_back row = (record { caller = row.caller; number = row.number }, record { book = row.book; day = row.day; codes = codes_in row.codes })

orders_back : (os : List (OrderKey × OrderWords)) → AllByRecursion (λ o. AreCodes o.1.codes) os → map order_back (map order_row os) ≡ os
unfolding order_back
orders_back [] codes = refl
orders_back (o ∷ os) codes =
    ap (λ names. (o.0, record o.1 { codes = names }) ∷ map order_back (map order_row os)) (codes_same o.1.codes codes.0)
    ∙ ap (λ l. o ∷ l) (orders_back os codes.1)

-- ---- books

-- a withdrawn book's number is that of none behind it
not_behind : (m n : ℕ) (bs : List KeptBook) (rest : List ℕ) → n < m → withdrawn_rows m bs ≡ n ∷ rest → ⊥
not_behind m n [] rest less is = cc
not_behind m n (b ∷ bs) rest less is = by b.withdrawn (not_behind (m + 1) n bs rest (omega (arith, less))) is
  where
    by : (w : Bool) → (withdrawn_rows (m + 1) bs ≡ n ∷ rest → ⊥)
        → (if w then m ∷ withdrawn_rows (m + 1) bs else withdrawn_rows (m + 1) bs) ≡ n ∷ rest → ⊥
    by true behind h = let same : m ≡ n = cc in omega (arith, same, less)
    by false behind h = behind h

-- whether the first of the books is withdrawn, and which of those behind it
same_first : (n : ℕ) (w x : Bool) (bs cs : List KeptBook)
    → (if w then n ∷ withdrawn_rows (n + 1) bs else withdrawn_rows (n + 1) bs)
    ≡ (if x then n ∷ withdrawn_rows (n + 1) cs else withdrawn_rows (n + 1) cs)
    → (w ≡ x) × (withdrawn_rows (n + 1) bs ≡ withdrawn_rows (n + 1) cs)
same_first n true true bs cs same = (refl, cc)
same_first n false false bs cs same = (refl, same)
same_first n true false bs cs same = absurd (not_behind (n + 1) n cs (withdrawn_rows (n + 1) bs) (omega arith) (sym same))
same_first n false true bs cs same = absurd (not_behind (n + 1) n bs (withdrawn_rows (n + 1) cs) (omega arith) same)

read_once : (read : Result Contents BookFault) (b c : Contents) → read ≡ Ok b → read ≡ Ok c → b ≡ c
read_once read b c first second = cc

same_release : (r s : Release) → IsRelease r → IsRelease s → r.text ≡ s.text → r.cert ≡ s.cert → r ≡ s
same_release r s r_is s_is text cert =
    let book : r.book ≡ s.book = read_once (book_of s.text) r.book s.book (ap book_of (sym text) ∙ r_is.reads) s_is.reads in
    λ i. record { text = text i; book = book i; cert = cert i }

same_books : (n : ℕ) (bs cs : List KeptBook) → AllByRecursion (λ b. IsRelease b.released) bs → AllByRecursion (λ b. IsRelease b.released) cs
    → book_rows n bs ≡ book_rows n cs → withdrawn_rows n bs ≡ withdrawn_rows n cs → bs ≡ cs
same_books n [] [] bs_are cs_are rows withdrawn = refl
same_books n [] (c ∷ cs) bs_are cs_are rows withdrawn = cc
same_books n (b ∷ bs) [] bs_are cs_are rows withdrawn = cc
same_books n (b ∷ bs) (c ∷ cs) bs_are cs_are rows withdrawn =
    let first : book_row n b ≡ book_row n c = cc in
    let rest : book_rows (n + 1) bs ≡ book_rows (n + 1) cs = cc in
    let out = same_first n b.withdrawn c.withdrawn bs cs withdrawn in
    let released = same_release b.released c.released bs_are.0 cs_are.0 (λ i. (first i).text) (λ i. (first i).cert) in
    let later = same_books (n + 1) bs cs bs_are.1 cs_are.1 rest out.1 in
    λ i. record { draft = (first i).draft; revision = (first i).revision; released = released i; withdrawn = out.0 i } ∷ later i

-- ---- all

pub rows_tell : (t u : Tables) → rows_of t ≡ rows_of u → IsValid t → IsValid u → t ≡ u
rows_tell t u same t_is u_is =
    let drafts : t.drafts ≡ u.drafts =
    sym (drafts_back t.drafts) ∙ ap (λ (k : Kept). map draft_back k.drafts) same ∙ drafts_back u.drafts in
    let orders : t.orders ≡ u.orders =
    sym (orders_back t.orders (codes_of t t_is)) ∙ ap (λ (k : Kept). map order_back k.orders) same ∙ orders_back u.orders (codes_of u u_is) in
    let books : t.books ≡ u.books =
    same_books 1 t.books u.books (released_of t t_is) (released_of u u_is) (λ i. (same i).books) (λ i. (same i).withdrawn) in
    λ i. record { drafts = drafts i; books = books i; orders = orders i }
  where
    codes_of : (v : Tables) → IsValid v → AllByRecursion (λ o. AreCodes o.1.codes) v.orders
    codes_of v valid = weaker _ _ (λ o is. is.under.codes) v.orders valid.orders

    released_of : (v : Tables) → IsValid v → AllByRecursion (λ b. IsRelease b.released) v.books
    released_of v valid = weaker _ _ (λ b is. is.release) v.books valid.books
