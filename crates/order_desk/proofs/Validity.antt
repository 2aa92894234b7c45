-- Valid tables stay valid with each change that a fitting event makes.
use Rattle.std.proofs.Common.{◌≡◌, ℕ, ◌+◌, ◌-◌, ◌<◌, ◌≤◌, zero, suc, Bool, true, false, cond, List, [], ◌∷◌, ◌++◌, Option, None, Some, length, refl, ap, subst, arith}
use Rattle.std.specs.Prelude.{slice_get, slice_set, is_some}
use Rattle.std.specs.List.{AllByRecursion, IsDistinct, position_from}
use Rattle.desk_words.specs.declared.order_words.OrderWords.{OrderWords}
use Rattle.order_desk.specs.declared.draft.Draft.{Draft}
use Rattle.order_desk.specs.declared.kept_book.KeptBook.{KeptBook}
use Rattle.order_desk.specs.declared.limits.TheConstants.{MOST_BOOKS, MOST_DRAFTS, MOST_ORDERS}
use Rattle.order_desk.specs.declared.order_key.OrderKey.{OrderKey}
use Rattle.order_desk.specs.Fits.{IsReleaseOf, IsPlaced}
use Rattle.order_desk.specs.History.{Stays, IsLaterDraft, IsLaterBook}
use Rattle.order_desk.specs.Tables.{Tables, draft_at, book_at, order_at, is_of, released_as, with_draft, with_book, with_withdrawn, with_order}
use Rattle.order_desk.specs.Valid.{HasRoom, IsDraft, IsValid, are_of_one}
use Rattle.order_desk.proofs.Entries.{weaker, sorted-insert, all-insert, length-new, length-over}
use Rattle.order_desk.proofs.Growth.{grows-with_draft, grows-with_book, grows-with_withdrawn, place_of_number}
use Rattle.order_desk.proofs.Keys.{by_name_total, by_name_exact, by_key_total, by_key_exact}
use Rattle.order_desk.specs.Lasting.{release_stays, placed_stays}

-- ---- a draft

few_after : (t : Tables) (name : List ℕ) (draft : Draft) → IsValid t → HasRoom t.drafts name
    → length (with_draft t name draft).drafts ≤ MOST_DRAFTS
few_after t name draft valid room = by (draft_at t.drafts name) refl
  where
    by : (o : Option Draft) → draft_at t.drafts name ≡ o → length (with_draft t name draft).drafts ≤ MOST_DRAFTS
    by None is = omega (arith, length-new by_name_total by_name_exact name draft t.drafts is, room is)
    by (Some old) is =
        omega (arith, length-over by_name_total by_name_exact name draft t.drafts valid.drafts_in_order (ap is_some is), valid.few_drafts)

pub valid-with_draft : (t : Tables) (name : List ℕ) (draft : Draft) → IsValid t → IsDraft name draft
    → HasRoom t.drafts name → Stays IsLaterDraft (draft_at t.drafts name) (Some draft)
    → IsValid (with_draft t name draft)
valid-with_draft t name draft valid form room later = record {
  drafts_in_order = sorted-insert by_name_total by_name_exact name draft t.drafts valid.drafts_in_order;
  few_drafts = few_after t name draft valid room;
  drafts = all-insert by_name_total by_name_exact name draft (λ e. IsDraft e.0 e.1) form t.drafts valid.drafts;
  few_books = valid.few_books;
  books = weaker _ _
      (λ b. release_stays t.drafts (with_draft t name draft).drafts b.draft b.revision b.released
      ((grows-with_draft t name draft later).drafts b.draft))
      t.books valid.books;
  released_once = valid.released_once;
  orders_in_order = valid.orders_in_order;
  few_orders = valid.few_orders;
  orders = valid.orders;
}

-- ---- a book

pub all-push : {A : Type 0} (P : A → Type 0) (xs : List A) (x : A) → AllByRecursion P xs → P x → AllByRecursion P (xs ++ x ∷ [])
all-push P [] x all so = (so, tt)
all-push P (y ∷ xs) x all so = (all.0, all-push P xs x all.1 so)

length-push : {A : Type 0} (xs : List A) (x : A) → length (xs ++ x ∷ []) ≡ suc (length xs)
length-push [] x = refl
length-push (y ∷ xs) x = ap suc (length-push xs x)

none_of : (draft : List ℕ) (revision number : ℕ) (books : List KeptBook) → position_from (is_of draft revision) number books ≡ None
    → AllByRecursion (λ b. is_of draft revision b ≡ false) books
none_of draft revision number [] none = tt
none_of draft revision number (b ∷ bs) none = by (is_of draft revision b) refl none (none_of draft revision (number + 1) bs)
  where
    Rest : Option ℕ
    Rest = position_from (is_of draft revision) (number + 1) bs

    by : (t : Bool) → is_of draft revision b ≡ t → cond t (Some number) Rest ≡ None
        → (Rest ≡ None → AllByRecursion (λ x. is_of draft revision x ≡ false) bs) → AllByRecursion (λ x. is_of draft revision x ≡ false) (b ∷ bs)
    by true is h later = cc
    by false is h later = (is, later h)

distinct-push : (books : List KeptBook) (book : KeptBook) → IsDistinct are_of_one books
    → AllByRecursion (λ b. is_of book.draft book.revision b ≡ false) books → IsDistinct are_of_one (books ++ book ∷ [])
unfolding IsDistinct
distinct-push [] book distinct none = (tt, tt)
distinct-push (b ∷ bs) book distinct none = (all-push (λ y. are_of_one b y ≡ false) bs book distinct.0 none.0, distinct-push bs book distinct.1 none.1)

orders-after : (t : Tables) (books : List KeptBook) → ((book : ℕ) → Stays IsLaterBook (book_at t.books book) (book_at books book)) → IsValid t
    → AllByRecursion (λ (e : OrderKey × OrderWords). IsPlaced books e.0.caller e.0.number e.1) t.orders
orders-after t books so valid = weaker _ _ (λ e. placed_stays t.books books e.0.caller e.0.number e.1 so) t.orders valid.orders

pub valid-with_book : (t : Tables) (book : KeptBook) → IsValid t → IsReleaseOf t.drafts book.draft book.revision book.released
    → length t.books < MOST_BOOKS → released_as t.books book.draft book.revision ≡ None → IsValid (with_book t book)
valid-with_book t book valid release room none = record {
  drafts_in_order = valid.drafts_in_order;
  few_drafts = valid.few_drafts;
  drafts = valid.drafts;
  few_books = omega (arith, length-push t.books book, room);
  books = all-push (λ b. IsReleaseOf t.drafts b.draft b.revision b.released) t.books book valid.books release;
  released_once = distinct-push t.books book valid.released_once (none_of book.draft book.revision 1 t.books none);
  orders_in_order = valid.orders_in_order;
  few_orders = valid.few_orders;
  orders = orders-after t (with_book t book).books (grows-with_book t book).books valid;
}

-- ---- a book out of force

abbrev withdrawn_of : KeptBook → KeptBook
withdrawn_of b = record b { withdrawn = true }

pub all-set : (P : KeptBook → Type 0) → ((b : KeptBook) → P b → P (withdrawn_of b)) → (books : List KeptBook) (place : ℕ) (book : KeptBook)
    → slice_get books place ≡ Some book → AllByRecursion P books → AllByRecursion P (slice_set books place (withdrawn_of book))
all-set P so [] place book is all = tt
all-set P so (b ∷ bs) zero book is all = let same : b ≡ book = cc in (so book (subst P same all.0), all.1)
all-set P so (b ∷ bs) (suc place) book is all = (all.0, all-set P so bs place book is all.1)

length-set_book : (books : List KeptBook) (place : ℕ) (book : KeptBook) → length (slice_set books place book) ≡ length books
length-set_book [] place book = refl
length-set_book (b ∷ bs) zero book = refl
length-set_book (b ∷ bs) (suc place) book = ap suc (length-set_book bs place book)

distinct-set : (books : List KeptBook) (place : ℕ) (book : KeptBook) → slice_get books place ≡ Some book → IsDistinct are_of_one books
    → IsDistinct are_of_one (slice_set books place (withdrawn_of book))
unfolding IsDistinct
distinct-set [] place book is distinct = tt
distinct-set (b ∷ bs) zero book is distinct =
    let same : b ≡ book = cc in
    (subst (λ x. AllByRecursion (λ y. are_of_one x y ≡ false) bs) same distinct.0, distinct.1)
distinct-set (b ∷ bs) (suc place) book is distinct =
    (all-set (λ y. are_of_one b y ≡ false) (λ x so. so) bs place book is distinct.0, distinct-set bs place book is distinct.1)

pub valid-with_withdrawn : (t : Tables) (number : ℕ) (book : KeptBook) → IsValid t → book_at t.books number ≡ Some book
    → IsValid (with_withdrawn t number book)
valid-with_withdrawn t number book valid there =
    let at : slice_get t.books (number - 1) ≡ Some book = place_of_number t.books number book there in
    record {
      drafts_in_order = valid.drafts_in_order;
      few_drafts = valid.few_drafts;
      drafts = valid.drafts;
      few_books = omega (arith, length-set_book t.books (number - 1) (withdrawn_of book), valid.few_books);
      books = all-set (λ b. IsReleaseOf t.drafts b.draft b.revision b.released) (λ b so. so) t.books (number - 1) book at valid.books;
      released_once = distinct-set t.books (number - 1) book at valid.released_once;
      orders_in_order = valid.orders_in_order;
      few_orders = valid.few_orders;
      orders = orders-after t (with_withdrawn t number book).books (grows-with_withdrawn t number book there).books valid;
    }

-- ---- an order

pub valid-with_order : (t : Tables) (key : OrderKey) (order : OrderWords) → IsValid t → IsPlaced t.books key.caller key.number order
    → length t.orders < MOST_ORDERS → order_at t.orders key ≡ None → IsValid (with_order t key order)
valid-with_order t key order valid placed room none = record {
  drafts_in_order = valid.drafts_in_order;
  few_drafts = valid.few_drafts;
  drafts = valid.drafts;
  few_books = valid.few_books;
  books = valid.books;
  released_once = valid.released_once;
  orders_in_order = sorted-insert by_key_total by_key_exact key order t.orders valid.orders_in_order;
  few_orders = omega (arith, length-new by_key_total by_key_exact key order t.orders none, room);
  orders = all-insert by_key_total by_key_exact key order (λ e. IsPlaced t.books e.0.caller e.0.number e.1) placed t.orders valid.orders;
}
