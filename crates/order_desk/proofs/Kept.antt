-- After each write the tables are valid, and the rows are theirs where they are told.
use Rattle.std.proofs.Common.{◌≡◌, ℕ, ◌+◌, ◌-◌, ◌<◌, ◌≤◌, zero, suc, true, false, List, [], ◌∷◌, ◌++◌, Option, None, Some, length, refl, sym, ap, subst, arith}
use Rattle.std.specs.Prelude.{Result, Ok, Err, OnOk, OnErr, IsSomeAnd, slice_get, slice_set}
use Rattle.std.specs.BTreeMap.{insert_entry}
use Rattle.std.specs.Option.{option_map}
use Rattle.pb_outside.specs.declared.error.OutError.{OutError}
use Rattle.keeper.specs.Rows.{Kept}
use Rattle.keeper.specs.Rows as kept
use Rattle.desk_words.specs.declared.order_words.OrderWords.{OrderWords}
use Rattle.order_desk.specs.declared.draft.Draft.{Draft}
use Rattle.order_desk.specs.declared.kept_book.KeptBook.{KeptBook}
use Rattle.order_desk.specs.declared.limits.TheConstants.{MOST_BOOKS, MOST_ORDERS}
use Rattle.order_desk.specs.declared.order_key.OrderKey.{OrderKey}
use Rattle.order_desk.specs.Fits.{IsReleaseOf, IsPlaced}
use Rattle.order_desk.specs.History.{Stays, IsLaterDraft}
use Rattle.order_desk.specs.Rows.{IsDesk, draft_row, book_row, order_row}
use Rattle.order_desk.specs.Tables.{Tables, by_name, by_key, draft_at, book_at, order_at, released_as, with_draft, with_book, with_withdrawn, with_order}
use Rattle.order_desk.specs.Valid.{HasRoom, IsDraft}
use Rattle.order_desk.specs.Writing.{IsWritten}
use Rattle.order_desk.proofs.Following.{desk_write}
use Rattle.order_desk.proofs.Growth.{place_of_number}
use Rattle.order_desk.proofs.RowsAfter.{rows-with_draft, rows-with_book, rows-with_withdrawn, rows-with_order}
use Rattle.order_desk.proofs.Validity.{valid-with_draft, valid-with_book, valid-with_withdrawn, valid-with_order}

written_as : {A B : Type 0} (f : A → B) (written : Result (Unit {0}) OutError) (old changed new : A) → OnOk written (new ≡ changed)
    → OnErr written (new ≡ old) → IsWritten written (f old) (f changed) (f new)
written_as f (Ok done) old changed new is unchanged = record { done = ap f is; unchanged = tt }
written_as f (Err fault) old changed new is unchanged = record { done = tt; unchanged = ap f unchanged }

-- a book that is there has a number from 1 on
pub least_number : (books : List KeptBook) (number : ℕ) (book : KeptBook) → book_at books number ≡ Some book → 1 ≤ number
least_number books zero book is = cc
least_number books (suc number) book is = omega arith

module _ (drafts : List (List ℕ × Draft)) (books : List KeptBook) (orders : List (OrderKey × OrderWords)) (u : Tables)
    (told later_told : Option Kept) (written : Result (Unit {0}) OutError) where
  abbrev t : Tables
  t = record { drafts = drafts; books = books; orders = orders }

  pub draft_kept : t ≡ u → IsDesk t told → (name : List ℕ) (draft : Draft) → IsDraft name draft
      → HasRoom u.drafts name → Stays IsLaterDraft (draft_at u.drafts name) (Some draft)
      → (new : List (List ℕ × Draft)) → OnOk written (new ≡ insert_entry by_name drafts name draft) → OnErr written (new ≡ drafts)
      → OnOk written (later_told ≡ option_map (kept.with_draft (draft_row (name, draft))) told) → OnErr written (later_told ≡ told)
      → IsDesk (record { drafts = new; books = books; orders = orders }) later_told
  draft_kept is desk name draft form room later new done unchanged told_done untold =
      desk_write (kept.with_draft (draft_row (name, draft))) t (with_draft t name draft) (record { drafts = new; books = books; orders = orders })
      told later_told written desk
      (valid-with_draft t name draft desk.valid form
      (subst (λ (x : Tables). HasRoom x.drafts name) (sym is) room)
      (subst (λ (x : Tables). Stays IsLaterDraft (draft_at x.drafts name) (Some draft)) (sym is) later))
      (rows-with_draft t name draft)
      (written_as (λ (ds : List (List ℕ × Draft)). record { drafts = ds; books = books; orders = orders }) written drafts
      (insert_entry by_name drafts name draft) new done unchanged)
      (record { done = told_done; unchanged = untold })

  pub book_kept : t ≡ u → IsDesk t told → (book : KeptBook) → IsReleaseOf u.drafts book.draft book.revision book.released
      → length u.books < MOST_BOOKS → released_as u.books book.draft book.revision ≡ None → book.withdrawn ≡ false
      → (new : List KeptBook) → OnOk written (new ≡ books ++ book ∷ []) → OnErr written (new ≡ books)
      → OnOk written (later_told ≡ option_map (kept.with_book (book_row (length books + 1) book)) told) → OnErr written (later_told ≡ told)
      → IsDesk (record { drafts = drafts; books = new; orders = orders }) later_told
  book_kept is desk book release room fresh in_force new done unchanged told_done untold =
      desk_write (kept.with_book (book_row (length books + 1) book)) t (with_book t book) (record { drafts = drafts; books = new; orders = orders })
      told later_told written desk
      (valid-with_book t book desk.valid
      (subst (λ (x : Tables). IsReleaseOf x.drafts book.draft book.revision book.released) (sym is) release)
      (subst (λ (x : Tables). length x.books < MOST_BOOKS) (sym is) room)
      (subst (λ (x : Tables). released_as x.books book.draft book.revision ≡ None) (sym is) fresh))
      (rows-with_book t book in_force)
      (written_as (λ (bs : List KeptBook). record { drafts = drafts; books = bs; orders = orders }) written books
      (books ++ book ∷ []) new done unchanged)
      (record { done = told_done; unchanged = untold })

  pub order_kept : t ≡ u → IsDesk t told → (key : OrderKey) (order : OrderWords) → IsPlaced u.books key.caller key.number order
      → length u.orders < MOST_ORDERS → order_at u.orders key ≡ None
      → (new : List (OrderKey × OrderWords)) → OnOk written (new ≡ insert_entry by_key orders key order) → OnErr written (new ≡ orders)
      → OnOk written (later_told ≡ option_map (kept.with_order (order_row (key, order))) told) → OnErr written (later_told ≡ told)
      → IsDesk (record { drafts = drafts; books = books; orders = new }) later_told
  order_kept is desk key order placed room free new done unchanged told_done untold =
      desk_write (kept.with_order (order_row (key, order))) t (with_order t key order) (record { drafts = drafts; books = books; orders = new })
      told later_told written desk
      (valid-with_order t key order desk.valid
      (subst (λ (x : Tables). IsPlaced x.books key.caller key.number order) (sym is) placed)
      (subst (λ (x : Tables). length x.orders < MOST_ORDERS) (sym is) room)
      (subst (λ (x : Tables). order_at x.orders key ≡ None) (sym is) free))
      (rows-with_order t key order)
      (written_as (λ (os : List (OrderKey × OrderWords)). record { drafts = drafts; books = books; orders = os }) written orders
      (insert_entry by_key orders key order) new done unchanged)
      (record { done = told_done; unchanged = untold })

  withdrawn_at : IsDesk t told → (number : ℕ) (book : KeptBook) → book_at books number ≡ Some book → book.withdrawn ≡ false
      → (new : List KeptBook) → OnOk written (new ≡ slice_set books (number - 1) (record book { withdrawn = true })) → OnErr written (new ≡ books)
      → OnOk written (later_told ≡ option_map (kept.with_withdrawn number) told) → OnErr written (later_told ≡ told)
      → IsDesk (record { drafts = drafts; books = new; orders = orders }) later_told
  withdrawn_at desk number book there in_force new done unchanged told_done untold =
      desk_write (kept.with_withdrawn number) t (with_withdrawn t number book) (record { drafts = drafts; books = new; orders = orders })
      told later_told written desk
      (valid-with_withdrawn t number book desk.valid there)
      (rows-with_withdrawn t number book there (least_number books number book there) in_force)
      (written_as (λ (bs : List KeptBook). record { drafts = drafts; books = bs; orders = orders }) written books
      (slice_set books (number - 1) (record book { withdrawn = true })) new done unchanged)
      (record { done = told_done; unchanged = untold })

  pub withdrawn_kept : t ≡ u → IsDesk t told → (number : ℕ) → IsSomeAnd (book_at u.books number) (λ book. book.withdrawn ≡ false)
      → (new : List KeptBook)
      → OnOk written ((book : KeptBook) → slice_get books (number - 1) ≡ Some book → new ≡ slice_set books (number - 1) (record book { withdrawn = true }))
      → OnErr written (new ≡ books)
      → OnOk written (later_told ≡ option_map (kept.with_withdrawn (number - 1 + 1)) told) → OnErr written (later_told ≡ told)
      → IsDesk (record { drafts = drafts; books = new; orders = orders }) later_told
  withdrawn_kept is desk number some new done unchanged told_done untold =
      by (book_at books number) refl (subst (λ (x : Tables). IsSomeAnd (book_at x.books number) (λ book. book.withdrawn ≡ false)) (sym is) some)
    where
      on_book : (w : Result (Unit {0}) OutError) (book : KeptBook) → slice_get books (number - 1) ≡ Some book
          → OnOk w ((b : KeptBook) → slice_get books (number - 1) ≡ Some b → new ≡ slice_set books (number - 1) (record b { withdrawn = true }))
          → OnOk w (new ≡ slice_set books (number - 1) (record book { withdrawn = true }))
      on_book (Ok x) book at h = h book at
      on_book (Err x) book at h = tt

      by : (o : Option KeptBook) → book_at books number ≡ o → IsSomeAnd o (λ book. book.withdrawn ≡ false)
          → IsDesk (record { drafts = drafts; books = new; orders = orders }) later_told
      by None at h = absurd h
      by (Some book) at h =
          let least : 1 ≤ number = least_number books number book at in
          let back : number - 1 + 1 ≡ number = omega (arith, least) in
          withdrawn_at desk number book at h new (on_book written book (place_of_number books number book at) done) unchanged
          (subst (λ n. OnOk written (later_told ≡ option_map (kept.with_withdrawn n) told)) back told_done) untold
