-- What the desk keeps.
--     Tables                        the drafts by their names, the books in the sequence of their releases, and the orders by
--                                   their callers and numbers: each table in the order of its keys, no key twice
--     State                         these, and what the keeper of the rows tells of its faults, and of how many calls were
--                                   made of it
--     draft_at, book_at, order_at   what stands at a key, if anything does
--     with_draft, with_book, ..     the tables with one change
use Rattle.std.specs.Prelude.{ℕ, ◌-◌, ◌==◌, Bool, true, ◌&&◌, List, [], ◌∷◌, ◌++◌, Option, None, slice_get, slice_set, if◌then◌else◌}
use Rattle.std.specs.List.{position_from}
use Rattle.std.specs.Map.{lookup}
use Rattle.std.specs.BTreeMap.{insert_entry, is_at}
use Rattle.std.specs.Ordering.{nat_cmp, ordering_then}
use Rattle.std.specs.Cmp.Lexicographic.{slice_cmp}
use Rattle.std.specs.declared.cmp.Ordering.{Ordering}
use Rattle.pb_base.specs.Names.{same_name}
use Rattle.pb_outside.specs.Faults.{Faults}
use Rattle.desk_words.specs.declared.order_words.OrderWords.{OrderWords}
use Rattle.order_desk.specs.declared.draft.Draft.{Draft}
use Rattle.order_desk.specs.declared.kept_book.KeptBook.{KeptBook}
use Rattle.order_desk.specs.declared.order_key.OrderKey.{OrderKey}

pub record Tables : Type 0 where
  pub drafts : List (List ℕ × Draft)
  pub books : List KeptBook
  pub orders : List (OrderKey × OrderWords)

pub record State : Type 0 where
  pub tables : Tables
  pub faults : Faults
  pub calls : Option ℕ

-- names by their bytes
abbrev pub by_name : List ℕ → List ℕ → Ordering
by_name = slice_cmp nat_cmp

-- orders by their callers, and those of one caller by their numbers
abbrev pub by_key : OrderKey → OrderKey → Ordering
by_key a b = ordering_then (by_name a.caller b.caller) (nat_cmp a.number b.number)

abbrev pub key_of : List ℕ → ℕ → OrderKey
key_of caller number = record { caller = caller; number = number }

abbrev pub draft_at : List (List ℕ × Draft) → List ℕ → Option Draft
draft_at drafts name = lookup (is_at (by_name name)) drafts

-- book number k is the one at place k, counted from 1
abbrev pub book_at : List KeptBook → ℕ → Option KeptBook
book_at books number = if number == 0 then None else slice_get books (number - 1)

abbrev pub order_at : List (OrderKey × OrderWords) → OrderKey → Option OrderWords
order_at orders key = lookup (is_at (by_key key)) orders

-- the book was released of this revision of the draft
abbrev pub is_of : List ℕ → ℕ → KeptBook → Bool
is_of draft revision book = same_name book.draft draft && book.revision == revision

-- the number of the book of this revision of a draft, if it was released
abbrev pub released_as : List KeptBook → List ℕ → ℕ → Option ℕ
released_as books draft revision = position_from (is_of draft revision) 1 books

abbrev pub with_draft : Tables → List ℕ → Draft → Tables
with_draft t name draft = record t { drafts = insert_entry by_name t.drafts name draft }

-- behind the other books
abbrev pub with_book : Tables → KeptBook → Tables
with_book t book = record t { books = t.books ++ book ∷ [] }

-- the book that has the number is out of force
abbrev pub with_withdrawn : Tables → ℕ → KeptBook → Tables
with_withdrawn t number book = record t { books = slice_set t.books (number - 1) (record book { withdrawn = true }) }

abbrev pub with_order : Tables → OrderKey → OrderWords → Tables
with_order t key order = record t { orders = insert_entry by_key t.orders key order }
