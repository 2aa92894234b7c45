-- The rows of a store, and what each call makes of them.
use Rattle.std.specs.Prelude.{ℕ, ◌==◌, Bool, ◌&&◌, List, [], length, if◌then◌else◌}
use Rattle.std.specs.Ordering.{nat_cmp}
use Rattle.std.specs.List.Sorted.{IsStrictlySortedBy}
use Rattle.keeper.specs.declared.rows.DraftRow.{DraftRow}
use Rattle.keeper.specs.declared.rows.BookRow.{BookRow}
use Rattle.keeper.specs.declared.rows.OrderRow.{OrderRow}
use Rattle.keeper.specs.declared.rows.Rows.{Rows}
use Rattle.keeper.specs.Keys.{by_name, by_number, by_caller}
use Rattle.keeper.specs.Put.{put}

-- the form of the store, and its tables as plain lists
pub record Kept : Type 0 where
  pub form : ℕ
  pub drafts : List DraftRow
  pub books : List BookRow
  pub orders : List OrderRow
  pub withdrawn : List ℕ

abbrev pub kept_of : Rows → Kept
kept_of r = record {
  form = r.form;
  drafts = r.drafts.items;
  books = r.books.items;
  orders = r.orders.items;
  withdrawn = r.withdrawn.items;
}

-- a store without rows
abbrev pub bare : ℕ → Kept
bare form = record { form = form; drafts = []; books = []; orders = []; withdrawn = [] }

abbrev pub with_draft : DraftRow → Kept → Kept
with_draft row k = record k { drafts = put by_name row k.drafts }

abbrev pub with_book : BookRow → Kept → Kept
with_book row k = record k { books = put by_number row k.books }

abbrev pub with_order : OrderRow → Kept → Kept
with_order row k = record k { orders = put by_caller row k.orders }

abbrev pub with_withdrawn : ℕ → Kept → Kept
with_withdrawn number k = record k { withdrawn = put nat_cmp number k.withdrawn }

-- nothing was ever kept in it: no form was set, and there are no rows
abbrev pub is_empty : Kept → Bool
is_empty k =
    k.form == 0 && length k.drafts == 0 && length k.books == 0 && length k.orders == 0
    && length k.withdrawn == 0

-- an empty store gets form 2, and every other stays
abbrev pub begun : Kept → Kept
begun k = if is_empty k then bare 2 else k

-- a store of form 1 gets form 2, and every other stays
abbrev pub migrated : Kept → Kept
migrated k = if k.form == 1 then record k { form = 2 } else k

-- each table has its rows in the order of their keys, and no key twice
pub record IsInOrder (k : Kept) : Type 0 where
  pub drafts : IsStrictlySortedBy by_name k.drafts
  pub books : IsStrictlySortedBy by_number k.books
  pub orders : IsStrictlySortedBy by_caller k.orders
  pub withdrawn : IsStrictlySortedBy nat_cmp k.withdrawn
