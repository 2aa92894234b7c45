-- Which tables come up: those whose rows are right.
--     IsDraft name draft      a draft under its name
--     HasRoom drafts name     the name is a draft's, or one more draft is within the limit
--     IsValid t
use Rattle.std.specs.Prelude.{◌≡◌, ℕ, ◌<◌, ◌≤◌, Bool, true, List, None, length}
use Rattle.std.specs.List.{AllByRecursion, IsDistinct}
use Rattle.std.specs.List.Sorted.{IsStrictlySortedBy}
use Rattle.std.specs.Map.{keys_of}
use Rattle.pb_base.specs.Names.{is_name}
use Rattle.pb_base.specs.declared.limits.TheConstants.{MOST_TEXT_BYTES}
use Rattle.order_desk.specs.declared.draft.Draft.{Draft}
use Rattle.order_desk.specs.declared.kept_book.KeptBook.{KeptBook}
use Rattle.order_desk.specs.declared.limits.TheConstants.{MOST_BOOKS, MOST_DRAFTS, MOST_ORDERS, MOST_REVISION}
use Rattle.order_desk.specs.Fits.{IsReleaseOf, IsPlaced}
use Rattle.order_desk.specs.Tables.{Tables, by_name, by_key, draft_at, is_of}

pub record IsDraft (name : List ℕ) (d : Draft) : Type 0 where
  pub draft_name : is_name name ≡ true
  pub owner_name : is_name d.owner ≡ true
  pub least : 1 ≤ d.revision
  pub most : d.revision ≤ MOST_REVISION
  pub size : length d.text ≤ MOST_TEXT_BYTES

abbrev pub HasRoom : List (List ℕ × Draft) → List ℕ → Type 0
HasRoom drafts name = draft_at drafts name ≡ None → length drafts < MOST_DRAFTS

-- two books were released of one revision of a draft
abbrev pub are_of_one : KeptBook → KeptBook → Bool
are_of_one a b = is_of b.draft b.revision a

pub record IsValid (t : Tables) : Type 0 where
  pub drafts_in_order : IsStrictlySortedBy by_name (keys_of t.drafts)
  pub few_drafts : length t.drafts ≤ MOST_DRAFTS
  pub drafts : AllByRecursion (λ e. IsDraft e.0 e.1) t.drafts
  pub few_books : length t.books ≤ MOST_BOOKS
  pub books : AllByRecursion (λ b. IsReleaseOf t.drafts b.draft b.revision b.released) t.books
  pub released_once : IsDistinct are_of_one t.books
  pub orders_in_order : IsStrictlySortedBy by_key (keys_of t.orders)
  pub few_orders : length t.orders ≤ MOST_ORDERS
  pub orders : AllByRecursion (λ e. IsPlaced t.books e.0.caller e.0.number e.1) t.orders
