-- Which events the desk takes: names are names, texts keep their limit, and what was judged outside the desk is right by what the
-- desk keeps. What fits once fits at every later step.
--     AreCodes codes                        each is the name of a code
--     IsReleaseOf drafts name revision r    r was released of the draft at that revision, which it has or has had
--     IsOrderUnder books number order       the order has such a number, and its book accepts it, in force or not
--     Fits t e                              the event e
use Rattle.std.specs.Prelude.{◌≡◌, ℕ, ◌≤◌, List, Some, true, length, All}
use Rattle.pb_base.specs.Names.{is_name, is_code_name}
use Rattle.pb_base.specs.declared.limits.TheConstants.{MOST_TEXT_BYTES}
use Rattle.release.specs.Release.{Release, IsRelease}
use Rattle.desk_words.specs.declared.order_words.OrderWords.{OrderWords}
use Rattle.order_desk.specs.declared.draft.Draft.{Draft}
use Rattle.order_desk.specs.declared.event.Event.{Event}
use Rattle.order_desk.specs.declared.event.Event.TheVariants as event
use Rattle.order_desk.specs.declared.kept_book.KeptBook.{KeptBook}
use Rattle.order_desk.specs.declared.limits.TheConstants.{MOST_ORDER_NUMBER}
use Rattle.order_desk.specs.Judging.{accepts}
use Rattle.order_desk.specs.Tables.{Tables, draft_at, book_at}

abbrev pub AreCodes : List (List ℕ) → Type 0
AreCodes codes = All (λ code. is_code_name code ≡ true) codes

pub record IsReleaseOf (drafts : List (List ℕ × Draft)) (name : List ℕ) (revision : ℕ) (r : Release) : Type 0 where
  pub draft : Draft
  pub there : draft_at drafts name ≡ Some draft
  pub reached : revision ≤ draft.revision
  pub newest : revision ≡ draft.revision → r.text ≡ draft.text
  pub release : IsRelease r

pub record IsOrderUnder (books : List KeptBook) (number : ℕ) (order : OrderWords) : Type 0 where
  pub least : 1 ≤ number
  pub most : number ≤ MOST_ORDER_NUMBER
  pub book : KeptBook
  pub there : book_at books order.book ≡ Some book
  pub codes : AreCodes order.codes
  pub accepted : accepts book.released.book order.day order.codes ≡ true

pub record IsPut (caller draft text : List ℕ) : Type 0 where
  pub caller_name : is_name caller ≡ true
  pub draft_name : is_name draft ≡ true
  pub size : length text ≤ MOST_TEXT_BYTES

pub record IsPlaced (books : List KeptBook) (caller : List ℕ) (number : ℕ) (order : OrderWords) : Type 0 where
  pub caller_name : is_name caller ≡ true
  pub under : IsOrderUnder books number order

abbrev pub Fits : Tables → Event → Type 0
Fits t (event.PutDraft caller draft text) = IsPut caller draft text
Fits t (event.GiveDraft caller draft to) = is_name to ≡ true
Fits t (event.Commit caller draft revision released) = IsReleaseOf t.drafts draft revision released
Fits t (event.Place caller number order) = IsPlaced t.books caller number order
Fits t _ = Unit {0}
