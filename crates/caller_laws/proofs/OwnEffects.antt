-- What an event that concerns a caller does, it does at a desk with that caller's orders alone, or there is no room for one more order.
use Rattle.std.proofs.Common.{◌≡◌, ◌⊎◌, ℕ, ◌+◌, ◌<◌, ◌≤◌, ◌==◌, Bool, true, false, List, Option, None, Some, length, refl, sym, ap, subst, ◌∙◌, inl, inr, arith}
use Rattle.std.specs.Prelude.{Result, Ok, Err, ok_or, nat_lt, if◌then◌else◌}
use Rattle.std.specs.Cmp.Lexicographic.{bytes_decides}
use Rattle.std.specs.List.Sorted.{IsStrictlySortedBy}
use Rattle.std.specs.Map.{keys_of}
use Rattle.std.proofs.lemmas.Bool.{lt-ltb, ltb-false, ltb-true}
use Rattle.pb_base.specs.Names.{same_name}
use Rattle.pb_base.specs.Results.{and_then}
use Rattle.release.specs.Release.{Release}
use Rattle.desk_words.specs.declared.order_words.OrderWords.{OrderWords}
use Rattle.desk_words.specs.declared.reply.FullOf.TheVariants as full
use Rattle.desk_words.specs.declared.reply.Missing.TheVariants as missing
use Rattle.desk_words.specs.declared.reply.Reply.{Reply}
use Rattle.desk_words.specs.declared.reply.Reply.TheVariants as reply
use Rattle.order_desk.specs.Effect.{Effect, says, shows, keeps, go_on, effect, draft_of, owned, next_of, next_draft, put_draft, give_draft, read_draft, read_owner, unless_released, to_release, to_take, take_draft, commit, book_of, show_book, book_in_force, show_in_force, withdraw, shows_kept, same_order, unless_kept, to_place, look, place, read_order, list_books, list_orders}
use Rattle.order_desk.specs.Fits.{IsPlaced}
use Rattle.order_desk.specs.Listing.{list_text, orders_text}
use Rattle.order_desk.specs.Tables.{Tables, by_key, draft_at, order_at, key_of, released_as, with_draft, with_book, with_order, with_withdrawn}
use Rattle.order_desk.specs.Valid.{IsValid}
use Rattle.order_desk.specs.declared.answer.Answer.{Answer}
use Rattle.order_desk.specs.declared.answer.Answer.TheVariants as answer
use Rattle.order_desk.specs.declared.draft.Draft.{Draft}
use Rattle.order_desk.specs.declared.event.Event.{Event}
use Rattle.order_desk.specs.declared.event.Event.TheVariants as event
use Rattle.order_desk.specs.declared.event.Reading.TheVariants as reading
use Rattle.order_desk.specs.declared.kept_book.KeptBook.{KeptBook}
use Rattle.order_desk.specs.declared.limits.TheConstants.{MOST_ORDERS}
use Rattle.order_desk.specs.declared.order_key.OrderKey.{OrderKey}
use Rattle.caller_laws.specs.Callers.{concerns, own_orders, seen_by, seen_effect}
use Rattle.caller_laws.proofs.OwnOrders.{all_own, at_own, fewer, listed_own, own_put, sorted_own}

abbrev pub no_room : Answer
no_room = answer.Say (reply.Full full.Orders)

-- w is what u is with the caller's orders alone, or u is that there is no room
abbrev pub IsSeenAs : List ℕ → Tables → Effect → Effect → Type 0
IsSeenAs caller t u w = (seen_effect caller u ≡ w) ⊎ ((u ≡ says no_room) × (MOST_ORDERS ≤ length t.orders))

module _ (caller : List ℕ) (t : Tables) where
  seen-go_on : {A : Type 0} (r : Result A Reply) (done seen : A → Effect) → ((a : A) → IsSeenAs caller t (done a) (seen a))
      → IsSeenAs caller t (go_on r done) (go_on r seen)
  seen-go_on (Ok found) done seen so = so found
  seen-go_on (Err said) done seen so = inl refl

  seen-if : (b : Bool) (u v w x : Effect) → IsSeenAs caller t u w → IsSeenAs caller t v x → IsSeenAs caller t (if b then u else v) (if b then w else x)
  seen-if true u v w x first second = first
  seen-if false u v w x first second = second

  -- ---- drafts and books

  next_alike : (o : Option Draft) (by_caller text : List ℕ) → next_of o t by_caller text ≡ next_of o (seen_by caller t) by_caller text
  next_alike None by_caller text = refl
  next_alike (Some old) by_caller text = refl

  seen-put : (by_caller name text : List ℕ) → IsSeenAs caller t (put_draft t by_caller name text) (put_draft (seen_by caller t) by_caller name text)
  unfolding put_draft next_draft
  seen-put by_caller name text =
      subst
      (λ (r : Result Draft Reply). IsSeenAs caller t
      (go_on (next_of (draft_at t.drafts name) t by_caller text) (λ d. keeps (answer.Say (reply.Kept name d.revision)) (with_draft t name d)))
      (go_on r (λ d. keeps (answer.Say (reply.Kept name d.revision)) (with_draft (seen_by caller t) name d))))
      (next_alike (draft_at t.drafts name) by_caller text)
      (seen-go_on (next_of (draft_at t.drafts name) t by_caller text) (λ d. keeps (answer.Say (reply.Kept name d.revision)) (with_draft t name d))
      (λ d. keeps (answer.Say (reply.Kept name d.revision)) (with_draft (seen_by caller t) name d)) (λ d. inl refl))

  seen-give : (by_caller name to : List ℕ) → IsSeenAs caller t (give_draft t by_caller name to) (give_draft (seen_by caller t) by_caller name to)
  unfolding give_draft owned draft_of
  seen-give by_caller name to =
      seen-go_on (owned t by_caller name) (λ d. keeps (answer.Say (reply.Given name to)) (with_draft t name (record d { owner = to })))
      (λ d. keeps (answer.Say (reply.Given name to)) (with_draft (seen_by caller t) name (record d { owner = to }))) (λ d. inl refl)

  unreleased_alike : (o : Option ℕ) (d : Draft) → unless_released o t d ≡ unless_released o (seen_by caller t) d
  unreleased_alike None d = refl
  unreleased_alike (Some number) d = refl

  release_alike : (by_caller name : List ℕ) (revision : ℕ) → to_release t by_caller name revision ≡ to_release (seen_by caller t) by_caller name revision
  unfolding to_release owned draft_of
  release_alike by_caller name revision = λ i. and_then (owned t by_caller name) (λ d.
      if d.revision == revision then unreleased_alike (released_as t.books name revision) d i else Err (reply.Changed d.revision))

  take_alike : (by_caller name : List ℕ) (o : Option ℕ) → to_take o t by_caller name ≡ to_take o (seen_by caller t) by_caller name
  unfolding owned draft_of
  take_alike by_caller name None = refl
  take_alike by_caller name (Some revision) = release_alike by_caller name revision

  seen-take : (by_caller name : List ℕ) (o : Option ℕ) → IsSeenAs caller t (take_draft t by_caller name o) (take_draft (seen_by caller t) by_caller name o)
  unfolding take_draft
  seen-take by_caller name o =
      subst
      (λ (r : Result Draft Reply). IsSeenAs caller t (go_on (to_take o t by_caller name) (λ d. shows (answer.Draft d.text d.revision)))
      (go_on r (λ d. shows (answer.Draft d.text d.revision))))
      (take_alike by_caller name o)
      (seen-go_on (to_take o t by_caller name) (λ d. shows (answer.Draft d.text d.revision)) (λ d. shows (answer.Draft d.text d.revision)) (λ d. inl refl))

  seen-commit : (by_caller name : List ℕ) (revision : ℕ) (released : Release)
      → IsSeenAs caller t (commit t by_caller name revision released) (commit (seen_by caller t) by_caller name revision released)
  unfolding commit
  seen-commit by_caller name revision released =
      subst
      (λ (r : Result Draft Reply). IsSeenAs caller t
      (go_on (to_release t by_caller name revision) (λ d. keeps (answer.Say (reply.BookIs (length t.books + 1) true)) (with_book t book)))
      (go_on r (λ d. keeps (answer.Say (reply.BookIs (length t.books + 1) true)) (with_book (seen_by caller t) book))))
      (release_alike by_caller name revision)
      (seen-go_on (to_release t by_caller name revision) (λ d. keeps (answer.Say (reply.BookIs (length t.books + 1) true)) (with_book t book))
      (λ d. keeps (answer.Say (reply.BookIs (length t.books + 1) true)) (with_book (seen_by caller t) book)) (λ d. inl refl))
    where
      book : KeptBook
      book = record { draft = name; revision = revision; released = released; withdrawn = false }

  seen-withdraw : (by_caller : List ℕ) (number : ℕ) → IsSeenAs caller t (withdraw t by_caller number) (withdraw (seen_by caller t) by_caller number)
  unfolding withdraw book_of owned draft_of
  seen-withdraw by_caller number =
      seen-go_on (book_of t number)
      (λ b. go_on (owned t by_caller b.draft) (λ d.
      if b.withdrawn then says (answer.Say (reply.Withdrawn number)) else keeps (answer.Say (reply.Withdrawn number)) (with_withdrawn t number b)))
      (λ b. go_on (owned t by_caller b.draft) (λ d.
      if b.withdrawn then says (answer.Say (reply.Withdrawn number)) else keeps (answer.Say (reply.Withdrawn number)) (with_withdrawn (seen_by caller t) number b)))
      (λ b. seen-go_on (owned t by_caller b.draft)
      (λ d. if b.withdrawn then says (answer.Say (reply.Withdrawn number)) else keeps (answer.Say (reply.Withdrawn number)) (with_withdrawn t number b))
      (λ d. if b.withdrawn then says (answer.Say (reply.Withdrawn number)) else keeps (answer.Say (reply.Withdrawn number)) (with_withdrawn (seen_by caller t) number b))
      (λ d. seen-if b.withdrawn (says (answer.Say (reply.Withdrawn number))) (keeps (answer.Say (reply.Withdrawn number)) (with_withdrawn t number b))
      (says (answer.Say (reply.Withdrawn number))) (keeps (answer.Say (reply.Withdrawn number)) (with_withdrawn (seen_by caller t) number b)) (inl refl) (inl refl)))

  -- ---- orders

  seen-kept : (kept : OrderWords) → IsSeenAs caller t (shows_kept t kept) (shows_kept (seen_by caller t) kept)
  unfolding shows_kept book_of
  seen-kept kept =
      seen-go_on (book_of t kept.book) (λ b. shows (answer.Kept kept b.released)) (λ b. shows (answer.Kept kept b.released)) (λ b. inl refl)

  seen-unless : (o : Option OrderWords) (order : OrderWords) (u w : Effect) → IsSeenAs caller t u w
      → IsSeenAs caller t (unless_kept o t order u) (unless_kept o (seen_by caller t) order w)
  seen-unless None order u w so = so
  seen-unless (Some kept) order u w so =
      seen-if (same_order kept order) (shows_kept t kept) (says (answer.Say (reply.NumberUsed kept.book))) (shows_kept (seen_by caller t) kept)
      (says (answer.Say (reply.NumberUsed kept.book))) (seen-kept kept) (inl refl)

  room_seen : length t.orders < MOST_ORDERS → nat_lt (length (own_orders caller t.orders)) MOST_ORDERS ≡ true
  room_seen room =
      let few : length (own_orders caller t.orders) ≤ length t.orders = fewer caller t.orders in
      lt-ltb (length (own_orders caller t.orders)) MOST_ORDERS (omega (arith, few, room))

  seen-to_place : (order : OrderWords) (done seen : KeptBook → Effect) → ((b : KeptBook) → seen_effect caller (done b) ≡ seen b)
      → IsSeenAs caller t (go_on (to_place t order) done) (go_on (to_place (seen_by caller t) order) seen)
  unfolding to_place book_of
  seen-to_place order done seen so = by (book_of t order.book)
    where
      by_room : (b : KeptBook) (room : Bool) → nat_lt (length t.orders) MOST_ORDERS ≡ room
          → IsSeenAs caller t (go_on (if room then Ok b else Err (reply.Full full.Orders)) done)
          (go_on (if nat_lt (length (own_orders caller t.orders)) MOST_ORDERS then Ok b else Err (reply.Full full.Orders)) seen)
      by_room b true is =
          inl (so b ∙ sym (ap (λ (room : Bool). go_on (if room then Ok b else Err (reply.Full full.Orders)) seen) (room_seen (ltb-true (length t.orders) MOST_ORDERS is))))
      by_room b false is = inr (refl, ltb-false (length t.orders) MOST_ORDERS is)

      by_force : (b : KeptBook) (withdrawn : Bool)
          → IsSeenAs caller t
          (go_on (if withdrawn then Err (reply.Gone order.book) else if nat_lt (length t.orders) MOST_ORDERS then Ok b else Err (reply.Full full.Orders)) done)
          (go_on (if withdrawn then Err (reply.Gone order.book)
          else if nat_lt (length (own_orders caller t.orders)) MOST_ORDERS then Ok b else Err (reply.Full full.Orders)) seen)
      by_force b true = inl refl
      by_force b false = by_room b (nat_lt (length t.orders) MOST_ORDERS) refl

      by : (r : Result KeptBook Reply)
          → IsSeenAs caller t
          (go_on (and_then r (λ book. if book.withdrawn then Err (reply.Gone order.book)
          else if nat_lt (length t.orders) MOST_ORDERS then Ok book else Err (reply.Full full.Orders))) done)
          (go_on (and_then r (λ book. if book.withdrawn then Err (reply.Gone order.book)
          else if nat_lt (length (own_orders caller t.orders)) MOST_ORDERS then Ok book else Err (reply.Full full.Orders))) seen)
      by (Err said) = inl refl
      by (Ok b) = by_force b b.withdrawn

  module _ (own_caller : List ℕ) (own : same_name own_caller caller ≡ true) (number : ℕ) where
    there : order_at t.orders (key_of own_caller number) ≡ order_at (own_orders caller t.orders) (key_of own_caller number)
    there = sym (at_own caller (key_of own_caller number) own t.orders)

    seen-look : (order : OrderWords) → IsSeenAs caller t (look t own_caller number order) (look (seen_by caller t) own_caller number order)
    unfolding look
    seen-look order =
        let free : Effect = go_on (to_place t order) (λ b. shows (answer.Book b.released)) in
        let seen_free : Effect = go_on (to_place (seen_by caller t) order) (λ b. shows (answer.Book b.released)) in
        subst
        (λ (o : Option OrderWords). IsSeenAs caller t (unless_kept (order_at t.orders (key_of own_caller number)) t order free)
        (unless_kept o (seen_by caller t) order seen_free))
        there
        (seen-unless (order_at t.orders (key_of own_caller number)) order free seen_free
        (seen-to_place order (λ b. shows (answer.Book b.released)) (λ b. shows (answer.Book b.released)) (λ b. refl)))

    seen-place : IsStrictlySortedBy by_key (keys_of t.orders) → (order : OrderWords)
        → IsSeenAs caller t (place t own_caller number order) (place (seen_by caller t) own_caller number order)
    unfolding place
    seen-place sorted order =
        let free : Effect = go_on (to_place t order) (λ b. keeps answer.Placed (with_order t (key_of own_caller number) order)) in
        let seen_free : Effect = go_on (to_place (seen_by caller t) order) (λ b. keeps answer.Placed (with_order (seen_by caller t) (key_of own_caller number) order)) in
        subst
        (λ (o : Option OrderWords). IsSeenAs caller t (unless_kept (order_at t.orders (key_of own_caller number)) t order free)
        (unless_kept o (seen_by caller t) order seen_free))
        there
        (seen-unless (order_at t.orders (key_of own_caller number)) order free seen_free
        (seen-to_place order (λ b. keeps answer.Placed (with_order t (key_of own_caller number) order))
        (λ b. keeps answer.Placed (with_order (seen_by caller t) (key_of own_caller number) order))
        (λ b. ap (λ (orders : List (OrderKey × OrderWords)). keeps answer.Placed (record t { orders = orders }))
        (own_put caller (key_of own_caller number) order own t.orders sorted))))

    seen-read_order : IsSeenAs caller t (read_order t own_caller number) (read_order (seen_by caller t) own_caller number)
    unfolding read_order
    seen-read_order =
        subst
        (λ (o : Option OrderWords). IsSeenAs caller t
        (go_on (ok_or (order_at t.orders (key_of own_caller number)) (reply.NoSuch missing.Order)) (λ kept. shows_kept t kept))
        (go_on (ok_or o (reply.NoSuch missing.Order)) (λ kept. shows_kept (seen_by caller t) kept)))
        there
        (seen-go_on (ok_or (order_at t.orders (key_of own_caller number)) (reply.NoSuch missing.Order)) (λ kept. shows_kept t kept)
        (λ kept. shows_kept (seen_by caller t) kept) seen-kept)

  seen-list : (own_caller : List ℕ) → own_caller ≡ caller → (number : ℕ)
      → IsSeenAs caller t (list_orders t own_caller number) (list_orders (seen_by caller t) own_caller number)
  unfolding list_orders orders_text
  seen-list own_caller is number =
      subst (λ (c : List ℕ). IsSeenAs caller t (list_orders t c number) (list_orders (seen_by caller t) c number)) (sym is)
      (inl (sym (ap (λ (own : List (OrderKey × OrderWords)). shows (answer.Say (reply.Report (list_text own)))) (listed_own caller number t.orders))))

  -- ---- all events

  pub seen_as : (e : Event) → concerns caller e ≡ true → IsStrictlySortedBy by_key (keys_of t.orders)
      → IsSeenAs caller t (effect t e) (effect (seen_by caller t) e)
  unfolding read_draft read_owner draft_of show_book show_in_force book_in_force book_of list_books
  seen_as (event.PutDraft by_caller draft text) own sorted = seen-put by_caller draft text
  seen_as (event.GiveDraft by_caller draft to) own sorted = seen-give by_caller draft to
  seen_as (event.Commit by_caller draft revision released) own sorted = seen-commit by_caller draft revision released
  seen_as (event.Withdraw by_caller book) own sorted = seen-withdraw by_caller book
  seen_as (event.Place own_caller number order) own sorted = seen-place own_caller own number sorted order
  seen_as (event.Read (reading.Draft draft)) own sorted =
      seen-go_on (draft_of t draft) (λ d. shows (answer.Draft d.text d.revision)) (λ d. shows (answer.Draft d.text d.revision)) (λ d. inl refl)
  seen_as (event.Read (reading.Owner draft)) own sorted =
      seen-go_on (draft_of t draft) (λ d. says (answer.Say (reply.OwnerIs d.owner d.revision))) (λ d. says (answer.Say (reply.OwnerIs d.owner d.revision)))
      (λ d. inl refl)
  seen_as (event.Read (reading.Take by_caller draft revision)) own sorted = seen-take by_caller draft revision
  seen_as (event.Read (reading.Book book)) own sorted =
      seen-go_on (book_of t book) (λ b. shows (answer.Book b.released)) (λ b. shows (answer.Book b.released)) (λ b. inl refl)
  seen_as (event.Read (reading.InForce book)) own sorted =
      seen-go_on (book_in_force t book) (λ b. shows (answer.Book b.released)) (λ b. shows (answer.Book b.released)) (λ b. inl refl)
  seen_as (event.Read (reading.Look own_caller number order)) own sorted = seen-look own_caller own number order
  seen_as (event.Read (reading.Order own_caller number)) own sorted = seen-read_order own_caller own number
  seen_as (event.Read reading.Books) own sorted = inl refl
  seen_as (event.Read (reading.Orders own_caller number)) own sorted = seen-list own_caller ((bytes_decides own_caller caller).0 own) number

  -- what a caller sees are tables of a desk
  pub seen_valid : IsValid t → IsValid (seen_by caller t)
  seen_valid valid =
      let few : length (own_orders caller t.orders) ≤ length t.orders = fewer caller t.orders in
      record {
        drafts_in_order = valid.drafts_in_order;
        few_drafts = valid.few_drafts;
        drafts = valid.drafts;
        few_books = valid.few_books;
        books = valid.books;
        released_once = valid.released_once;
        orders_in_order = sorted_own caller t.orders valid.orders_in_order;
        few_orders = omega (arith, few, valid.few_orders);
        orders = all_own caller (λ e. IsPlaced t.books e.0.caller e.0.number e.1) t.orders valid.orders;
      }

  -- with room for one more order
  pub seen_with_room : (e : Event) → IsStrictlySortedBy by_key (keys_of t.orders) → concerns caller e ≡ true → length t.orders < MOST_ORDERS
      → effect (seen_by caller t) e ≡ seen_effect caller (effect t e)
  seen_with_room e sorted own room = elim (seen_as e own sorted) [
    | inl same ↦ sym same
    | inr none ↦ let most : MOST_ORDERS ≤ length t.orders = none.1 in absurd (omega (arith, most, room))
  ]
