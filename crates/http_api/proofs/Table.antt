-- The routes, and the kind that each path finds.
use Rattle.std.proofs.Common.{◌≡◌, ◌<◌, ◌+◌, ℕ, arith, List, [], ◌∷◌, ◌++◌, length, Some, refl, ap, ◌∙◌, option_map, codes, append-nil}
use Rattle.matchit.specs.Rows.{RowsOf}
use Rattle.matchit.specs.Seek.{seek, with_suffix}
use Rattle.matchit.specs.Router.{RouteOf}
use Rattle.http_api.specs.declared.route.Route.TheVariants.{Draft as DraftAt, Book as BookAt, Order as OrderAt, Listed as ListAt, OrdersAfter as AfterAt}
use Rattle.http_api.specs.declared.route.Kind.{Kind}
use Rattle.http_api.specs.declared.route.Kind.TheVariants.{Draft, Book, Order, Listed, OrdersAfter}
use Rattle.http_api.specs.declared.route.DraftPage.{DraftPage}
use Rattle.http_api.specs.declared.route.DraftPage.TheVariants.{Text as DraftText, Owner, Check, Release}
use Rattle.http_api.specs.declared.route.BookPage.{BookPage}
use Rattle.http_api.specs.declared.route.BookPage.TheVariants.{Text as BookText, Certificate, Withdraw, Free, Why}
use Rattle.http_api.specs.declared.route.ListPage.{ListPage}
use Rattle.http_api.specs.declared.route.ListPage.TheVariants.{Books, Orders}
use Rattle.http_api.specs.Route.{book_end, draft_end, list_path, path_number}
use Rattle.http_api.specs.Routes.{Routes, Knows}
use Rattle.http_api.proofs.Seeking.{IsPlain, behind, next_byte, other_byte}
use Rattle.http_api.proofs.Items.{IsItem, name_item, number_item, number_digit}
use Rattle.http_api.proofs.Found.{behind_name, at_name, cuts-slash, cuts-plain}

-- a route with one parameter between two texts
abbrev entry : List ℕ → List ℕ → Kind → RouteOf Kind
entry front back kind = record {
  pattern = front ++ 256 ∷ back;
  text = front ++ codes "{item}" ++ back;
  names = (length front + 1, length front + 5) ∷ [];
  value = kind;
}

-- the same as a router has it
abbrev row : List ℕ → List ℕ → Kind → List ℕ × RouteOf Kind
row front back kind = (front ++ 256 ∷ back, entry front back kind)

abbrev front_drafts : List ℕ
front_drafts = codes "/drafts/"

abbrev front_books : List ℕ
front_books = codes "/books/"

abbrev front_orders : List ℕ
front_orders = codes "/orders/"

abbrev front_after : List ℕ
front_after = codes "/orders/after/"

-- a route without a parameter, as a router has it
abbrev whole : List ℕ → Kind → List ℕ × RouteOf Kind
whole path kind = (path, record { pattern = path; text = path; names = []; value = kind })

-- what stands behind the parameter of the routes of one front
abbrev book_rows : RowsOf (RouteOf Kind)
book_rows =
    (codes "/certificate", entry front_books (codes "/certificate") (Book Certificate))
    ∷ (codes "/free", entry front_books (codes "/free") (Book Free))
    ∷ (codes "/why", entry front_books (codes "/why") (Book Why))
    ∷ (codes "/withdraw", entry front_books (codes "/withdraw") (Book Withdraw))
    ∷ ([], entry front_books [] (Book BookText))
    ∷ []

abbrev draft_rows : RowsOf (RouteOf Kind)
draft_rows =
    (codes "/check", entry front_drafts (codes "/check") (Draft Check))
    ∷ (codes "/owner", entry front_drafts (codes "/owner") (Draft Owner))
    ∷ (codes "/release", entry front_drafts (codes "/release") (Draft Release))
    ∷ ([], entry front_drafts [] (Draft DraftText))
    ∷ []

abbrev order_rows : RowsOf (RouteOf Kind)
order_rows = ([], entry front_orders [] Order) ∷ []

abbrev after_rows : RowsOf (RouteOf Kind)
after_rows = ([], entry front_after [] OrdersAfter) ∷ []

abbrev pub table : Routes
table =
    row front_books (codes "/certificate") (Book Certificate)
    ∷ row front_books (codes "/free") (Book Free)
    ∷ row front_books (codes "/why") (Book Why)
    ∷ row front_books (codes "/withdraw") (Book Withdraw)
    ∷ row front_books [] (Book BookText)
    ∷ whole (codes "/books") (Listed Books)
    ∷ row front_drafts (codes "/check") (Draft Check)
    ∷ row front_drafts (codes "/owner") (Draft Owner)
    ∷ row front_drafts (codes "/release") (Draft Release)
    ∷ row front_drafts [] (Draft DraftText)
    ∷ row front_after [] OrdersAfter
    ∷ row front_orders [] Order
    ∷ whole (codes "/orders") (Listed Orders)
    ∷ []

-- behind the front of its routes
at_books : (path : List ℕ) (k : RouteOf Kind) → seek 0 (behind book_rows) path ≡ Some k → seek 0 table (front_books ++ path) ≡ Some k
at_books path k found = next_byte 47 _ _ k (next_byte 98 _ _ k (next_byte 111 _ _ k (next_byte 111 _ _ k (next_byte 107 _ _ k (next_byte 115 _ _ k (next_byte 47 _ _ k found))))))

at_drafts : (path : List ℕ) (k : RouteOf Kind) → seek 0 (behind draft_rows) path ≡ Some k → seek 0 table (front_drafts ++ path) ≡ Some k
at_drafts path k found = next_byte 47 _ _ k (next_byte 100 _ _ k (next_byte 114 _ _ k (next_byte 97 _ _ k (next_byte 102 _ _ k (next_byte 116 _ _ k (next_byte 115 _ _ k (next_byte 47 _ _ k found)))))))

at_orders : (path : List ℕ) (k : RouteOf Kind) → seek 0 ((codes "after/" ++ 256 ∷ [], entry front_after [] OrdersAfter) ∷ behind order_rows) path ≡ Some k → seek 0 table (front_orders ++ path) ≡ Some k
at_orders path k found = next_byte 47 _ _ k (next_byte 111 _ _ k (next_byte 114 _ _ k (next_byte 100 _ _ k (next_byte 101 _ _ k (next_byte 114 _ _ k (next_byte 115 _ _ k (next_byte 47 _ _ k found)))))))

at_after : (path : List ℕ) (k : RouteOf Kind) → seek 0 (behind after_rows) path ≡ Some k → seek 0 table (front_after ++ path) ≡ Some k
at_after path k found = at_orders (codes "after/" ++ path) k (next_byte 97 _ _ k (next_byte 102 _ _ k (next_byte 116 _ _ k (next_byte 101 _ _ k (next_byte 114 _ _ k (next_byte 47 _ _ k found))))))

-- the routes that go on behind the name or number, and those that end with it
on_book : (b : ℕ) (item back : List ℕ) (k : RouteOf Kind) → IsPlain (b ∷ item) → seek 0 (with_suffix (47 ∷ []) book_rows) (47 ∷ back) ≡ Some k
    → seek 0 table (front_books ++ (b ∷ item ++ 47 ∷ back)) ≡ Some k
on_book b item back k plain found = at_books (b ∷ item ++ 47 ∷ back) k (behind_name b item back book_rows k plain (rw (cuts-slash b item) refl) found)

on_draft : (b : ℕ) (item back : List ℕ) (k : RouteOf Kind) → IsPlain (b ∷ item) → seek 0 (with_suffix (47 ∷ []) draft_rows) (47 ∷ back) ≡ Some k
    → seek 0 table (front_drafts ++ (b ∷ item ++ 47 ∷ back)) ≡ Some k
on_draft b item back k plain found = at_drafts (b ∷ item ++ 47 ∷ back) k (behind_name b item back draft_rows k plain (rw (cuts-slash b item) refl) found)

finds_book : (page : BookPage) (b : ℕ) (item : List ℕ) → IsPlain (b ∷ item)
    → seek 0 table (front_books ++ (b ∷ item ++ book_end page)) ≡ Some (entry front_books (book_end page) (Book page))
unfolding seek
finds_book BookText b item plain = ap (λ rest. seek 0 table (front_books ++ (b ∷ rest))) (append-nil item) ∙ at_books (b ∷ item) _ (at_name b item book_rows _ plain (rw (cuts-plain b item plain) refl) refl)
finds_book Certificate b item plain = on_book b item (codes "certificate") _ plain refl
finds_book Free b item plain = on_book b item (codes "free") _ plain refl
finds_book Why b item plain = on_book b item (codes "why") _ plain refl
finds_book Withdraw b item plain = on_book b item (codes "withdraw") _ plain refl

finds_draft : (page : DraftPage) (b : ℕ) (item : List ℕ) → IsPlain (b ∷ item)
    → seek 0 table (front_drafts ++ (b ∷ item ++ draft_end page)) ≡ Some (entry front_drafts (draft_end page) (Draft page))
unfolding seek
finds_draft DraftText b item plain = ap (λ rest. seek 0 table (front_drafts ++ (b ∷ rest))) (append-nil item) ∙ at_drafts (b ∷ item) _ (at_name b item draft_rows _ plain (rw (cuts-plain b item plain) refl) refl)
finds_draft Owner b item plain = on_draft b item (codes "owner") _ plain refl
finds_draft Check b item plain = on_draft b item (codes "check") _ plain refl
finds_draft Release b item plain = on_draft b item (codes "release") _ plain refl

-- a number begins with a digit, and so not as `after` does
finds_order : (b : ℕ) (item : List ℕ) → b < 97 → IsPlain (b ∷ item) → seek 0 table (front_orders ++ (b ∷ item ++ [])) ≡ Some (entry front_orders [] Order)
finds_order b item digit plain =
    ap (λ rest. seek 0 table (front_orders ++ (b ∷ rest))) (append-nil item)
    ∙ at_orders (b ∷ item) _ (other_byte 97 _ _ (behind order_rows) b item digit (omega arith) ∙ at_name b item order_rows _ plain refl refl)

finds_after : (b : ℕ) (item : List ℕ) → IsPlain (b ∷ item) → seek 0 table (front_after ++ (b ∷ item ++ [])) ≡ Some (entry front_after [] OrdersAfter)
finds_after b item plain = ap (λ rest. seek 0 table (front_after ++ (b ∷ rest))) (append-nil item) ∙ at_after (b ∷ item) _ (at_name b item after_rows _ plain refl refl)

-- the paths without a name or a number
finds_list : (page : ListPage) → option_map (λ (r : RouteOf Kind). r.value) (seek 0 table (list_path page)) ≡ Some (Listed page)
unfolding seek
finds_list Books = refl
finds_list Orders = refl

-- a path with a name or a number between two texts
finds_item : (path front item back : List ℕ) (r : RouteOf Kind) → path ≡ front ++ (item ++ back) → IsItem item
    → ((b : ℕ) (rest : List ℕ) → IsPlain (b ∷ rest) → seek 0 table (front ++ (b ∷ rest ++ back)) ≡ Some r)
    → option_map (λ (r : RouteOf Kind). r.value) (seek 0 table path) ≡ Some r.value
finds_item path front [] back r is item find = absurd item
finds_item path front (b ∷ rest) back r is item find = ap (option_map (λ (r : RouteOf Kind). r.value)) (ap (seek 0 table) is ∙ find b rest item)

finds_number : (path digits : List ℕ) (n : ℕ) → path ≡ front_orders ++ (digits ++ []) → path_number digits ≡ Some n
    → option_map (λ (r : RouteOf Kind). r.value) (seek 0 table path) ≡ Some Order
finds_number path [] n is h = absurd (number_item [] n h)
finds_number path (b ∷ rest) n is h =
    ap (option_map (λ (r : RouteOf Kind). r.value)) (ap (seek 0 table) is ∙ finds_order b rest (number_digit b rest n h) (number_item (b ∷ rest) n h))

pub knows : Knows table
knows path (DraftAt name page) h = finds_item path front_drafts name (draft_end page) _ h.0 (name_item name h.1) (finds_draft page)
knows path (BookAt number page) h = finds_item path front_books h.0 (book_end page) _ h.1 (number_item h.0 number h.2) (finds_book page)
knows path (OrderAt number) h = finds_number path h.0 number h.1 h.2
knows path (ListAt page) h = ap (λ p. option_map (λ (r : RouteOf Kind). r.value) (seek 0 table p)) h ∙ finds_list page
knows path (AfterAt number) h = finds_item path front_after h.0 [] _ h.1 (number_item h.0 number h.2) finds_after
