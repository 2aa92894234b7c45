-- The paths that lead somewhere.
--     Leads path route    the path is the one of the route
--     path_number ds      the number that 1 to 9 digits write, of which the first is not 0
use Rattle.std.specs.Prelude.{◌≡◌, ℕ, ◌==◌, List, [], ◌++◌, Option, Some, None, true, codes, slice_index, if◌then◌else◌}
use Rattle.pb_base.specs.Names.{is_name}
use Rattle.pb_base.specs.Digits.{number_within}
use Rattle.http_api.specs.declared.route.DraftPage.{DraftPage}
use Rattle.http_api.specs.declared.route.DraftPage.TheVariants.{Text as DraftText, Owner, Check, Release}
use Rattle.http_api.specs.declared.route.BookPage.{BookPage}
use Rattle.http_api.specs.declared.route.BookPage.TheVariants.{Text as BookText, Certificate, Withdraw, Free, Why}
use Rattle.http_api.specs.declared.route.ListPage.{ListPage}
use Rattle.http_api.specs.declared.route.ListPage.TheVariants.{Books as BookList, Orders as OrderList}
use Rattle.http_api.specs.declared.route.Route.{Route}
use Rattle.http_api.specs.declared.route.Route.TheVariants.{Draft, Book, Order, Listed as ListAt, OrdersAfter}
use Rattle.http_api.specs.declared.route.Kind.{Kind}
use Rattle.http_api.specs.declared.route.Kind.TheVariants.{Draft as DraftKind, Book as BookKind, Order as OrderKind, Listed as ListKind, OrdersAfter as AfterKind}

abbrev pub path_number : List ℕ → Option ℕ
path_number digits = if slice_index digits 0 == 48 then None else number_within 9 digits

-- the path is a name between these two
abbrev pub HasName : List ℕ → List ℕ → List ℕ → List ℕ → Type 0
HasName path front name back = (path ≡ front ++ (name ++ back)) × (is_name name ≡ true)

-- the path is a number between these two
abbrev pub HasNumber : List ℕ → List ℕ → ℕ → List ℕ → Type 0
HasNumber path front number back = (digits : List ℕ) × (path ≡ front ++ (digits ++ back)) × (path_number digits ≡ Some number)

-- what stands behind the name of a draft
abbrev pub draft_end : DraftPage → List ℕ
draft_end DraftText = []
draft_end Owner = codes "/owner"
draft_end Check = codes "/check"
draft_end Release = codes "/release"

-- what stands behind the number of a book
abbrev pub book_end : BookPage → List ℕ
book_end BookText = []
book_end Certificate = codes "/certificate"
book_end Withdraw = codes "/withdraw"
book_end Free = codes "/free"
book_end Why = codes "/why"

abbrev pub list_path : ListPage → List ℕ
list_path BookList = codes "/books"
list_path OrderList = codes "/orders"

abbrev pub Leads : List ℕ → Route → Type 0
Leads path (Draft name page) = HasName path (codes "/drafts/") name (draft_end page)
Leads path (Book number page) = HasNumber path (codes "/books/") number (book_end page)
Leads path (Order number) = HasNumber path (codes "/orders/") number []
Leads path (ListAt page) = path ≡ list_path page
Leads path (OrdersAfter number) = HasNumber path (codes "/orders/after/") number []

-- the route without its name or number
abbrev pub kind_of : Route → Kind
kind_of (Draft name page) = DraftKind page
kind_of (Book number page) = BookKind page
kind_of (Order number) = OrderKind
kind_of (ListAt page) = ListKind page
kind_of (OrdersAfter number) = AfterKind
