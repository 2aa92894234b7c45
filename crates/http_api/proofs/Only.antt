-- The one route of a kind to which a path leads.
use Rattle.std.proofs.Common.{◌≡◌, ℕ, List, Option, Some, sym, subst}
use Rattle.http_api.specs.declared.route.Route.{Route}
use Rattle.http_api.specs.declared.route.Route.TheVariants.{Draft, Book, Order, Listed as ListAt, OrdersAfter}
use Rattle.http_api.specs.declared.route.Kind.{Kind}
use Rattle.http_api.specs.declared.route.Kind.TheVariants.{Draft as DraftKind, Book as BookKind, Order as OrderKind, Listed as ListKind, OrdersAfter as AfterKind}
use Rattle.http_api.specs.Route.{Leads, kind_of}

-- what is found is the only route of the kind
abbrev pub Only : List ℕ → Kind → Option Route → Type 0
Only path kind result = (route : Route) → Leads path route → kind_of route ≡ kind → result ≡ Some route

-- the same of each name or number
abbrev pub OnlyOf : List ℕ → Option Route → Kind → Type 0
OnlyOf path result (DraftKind page) = (name : List ℕ) → Leads path (Draft name page) → result ≡ Some (Draft name page)
OnlyOf path result (BookKind page) = (number : ℕ) → Leads path (Book number page) → result ≡ Some (Book number page)
OnlyOf path result OrderKind = (number : ℕ) → Leads path (Order number) → result ≡ Some (Order number)
OnlyOf path result (ListKind page) = Leads path (ListAt page) → result ≡ Some (ListAt page)
OnlyOf path result AfterKind = (number : ℕ) → Leads path (OrdersAfter number) → result ≡ Some (OrdersAfter number)

pub only : (path : List ℕ) (kind : Kind) (result : Option Route) → OnlyOf path result kind → Only path kind result
only path kind result found (Draft name page) leads is = subst (OnlyOf path result) (sym is) found name leads
only path kind result found (Book number page) leads is = subst (OnlyOf path result) (sym is) found number leads
only path kind result found (Order number) leads is = subst (OnlyOf path result) (sym is) found number leads
only path kind result found (ListAt page) leads is = subst (OnlyOf path result) (sym is) found leads
only path kind result found (OrdersAfter number) leads is = subst (OnlyOf path result) (sym is) found number leads
