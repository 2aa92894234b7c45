-- A path that leads somewhere is text.
use Rattle.std.proofs.Common.{◌≡◌, ℕ, zero, suc, ◌++◌, List, [], ◌∷◌, codes, sym, subst, refl, arith}
use Rattle.std.specs.Str.{IsUtf8, IsAscii}
use Rattle.std.proofs.lemmas.Str.{IsUtf8-append, IsUtf8-from_ascii, IsUtf8-nil}
use Rattle.http_api.specs.declared.route.DraftPage.{DraftPage}
use Rattle.http_api.specs.declared.route.DraftPage.TheVariants.{Text as DraftText, Owner, Check, Release}
use Rattle.http_api.specs.declared.route.BookPage.{BookPage}
use Rattle.http_api.specs.declared.route.BookPage.TheVariants.{Text as BookText, Certificate, Withdraw, Free, Why}
use Rattle.http_api.specs.declared.route.ListPage.{ListPage}
use Rattle.http_api.specs.declared.route.ListPage.TheVariants.{Books, Orders}
use Rattle.http_api.specs.declared.route.Route.{Route}
use Rattle.http_api.specs.declared.route.Route.TheVariants.{Draft, Book, Order, Listed as ListAt, OrdersAfter}
use Rattle.http_api.specs.Route.{Leads, draft_end, book_end, list_path}
use Rattle.http_api.proofs.Seeking.{IsPlain}
use Rattle.http_api.proofs.Items.{IsItem, name_item, number_item}

ascii : (bs : List ℕ) → IsPlain bs → IsAscii bs
ascii [] plain i = omega arith
ascii (b ∷ bs) plain zero = plain.0
ascii (b ∷ bs) plain (suc i) = ascii bs plain.2 i

item : (bs : List ℕ) → IsItem bs → IsUtf8 bs
item [] h = absurd h
item (b ∷ bs) h = IsUtf8-from_ascii (b ∷ bs) (ascii (b ∷ bs) h)

around : (path front bs back : List ℕ) → path ≡ front ++ (bs ++ back) → IsUtf8 front → IsItem bs → IsUtf8 back → IsUtf8 path
around path front bs back is first h last = subst IsUtf8 (sym is) (IsUtf8-append front (bs ++ back) first (IsUtf8-append bs back (item bs h) last))

draft_text : (page : DraftPage) → IsUtf8 (draft_end page)
unfolding lib.Utf8.encode
draft_text DraftText = IsUtf8-nil
draft_text Owner = (codes "/owner", (refl, refl))
draft_text Check = (codes "/check", (refl, refl))
draft_text Release = (codes "/release", (refl, refl))

book_text : (page : BookPage) → IsUtf8 (book_end page)
unfolding lib.Utf8.encode
book_text BookText = IsUtf8-nil
book_text Certificate = (codes "/certificate", (refl, refl))
book_text Withdraw = (codes "/withdraw", (refl, refl))
book_text Free = (codes "/free", (refl, refl))
book_text Why = (codes "/why", (refl, refl))

list_text : (page : ListPage) → IsUtf8 (list_path page)
unfolding lib.Utf8.encode
list_text Books = (codes "/books", (refl, refl))
list_text Orders = (codes "/orders", (refl, refl))

pub path_text : (path : List ℕ) (route : Route) → Leads path route → IsUtf8 path
unfolding lib.Utf8.encode
path_text path (Draft name page) h = around path (codes "/drafts/") name (draft_end page) h.0 (codes "/drafts/", (refl, refl)) (name_item name h.1) (draft_text page)
path_text path (Book number page) h = around path (codes "/books/") h.0 (book_end page) h.1 (codes "/books/", (refl, refl)) (number_item h.0 number h.2) (book_text page)
path_text path (Order number) h = around path (codes "/orders/") h.0 [] h.1 (codes "/orders/", (refl, refl)) (number_item h.0 number h.2) IsUtf8-nil
path_text path (ListAt page) h = subst IsUtf8 (sym h) (list_text page)
path_text path (OrdersAfter number) h = around path (codes "/orders/after/") h.0 [] h.1 (codes "/orders/after/", (refl, refl)) (number_item h.0 number h.2) IsUtf8-nil
