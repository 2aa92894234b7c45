-- What a path and a method ask for.
--     method_of bs            the method of these bytes
--     request_of route verb   what is asked for, or none where the path doesn't have the method
use Rattle.std.specs.Prelude.{ℕ, List, Option, Some, None, codes, if◌then◌else◌}
use Rattle.std.specs.Str.{bytes_eq}
use Rattle.desk_words.specs.declared.call.What.TheVariants.{ReadDraft, ReadOwner, ReadBook, ReadCert, Withdraw, ReadOrder, ReadBooks, ReadOrders}
use Rattle.http_api.specs.declared.request.Verb.{Verb}
use Rattle.http_api.specs.declared.request.Verb.TheVariants.{Get, Put, Post, Other}
use Rattle.http_api.specs.declared.request.Request.{Request}
use Rattle.http_api.specs.declared.request.Request.TheVariants.{Whole, PutDraft, GiveDraft, Check as AskCheck, Release as AskRelease, Free as AskFree, Why as AskWhy, PlaceOrder}
use Rattle.http_api.specs.declared.route.DraftPage.TheVariants.{Text as DraftText, Owner, Check, Release}
use Rattle.http_api.specs.declared.route.BookPage.TheVariants.{Text as BookText, Certificate, Withdraw as WithdrawPage, Free, Why}
use Rattle.http_api.specs.declared.route.ListPage.TheVariants.{Books, Orders}
use Rattle.http_api.specs.declared.route.Route.{Route}
use Rattle.http_api.specs.declared.route.Route.TheVariants.{Draft, Book, Order, Listed as ListAt, OrdersAfter}

abbrev pub method_of : List ℕ → Verb
method_of bytes =
    if bytes_eq bytes (codes "GET") then Get
    else (if bytes_eq bytes (codes "PUT") then Put
    else (if bytes_eq bytes (codes "POST") then Post else Other))

abbrev pub request_of : Route → Verb → Option Request
request_of (Draft name DraftText) Get = Some (Whole (ReadDraft name))
request_of (Draft name DraftText) Put = Some (PutDraft name)
request_of (Draft name Owner) Get = Some (Whole (ReadOwner name))
request_of (Draft name Owner) Post = Some (GiveDraft name)
request_of (Draft name Check) Post = Some (AskCheck name)
request_of (Draft name Release) Post = Some (AskRelease name)
request_of (Book number BookText) Get = Some (Whole (ReadBook number))
request_of (Book number Certificate) Get = Some (Whole (ReadCert number))
request_of (Book number WithdrawPage) Post = Some (Whole (Withdraw number))
request_of (Book number Free) Post = Some (AskFree number)
request_of (Book number Why) Post = Some (AskWhy number)
request_of (Order number) Get = Some (Whole (ReadOrder number))
request_of (Order number) Put = Some (PlaceOrder number)
request_of (ListAt Books) Get = Some (Whole ReadBooks)
request_of (ListAt Orders) Get = Some (Whole (ReadOrders 0))
request_of (OrdersAfter number) Get = Some (Whole (ReadOrders number))
request_of route verb = None
