-- Responses, byte for byte.
--     response opening body bare    a head, and the body unless it is left out
use Rattle.std.specs.Prelude.{◌≡◌, ◌⊎◌, ◌==◌, ℕ, Bool, true, false, List, [], ◌++◌, codes, length, if◌then◌else◌}
use Rattle.std.specs.Fmt.{decimal}
use Rattle.http.specs.StatusCode.{code_digits}
use Rattle.pb_base.specs.Lines.{line}
use Rattle.desk_words.specs.declared.reply.Reply.{Reply}
use Rattle.desk_words.specs.declared.reply.Reply.TheVariants.{Raw}
use Rattle.http_api.specs.declared.denied.Denied.{Denied}
use Rattle.http_api.specs.declared.denied.Denied.TheVariants.{NoPath, WrongMethod, BadCaller, BadBody}
use Rattle.http_api.specs.declared.route.DraftPage.TheVariants.{Text as DraftText, Owner, Check, Release}
use Rattle.http_api.specs.declared.route.BookPage.TheVariants.{Text as BookText, Certificate, Withdraw, Free, Why}
use Rattle.http_api.specs.declared.route.Route.{Route}
use Rattle.http_api.specs.declared.route.Route.TheVariants.{Draft, Book, Order, Listed as ListAt, OrdersAfter}
use Rattle.http_api.specs.declared.opening.Methods.{Methods}
use Rattle.http_api.specs.declared.opening.Methods.TheVariants.{Untold, Get, Post, GetPut, GetPost}
use Rattle.http_api.specs.declared.opening.Opening.{Opening}
use Rattle.http_api.specs.declared.status.Status.{Status}
use Rattle.http_api.specs.Path.{path_of}
use Rattle.http_api.specs.Route.{Leads}
use Rattle.http_wire.specs.declared.refusal.Refusal.{Refusal}
use Rattle.http_wire.specs.declared.refusal.Refusal.TheVariants.{Malformed, LongBody, LongHead, Coded}
use Rattle.http_api.specs.Status.{code_of, phrase_of, status_of, denied_status, bad_status}
use Rattle.http_api.specs.ReplyText.{text_of}

abbrev pub status_line : Status → List ℕ
status_line status = codes "HTTP/1.1 " ++ code_digits (code_of status) ++ codes " " ++ phrase_of status ++ codes "\r\n"

-- a draft and a book are text/csv, all else is text/plain
abbrev pub type_of : Bool → List ℕ
type_of raw = if raw then codes "text/csv" else codes "text/plain"

abbrev pub content_fields : Bool → ℕ → List ℕ
content_fields raw bytes = codes "Content-Type: " ++ type_of raw ++ codes "\r\nContent-Length: " ++ decimal bytes ++ codes "\r\n"

abbrev pub allow_line : Methods → List ℕ
allow_line Untold = []
allow_line Get = codes "Allow: GET\r\n"
allow_line Post = codes "Allow: POST\r\n"
allow_line GetPut = codes "Allow: GET, PUT\r\n"
allow_line GetPost = codes "Allow: GET, POST\r\n"

abbrev pub close_line : Bool → List ℕ
close_line close = if close then codes "Connection: close\r\n" else []

-- the head where the body has this number of bytes
abbrev pub head_of : Opening → ℕ → List ℕ
head_of o bytes = status_line o.status ++ content_fields o.raw bytes ++ allow_line o.methods ++ close_line o.close ++ codes "\r\n"

abbrev pub response : Opening → List ℕ → Bool → List ℕ
response o body bare = head_of o (length body) ++ (if bare then [] else body)

abbrev pub is_raw : Reply → Bool
is_raw (Raw text) = true
is_raw reply = false

abbrev pub response_of : Reply → Bool → Bool → List ℕ
response_of reply close bare = response (record { status = status_of reply; raw = is_raw reply; methods = Untold; close = close }) (text_of reply) bare

-- a response of one line that is no reply
abbrev pub plain_response : Status → Methods → List ℕ → Bool → Bool → List ℕ
plain_response status methods text close bare = response (record { status = status; raw = false; methods = methods; close = close }) text bare

-- the methods of a path
abbrev pub methods_of : Route → Methods
methods_of (Draft name DraftText) = GetPut
methods_of (Draft name Owner) = GetPost
methods_of (Draft name Check) = Post
methods_of (Draft name Release) = Post
methods_of (Book number BookText) = Get
methods_of (Book number Certificate) = Get
methods_of (Book number Withdraw) = Post
methods_of (Book number Free) = Post
methods_of (Book number Why) = Post
methods_of (Order number) = GetPut
methods_of (ListAt page) = Get
methods_of (OrdersAfter number) = Get

abbrev pub denied_line : Denied → List ℕ
denied_line NoPath = line (codes "no such path")
denied_line WrongMethod = line (codes "wrong method")
denied_line BadCaller = line (codes "bad caller")
denied_line BadBody = line (codes "bad body")

abbrev pub denied_response : Denied → Methods → Bool → Bool → List ℕ
denied_response denied methods close bare = plain_response (denied_status denied) methods (denied_line denied) close bare

-- a path leads somewhere, and the response of these methods is the one
abbrev pub AllowsAt : List ℕ → (Methods → List ℕ) → List ℕ → Type 0
AllowsAt path response_with text = (route : Route) × Leads path route × (text ≡ response_with (methods_of route))

-- a wrong method is told the right ones
abbrev pub IsDeniedResponse : Denied → List ℕ → Bool → Bool → List ℕ → Type 0
IsDeniedResponse NoPath target close bare text = text ≡ denied_response NoPath Untold close bare
IsDeniedResponse WrongMethod target close bare text = AllowsAt (path_of target) (λ methods. denied_response WrongMethod methods close bare) text
IsDeniedResponse BadCaller target close bare text = text ≡ denied_response BadCaller Untold close bare
IsDeniedResponse BadBody target close bare text = text ≡ denied_response BadBody Untold close bare

-- the paths that a wrong method can be told of
abbrev pub CanDeny : Denied → List ℕ → Type 0
CanDeny NoPath target = Unit {0}
CanDeny WrongMethod target = (route : Route) × Leads (path_of target) route
CanDeny BadCaller target = Unit {0}
CanDeny BadBody target = Unit {0}

abbrev pub bad_line : Refusal → List ℕ
bad_line Malformed = line (codes "bad request")
bad_line LongBody = line (codes "body too large")
bad_line LongHead = line (codes "head too large")
bad_line Coded = line (codes "transfer encoding")

abbrev pub bad_response : Refusal → List ℕ
bad_response refusal = plain_response (bad_status refusal) Untold (bad_line refusal) true false
