-- What a desk keeps of orders: each was accepted by the book that it stands with.
use Rattle.std.proofs.Common.{◌≡◌, ◌∙◌, ◌++◌, true, List, [], ◌∷◌, None, Some, sym, ap, subst, append_assoc, append-nil}
use Rattle.std.proofs.lemmas.List.Elements.{All-nil, All-cons, All-head, All-tail}
use Rattle.std.specs.Prelude.{All, Option}
use Rattle.std.specs.Option.{option_map}
use Rattle.desk_words.specs.declared.order_words.OrderWords.{OrderWords}
use Rattle.release.specs.Accepting.{accepts}
use Rattle.release.specs.Release.{Release}
use Rattle.order_again.specs.Again.{IsAccepted}
use Rattle.order_again.specs.declared.kept.Stock.{Stock}
use Rattle.order_desk.specs.Fits.{IsOrderUnder}
use Rattle.order_desk.proofs.KeptOrders.{own_book_accepts}
use Rattle.order_desk.specs.declared.kept_book.KeptBook.{KeptBook}
use Rattle.order_desk.specs.declared.order_key.OrderKey.{OrderKey}
use Rattle.order_desk.specs.Tables.{Tables, book_at}
use Rattle.book_commands.specs.RunReply.{RunReply}
use Rattle.commands.specs.Rejudged.{AreStock, IsKeptStock, IsStock, RepliesAgain, RepliesBy, no_book_reply}

abbrev pub IsUnder : List KeptBook → OrderKey × OrderWords → Type 0
IsUnder books e = IsOrderUnder books e.0.number e.1

one_accepted : (books : List KeptBook) (key : OrderKey) (order : OrderWords) (s : Stock) → IsOrderUnder books key.number order
    → IsKeptStock books key order s → IsAccepted s
one_accepted books key order s under kept =
    let of_kept = own_book_accepts books key.number order kept.book under kept.there in
    let of_own : accepts s.book.value.book order.day order.codes ≡ true =
    subst (λ (r : Release). accepts r.book order.day order.codes ≡ true) (sym kept.stock.own) of_kept in
    subst (λ (o : OrderWords). accepts s.book.value.book o.day o.codes ≡ true) (sym kept.stock.words) of_own

pub stock_accepted : (books : List KeptBook) (orders : List (OrderKey × OrderWords)) (stock : List Stock) → All (IsUnder books) orders
    → AreStock books orders stock → All IsAccepted stock
stock_accepted books [] [] under kept = All-nil IsAccepted
stock_accepted books [] (s ∷ stock) under kept = absurd kept
stock_accepted books (e ∷ orders) [] under kept = absurd kept
stock_accepted books (e ∷ orders) (s ∷ stock) under (first, more) =
    All-cons IsAccepted s stock (one_accepted books e.0 e.1 s (All-head (IsUnder books) e orders under) first)
    (stock_accepted books orders stock (All-tail (IsUnder books) e orders under) more)

-- what is stocked so far, and whatever the orders that are left come to, are all orders
pub record StocksFrom (books : List KeptBook) (rest orders : List (OrderKey × OrderWords)) (stock : List Stock) : Type 0 where
  pub under : All (IsUnder books) rest
  pub more : (others : List Stock) → AreStock books rest others → AreStock books orders (stock ++ others)

pub stocks_next : (books : List KeptBook) (rest rest' orders : List (OrderKey × OrderWords)) (key : OrderKey) (order : OrderWords) (book : Release)
    (s : Stock) (stock : List Stock) → StocksFrom books rest orders stock → rest ≡ (key, order) ∷ rest'
    → Some book ≡ option_map (λ (kept : KeptBook). kept.released) (book_at books order.book) → IsStock book key order s
    → StocksFrom books rest' orders (stock ++ s ∷ [])
stocks_next books rest rest' orders key order book s stock from is there same =
    let from' : StocksFrom books ((key, order) ∷ rest') orders stock =
    subst (λ (r : List (OrderKey × OrderWords)). StocksFrom books r orders stock) is from in
    let under = All-head (IsUnder books) (key, order) rest' from'.under in
    let released : Some book ≡ Some under.book.released = there ∙ ap (option_map (λ (kept : KeptBook). kept.released)) under.there in
    let one : under.book.released ≡ book = cc in
    let kept : IsKeptStock books key order s = record {
      book = under.book;
      there = under.there;
      stock = subst (λ (r : Release). IsStock r key order s) (sym one) same;
    } in
    record {
      under = All-tail (IsUnder books) (key, order) rest' from'.under;
      more = λ others h.
          subst (λ (all : List Stock). AreStock books orders all) (sym (append_assoc stock (s ∷ []) others)) (from'.more (s ∷ others) (kept, h));
    }

pub stocks_last : (books : List KeptBook) (rest orders : List (OrderKey × OrderWords)) (stock : List Stock) → StocksFrom books rest orders stock
    → rest ≡ [] → AreStock books orders stock
stocks_last books rest orders stock from is =
    let from' : StocksFrom books [] orders stock = subst (λ (r : List (OrderKey × OrderWords)). StocksFrom books r orders stock) is from in
    subst (λ (all : List Stock). AreStock books orders all) (append-nil stock) (from'.more [] tt)

-- the book of that number
pub replies_found : (found : Option KeptBook) (t : Tables) (book : Release) (reply : RunReply)
    → Some book ≡ option_map (λ (kept : KeptBook). kept.released) found → RepliesAgain t book.book reply → RepliesBy found t reply
replies_found None t book reply is replies = let clash : Some book ≡ None = is in cc
replies_found (Some kept) t book reply is replies =
    let same : book ≡ kept.released = cc in
    subst (λ (r : Release). RepliesAgain t r.book reply) same replies

pub replies_none : (found : Option KeptBook) (t : Tables) (reply : RunReply)
    → None ≡ option_map (λ (kept : KeptBook). kept.released) found → reply ≡ no_book_reply → RepliesBy found t reply
replies_none None t reply is replies = replies
replies_none (Some kept) t reply is replies = let clash : None ≡ Some kept.released = is in cc
