-- Lists of books and of orders, as texts.
--     books_text books                   `book N DRAFT NAME FIRST LAST` for each book by its number, with ` withdrawn` if it is
--                                        out of force; then `end`
--     own_above caller number orders     the caller's own orders above a number, as they stand in a table: by their numbers
--     orders_text orders caller number   `order N book B day D` for the first MOST_LISTED of these; then `more` if there are
--                                        further ones, and else `end`
use Rattle.std.specs.Prelude.{ℕ, ◌+◌, Bool, ◌&&◌, List, [], ◌∷◌, ◌++◌, codes, length, nat_lt, take, if◌then◌else◌}
use Rattle.std.specs.List.{filter, flat_map}
use Rattle.pb_base.specs.Names.{same_name}
use Rattle.book_model.specs.Contents.{Contents}
use Rattle.pb_base.specs.Lines.{line, number_behind}
use Rattle.desk_words.specs.declared.order_words.OrderWords.{OrderWords}
use Rattle.order_desk.specs.declared.kept_book.KeptBook.{KeptBook}
use Rattle.order_desk.specs.declared.limits.TheConstants.{MOST_LISTED}
use Rattle.order_desk.specs.declared.order_key.OrderKey.{OrderKey}

-- ---- books

-- ` NAME FIRST LAST`
abbrev pub name_and_term : Contents → List ℕ
name_and_term b = 32 ∷ b.name ++ number_behind b.first ++ number_behind b.last

abbrev pub withdrawn_word : Bool → List ℕ
withdrawn_word withdrawn = if withdrawn then codes " withdrawn" else []

abbrev pub book_line : ℕ → KeptBook → List ℕ
book_line number b =
    line (codes "book" ++ number_behind number ++ 32 ∷ b.draft ++ name_and_term b.released.book ++ withdrawn_word b.withdrawn)

-- the lines of books of which the first has this number
abbrev pub book_lines : ℕ → List KeptBook → List ℕ
book_lines number [] = []
book_lines number (b ∷ bs) = book_line number b ++ book_lines (number + 1) bs

unfoldable pub books_text : List KeptBook → List ℕ
books_text books = book_lines 1 books ++ line (codes "end")

-- ---- orders

abbrev pub own_above : List ℕ → ℕ → List (OrderKey × OrderWords) → List (OrderKey × OrderWords)
own_above caller number orders = filter (λ e. same_name e.0.caller caller && nat_lt number e.0.number) orders

-- ` book B day D`
abbrev pub book_and_day : OrderWords → List ℕ
book_and_day order = codes " book" ++ number_behind order.book ++ codes " day" ++ number_behind order.day

abbrev pub order_line : OrderKey × OrderWords → List ℕ
order_line e = line (codes "order" ++ number_behind e.0.number ++ book_and_day e.1)

abbrev pub last_line : Bool → List ℕ
last_line more = if more then line (codes "more") else line (codes "end")

abbrev pub list_text : List (OrderKey × OrderWords) → List ℕ
list_text own = flat_map order_line (take MOST_LISTED own) ++ last_line (nat_lt MOST_LISTED (length own))

unfoldable pub orders_text : List (OrderKey × OrderWords) → List ℕ → ℕ → List ℕ
orders_text orders caller number = list_text (own_above caller number orders)
