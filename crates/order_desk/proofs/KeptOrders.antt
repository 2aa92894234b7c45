-- What kept orders stand on.
--     placed_at           each one was placed under a book that is kept
--     all_under           so each stands under a book that accepts it
--     own_book_accepts    and that is its own
use Rattle.std.proofs.Common.{◌≡◌, ℕ, List, true, Some, sym, subst, ◌∙◌}
use Rattle.desk_words.specs.declared.order_words.OrderWords.{OrderWords}
use Rattle.order_desk.specs.declared.kept_book.KeptBook.{KeptBook}
use Rattle.order_desk.specs.Fits.{IsOrderUnder}
use Rattle.order_desk.specs.Judging.{accepts}
use Rattle.order_desk.specs.Tables.{book_at}

pub own_book_accepts : (books : List KeptBook) (number : ℕ) (order : OrderWords) (book : KeptBook) → IsOrderUnder books number order
    → book_at books order.book ≡ Some book → accepts book.released.book order.day order.codes ≡ true
own_book_accepts books number order book under there =
    let both : Some under.book ≡ Some book = sym under.there ∙ there in
    let same : under.book ≡ book = cc in
    subst (λ (b : KeptBook). accepts b.released.book order.day order.codes ≡ true) same under.accepted
