use Rattle.std.proofs.Common.{◌∙◌, sym, ap, arith}
use Rattle.turn_book.proofs.Passes.{joins, meets}
use Rattle.turn_book.proofs.book.TurnBook.join.Goals as goal

pub join_seat-requires : goal.join_seat-requires
join_seat-requires g c = (
  ap (λ p. p.table) c.a.view_is ∙ c.requires.books.0 ∙ sym (ap (λ b. b.table) c.self.view_is),
  ap (λ p. p.table) c.b.view_is ∙ c.requires.books.1 ∙ sym (ap (λ b. b.table) c.self.view_is),
  c.b.invariant.0,
  omega (arith, c.self.invariant.0),
  joins _ _ _ _ _ _ _ c.a.invariant.1 c.b.invariant.1,
)

pub load-requires : goal.load-requires
load-requires g c = (
  c.join_seat.ensures.0 ∙ ap (λ p. p.table) c.a.view_is ∙ c.requires.books.0 ∙ sym (ap (λ b. b.table) c.self.view_is),
  omega (arith, c.self.invariant.0),
  meets _ _ _ _ _ _,
)
