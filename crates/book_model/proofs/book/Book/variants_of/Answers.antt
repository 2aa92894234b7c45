use Rattle.std.proofs.Common.{ℕ, ◌<◌, length, subst}
use Rattle.std.specs.List.{All}
use Rattle.book_model.specs.Contents.{Contents}
use Rattle.book_model.proofs.GroupLemmas.{group-in_range}
use Rattle.book_model.proofs.book.Book.variants_of.Goals as goal

pub returns-clause-in_range : goal.returns-clause-in_range
returns-clause-in_range c =
    subst (λ (b : Contents). c.args.position < length b.positions → All (λ (v : ℕ). v < length b.variants) c.of_position.result.now) c.self.view_is
    (λ lt. group-in_range c.self.inside.parts c.args.position c.of_position.result.now c.self.invariant lt c.of_position.ensures) c.requires
