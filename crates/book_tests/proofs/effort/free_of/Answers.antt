use Rattle.std.proofs.Common.{ℕ, ◌<◌, [], length}
use Rattle.std.proofs.lemmas.List.Elements.{All-cons, All-nil}
use Rattle.book_tests.proofs.effort.free_of.Goals as goal

pub free_counted-requires-clause-chosen : goal.free_counted-requires-clause-chosen
free_counted-requires-clause-chosen c =
    let codes = c.args.book.now.codes in
    All-cons (λ (code : ℕ). code < length codes) c.args.code [] c.requires (All-nil (λ (code : ℕ). code < length codes))
