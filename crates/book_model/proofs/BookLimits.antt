-- How many constructibility rules a book has: each is a group, or else one of the rules that are no groups.
use Rattle.std.proofs.Common.{◌≤◌, ◌+◌, not, length, refl, arith}
use Rattle.std.proofs.lemmas.List.Filters.{length-filter_both}
use Rattle.pb_base.specs.declared.limits.TheConstants.{MOST_CONSTRUCTS, MOST_GROUPS}
use Rattle.book_model.specs.Contents.{Contents}
use Rattle.book_model.specs.Book.{IsBook, demands_group}
use Rattle.book_model.specs.declared.record.Construct.{Construct}

pub constructs_below : (b : Contents) → IsBook b → length b.constructs ≤ MOST_CONSTRUCTS + MOST_GROUPS
constructs_below b book =
    omega (arith, length-filter_both (λ (c : Construct). demands_group c.demand) (λ c. not (demands_group c.demand)) (λ c. refl) b.constructs, book.constructs_limit, book.groups_limit)
