-- What is drawn for each group of four codes, in the order of the draws: the code that a supplementing rule adds, and its rank;
-- in every sixteenth group a code that is bound, and the code of an earlier group that it forbids; then for the variant of each
-- code its quantity and, but in the first group, a code of the groups before, which its formula speaks of.
--     group_at j x         the group of number j, where the state is x
--     behind_group j x     the state behind its draws
--     groups n j x         n groups, of which the first has the number j
use Rattle.std.specs.Prelude.{ℕ, zero, suc, ◌+◌, ◌*◌, ◌%◌, ◌==◌, List, [], ◌∷◌, Option, None, Some, if◌then◌else◌}
use Rattle.book_sample.specs.Draws.{stepped, drawn}
use Rattle.book_sample.specs.declared.group.Bound.{Bound}
use Rattle.book_sample.specs.declared.group.Choice.{Choice}
use Rattle.book_sample.specs.declared.group.Group.{Group}

unfoldable pub bound_at : ℕ → ℕ → Option Bound
bound_at j x =
    if j % 16 == 15
    then Some (record { code = drawn (stepped x) 4; group = drawn (stepped (stepped x)) j; forbids = drawn (stepped (stepped (stepped x))) 4 })
    else None

unfoldable pub behind_bound : ℕ → ℕ → ℕ
behind_bound j x = if j % 16 == 15 then stepped (stepped (stepped x)) else x

unfoldable pub choice_at : ℕ → ℕ → Choice
choice_at j x = record {
  quantity = drawn (stepped x) 9 + 1;
  other = if j == 0 then None else Some (drawn (stepped (stepped x)) (4 * j));
}

unfoldable pub behind_choice : ℕ → ℕ → ℕ
behind_choice j x = if j == 0 then stepped x else stepped (stepped x)

-- the state before the draws of the variant of code e
unfoldable pub before_choice : ℕ → ℕ → ℕ → ℕ
before_choice j zero x = behind_bound j (stepped (stepped x))
before_choice j (suc e) x = behind_choice j (before_choice j e x)

abbrev pub group_at : ℕ → ℕ → Group
group_at j x = record {
  adds = drawn (stepped x) 4;
  rank = drawn (stepped (stepped x)) 100;
  bound = bound_at j (stepped (stepped x));
  first = choice_at j (before_choice j 0 x);
  second = choice_at j (before_choice j 1 x);
  third = choice_at j (before_choice j 2 x);
  fourth = choice_at j (before_choice j 3 x);
}

abbrev pub behind_group : ℕ → ℕ → ℕ
behind_group j x = before_choice j 4 x

abbrev pub groups : ℕ → ℕ → ℕ → List Group
groups zero j x = []
groups (suc n) j x = group_at j x ∷ groups n (suc j) (behind_group j x)

abbrev pub behind_groups : ℕ → ℕ → ℕ → ℕ
behind_groups zero j x = x
behind_groups (suc n) j x = behind_groups n (suc j) (behind_group j x)
