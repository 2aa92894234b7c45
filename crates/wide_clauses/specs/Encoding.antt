-- What an encoder has made so far.
--     Widens old new more count     so many clauses more at the end, and so many variables taken
--     WidensItems old new is        the clauses and the variables of these items
use Rattle.std.specs.Prelude.{◌≡◌, ℕ, ◌+◌, List, ◌++◌}
use Rattle.clausify.specs.Items.{Item}
use Rattle.wide_clauses.specs.Chains.{wide_variables}
use Rattle.wide_clauses.specs.WideItems.{taken_by, wide_item_clauses, wide_own}
use Rattle.wide_clauses.specs.declared.wide.WideEncoder.{WideEncoder}

pub record Widens (old new : WideEncoder) (more : List (List ℕ)) (count : ℕ) : Type 0 where
  pub clauses : new.pool.clauses ≡ old.pool.clauses ++ more
  pub next : new.next ≡ old.next + count
  pub truth : new.truth ≡ old.truth

abbrev pub WidensItems : WideEncoder → WideEncoder → List Item → Type 0
WidensItems old new is = Widens old new (wide_item_clauses old.truth old.next is) (taken_by is)

abbrev pub WidensItem : WideEncoder → WideEncoder → Item → Type 0
WidensItem old new i = Widens old new (wide_own old.truth old.next i) (wide_variables i.rule)
