-- What is told of a store, by what its keeper is.
--     is_journal name          the name is one of a journal
--     of_kind none d j store   what is told of the keeper that is there
--     may_begin_kind d j       a store begins by a name of its kind, and as its keeper may
use Rattle.std.specs.Prelude.{◌≡◌, ◌==◌, ℕ, Bool, true, false, List, codes, ⊤}
use Rattle.std.specs.List.{ends_with}
use Rattle.file_store.specs.declared.store.Store.{Store}
use Rattle.file_store.specs.declared.store.Store.TheVariants.{Unopened, Database, Journal}

abbrev pub is_journal : List ℕ → Bool
is_journal name = ends_with ◌==◌ name (codes ".journal")

-- what is told of the keeper that is there, or this where none is
abbrev pub of_kind : {D J T : Type 0} → T → (D → T) → (J → T) → Store D J → T
of_kind none of_database of_journal Unopened = none
of_kind none of_database of_journal (Database keeper) = of_database keeper
of_kind none of_database of_journal (Journal keeper) = of_journal keeper

-- where there is no keeper nothing can begin, by any name
abbrev pub may_begin_kind : {D J : Type 0} → (D → List ℕ → Type 0) → (J → List ℕ → Type 0) → Store D J → List ℕ → Type 0
may_begin_kind database journal Unopened name = ⊤
may_begin_kind database journal (Database keeper) name = (is_journal name ≡ false) × database keeper name
may_begin_kind database journal (Journal keeper) name = (is_journal name ≡ true) × journal keeper name
