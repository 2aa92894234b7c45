-- Items whose claims hold only where their guards are true. A guard is one of the first n codes, which is no code of a book: it
-- stands complemented in each clause of the claim, so that who assumes it asks for the item, and who doesn't leaves it out. The
-- clauses of the formula have no guard, for they claim nothing.
--     guarded_clauses n v is     the clauses of the items, where v is the first variable that they take
--     encoded_guarded n v is     the same behind the clause that variable n is true
--     meets_guarded x i          where the set has the guard, it meets the item
--     GuardedFits n i            the guard and the item speak of the first n codes
--     EncodesGuarded old new i   an encoder has made the clauses of one more item
--     IsGuarded is e             an encoder has made just the clauses of these items
use Rattle.std.specs.Prelude.{◌≡◌, ℕ, ◌+◌, ◌<◌, Bool, true, not, ◌||◌, List, [], ◌∷◌, ◌++◌, Option, None, Some, map}
use Rattle.std.specs.List.{list_all, AllByRecursion}
use Rattle.std.specs.Option.{IfSome}
use Rattle.pb_base.specs.Sets.{has}
use Rattle.clause_pool.specs.Literal.{literal}
use Rattle.clause_pool.specs.Clause.{clause_of}
use Rattle.clausify.specs.Formulas.{connectives, formula_literal, formula_clauses}
use Rattle.clausify.specs.Items.{Item, claim_where, variables_of}
use Rattle.clausify.specs.Encoding.{Encodes}
use Rattle.clausify.specs.declared.encoder.Encoder.{Encoder}
use Rattle.clausify.proofs.ItemLaws.{meets, item_fits}

-- an item, and where it is to hold: always where there is no guard
pub record GuardedItem : Type 0 where
  pub guard : Option ℕ
  pub item : Item

abbrev pub guarded : Option ℕ → Item → GuardedItem
guarded g i = record { guard = g; item = i }

-- the clauses of one item
abbrev pub guarded_own : ℕ → ℕ → GuardedItem → List (List ℕ)
guarded_own n v i = formula_clauses n v i.item.rule ++ claim_where i.guard i.item.claim (formula_literal n v i.item.rule)

abbrev pub guarded_clauses : ℕ → ℕ → List GuardedItem → List (List ℕ)
guarded_clauses n v [] = []
guarded_clauses n v (i ∷ is) = guarded_own n v i ++ guarded_clauses n (v + connectives i.item.rule) is

abbrev pub encoded_guarded : ℕ → ℕ → List GuardedItem → List (List ℕ)
encoded_guarded n v is = clause_of (literal n true ∷ []) ∷ guarded_clauses n v is

abbrev pub items_of : List GuardedItem → List Item
items_of is = map (λ i. i.item) is

abbrev pub guarded_variables : List GuardedItem → ℕ
guarded_variables is = variables_of (items_of is)

-- the set has the guard, or there is none
abbrev pub is_on : List Bool → Option ℕ → Bool
is_on x None = true
is_on x (Some g) = has x g

abbrev pub meets_guarded : List Bool → GuardedItem → Bool
meets_guarded x i = not (is_on x i.guard) || meets x i.item

abbrev pub meets_all_guarded : List GuardedItem → List Bool → Bool
meets_all_guarded is x = list_all (meets_guarded x) is

pub record GuardedFits (n : ℕ) (i : GuardedItem) : Type 0 where
  pub guard : IfSome i.guard (λ g. g < n)
  pub item : item_fits n i.item ≡ true

abbrev pub AllGuardedFit : ℕ → List GuardedItem → Type 0
AllGuardedFit n is = AllByRecursion (GuardedFits n) is

abbrev pub EncodesGuarded : Encoder → Encoder → GuardedItem → Type 0
EncodesGuarded old new i = Encodes old new (guarded_own old.truth old.next i) (connectives i.item.rule)

pub record IsGuarded (is : List GuardedItem) (e : Encoder) : Type 0 where
  pub clauses : e.pool.clauses ≡ encoded_guarded e.truth (e.truth + 1) is
  pub variables : e.next ≡ e.truth + 1 + guarded_variables is
