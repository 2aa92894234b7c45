-- What a search over the clauses of a solver says of sets of codes: just the sets that pass a test begin a satisfying assignment.
-- Where the clauses are those of items, the test tells the sets that meet them.
--     IsMadeOf e s           a solver is over just the clauses that an encoder made
--     CodesSets n test s     just the sets of n codes that pass the test begin what satisfies a solver's clauses
--     items_variables n is   how many variables the items have together with n codes and the variable that is always true
--     IsEncoded is e         an encoder has made just the clauses of these items
--     IsOver n is s          a solver is over just the clauses of these items
--     CodesItems n is test   just the sets that pass the test meet the items
--     AreTrue x lits         each of these literals of codes is true of the set
--     IsFound, NoneFound     a set passes the test with these literals true; none does
--     AreDenied c lits       each literal of a clause is the complement of one of these
--     IsRefused n test k lits at
--                            none does, by the clause at a place of a kernel, nor with any other literals that deny this clause
--     IsAnswered n test s lits budget outcome
--                            what comes of a solver's search for such a set
--     IsOutcome n is test lits budget outcome
--                            the same over the clauses of items
use Rattle.std.specs.Prelude.{◌≡◌, ℕ, ◌+◌, ◌≤◌, Bool, true, List, Some, length, slice_get}
use Rattle.pb_base.specs.Sets.{has as has_code}
use Rattle.chains.specs.Growth.{given_of}
use Rattle.clause_pool.specs.Literal.{complement, is_true}
use Rattle.clause_pool.specs.Clause.{has}
use Rattle.clause_pool.specs.Derivation.{Derivation}
use Rattle.clausify.specs.Items.{Item, encoded_items, variables_of}
use Rattle.clausify.specs.Lifting.{CodesJust}
use Rattle.clausify.specs.declared.encoder.Encoder.{Encoder}
use Rattle.solver.specs.Answer.{IsSpent}
use Rattle.solver.specs.Solver.{Solving}
use Rattle.item_search.specs.declared.outcome.Outcome.{Outcome}
use Rattle.item_search.specs.declared.outcome.Outcome.TheVariants.{Shown, NotShown, Left}

abbrev pub items_variables : ℕ → List Item → ℕ
items_variables n is = n + 1 + variables_of is

pub record IsEncoded (is : List Item) (e : Encoder) : Type 0 where
  pub clauses : e.pool.clauses ≡ encoded_items e.truth (e.truth + 1) is
  pub variables : e.next ≡ items_variables e.truth is

pub record IsMadeOf (e : Encoder) (s : Solving) : Type 0 where
  pub clauses : given_of s.kernel ≡ e.pool.clauses
  pub variables : s.vars ≡ e.next
  pub codes : s.codes ≡ e.truth

pub record CodesSets (n : ℕ) (test : List Bool → Bool) (s : Solving) : Type 0 where
  pub just : CodesJust n test (given_of s.kernel) s.vars
  pub codes : s.codes ≡ n
  pub within : n ≤ s.vars

pub record IsOver (n : ℕ) (is : List Item) (s : Solving) : Type 0 where
  pub clauses : given_of s.kernel ≡ encoded_items n (n + 1) is
  pub variables : s.vars ≡ items_variables n is
  pub codes : s.codes ≡ n

abbrev pub CodesItems : ℕ → List Item → (List Bool → Bool) → Type 0
CodesItems n is test = CodesJust n test (encoded_items n (n + 1) is) (items_variables n is)

abbrev pub AreTrue : List Bool → List ℕ → Type 0
AreTrue x lits = (l : ℕ) → has lits l ≡ true → is_true (has_code x) l ≡ true

pub record IsFound (n : ℕ) (test : List Bool → Bool) (lits : List ℕ) (x : List Bool) : Type 0 where
  pub counted : length x ≡ n
  pub passes : test x ≡ true
  pub lits_true : AreTrue x lits

abbrev pub NoneFound : ℕ → (List Bool → Bool) → List ℕ → Type 0
NoneFound n test lits = (x : List Bool) → IsFound n test lits x → ⊥

abbrev pub AreDenied : List ℕ → List ℕ → Type 0
AreDenied clause lits = (l : ℕ) → has clause l ≡ true → has lits (complement l) ≡ true

-- so the literals that the clause denies are enough: what isn't among them may be left out
pub record IsRefused (n : ℕ) (test : List Bool → Bool) (k : Derivation) (lits : List ℕ) (at : ℕ) : Type 0 where
  pub clause : List ℕ
  pub there : slice_get k.clauses at ≡ Some clause
  pub denied : AreDenied clause lits
  pub none : (some : List ℕ) → AreDenied clause some → NoneFound n test some

abbrev pub IsAnswered : ℕ → (List Bool → Bool) → Solving → List ℕ → ℕ → Outcome → Type 0
IsAnswered n test s lits budget (Shown x) = IsFound n test lits x
IsAnswered n test s lits budget (NotShown at) = IsRefused n test s.kernel lits at
IsAnswered n test s lits budget (Left learnt) = IsSpent s.vars (given_of s.kernel) lits budget learnt.clauses

-- as many clauses as the budget allows were learnt, each of which says what propagation didn't
abbrev pub IsLeft : ℕ → List Item → List ℕ → ℕ → List (List ℕ) → Type 0
IsLeft n is lits budget learnt = IsSpent (items_variables n is) (encoded_items n (n + 1) is) lits budget learnt

abbrev pub IsOutcome : ℕ → List Item → (List Bool → Bool) → List ℕ → ℕ → Outcome → Type 0
IsOutcome n is test lits budget (Shown x) = IsFound n test lits x
IsOutcome n is test lits budget (NotShown at) = NoneFound n test lits
IsOutcome n is test lits budget (Left learnt) = IsLeft n is lits budget learnt.clauses
