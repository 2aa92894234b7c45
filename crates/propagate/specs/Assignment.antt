-- What an assignment is to the crate: the trail without the clauses.
--     Assigned               the literals that are true, with their reasons and levels
--     IsAssigned a           what it keeps
--     AreLiteralsOf a c      each literal of the clause is one of a variable
use Rattle.std.specs.Prelude.{◌≡◌, ℕ, ◌+◌, ◌*◌, ◌/◌, ◌<◌, ◌≤◌, Bool, true, false, List, [], ◌∷◌, ◌++◌, Option, Some, None, length, map, nat_eq, take, slice_index, slice_index_or, if◌then◌else◌}
use Rattle.std.specs.List.{IsDistinct}
use Rattle.clause_pool.specs.Literal.{complement}
use Rattle.clause_pool.specs.Clause.{has}
use Rattle.propagate.specs.Trail.{AreLiterals, AreRising}
use Rattle.propagate.specs.declared.assignment.Truth.{Truth}
use Rattle.propagate.specs.declared.assignment.Truth.TheVariants.{Open, Holds, Fails}

pub record Assigned : Type 0 where
  pub vars : ℕ
  pub lits : List ℕ
  pub reasons : List (Option ℕ)
  pub starts : List ℕ

-- how many literals the levels up to n have
abbrev pub end_of : Assigned → ℕ → ℕ
end_of a n = slice_index_or a.starts n (length a.lits)

-- each literal of the clause is one of a variable
abbrev pub AreLiteralsOf : Assigned → List ℕ → Type 0
AreLiteralsOf a c = AreLiterals c (a.vars + a.vars)

-- each variable stands at most once, and the levels begin one after the other
pub record IsAssigned (a : Assigned) : Type 0 where
  pub apart : IsDistinct nat_eq (map (λ l. l / 2) a.lits)
  pub consistent : (l : ℕ) → has a.lits l ≡ true → has a.lits (complement l) ≡ true → ⊥
  pub below : (l : ℕ) → has a.lits l ≡ true → l < 2 * a.vars
  pub few_levels : length a.starts ≤ a.vars
  pub rising : AreRising a.starts
  pub within : (i : ℕ) → i < length a.starts → slice_index a.starts i ≤ length a.lits
  pub reasons_counted : length a.reasons ≡ length a.lits

-- nothing is true yet
abbrev pub none_assigned : ℕ → Assigned
none_assigned vars = record { vars = vars; lits = []; reasons = []; starts = [] }

-- one more literal is true, for this reason
abbrev pub with_literal : Assigned → ℕ → Option ℕ → Assigned
with_literal a l reason = record {
  vars = a.vars;
  lits = a.lits ++ l ∷ [];
  reasons = a.reasons ++ reason ∷ [];
  starts = a.starts;
}

-- one more level is open
abbrev pub with_level : Assigned → Assigned
with_level a = record {
  vars = a.vars;
  lits = a.lits;
  reasons = a.reasons;
  starts = a.starts ++ length a.lits ∷ [];
}

-- the first n literals alone
abbrev pub first_literals : Assigned → ℕ → Assigned
first_literals a n = record {
  vars = a.vars;
  lits = take n a.lits;
  reasons = take n a.reasons;
  starts = a.starts;
}

-- the starts of the levels up to n alone
abbrev pub first_levels : Assigned → ℕ → Assigned
first_levels a n = record { vars = a.vars; lits = a.lits; reasons = a.reasons; starts = take n a.starts }

-- the levels up to n alone
abbrev pub cut_to : Assigned → ℕ → Assigned
cut_to a n = record {
  vars = a.vars;
  lits = take (end_of a n) a.lits;
  reasons = take (end_of a n) a.reasons;
  starts = take n a.starts;
}

-- whether a literal is true or false over these true ones
abbrev pub value_over : List ℕ → ℕ → Option Bool
value_over lits l = if has lits l then Some true else (if has lits (complement l) then Some false else None)

-- the same from a literal's entry in the table
abbrev pub known : Truth → Option Bool
known Open = None
known Holds = Some true
known Fails = Some false

-- what the tables say of the trail
pub record AreTables (values : List Truth) (places : List ℕ) (a : Assigned) : Type 0 where
  pub values_counted : length values ≡ a.vars + a.vars
  pub places_counted : length places ≡ a.vars
  pub value_is : (l : ℕ) → l < a.vars + a.vars → known (slice_index_or values l Open) ≡ value_over a.lits l
  pub place_is : (k : ℕ) → k < length a.lits → slice_index_or places (slice_index a.lits k / 2) 0 ≡ k

-- the first n literals alone, with their tables
pub record AreFirst (values : List Truth) (places : List ℕ) (a : Assigned) (n : ℕ) : Type 0 where
  pub assigned : IsAssigned (first_literals a n)
  pub tables : AreTables values places (first_literals a n)

-- tables of these literals become those of the first n, where no level begins behind the first so many
abbrev pub OpensBehind : List Truth → List Truth → List ℕ → ℕ → ℕ → Type 0
OpensBehind old new lits end n = (places : List ℕ) (a : Assigned) → a.lits ≡ lits → IsAssigned a → AreTables old places a
    → ((i : ℕ) → i < length a.starts → slice_index a.starts i ≤ end) → AreFirst new places a n
