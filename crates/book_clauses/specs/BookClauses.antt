-- The clauses of a whole book. Behind the variables of its codes each period of rules has one; what a rule claims holds where the
-- variable of its period is true, and always where the rule is active through the whole term.
--     is_whole b d              the whole term is in these days
--     same_days d e             the first and the last day are the same
--     has_guard b ps d          a record of these days needs no variable, or its period has one
--     guard_in b ps d           the variable of a record of these days
--     literals_on n ps day      what says which periods the day is in
--     AreOn n ps day a          the assignment says so
--     CodesBook b ps clauses    the clauses are satisfied over just the sets that are good on a day, where it is so
--     AreUsages b clauses vars lits
--                               by variant, literals that are the truth of its formula
use Rattle.std.specs.Prelude.{◌≡◌, ℕ, ◌+◌, ◌*◌, ◌<◌, ◌≤◌, Bool, true, ◌&&◌, ◌||◌, ◌==◌, nat_le, List, [], ◌∷◌, Option, None, Some, length, slice_get, if◌then◌else◌}
use Rattle.std.specs.List.{list_any, AllByRecursion}
use Rattle.pb_base.specs.Rule.{holds}
use Rattle.book_model.specs.Activity.{is_within}
use Rattle.book_model.specs.Contents.{Contents}
use Rattle.book_model.specs.Good.{is_good}
use Rattle.book_model.specs.declared.record.Slice.{Slice}
use Rattle.book_model.specs.declared.record.Supplement.{Supplement}
use Rattle.book_model.specs.declared.record.Construct.{Construct}
use Rattle.clause_pool.specs.Literal.{literal, is_true}
use Rattle.clause_pool.specs.Clause.{Sat}
use Rattle.clausify.specs.Choices.{usage}
use Rattle.clausify.specs.Lifting.{BeginsWith}

abbrev pub supplement_days : Supplement → Slice
supplement_days s = record { first = s.from; last = s.until }

abbrev pub construct_days : Construct → Slice
construct_days c = record { first = c.from; last = c.until }

abbrev pub is_whole : Contents → Slice → Bool
is_whole b d = nat_le d.first b.first && nat_le b.last d.last

abbrev pub same_days : Slice → Slice → Bool
same_days d e = (d.first == e.first) && (d.last == e.last)

abbrev pub has_guard : Contents → List Slice → Slice → Bool
has_guard b ps d = is_whole b d || list_any (λ p. same_days p d) ps

abbrev pub AllHaveGuards : Contents → List Slice → List Slice → Type 0
AllHaveGuards b ps ds = AllByRecursion (λ d. has_guard b ps d ≡ true) ds

-- the variable of the first of these periods that is of these days, where v is that of the first one
abbrev pub guard_from : ℕ → List Slice → Slice → Option ℕ
guard_from v [] d = None
guard_from v (p ∷ ps) d = if same_days p d then Some v else guard_from (v + 1) ps d

abbrev pub guard_in : Contents → List Slice → Slice → Option ℕ
guard_in b ps d = if is_whole b d then None else guard_from (length b.codes) ps d

abbrev pub is_in : ℕ → Slice → Bool
is_in day p = is_within p.first p.last day

-- for each period its variable, or the complement; v is that of the first one
abbrev pub literals_on : ℕ → List Slice → ℕ → List ℕ
literals_on v [] day = []
literals_on v (p ∷ ps) day = literal v (is_in day p) ∷ literals_on (v + 1) ps day

abbrev pub AreOn : ℕ → List Slice → ℕ → (ℕ → Bool) → Type 0
AreOn n ps day a = (k : ℕ) (p : Slice) → slice_get ps k ≡ Some p → a (n + k) ≡ is_in day p

-- an assignment that begins with a set and says which periods a day is in
pub record SaysOn (b : Contents) (ps : List Slice) (day : ℕ) (x : List Bool) (a : ℕ → Bool) : Type 0 where
  pub begins : BeginsWith x a
  pub periods : AreOn (length b.codes) ps day a

pub record CodesBook (b : Contents) (ps : List Slice) (clauses : List (List ℕ)) : Type 0 where
  pub lifts : (day : ℕ) → b.first ≤ day → day ≤ b.last → (x : List Bool) → is_good b day x ≡ true
      → (a : ℕ → Bool) × SaysOn b ps day x a × Sat clauses a
  pub begins_good : (day : ℕ) → b.first ≤ day → day ≤ b.last → (x : List Bool) (a : ℕ → Bool)
      → length x ≡ length b.codes → SaysOn b ps day x a → Sat clauses a → is_good b day x ≡ true

pub record IsUsage (b : Contents) (clauses : List (List ℕ)) (vars variant l : ℕ) : Type 0 where
  pub below : l < 2 * vars
  pub right : (x : List Bool) (a : ℕ → Bool) → length x ≡ length b.codes → BeginsWith x a → Sat clauses a
      → is_true a l ≡ holds (usage b variant) x

abbrev pub AreUsages : Contents → List (List ℕ) → ℕ → List ℕ → Type 0
AreUsages b clauses vars lits = (v l : ℕ) → slice_get lits v ≡ Some l → IsUsage b clauses vars v l
