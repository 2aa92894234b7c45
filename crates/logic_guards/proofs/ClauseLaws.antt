-- What the clauses of a book say of sets.
use Rattle.std.proofs.Common.{◌≡◌, ℕ, zero, suc, ◌<◌, ◌≤◌, Bool, true, List, [], ◌∷◌, Some, Result, Ok, Err, length, refl, sym, subst, arith}
use Rattle.std.specs.Prelude.{IfOk, slice_get}
use Rattle.book_model.specs.Contents.{Contents}
use Rattle.book_model.specs.Good.{is_good}
use Rattle.book_model.specs.declared.record.Slice.{Slice}
use Rattle.book_clauses.specs.BookClauses.{AreUsages, CodesBook}
use Rattle.book_clauses.specs.declared.coding.BookClauses.{BookClauses}
use Rattle.logic_guards.specs.Clauses.{HasLiteral, IsAllowed}

pub allowed : (b : Contents) (ps : List Slice) (clauses : List (List ℕ)) (day : ℕ) (x : List Bool) → CodesBook b ps clauses → b.first ≤ day → day ≤ b.last
    → is_good b day x ≡ true → IsAllowed clauses x
allowed b ps clauses day x h low high good =
    let found = h.lifts day low high x good in record { assignment = found.0; begins = found.1.begins; satisfies = found.2 }

pub has_literal : (b : Contents) (clauses : List (List ℕ)) (vars : ℕ) (lits : List ℕ) (variant : ℕ) → AreUsages b clauses vars lits → length lits ≡ length b.variants
    → variant < length b.variants → HasLiteral b clauses variant
has_literal b clauses vars lits variant h counted within =
    let there = some_at lits variant (subst (λ (n : ℕ). variant < n) (sym counted) within) in
    record { literal = there.0; right = (h variant there.0 there.1).right } where
      some_at : (ls : List ℕ) (k : ℕ) → k < length ls → (l : ℕ) × (slice_get ls k ≡ Some l)
      some_at [] k less = absurd (omega (arith, less))
      some_at (l ∷ ls) zero less = (l, refl)
      some_at (l ∷ ls) (suc k) less = some_at ls k (omega (arith, less))

pub each_literal : {E : Type 0} (b : Contents) (result : Result BookClauses E) → IfOk result (λ c. AreUsages b c.pool.clauses c.vars c.usages.items)
    → IfOk result (λ c. length c.usages.items ≡ length b.variants)
    → IfOk result (λ c. (variant : ℕ) → variant < length b.variants → HasLiteral b c.pool.clauses variant)
each_literal b (Ok c) h k = λ variant within. has_literal b c.pool.clauses c.vars c.usages.items variant h k within
each_literal b (Err why) h k = tt
