-- A kernel that derived further clauses, and what a clause of one literal says.
use Rattle.std.proofs.Common.{◌≡◌, ℕ, suc, ◌≤◌, ◌<◌, false, List, [], ◌∷◌, ◌++◌, Some, Result, Ok, Err, length, take, get_or, eqb, refl, sym, ap, subst, ◌∙◌, arith, inl, inr, append_assoc}
use Rattle.std.specs.Result.{IfOk}
use Rattle.std.proofs.lemmas.Bool.{or_cases, eqb-true, false≢true}
use Rattle.std.proofs.lemmas.List.{append-nil, take-append-le}
use Rattle.std.proofs.lemmas.Option.{slice_get-get_or}
use Rattle.clause_pool.specs.Literal.{complement}
use Rattle.clause_pool.specs.Clause.{KeepsBounds}
use Rattle.clause_pool.specs.Chain.{chain}
use Rattle.clause_pool.specs.Derivation.{Derivation, grown, placed}
use Rattle.clause_pool.specs.declared.chain.Pair.{Pair}
use Rattle.clause_pool.specs.declared.chain.StepFault.{StepFault}
use Rattle.chains.specs.Growth.{Extends, Grows, ClosedAt, Refutes}

-- nothing was derived
pub extends_same : (k : Derivation) → Extends k k
extends_same k = record { same_number = refl; same_given = refl; more = []; clauses = sym (append-nil k.clauses) }

-- further clauses, and further ones
pub extends_twice : (a b c : Derivation) → Extends a b → Extends b c → Extends a c
extends_twice a b c f s = record {
  same_number = s.same_number ∙ f.same_number;
  same_given = s.same_given ∙ f.same_given;
  more = f.more ++ s.more;
  clauses = s.clauses ∙ ap (λ (cs : List (List ℕ)). cs ++ s.more) f.clauses ∙ append_assoc a.clauses f.more s.more;
}

-- one more clause leaves the given ones
pub extends_one : (a b : Derivation) (c : List ℕ) → a.given ≤ length a.clauses → b.given ≡ a.given → b.clauses ≡ a.clauses ++ c ∷ [] → Extends a b
extends_one a b c within number clauses = record {
  same_number = number;
  same_given = ap (λ (n : ℕ). take n b.clauses) number ∙ ap (take a.given) clauses ∙ take-append-le a.given a.clauses (c ∷ []) within;
  more = c ∷ [];
  clauses = clauses;
}

pub grows_same : (k : Derivation) → Grows k k
grows_same k = record { extends = extends_same k; bounds = λ bound below. below }

pub grows_unchanged : (old new : Derivation) → new ≡ old → Grows old new
grows_unchanged old new is = subst (Grows old) (sym is) (grows_same old)

pub grows_twice : (a b c : Derivation) → Grows a b → Grows b c → Grows a c
grows_twice a b c f s = record {
  extends = extends_twice a b c f.extends s.extends;
  bounds = λ bound below. s.bounds bound (f.bounds bound below);
}

-- the resolvent of a chain was appended
pub grows_resolved : (old new : Derivation) (start at : ℕ) (pairs : List Pair) → old.given ≤ length old.clauses
    → placed (chain old.clauses start pairs) (length old.clauses) ≡ Ok at → IfOk (chain old.clauses start pairs) (λ c. new ≡ grown old start pairs c)
    → KeepsBounds old.clauses new.clauses → Grows old new
grows_resolved old new start at pairs within answer ok bounds = go (chain old.clauses start pairs) answer ok where
  go : (r : Result (List ℕ) StepFault) → placed r (length old.clauses) ≡ Ok at → IfOk r (λ c. new ≡ grown old start pairs c) → Grows old new
  go (Ok c) a h = record { extends = extends_one old new c within (ap (λ (k : Derivation). k.given) h) (ap (λ (k : Derivation). k.clauses) h); bounds = bounds }
  go (Err fault) a h = absurd (cc)

refutes_unit : (g : ℕ) (c : List ℕ) → length c ≡ 1 → get_or c 0 0 ≡ complement g → Refutes g c
refutes_unit g [] one first = let none : 0 ≡ 1 = one in absurd (omega arith)
refutes_unit g (x ∷ []) one first = λ l is_in. elim (or_cases (eqb x l) false is_in) [
  | inl same ↦ sym (eqb-true x l same) ∙ first
  | inr none ↦ absurd (false≢true none)
]
refutes_unit g (x ∷ y ∷ c) one first = let many : suc (suc (length c)) ≡ 1 = one in absurd (omega arith)

-- a clause of the complement of a goal alone refutes it
pub closed_by_unit : (clauses : List (List ℕ)) (g at : ℕ) (c : List ℕ) → at < length clauses → c ≡ get_or clauses at [] → length c ≡ 1 → get_or c 0 0 ≡ complement g
    → ClosedAt clauses g at
closed_by_unit clauses g at c within is one first = record {
  clause = c;
  there = slice_get-get_or clauses at [] within ∙ ap (λ (x : List ℕ). Some x) (sym is);
  refutes = refutes_unit g c one first;
}
