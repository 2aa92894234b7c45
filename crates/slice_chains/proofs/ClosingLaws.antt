-- A clause that refutes a goal closes its question.
use Rattle.std.proofs.Common.{◌≡◌, ℕ, true, eqb, List, [], ◌∷◌, Some, refl, ap, ◌∙◌}
use Rattle.std.specs.List.{slice_get, list_all}
use Rattle.std.proofs.lemmas.Bool.{and_from, eq-eqb, or_left, or_right}
use Rattle.std.proofs.lemmas.Option.{slice_get_within, get_or_from_slice_get}
use Rattle.clause_pool.specs.Literal.{complement}
use Rattle.clause_pool.specs.Clause.{has}
use Rattle.chains.specs.Growth.{Refutes, ClosedAt}
use Rattle.derivation.specs.After.{closes}
use Rattle.derivation.specs.Showing.{Closes}

closes_from_refutes : (goal : ℕ) (c : List ℕ) → Refutes goal c → closes goal c ≡ true
closes_from_refutes goal [] h = refl
closes_from_refutes goal (x ∷ xs) h =
    and_from (eqb x (complement goal)) (list_all (λ l. eqb l (complement goal)) xs)
    (eq-eqb x (complement goal) (h x (or_left (eqb x x) (has xs x) (eq-eqb x x refl))))
    (closes_from_refutes goal xs (λ l is_in. h l (or_right (eqb x l) (has xs l) is_in)))

pub closed_one : (clauses : List (List ℕ)) (n goal at : ℕ) → ClosedAt clauses goal at → Closes clauses (record { question = n; goal = goal }) (record { question = n; at = at })
closed_one clauses n goal at h = record {
  question = refl;
  place = slice_get_within clauses at h.clause h.there;
  closed = ap (closes goal) (get_or_from_slice_get clauses at h.clause [] h.there) ∙ closes_from_refutes goal h.clause h.refutes;
}
