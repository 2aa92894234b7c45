-- A question is refuted on a day by a set where the set doesn't meet its goal. A good set refutes each question that a
-- clause closes.
use Rattle.std.proofs.Common.{◌≡◌, ℕ, suc, Bool, true, false, cond, eqb, List, [], ◌∷◌, map, inl, inr, sym, ap, ◌∙◌}
use Rattle.std.specs.List.{list_any, list_all, AllByRecursion}
use Rattle.std.proofs.lemmas.Bool.{false≢true, and_parts, or_cases, eqb-true, not-true}
use Rattle.pb_base.specs.Rule.{holds}
use Rattle.book_model.specs.Contents.{Contents}
use Rattle.clause_pool.specs.Literal.{complement, is_true}
use Rattle.clause_pool.specs.Clause.{Sat, Follows}
use Rattle.clause_pool.proofs.LiteralLaws.{is_true-complement}
use Rattle.clausify.specs.Questions.{goal, is_to_close}
use Rattle.clausify.specs.Lifting.{GoalsTrue}
use Rattle.clausify.specs.declared.question.Asked.{Asked}
use Rattle.clausify.specs.declared.question.Question.{Question}
use Rattle.derivation.specs.declared.closing.ToClose.{ToClose}
use Rattle.derivation.specs.After.{closes}
use Rattle.derivation.specs.Stage.{to_close}

-- the question is closed by a clause that follows from the given ones
pub record IsClosed (given : List (List ℕ)) (w : ToClose) : Type 0 where
  pub clause : List ℕ
  pub follows : Follows given clause
  pub closes_it : closes w.goal clause ≡ true

-- of the questions that have to be closed, the set meets no goal
abbrev pub IsRefuted : Contents → ℕ → List Bool → Question → Type 0
IsRefuted b day x q = is_to_close q ≡ true → holds (goal b day q) x ≡ false

abbrev pub AllRefuted : Contents → ℕ → List Bool → List Question → Type 0
AllRefuted b day x qs = AllByRecursion (IsRefuted b day x) qs

-- a clause of nothing but one literal is true only where this is
pub only_true : (a : ℕ → Bool) (l : ℕ) (c : List ℕ) → list_any (is_true a) c ≡ true → list_all (λ k. eqb k l) c ≡ true → is_true a l ≡ true
only_true a l [] some all = absurd (false≢true some)
only_true a l (k ∷ ks) some all =
    let parts = and_parts (eqb k l) (list_all (λ j. eqb j l) ks) all in
    elim (or_cases (is_true a k) (list_any (is_true a) ks) some) [
      | inl here ↦ ap (is_true a) (sym (eqb-true k l parts.0)) ∙ here
      | inr there ↦ only_true a l ks there parts.1
    ]

-- where the clause follows from what is satisfied, the goal is false
pub goal_is_false : (given : List (List ℕ)) (a : ℕ → Bool) (w : ToClose) → Sat given a → IsClosed given w → is_true a w.goal ≡ false
goal_is_false given a w sat closed =
    not-true (is_true a w.goal) (sym (is_true-complement a w.goal) ∙ only_true a (complement w.goal) closed.clause (closed.follows a sat) closed.closes_it)

-- the first of a list that may have it, and the rest
pub first_if : {X : Type 0} (P : X → Type 0) (t : Bool) (x : X) (xs : List X) → AllByRecursion P (cond t (x ∷ xs) xs) → (t ≡ true → P x) × AllByRecursion P xs
first_if P true x xs h = ((λ _. h.0), h.1)
first_if P false x xs h = ((λ e. absurd (false≢true e)), h)

pub all_refuted : (b : Contents) (day : ℕ) (x : List Bool) (a : ℕ → Bool) (given : List (List ℕ)) (i : ℕ) (asked : List Asked)
    → Sat given a → AllByRecursion (IsClosed given) (to_close i asked) → GoalsTrue b day x a asked → AllRefuted b day x (map (λ q. q.question) asked)
all_refuted b day x a given i [] sat closed goals = tt
all_refuted b day x a given i (q ∷ qs) sat closed goals =
    let here = first_if (IsClosed given) (is_to_close q.question) (record { question = i; goal = q.goal }) (to_close (suc i) qs) closed in
    ((λ must. sym goals.0 ∙ goal_is_false given a (record { question = i; goal = q.goal }) sat (here.0 must)), all_refuted b day x a given (suc i) qs sat here.1 goals.1)
