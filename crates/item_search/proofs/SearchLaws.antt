-- What a solver's answers say of the sets that its clauses are satisfied over.
use Rattle.std.proofs.Common.{◌≡◌, inl, inr, ℕ, ◌+◌, ◌*◌, ◌/◌, ◌<◌, ◌≤◌, Bool, true, false, not, eqb, List, [], ◌∷◌, length, sym, ap, subst, ◌∙◌, arith}
use Rattle.std.specs.List.{filter, slice_index_or}
use Rattle.std.proofs.lemmas.Bool.{true≢false, false≢true, not-true, or_cases, or_left, or_right, eqb-true, cases_Bool, cond-true, cond-false}
use Rattle.std.proofs.lemmas.Option.{get_or_from_slice_get, slice_get_within}
use Rattle.pb_base.specs.Sets.{has as has_code}
use Rattle.chains.specs.Growth.{given_of}
use Rattle.clause_pool.specs.Literal.{literal, complement, is_true}
use Rattle.clause_pool.specs.Clause.{has, Follows}
use Rattle.clause_pool.specs.Derivation.{Derivation, AllFollow}
use Rattle.clause_pool.proofs.ClauseLaws.{TrueLiteral, true_literal, all_found}
use Rattle.clause_pool.proofs.LiteralLaws.{even_or_odd, is_true-even, is_true-odd, is_true-complement, complement-complement}
use Rattle.propagate.specs.Trail.{AreLiterals}
use Rattle.propagate.specs.Quiet.{IsConsistent}
use Rattle.clausify.specs.Items.{Item, encoded_items}
use Rattle.clausify.specs.Lifting.{IsExtended, CodesJust}
use Rattle.clausify.proofs.RangeLaws.{positive_below, negative_below}
use Rattle.clausify.proofs.Truth.{true_positive, true_negative}
use Rattle.solver.specs.Answer.{Begins, IsCore, IsSpent}
use Rattle.solver.specs.Solver.{Solving, Onwards}
use Rattle.solver.proofs.OneLaws.{in_one, one_below}
use Rattle.item_search.specs.Search.{items_variables, CodesSets, IsOver, CodesItems, AreTrue, IsFound, NoneFound, IsRefused, IsAnswered, IsOutcome}
use Rattle.item_search.specs.declared.outcome.Outcome.{Outcome}
use Rattle.item_search.specs.declared.outcome.Outcome.TheVariants as outcome

pub over_onwards : (n : ℕ) (is : List Item) (old new : Solving) → IsOver n is old → Onwards old new → IsOver n is new
over_onwards n is old new h more = record {
  clauses = more.extends.same_given ∙ h.clauses;
  variables = more.same_vars ∙ h.variables;
  codes = more.same_codes ∙ h.codes;
}

pub over_within : (n : ℕ) (is : List Item) (s : Solving) → IsOver n is s → s.codes ≤ s.vars
over_within n is s h = omega (arith, h.variables, h.codes)

-- what is asked of literals holds of none
pub none_below : (bound : ℕ) → AreLiterals [] bound
none_below bound l is_in = absurd (false≢true is_in)

pub none_consistent : IsConsistent []
none_consistent l is_in other = false≢true is_in

-- a code's literal is as true of the set as of an assignment that begins with it
same_truth : (n : ℕ) (x : List Bool) (a : ℕ → Bool) (l : ℕ) → ((i : ℕ) → i < n → a i ≡ has_code x i) → l < 2 * n → is_true a l ≡ is_true (has_code x) l
same_truth n x a l begins low =
    elim (even_or_odd l) [
      | inl e ↦ is_true-even a l e ∙ begins (l / 2) (omega arith) ∙ sym (is_true-even (has_code x) l e)
      | inr o ↦ is_true-odd a l o ∙ ap not (begins (l / 2) (omega arith)) ∙ sym (is_true-odd (has_code x) l o)
    ]

module _ (n : ℕ) (test : List Bool → Bool) (s : Solving) (codes : CodesSets n test s) (lits : List ℕ) (below : AreLiterals lits (2 * s.codes)) where
  code_literal : (l : ℕ) → has lits l ≡ true → l < 2 * n
  code_literal l is_in = subst (λ (m : ℕ). l < 2 * m) codes.codes (below l is_in)

  -- a set that a solver answers by passes the test
  pub set_passes : (x : List Bool) → Begins (given_of s.kernel) lits s.codes x → IsFound n test lits x
  set_passes x begins =
      let h : Begins (given_of s.kernel) lits n x = subst (λ (m : ℕ). Begins (given_of s.kernel) lits m x) codes.codes begins in
      record {
        counted = h.counted;
        passes = codes.just.begins_so h.assignment x h.counted (λ i low. h.begins i (omega (arith, h.counted))) h.satisfied;
        lits_true = λ l is_in. sym (same_truth n x h.assignment l h.begins (code_literal l is_in)) ∙ h.assumed l is_in;
      }

  -- where a clause has only complements of the literals no set does, whatever else is asked of it
  pub core_refused : (at : ℕ) → AllFollow s.kernel → IsCore s.kernel lits at → IsRefused n test s.kernel lits at
  core_refused at follow core = record {
    clause = core.clause;
    there = core.there;
    denied = core.complements;
    none = λ some denied x found.
        let lifted : (a : ℕ → Bool) × IsExtended (given_of s.kernel) s.vars x a = codes.just.lifts x found.counted found.passes in
        let a : ℕ → Bool = lifted.0 in
        let follows : Follows (given_of s.kernel) core.clause = all_found (Follows (given_of s.kernel)) s.kernel.clauses at core.clause follow core.there in
        let t : TrueLiteral a core.clause = true_literal a core.clause (follows a lifted.1.satisfies) in
        let low : complement t.literal < 2 * n = code_literal (complement t.literal) (core.complements t.literal t.is_in) in
        let begins : (i : ℕ) → i < n → a i ≡ has_code x i = λ i near. lifted.1.begins i (omega (arith, near, found.counted)) in
        let against : is_true a (complement t.literal) ≡ true =
        same_truth n x a (complement t.literal) begins low ∙ found.lits_true (complement t.literal) (denied t.literal t.is_in) in
        true≢false (sym against ∙ is_true-complement a t.literal ∙ ap not t.holds);
  }

-- those of the literals that the clause at a place denies
abbrev pub denied_literals : Derivation → ℕ → List ℕ → List ℕ
denied_literals k at lits = filter (λ l. has (slice_index_or k.clauses at []) (complement l)) lits

-- they are enough
has-filter : (w : ℕ → Bool) (lits : List ℕ) (l : ℕ) → w l ≡ true → has lits l ≡ true → has (filter w lits) l ≡ true
has-filter w [] l kept is_in = is_in
has-filter w (x ∷ lits) l kept is_in =
    elim (cases_Bool (w x)) [
      | inl stays ↦
          subst (λ (ls : List ℕ). has ls l ≡ true) (sym (cond-true (w x) (x ∷ filter w lits) (filter w lits) stays))
          (elim (or_cases (eqb x l) (has lits l) is_in) [
            | inl same ↦ or_left (eqb x l) (has (filter w lits) l) same
            | inr later ↦ or_right (eqb x l) (has (filter w lits) l) (has-filter w lits l kept later)
          ])
      | inr goes ↦
          subst (λ (ls : List ℕ). has ls l ≡ true) (sym (cond-false (w x) (x ∷ filter w lits) (filter w lits) goes))
          (elim (or_cases (eqb x l) (has lits l) is_in) [
            | inl same ↦ absurd (true≢false (sym kept ∙ ap w (sym (eqb-true x l same)) ∙ goes))
            | inr later ↦ has-filter w lits l kept later
          ])
    ]

pub refused_there : (n : ℕ) (test : List Bool → Bool) (k : Derivation) (lits : List ℕ) (at : ℕ) → IsRefused n test k lits at → at < length k.clauses
refused_there n test k lits at h = slice_get_within k.clauses at h.clause h.there

pub refused_denied : (n : ℕ) (test : List Bool → Bool) (k : Derivation) (lits : List ℕ) (at : ℕ) → IsRefused n test k lits at → NoneFound n test (denied_literals k at lits)
refused_denied n test k lits at h =
    h.none (denied_literals k at lits)
    (λ l is_in.
    has-filter (λ (m : ℕ). has (slice_index_or k.clauses at []) (complement m)) lits (complement l)
    (ap (λ (c : List ℕ). has c (complement (complement l))) (get_or_from_slice_get k.clauses at h.clause [] h.there)
    ∙ ap (has h.clause) (complement-complement l) ∙ is_in)
    (h.denied l is_in))

-- the same over the clauses of items
pub over_codes : (n : ℕ) (is : List Item) (test : List Bool → Bool) (s : Solving) → IsOver n is s → CodesItems n is test → CodesSets n test s
over_codes n is test s over codes = record {
  just =
      subst (λ (v : ℕ). CodesJust n test (given_of s.kernel) v) (sym over.variables)
      (subst (λ (cs : List (List ℕ)). CodesJust n test cs (items_variables n is)) (sym over.clauses) codes);
  codes = over.codes;
  within = omega (arith, over.variables);
}

pub outcome_over : (n : ℕ) (is : List Item) (test : List Bool → Bool) (s : Solving) (lits : List ℕ) (budget : ℕ) → IsOver n is s → (o : Outcome) → IsAnswered n test s lits budget o
    → IsOutcome n is test lits budget o
outcome_over n is test s lits budget over (outcome.Shown x) found = found
outcome_over n is test s lits budget over (outcome.NotShown at) refused = refused.none lits refused.denied
outcome_over n is test s lits budget over (outcome.Left learnt) spent =
    subst (λ (m : ℕ). IsSpent m (encoded_items n (n + 1) is) lits budget learnt.clauses) over.variables
    (subst (λ (cs : List (List ℕ)). IsSpent s.vars cs lits budget learnt.clauses) over.clauses spent)

pub codes_onwards : (n : ℕ) (test : List Bool → Bool) (old new : Solving) → CodesSets n test old → Onwards old new → CodesSets n test new
codes_onwards n test old new h more = record {
  just =
      subst (λ (v : ℕ). CodesJust n test (given_of new.kernel) v) (sym more.same_vars)
      (subst (λ (cs : List (List ℕ)). CodesJust n test cs old.vars) (sym more.extends.same_given) h.just);
  codes = more.same_codes ∙ h.codes;
  within = omega (arith, more.same_vars, h.within);
}

pub codes_within : (n : ℕ) (test : List Bool → Bool) (s : Solving) → CodesSets n test s → s.codes ≤ s.vars
codes_within n test s h = omega (arith, h.codes, h.within)

-- a literal of a code, true or false, is as true as the set has the code so
pub shows_value : (x : List Bool) (place : ℕ) (v : Bool) → AreTrue x (literal place v ∷ []) → has_code x place ≡ v
shows_value x place true h = sym (true_positive (has_code x) place) ∙ h (literal place true) (in_one (literal place true))
shows_value x place false h = not-true _ (sym (true_negative (has_code x) place) ∙ h (literal place false) (in_one (literal place false)))

one_shown : (x : List Bool) (g : ℕ) → is_true (has_code x) g ≡ true → AreTrue x (g ∷ [])
one_shown x g h l is_in =
    elim (or_cases (eqb g l) false is_in) [
      | inl same ↦ subst (λ (k : ℕ). is_true (has_code x) k ≡ true) (eqb-true g l same) h
      | inr none ↦ absurd (false≢true none)
    ]

pub value_shown : (x : List Bool) (place : ℕ) (v : Bool) → has_code x place ≡ v → AreTrue x (literal place v ∷ [])
value_shown x place true h = one_shown x (literal place true) (true_positive (has_code x) place ∙ h)
value_shown x place false h = one_shown x (literal place false) (true_negative (has_code x) place ∙ ap not h)

pub value_below : (n place : ℕ) (v : Bool) → place < n → AreLiterals (literal place v ∷ []) (2 * n)
value_below n place true h = one_below (literal place true) (2 * n) (positive_below place n h)
value_below n place false h = one_below (literal place false) (2 * n) (negative_below place n h)

-- of no literals nothing is asked
pub none_true : (x : List Bool) → AreTrue x []
none_true x l is_in = absurd (false≢true is_in)
