-- An encoder that has made the clauses of items: it begins with none, and takes further ones.
use Rattle.std.proofs.Common.{◌≡◌, ℕ, ◌+◌, ◌*◌, ◌≤◌, Bool, true, List, [], ◌∷◌, ◌++◌, length, sym, ap, subst, ◌∙◌, arith}
use Rattle.std.proofs.lemmas.List.{append-nil, take_all}
use Rattle.clause_pool.specs.Literal.{literal}
use Rattle.clause_pool.specs.Clause.{clause_of, AreBelow}
use Rattle.clause_pool.specs.Derivation.{Derivation, kernel_of}
use Rattle.clause_pool.proofs.ClauseLaws.{IsBelow-clause_of}
use Rattle.chains.specs.Growth.{given_of}
use Rattle.clausify.specs.Encoding.{EncodesItem, EncodesItems}
use Rattle.clausify.specs.Items.{Item, item_clauses, encoded_items, own_clauses}
use Rattle.clausify.specs.Lifting.{CodesJust}
use Rattle.clausify.specs.declared.encoder.Encoder.{Encoder}
use Rattle.clausify.proofs.ItemLaws.{AllFit, item_clauses-append, variables_of-append}
use Rattle.clausify.proofs.RangeLaws.{items_below, positive_below}
use Rattle.solver.specs.Solver.{Solving}
use Rattle.item_search.specs.Search.{items_variables, IsMadeOf, CodesSets, IsEncoded, IsOver}

-- a new encoder has made no items
pub encoded_none : (n : ℕ) (e : Encoder) → e.pool.clauses ≡ clause_of (literal n true ∷ []) ∷ [] → e.truth ≡ n → e.next ≡ n + 1 → IsEncoded [] e
encoded_none n e clauses truth next = record {
  clauses = clauses ∙ ap (λ (t : ℕ). clause_of (literal t true ∷ []) ∷ []) (sym truth);
  variables = omega arith;
}

-- and further ones come behind
pub encoded_then : (is js : List Item) (e f : Encoder) → IsEncoded is e → EncodesItems e f js → IsEncoded (is ++ js) f
encoded_then is js e f h more =
    let n : ℕ = e.truth in
    let clauses : f.pool.clauses ≡ encoded_items n (n + 1) (is ++ js) =
    more.clauses
    ∙ ap (λ (cs : List (List ℕ)). cs ++ item_clauses n e.next js) h.clauses
    ∙ ap (λ (v : ℕ). encoded_items n (n + 1) is ++ item_clauses n v js) h.variables
    ∙ ap (λ (cs : List (List ℕ)). clause_of (literal n true ∷ []) ∷ cs) (sym (item_clauses-append n (n + 1) is js)) in
    record {
      clauses = subst (λ (t : ℕ). f.pool.clauses ≡ encoded_items t (t + 1) (is ++ js)) (sym more.truth) clauses;
      variables = omega (arith, more.next, h.variables, more.truth, variables_of-append is js);
    }

pub one_item : (i : Item) (e f : Encoder) → EncodesItem e f i → EncodesItems e f (i ∷ [])
one_item i e f more = record {
  clauses = more.clauses ∙ ap (λ (cs : List (List ℕ)). e.pool.clauses ++ cs) (sym (append-nil (own_clauses e.truth e.next i)));
  next = omega (arith, more.next);
  truth = more.truth;
  first = more.first;
}

pub encoded_item : (is : List Item) (i : Item) (e f : Encoder) → IsEncoded is e → EncodesItem e f i → IsEncoded (is ++ i ∷ []) f
encoded_item is i e f h more = encoded_then is (i ∷ []) e f h (one_item i e f more)

-- what a solver asks of it
pub encoded_below : (is : List Item) (e : Encoder) → AllFit e.truth is → IsEncoded is e → AreBelow (2 * e.next) e.pool.clauses
encoded_below is e fit h =
    let n : ℕ = e.truth in
    let m : ℕ = items_variables n is in
    let below : AreBelow (2 * m) (encoded_items n (n + 1) is) = (
      IsBelow-clause_of (2 * m) (literal n true ∷ []) (positive_below n m (omega arith), tt),
      items_below n n (n + 1) m is fit (omega arith) (omega arith) (omega arith),
    ) in
    subst (λ (v : ℕ). AreBelow (2 * v) e.pool.clauses) (sym h.variables) (subst (AreBelow (2 * m)) (sym h.clauses) below)

pub encoded_within : (is : List Item) (e : Encoder) → IsEncoded is e → e.truth ≤ e.next
encoded_within is e h = omega (arith, h.variables)

-- the solver that is made of it
pub made_below : (vars next : ℕ) (clauses given : List (List ℕ)) (kernel : Derivation) → kernel ≡ kernel_of clauses → clauses ≡ given → vars ≡ next
    → AreBelow (2 * next) given → AreBelow (2 * vars) kernel.clauses
made_below vars next clauses given kernel made are count below =
    subst (AreBelow (2 * vars)) (sym (ap (λ (k : Derivation). k.clauses) made ∙ are)) (subst (λ (v : ℕ). AreBelow (2 * v) given) (sym count) below)

pub made_of : (e : Encoder) (vars : ℕ) (clauses : List (List ℕ)) (kernel : Derivation) (s : Solving) → kernel ≡ kernel_of clauses
    → clauses ≡ e.pool.clauses → vars ≡ e.next → s ≡ record { kernel = kernel; vars = vars; codes = e.truth } → IsMadeOf e s
made_of e vars clauses kernel s made are count solver = record {
  clauses = ap (λ (t : Solving). given_of t.kernel) solver ∙ ap (λ (k : Derivation). given_of k) made ∙ take_all (length clauses) clauses (omega arith) ∙ are;
  variables = ap (λ (t : Solving). t.vars) solver ∙ count;
  codes = ap (λ (t : Solving). t.codes) solver;
}

pub made_over : (is : List Item) (e : Encoder) (s : Solving) → IsEncoded is e → IsMadeOf e s → IsOver e.truth is s
made_over is e s h made = record {
  clauses = made.clauses ∙ h.clauses;
  variables = made.variables ∙ h.variables;
  codes = made.codes;
}

-- what the encoder's clauses say of sets is what the solver's do
pub codes_made : (test : List Bool → Bool) (e : Encoder) (s : Solving) → e.truth ≤ e.next → CodesJust e.truth test e.pool.clauses e.next → IsMadeOf e s
    → CodesSets e.truth test s
codes_made test e s within codes made = record {
  just =
      subst (λ (v : ℕ). CodesJust e.truth test (given_of s.kernel) v) (sym made.variables)
      (subst (λ (cs : List (List ℕ)). CodesJust e.truth test cs e.next) (sym made.clauses) codes);
  codes = made.codes;
  within = omega (arith, made.variables, within);
}
