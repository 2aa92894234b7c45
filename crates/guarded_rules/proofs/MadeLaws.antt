-- An encoder that has made the clauses of guarded items: it begins with none, and takes further ones. Then what it made says of
-- sets of codes, and what is asked of items over fewer codes.
use Rattle.std.proofs.Common.{append_assoc, ◌≡◌, ℕ, ◌+◌, ◌*◌, Bool, true, List, [], ◌∷◌, ◌++◌, None, map, refl, sym, ap, subst, ◌∙◌, arith}
use Rattle.std.proofs.lemmas.List.{append-nil, map-append}
use Rattle.clause_pool.specs.Literal.{literal}
use Rattle.clause_pool.specs.Clause.{clause_of, AreBelow}
use Rattle.clausify.specs.Encoding.{EncodesItems}
use Rattle.clausify.specs.Formulas.{connectives}
use Rattle.clausify.specs.Items.{Item, own_clauses, item_clauses, variables_of}
use Rattle.clausify.specs.Lifting.{CodesJust}
use Rattle.clausify.specs.declared.encoder.Encoder.{Encoder}
use Rattle.clausify.proofs.ItemLaws.{variables_of-append}
use Rattle.guarded_rules.specs.Guarded.{GuardedItem, guarded, guarded_own, guarded_clauses, encoded_guarded, items_of, guarded_variables, meets_all_guarded, AllGuardedFit, EncodesGuarded, IsGuarded}
use Rattle.guarded_rules.proofs.BelowLaws.{encoded_below}
use Rattle.guarded_rules.proofs.GuardedLaws.{guarded_just}

pub guarded_variables-append : (is js : List GuardedItem) → guarded_variables (is ++ js) ≡ guarded_variables is + guarded_variables js
guarded_variables-append is js =
    ap variables_of (map-append (λ (i : GuardedItem). i.item) is js) ∙ variables_of-append (items_of is) (items_of js)

pub guarded_clauses-append : (n v : ℕ) (is js : List GuardedItem) → guarded_clauses n v (is ++ js) ≡ guarded_clauses n v is ++ guarded_clauses n (v + guarded_variables is) js
guarded_clauses-append n v [] js = ap (λ (w : ℕ). guarded_clauses n w js) (let e : v ≡ v + 0 = omega arith in e)
guarded_clauses-append n v (i ∷ is) js =
    ap (λ (cs : List (List ℕ)). guarded_own n v i ++ cs) (guarded_clauses-append n (v + connectives i.item.rule) is js)
    ∙ sym (append_assoc (guarded_own n v i) (guarded_clauses n (v + connectives i.item.rule) is) _)
    ∙ ap (λ (w : ℕ). guarded_clauses n v (i ∷ is) ++ guarded_clauses n w js)
    (let e : v + connectives i.item.rule + guarded_variables is ≡ v + guarded_variables (i ∷ is) = omega arith in e)

-- items without a guard
pub plain_clauses : (n v : ℕ) (is : List Item) → guarded_clauses n v (map (guarded None) is) ≡ item_clauses n v is
plain_clauses n v [] = refl
plain_clauses n v (i ∷ is) = ap (λ (cs : List (List ℕ)). own_clauses n v i ++ cs) (plain_clauses n (v + connectives i.rule) is)

pub plain_variables : (is : List Item) → guarded_variables (map (guarded None) is) ≡ variables_of is
plain_variables [] = refl
plain_variables (i ∷ is) = ap (λ (k : ℕ). connectives i.rule + k) (plain_variables is)

-- a new encoder has made no items
pub guarded_none : (n : ℕ) (e : Encoder) → e.pool.clauses ≡ clause_of (literal n true ∷ []) ∷ [] → e.truth ≡ n → e.next ≡ n + 1 → IsGuarded [] e
guarded_none n e clauses truth next = record {
  clauses = clauses ∙ ap (λ (t : ℕ). clause_of (literal t true ∷ []) ∷ []) (sym truth);
  variables = omega arith;
}

-- and further ones come behind
further : (is js : List GuardedItem) (e f : Encoder) → IsGuarded is e → f.pool.clauses ≡ e.pool.clauses ++ guarded_clauses e.truth e.next js
    → f.next ≡ e.next + guarded_variables js → f.truth ≡ e.truth → IsGuarded (is ++ js) f
further is js e f h clauses next truth =
    let n : ℕ = e.truth in
    let all : f.pool.clauses ≡ encoded_guarded n (n + 1) (is ++ js) =
    clauses
    ∙ ap (λ (cs : List (List ℕ)). cs ++ guarded_clauses n e.next js) h.clauses
    ∙ ap (λ (v : ℕ). encoded_guarded n (n + 1) is ++ guarded_clauses n v js) h.variables
    ∙ ap (λ (cs : List (List ℕ)). clause_of (literal n true ∷ []) ∷ cs) (sym (guarded_clauses-append n (n + 1) is js)) in
    record {
      clauses = subst (λ (t : ℕ). f.pool.clauses ≡ encoded_guarded t (t + 1) (is ++ js)) (sym truth) all;
      variables = omega (arith, next, h.variables, truth, guarded_variables-append is js);
    }

pub guarded_item : (is : List GuardedItem) (i : GuardedItem) (e f : Encoder) → IsGuarded is e → EncodesGuarded e f i → IsGuarded (is ++ i ∷ []) f
guarded_item is i e f h more =
    further is (i ∷ []) e f h (more.clauses ∙ ap (λ (cs : List (List ℕ)). e.pool.clauses ++ cs) (sym (append-nil (guarded_own e.truth e.next i))))
    (omega (arith, more.next)) more.truth

pub guarded_plain : (is : List GuardedItem) (js : List Item) (e f : Encoder) → IsGuarded is e → EncodesItems e f js → IsGuarded (is ++ map (guarded None) js) f
guarded_plain is js e f h more =
    further is (map (guarded None) js) e f h (more.clauses ∙ ap (λ (cs : List (List ℕ)). e.pool.clauses ++ cs) (sym (plain_clauses e.truth e.next js)))
    (omega (arith, more.next, plain_variables js)) more.truth

-- what a solver asks of it, and what it says of sets
pub made_below : (is : List GuardedItem) (e : Encoder) → AllGuardedFit e.truth is → IsGuarded is e → AreBelow (2 * e.next) e.pool.clauses
made_below is e fit h =
    subst (λ (v : ℕ). AreBelow (2 * v) e.pool.clauses) (sym h.variables)
    (subst (AreBelow (2 * (e.truth + 1 + guarded_variables is))) (sym h.clauses) (encoded_below e.truth is fit))

pub made_codes : (test : List Bool → Bool) (is : List GuardedItem) (e : Encoder) → IsGuarded is e
    → CodesJust e.truth test (encoded_guarded e.truth (e.truth + 1) is) (e.truth + 1 + guarded_variables is) → CodesJust e.truth test e.pool.clauses e.next
made_codes test is e h codes =
    subst (λ (v : ℕ). CodesJust e.truth test e.pool.clauses v) (sym h.variables)
    (subst (λ (cs : List (List ℕ)). CodesJust e.truth test cs (e.truth + 1 + guarded_variables is)) (sym h.clauses) codes)

pub made_just : (is : List GuardedItem) (e : Encoder) → AllGuardedFit e.truth is → IsGuarded is e → CodesJust e.truth (meets_all_guarded is) e.pool.clauses e.next
made_just is e fit h = made_codes (meets_all_guarded is) is e h (guarded_just e.truth is fit)
