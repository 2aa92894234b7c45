-- What an assignment keeps when it grows or is cut.
use Rattle.std.proofs.Common.{◌≡◌, ◌⊎◌, inl, inr, ℕ, zero, suc, ◌+◌, ◌*◌, ◌/◌, ◌<◌, ◌≤◌, Bool, true, false, not, ◌||◌, List, [], ◌∷◌, ◌++◌, Option, Some, None, length, map, get_or, eqb, refl, sym, subst, ◌∙◌, ap, arith}
use Rattle.std.specs.Option.{is_some}
use Rattle.std.specs.List.{list_any}
use Rattle.std.proofs.Math.Bool.{cond}
use Rattle.std.proofs.lemmas.Bool.{cases_eq, cases_Bool, false≢true, true≢false, or_cases, or_left, or_right, eqb-true, eq-eqb, ne_eqb}
use Rattle.std.proofs.lemmas.List.{length-map}
use Rattle.std.proofs.lemmas.Map.Steps.{length-le_from_distinct_below}
use Rattle.clause_pool.specs.Literal.{complement}
use Rattle.clause_pool.specs.Clause.{has}
use Rattle.clause_pool.proofs.LiteralLaws.{even_or_odd, complement-even, complement-odd, complement-half}
use Rattle.clause_pool.proofs.ClauseLaws.{has-append}
use Rattle.propagate.specs.Assignment.{Assigned, IsAssigned, AreTables, value_over, known}
use Rattle.propagate.specs.declared.assignment.Truth.{Truth}
use Rattle.propagate.specs.declared.assignment.Truth.TheVariants.{Holds, Fails}

or_false_first : (a b : Bool) → (a || b) ≡ false → a ≡ false
or_false_first true b h = absurd (true≢false h)
or_false_first false b h = refl

or_false_second : (a b : Bool) → (a || b) ≡ false → b ≡ false
or_false_second true b h = absurd (true≢false h)
or_false_second false b h = h

-- two literals of one variable are the same, or each the other's complement
pub one_variable : (x l : ℕ) → x / 2 ≡ l / 2 → (x ≡ l) ⊎ (x ≡ complement l)
one_variable x l same = elim (even_or_odd x) [
  | inl x_even ↦ elim (even_or_odd l) [
    | inl l_even ↦ inl (omega (arith, same, x_even, l_even))
    | inr l_odd ↦ inr (omega (arith, same, x_even, l_odd, complement-odd l l_odd))
  ]
  | inr x_odd ↦ elim (even_or_odd l) [
    | inl l_even ↦ inr (omega (arith, same, x_odd, l_even, complement-even l l_even))
    | inr l_odd ↦ inl (omega (arith, same, x_odd, l_odd))
  ]
]

pub complement-within : (l vars : ℕ) → l < vars + vars → complement l < vars + vars
complement-within l vars h =
    elim (even_or_odd l) [
      | inl e ↦ omega (arith, complement-even l e)
      | inr e ↦ omega (arith, complement-odd l e)
    ]

-- a literal that is open has a variable of its own
pub open_variable : (lits : List ℕ) (l : ℕ) → has lits l ≡ false → has lits (complement l) ≡ false → list_any (eqb (l / 2)) (map (λ x. x / 2) lits) ≡ false
open_variable [] l not_true not_false = refl
open_variable (x ∷ lits) l not_true not_false = elim (cases_Bool (eqb (l / 2) (x / 2) || list_any (eqb (l / 2)) (map (λ x. x / 2) lits))) [
  | inr none ↦ none
  | inl found ↦ elim (or_cases (eqb (l / 2) (x / 2)) (list_any (eqb (l / 2)) (map (λ x. x / 2) lits)) found) [
    | inl here ↦ elim (one_variable x l (sym (eqb-true (l / 2) (x / 2) here))) [
      | inl e ↦ absurd (true≢false (sym (or_left (eqb x l) (has lits l) (eq-eqb x l e)) ∙ not_true))
      | inr e ↦ absurd (true≢false (sym (or_left (eqb x (complement l)) (has lits (complement l)) (eq-eqb x (complement l) e)) ∙ not_false))
    ]
    | inr later ↦ absurd (true≢false (sym later ∙ open_variable lits l (or_false_second (eqb x l) (has lits l) not_true) (or_false_second (eqb x (complement l)) (has lits (complement l)) not_false)))
  ]
]

-- and the other way round
pub variable_open : (lits : List ℕ) (l y : ℕ) → list_any (eqb (l / 2)) (map (λ x. x / 2) lits) ≡ false → y / 2 ≡ l / 2 → has lits y ≡ false
variable_open [] l y h same = refl
variable_open (x ∷ lits) l y h same = elim (cases_eq x y) [
  | inl e ↦ absurd (true≢false (sym (eq-eqb (l / 2) (x / 2) (sym same ∙ sym (ap (λ n. n / 2) e))) ∙ or_false_first (eqb (l / 2) (x / 2)) (list_any (eqb (l / 2)) (map (λ x. x / 2) lits)) h))
  | inr other ↦ rw (ne_eqb x y other) (variable_open lits l y (or_false_second (eqb (l / 2) (x / 2)) (list_any (eqb (l / 2)) (map (λ x. x / 2) lits)) h) same)
]

half_found : (lits : List ℕ) (q : ℕ) → list_any (eqb q) (map (λ x. x / 2) lits) ≡ true → (l : ℕ) × (has lits l ≡ true) × (l / 2 ≡ q)
half_found [] q h = absurd (false≢true h)
half_found (x ∷ lits) q h = elim (or_cases (eqb q (x / 2)) (list_any (eqb q) (map (λ x. x / 2) lits)) h) [
  | inl here ↦ (x, or_left (eqb x x) (has lits x) (eq-eqb x x refl), sym (eqb-true q (x / 2) here))
  | inr later ↦ let found = half_found lits q later in (found.0, or_right (eqb x found.0) (has lits found.0) found.1, found.2)
]

-- where it is on the list there is a place of its variable
pub half_at : (lits : List ℕ) (q k : ℕ) → list_any (eqb q) (map (λ x. x / 2) lits) ≡ false → k < length lits → get_or lits k 0 / 2 ≡ q → ⊥
half_at [] q k none within same = absurd (omega arith)
half_at (x ∷ lits) q zero none within same = true≢false (sym (eq-eqb q (x / 2) (sym same)) ∙ or_false_first (eqb q (x / 2)) (list_any (eqb q) (map (λ x. x / 2) lits)) none)
half_at (x ∷ lits) q (suc k) none within same = half_at lits q k (or_false_second (eqb q (x / 2)) (list_any (eqb q) (map (λ x. x / 2) lits)) none) (omega arith) same

-- there is room for each variable once
pub few_literals : (a : Assigned) → IsAssigned a → length a.lits ≤ a.vars
few_literals a h =
    let below = λ (q : ℕ) (found : list_any (eqb q) (map (λ x. x / 2) a.lits) ≡ true).
    let f = half_found a.lits q found in
    let b : f.0 < 2 * a.vars = h.below f.0 f.1 in
    let e : f.0 / 2 ≡ q = f.2 in
    let r : q < a.vars = omega (arith, b, e) in r in
    let counted : length (map (λ x. x / 2) a.lits) ≤ a.vars = length-le_from_distinct_below (map (λ x. x / 2) a.lits) a.vars h.apart below in
    omega (arith, counted, length-map a.lits (λ (x : ℕ). x / 2))

-- one more literal
pub has_push : (lits : List ℕ) (l x : ℕ) → has (lits ++ l ∷ []) x ≡ true → (has lits x ≡ true) ⊎ (l ≡ x)
has_push lits l x h = elim (or_cases (has lits x) (eqb l x || false) (sym (has-append lits (l ∷ []) x) ∙ h)) [
  | inl before ↦ inl before
  | inr here ↦ elim (or_cases (eqb l x) false here) [ inl e ↦ inr (eqb-true l x e) | inr e ↦ absurd (false≢true e) ]
]

pub push_has : (lits : List ℕ) (l x : ℕ) → has lits x ≡ true → has (lits ++ l ∷ []) x ≡ true
push_has lits l x h = has-append lits (l ∷ []) x ∙ or_left (has lits x) (eqb l x || false) h

pub push_here : (lits : List ℕ) (l : ℕ) → has (lits ++ l ∷ []) l ≡ true
push_here lits l = has-append lits (l ∷ []) l ∙ or_right (has lits l) (eqb l l || false) (or_left (eqb l l) false (eq-eqb l l refl))

pub push_other : (lits : List ℕ) (l x : ℕ) → (x ≡ l → ⊥) → has (lits ++ l ∷ []) x ≡ has lits x
push_other lits l x other = has-append lits (l ∷ []) x ∙ go (has lits x) (eqb l x) (ne_eqb l x (λ e. other (sym e))) where
  go : (a b : Bool) → b ≡ false → (a || (b || false)) ≡ a
  go true b e = refl
  go false b e = rw e refl

pub value_is_true : (lits : List ℕ) (l : ℕ) (truth : Bool) → value_over lits l ≡ Some truth → truth ≡ has lits l
value_is_true lits l truth h = go (has lits l) (has lits (complement l)) truth h where
  go : (p q t : Bool) → cond p (Some true) (cond q (Some false) None) ≡ Some t → t ≡ p
  go true q t e = let same : true ≡ t = cc in sym same
  go false true t e = let same : false ≡ t = cc in sym same
  go false false t e = let none : None ≡ Some t = e in cc

pub value_is_false : (lits : List ℕ) (l : ℕ) (truth : Bool) → (has lits l ≡ true → has lits (complement l) ≡ true → ⊥) → value_over lits l ≡ Some truth → not truth ≡ has lits (complement l)
value_is_false lits l truth consistent h = go (has lits l) (has lits (complement l)) truth consistent h where
  go : (p q t : Bool) → (p ≡ true → q ≡ true → ⊥) → cond p (Some true) (cond q (Some false) None) ≡ Some t → not t ≡ q
  go true true t k e = absurd (k refl refl)
  go true false t k e = let same : true ≡ t = cc in rw (sym same) refl
  go false true t k e = let same : false ≡ t = cc in rw (sym same) refl
  go false false t k e = let none : None ≡ Some t = e in cc

pub value_is_open : (lits : List ℕ) (l : ℕ) → value_over lits l ≡ None → (has lits l ≡ false) × (has lits (complement l) ≡ false)
value_is_open lits l h = go (has lits l) (has lits (complement l)) h where
  go : (p q : Bool) → cond p (Some true) (cond q (Some false) None) ≡ None → (p ≡ false) × (q ≡ false)
  go true q e = let some : Some true ≡ None = e in cc
  go false true e = let some : Some false ≡ None = e in cc
  go false false e = (refl, refl)

-- where a literal stands
pub has_place : (lits : List ℕ) (l : ℕ) → has lits l ≡ true → (k : ℕ) × (k < length lits) × (get_or lits k 0 ≡ l)
has_place [] l h = absurd (false≢true h)
has_place (x ∷ lits) l h = elim (or_cases (eqb x l) (has lits l) h) [
  | inl here ↦ (0, omega arith, eqb-true x l here)
  | inr later ↦ let found = has_place lits l later in (suc found.0, let b = found.1 in omega (arith, b), found.2)
]

-- what the table of places says of a variable that isn't open
pub place_found : (values : List Truth) (places : List ℕ) (a : Assigned) (l var : ℕ) → AreTables values places a → has a.lits l ≡ true → l / 2 ≡ var
    → (get_or places var 0 < length a.lits) × (get_or a.lits (get_or places var 0) 0 / 2 ≡ var)
place_found values places a l var h is_in half =
    let found = has_place a.lits l is_in in
    let same : get_or places var 0 ≡ found.0 = ap (λ (n : ℕ). get_or places n 0) (sym half ∙ sym (ap (λ (n : ℕ). n / 2) found.2)) ∙ h.place_is found.0 found.1 in
    let b : found.0 < length a.lits = found.1 in
    (omega (arith, same, b), ap (λ (k : ℕ). get_or a.lits k 0 / 2) same ∙ ap (λ (n : ℕ). n / 2) found.2 ∙ half)

pub place_of_value : (values : List Truth) (places : List ℕ) (a : Assigned) (l var : ℕ) (truth : Bool) → AreTables values places a → value_over a.lits l ≡ Some truth → l / 2 ≡ var
    → (get_or places var 0 < length a.lits) × (get_or a.lits (get_or places var 0) 0 / 2 ≡ var)
place_of_value values places a l var truth h value half = elim (cases_Bool (has a.lits l)) [
  | inl is_true ↦ place_found values places a l var h is_true half
  | inr not_true ↦ elim (cases_Bool (has a.lits (complement l))) [
    | inl is_false ↦ place_found values places a (complement l) var h is_false (complement-half l ∙ half)
    | inr not_false ↦ absurd (go (has a.lits l) (has a.lits (complement l)) not_true not_false value)
  ]
] where
  go : (p q : Bool) → p ≡ false → q ≡ false → cond p (Some true) (cond q (Some false) None) ≡ Some truth → ⊥
  go true q e f v = absurd (true≢false e)
  go false true e f v = absurd (true≢false f)
  go false false e f v = let none : None ≡ Some truth = v in cc

-- a variable that is open stands nowhere
pub open_nowhere : (lits : List ℕ) (l var k : ℕ) → value_over lits l ≡ None → l / 2 ≡ var → k < length lits → get_or lits k 0 / 2 ≡ var → ⊥
open_nowhere lits l var k value half within same =
    let both = value_is_open lits l value in
    half_at lits (l / 2) k (open_variable lits l both.0 both.1) within (same ∙ sym half)

known_some : (t : Truth) → (t ≡ Holds) ⊎ (t ≡ Fails) → (truth : Bool) × (known t ≡ Some truth)
known_some t (inl e) = (true, ap known e)
known_some t (inr e) = (false, ap known e)

pub place_read : (values : List Truth) (places : List ℕ) (a : Assigned) (var p : ℕ) (t : Truth) → AreTables values places a → var < a.vars
    → known t ≡ value_over a.lits (2 * var) → (t ≡ Holds) ⊎ (t ≡ Fails) → p ≡ get_or places var p → (p < length a.lits) × (get_or a.lits p 0 / 2 ≡ var)
place_read values places a var p t h below value other at =
    let placed = h.places_counted in
    let some = known_some t other in
    let found = place_of_value values places a (2 * var) var some.0 h (sym value ∙ some.1) (omega arith) in
    let here : p ≡ get_or places var 0 = at ∙ no_default_place places var p 0 (omega (arith, below, placed)) in
    subst (λ (k : ℕ). (k < length a.lits) × (get_or a.lits k 0 / 2 ≡ var)) (sym here) found
  where
    no_default_place : (xs : List ℕ) (n d e : ℕ) → n < length xs → get_or xs n d ≡ get_or xs n e
    no_default_place [] n d e b = absurd (omega arith)
    no_default_place (y ∷ xs) zero d e b = refl
    no_default_place (y ∷ xs) (suc n) d e b = no_default_place xs n d e (omega (arith, b))

-- a literal that is known and isn't false is true
pub true_if_known : (lits : List ℕ) (l : ℕ) (value : Option Bool) → value ≡ value_over lits l → is_some value ≡ true → has lits (complement l) ≡ false → has lits l ≡ true
true_if_known lits l None is known not_false = absurd (false≢true known)
true_if_known lits l (Some true) is known not_false = sym (value_is_true lits l true (sym is))
true_if_known lits l (Some false) is known not_false = go (has lits l) (has lits (complement l)) is not_false where
  go : (p q : Bool) → Some false ≡ cond p (Some true) (cond q (Some false) None) → q ≡ false → p ≡ true
  go true q e none = refl
  go false true e none = absurd (true≢false none)
  go false false e none = let same : Some false ≡ None = e in cc
