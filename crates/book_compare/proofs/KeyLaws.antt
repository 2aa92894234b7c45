-- The clauses of a position: they are satisfied, with the last variable true, where the books differ by some key, and only there.
use Rattle.std.proofs.Common.{◌≡◌, ℕ, ◌+◌, Bool, true, false, not, ◌&&◌, ◌||◌, List, [], ◌∷◌, ◌++◌, length, map, refl, sym, ap, subst, ◌∙◌, inl, inr, arith, length-append}
use Rattle.std.specs.List.{list_any}
use Rattle.std.proofs.Math.Bool.{or_assoc, or-false, or-true}
use Rattle.std.proofs.lemmas.Bool.{cases_Bool}
use Rattle.std.proofs.lemmas.List.{length-map}
use Rattle.pb_base.specs.Rule.{Rule, always, never, holds}
use Rattle.clause_pool.specs.Literal.{literal, complement, is_true}
use Rattle.clause_pool.specs.Clause.{clause_of, clause_true, Sat}
use Rattle.clause_pool.proofs.LiteralLaws.{is_true-complement}
use Rattle.clause_pool.proofs.ClauseLaws.{clause_true-clause_of}
use Rattle.clausify.specs.Formulas.{either_clauses}
use Rattle.clausify.proofs.ListLaws.{all-append, all_first, all_last}
use Rattle.clausify.proofs.Truth.{true_positive, true_negative, two_true, either_from_sat, sat_from_either}
use Rattle.clausify.proofs.FormulaLaws.{Names}
use Rattle.book_compare.specs.Keys.{any_clauses, any_literal, either_all, either_literal, joins, KeyLiterals, key_variables, first_literal, second_literal, lost_variable, won_variable, only_clauses, not_clauses, key_clauses, keys_clauses, keys_variables, ways, goal_clause, position_clauses, position_goal}

-- the variables from v on have these values
abbrev pub Values : (ℕ → Bool) → ℕ → List Bool → Type 0
Values a v [] = Unit {0}
Values a v (t ∷ ts) = (a v ≡ t) × Values a (v + 1) ts

-- a formula that has this truth over each set
abbrev pub constant : Bool → Rule
constant true = always
constant false = never

holds-constant : (t : Bool) (x : List Bool) → holds (constant t) x ≡ t
holds-constant true x = refl
holds-constant false x = refl

pub values_from_names : (a : ℕ → Bool) (x : List Bool) (v : ℕ) (ts : List Bool) → Names a x v (map constant ts) → Values a v ts
values_from_names a x v [] names = tt
values_from_names a x v (t ∷ ts) names = (names.0 ∙ holds-constant t x, values_from_names a x (v + 1) ts names.1)

pub values_first : (a : ℕ → Bool) (v : ℕ) (ts us : List Bool) → Values a v (ts ++ us) → Values a v ts
values_first a v [] us h = tt
values_first a v (t ∷ ts) us h = (h.0, values_first a (v + 1) ts us h.1)

pub values_last : (a : ℕ → Bool) (v : ℕ) (ts us : List Bool) → Values a v (ts ++ us) → Values a (v + length ts) us
values_last a v [] us h = subst (λ (w : ℕ). Values a w us) (let e : v ≡ v + 0 = omega arith in e) h
values_last a v (t ∷ ts) us h = subst (λ (w : ℕ). Values a w us) (let e : v + 1 + length ts ≡ v + length (t ∷ ts) = omega arith in e) (values_last a (v + 1) ts us h.1)

-- one of several literals

any_from_sat : (a : ℕ → Bool) (v l : ℕ) (ls : List ℕ) → Sat (any_clauses v l ls) a → is_true a (any_literal v l ls) ≡ (is_true a l || list_any (is_true a) ls)
any_from_sat a v l [] sat = sym (or-false (is_true a l))
any_from_sat a v l (k ∷ ks) sat =
    let here : a v ≡ (is_true a l || is_true a k) = either_from_sat a v l k (is_true a l) (is_true a k) refl refl (all_first _ (either_clauses v l k) (any_clauses (v + 1) (literal v true) ks) sat) in
    rw (any_from_sat a (v + 1) (literal v true) ks (all_last _ (either_clauses v l k) (any_clauses (v + 1) (literal v true) ks) sat), true_positive a v, here) (or_assoc (is_true a l) (is_true a k) (list_any (is_true a) ks))

pub either_from_all : (a : ℕ → Bool) (n v : ℕ) (ls : List ℕ) → a n ≡ true → Sat (either_all v ls) a → is_true a (either_literal n v ls) ≡ list_any (is_true a) ls
either_from_all a n v [] truth sat = true_negative a n ∙ ap not truth
either_from_all a n v (l ∷ ls) truth sat = any_from_sat a v l ls sat

abbrev pub any_values : Bool → List Bool → List Bool
any_values t [] = []
any_values t (u ∷ us) = (t || u) ∷ any_values (t || u) us

abbrev pub either_values : List Bool → List Bool
either_values [] = []
either_values (t ∷ ts) = any_values t ts

length-any_values : (t : Bool) (us : List Bool) → length (any_values t us) ≡ length us
length-any_values t [] = refl
length-any_values t (u ∷ us) = omega (arith, length-any_values (t || u) us)

length-either_values : (a : ℕ → Bool) (ls : List ℕ) → length (either_values (map (is_true a) ls)) ≡ joins ls
length-either_values a [] = refl
length-either_values a (l ∷ ls) = length-any_values (is_true a l) (map (is_true a) ls) ∙ length-map ls (is_true a)

sat_from_any : (a : ℕ → Bool) (v l : ℕ) (t : Bool) (ls : List ℕ) → is_true a l ≡ t → Values a v (any_values t (map (is_true a) ls)) → Sat (any_clauses v l ls) a
sat_from_any a v l t [] is values = tt
sat_from_any a v l t (k ∷ ks) is values =
    all-append _ (either_clauses v l k) (any_clauses (v + 1) (literal v true) ks) (sat_from_either a v l k t (is_true a k) is refl values.0)
    (sat_from_any a (v + 1) (literal v true) (t || is_true a k) ks (true_positive a v ∙ values.0) values.1)

sat_from_either_all : (a : ℕ → Bool) (v : ℕ) (ls : List ℕ) → Values a v (either_values (map (is_true a) ls)) → Sat (either_all v ls) a
sat_from_either_all a v [] values = tt
sat_from_either_all a v (l ∷ ls) values = sat_from_any a v l (is_true a l) ls refl values

-- one key: what the books choose, and in which way they differ

abbrev pub chooses_first : (ℕ → Bool) → KeyLiterals → Bool
chooses_first a k = list_any (is_true a) k.first

abbrev pub chooses_second : (ℕ → Bool) → KeyLiterals → Bool
chooses_second a k = list_any (is_true a) k.second

abbrev pub lost : Bool → Bool → Bool
lost p q = p && not q

abbrev pub won : Bool → Bool → Bool
won p q = not p && q

abbrev pub differs : (ℕ → Bool) → KeyLiterals → Bool
differs a k = lost (chooses_first a k) (chooses_second a k) || won (chooses_first a k) (chooses_second a k)

abbrev pub truths : (ℕ → Bool) → List ℕ → List Bool
truths a ls = map (is_true a) ls

-- by the truths of the literals, and by what the books choose
abbrev pub values_of : List Bool → List Bool → Bool → Bool → List Bool
values_of ts us p q = either_values ts ++ (either_values us ++ (lost p q ∷ won p q ∷ []))

abbrev pub key_values : (ℕ → Bool) → KeyLiterals → List Bool
key_values a k = values_of (truths a k.first) (truths a k.second) (chooses_first a k) (chooses_second a k)

abbrev pub keys_values : (ℕ → Bool) → List KeyLiterals → List Bool
keys_values a [] = []
keys_values a (k ∷ ks) = key_values a k ++ keys_values a ks

length-key_values : (a : ℕ → Bool) (k : KeyLiterals) → length (key_values a k) ≡ key_variables k
length-key_values a k =
    let both : List Bool = lost (chooses_first a k) (chooses_second a k) ∷ won (chooses_first a k) (chooses_second a k) ∷ [] in
    omega (
      arith,
      length-append (either_values (truths a k.first)) (either_values (truths a k.second) ++ both),
      length-append (either_values (truths a k.second)) both,
      length-either_values a k.first,
      length-either_values a k.second,
    )

pub length-keys_values : (a : ℕ → Bool) (ks : List KeyLiterals) → length (keys_values a ks) ≡ keys_variables ks
length-keys_values a [] = refl
length-keys_values a (k ∷ ks) = length-append (key_values a k) (keys_values a ks) ∙ omega (arith, length-key_values a k, length-keys_values a ks)

-- a clause of two literals, of which the first is a variable's negative one
pair_true : (a : ℕ → Bool) (v l : ℕ) (p q : Bool) → a v ≡ p → is_true a l ≡ q → (not p || (q || false)) ≡ true → clause_true a (clause_of (literal v false ∷ l ∷ [])) ≡ true
pair_true a v l p q hv hl h = two_true a (literal v false) l (not p) q (true_negative a v ∙ ap not hv) hl ∙ h

lost_first : (p q : Bool) → (not (lost p q) || (p || false)) ≡ true
lost_first p q = grind arith

lost_second : (p q : Bool) → (not (lost p q) || (not q || false)) ≡ true
lost_second p q = grind arith

won_first : (p q : Bool) → (not (won p q) || (not p || false)) ≡ true
won_first p q = grind arith

won_second : (p q : Bool) → (not (won p q) || (q || false)) ≡ true
won_second p q = grind arith

record KeyValues (a : ℕ → Bool) (v : ℕ) (k : KeyLiterals) : Type 0 where
  one : Values a v (either_values (truths a k.first))
  other : Values a (v + joins k.first) (either_values (truths a k.second))
  is_lost : a (lost_variable v k) ≡ lost (chooses_first a k) (chooses_second a k)
  is_won : a (won_variable v k) ≡ won (chooses_first a k) (chooses_second a k)

key_parts : (a : ℕ → Bool) (v : ℕ) (k : KeyLiterals) → Values a v (key_values a k) → KeyValues a v k
key_parts a v k values =
    let both : List Bool = lost (chooses_first a k) (chooses_second a k) ∷ won (chooses_first a k) (chooses_second a k) ∷ [] in
    let behind : Values a (v + joins k.first) (either_values (truths a k.second) ++ both) =
    subst (λ (i : ℕ). Values a (v + i) (either_values (truths a k.second) ++ both)) (length-either_values a k.first)
    (values_last a v (either_values (truths a k.first)) (either_values (truths a k.second) ++ both) values) in
    let last : Values a (lost_variable v k) both =
    subst (λ (i : ℕ). Values a (v + joins k.first + i) both) (length-either_values a k.second)
    (values_last a (v + joins k.first) (either_values (truths a k.second)) both behind) in
    record {
      one = values_first a v (either_values (truths a k.first)) (either_values (truths a k.second) ++ both) values;
      other = values_first a (v + joins k.first) (either_values (truths a k.second)) both behind;
      is_lost = last.0;
      is_won = last.1.0;
    }

sat_from_key : (a : ℕ → Bool) (n v : ℕ) (k : KeyLiterals) → a n ≡ true → Values a v (key_values a k) → Sat (key_clauses n v k) a
sat_from_key a n v k truth values =
    let parts : KeyValues a v k = key_parts a v k values in
    let p : Bool = chooses_first a k in
    let q : Bool = chooses_second a k in
    let one : Sat (either_all v k.first) a = sat_from_either_all a v k.first parts.one in
    let other : Sat (either_all (v + joins k.first) k.second) a = sat_from_either_all a (v + joins k.first) k.second parts.other in
    let l : is_true a (first_literal n v k) ≡ list_any (is_true a) k.first = either_from_all a n v k.first truth one in
    let r : is_true a (second_literal n v k) ≡ list_any (is_true a) k.second = either_from_all a n (v + joins k.first) k.second truth other in
    let not_l : is_true a (complement (first_literal n v k)) ≡ not (list_any (is_true a) k.first) = is_true-complement a (first_literal n v k) ∙ ap not l in
    let not_r : is_true a (complement (second_literal n v k)) ≡ not (list_any (is_true a) k.second) = is_true-complement a (second_literal n v k) ∙ ap not r in
    all-append _ (either_all v k.first) _ one
    (all-append _ (either_all (v + joins k.first) k.second) _ other (
      pair_true a (lost_variable v k) (first_literal n v k) _ _ parts.is_lost l (lost_first (chooses_first a k) (chooses_second a k)),
      (
        pair_true a (lost_variable v k) (complement (second_literal n v k)) _ _ parts.is_lost not_r (lost_second (chooses_first a k) (chooses_second a k)),
        (
          pair_true a (won_variable v k) (complement (first_literal n v k)) _ _ parts.is_won not_l (won_first (chooses_first a k) (chooses_second a k)),
          (pair_true a (won_variable v k) (second_literal n v k) _ _ parts.is_won r (won_second (chooses_first a k) (chooses_second a k)), tt),
        ),
      ),
    ))

key_last : (a : ℕ → Bool) (v : ℕ) (k : KeyLiterals) (ks : List KeyLiterals) → Values a v (keys_values a (k ∷ ks)) → Values a (v + key_variables k) (keys_values a ks)
key_last a v k ks values = subst (λ (i : ℕ). Values a (v + i) (keys_values a ks)) (length-key_values a k) (values_last a v (key_values a k) (keys_values a ks) values)

sat_from_keys : (a : ℕ → Bool) (n v : ℕ) (ks : List KeyLiterals) → a n ≡ true → Values a v (keys_values a ks) → Sat (keys_clauses n v ks) a
sat_from_keys a n v [] truth values = tt
sat_from_keys a n v (k ∷ ks) truth values =
    all-append _ (key_clauses n v k) (keys_clauses n (v + key_variables k) ks)
    (sat_from_key a n v k truth (values_first a v (key_values a k) (keys_values a ks) values))
    (sat_from_keys a n (v + key_variables k) ks truth (key_last a v k ks values))

ways_by_values : (a : ℕ → Bool) (v : ℕ) (ks : List KeyLiterals) → Values a v (keys_values a ks) → list_any (is_true a) (ways v ks) ≡ list_any (differs a) ks
ways_by_values a v [] values = refl
ways_by_values a v (k ∷ ks) values =
    let parts : KeyValues a v k = key_parts a v k (values_first a v (key_values a k) (keys_values a ks) values) in
    rw (true_positive a (lost_variable v k), parts.is_lost, true_positive a (won_variable v k), parts.is_won, ways_by_values a (v + key_variables k) ks (key_last a v k ks values))
    (sym (or_assoc (lost (chooses_first a k) (chooses_second a k)) (won (chooses_first a k) (chooses_second a k)) (list_any (differs a) ks)))

-- the clauses are satisfied with the last variable true just where the books differ by some key
abbrev pub position_values : (ℕ → Bool) → List KeyLiterals → List Bool
position_values a ks = keys_values a ks ++ list_any (differs a) ks ∷ []

pub record IsAnswered (a : ℕ → Bool) (n v : ℕ) (ks : List KeyLiterals) : Type 0 where
  pub satisfied : Sat (position_clauses n v ks) a
  pub assumed : is_true a (position_goal v ks) ≡ list_any (differs a) ks

pub answered_by_values : (a : ℕ → Bool) (n v : ℕ) (ks : List KeyLiterals) → a n ≡ true → Values a v (position_values a ks) → IsAnswered a n v ks
answered_by_values a n v ks truth values =
    let keys : Values a v (keys_values a ks) = values_first a v (keys_values a ks) (list_any (differs a) ks ∷ []) values in
    let last : Values a (v + keys_variables ks) (list_any (differs a) ks ∷ []) =
    subst (λ (i : ℕ). Values a (v + i) (list_any (differs a) ks ∷ [])) (length-keys_values a ks) (values_last a v (keys_values a ks) (list_any (differs a) ks ∷ []) values) in
    record {
      satisfied =
          all-append _ (keys_clauses n v ks) (goal_clause v ks ∷ []) (sat_from_keys a n v ks truth keys) (
            rw (clause_true-clause_of, ways_by_values a v ks keys, true_negative a (v + keys_variables ks), last.0) (either_way (list_any (differs a) ks)),
            tt,
          );
      assumed = true_positive a (v + keys_variables ks) ∙ last.0;
    }
  where
    either_way : (t : Bool) → (not t || t) ≡ true
    either_way t = grind arith

-- and only there

decided : (s t p q : Bool) → (not s || (p || false)) ≡ true → (not s || (not q || false)) ≡ true → (not t || (not p || false)) ≡ true → (not t || (q || false)) ≡ true
    → (s || t) ≡ true → (lost p q || won p q) ≡ true
decided s t p q first second third fourth some = grind arith

-- a way that is true shows that the books differ by its key
key_differs : (a : ℕ → Bool) (n v : ℕ) (k : KeyLiterals) → a n ≡ true → Sat (key_clauses n v k) a → (a (lost_variable v k) || a (won_variable v k)) ≡ true → differs a k ≡ true
key_differs a n v k truth sat some =
    let i : ℕ = lost_variable v k in
    let j : ℕ = won_variable v k in
    let behind = all_last _ (either_all v k.first) _ sat in
    let ends = all_last _ (either_all (v + joins k.first) k.second) _ behind in
    let l : is_true a (first_literal n v k) ≡ chooses_first a k = either_from_all a n v k.first truth (all_first _ (either_all v k.first) _ sat) in
    let r : is_true a (second_literal n v k) ≡ chooses_second a k = either_from_all a n (v + joins k.first) k.second truth (all_first _ (either_all (v + joins k.first) k.second) _ behind) in
    let not_l = is_true-complement a (first_literal n v k) ∙ ap not l in
    let not_r = is_true-complement a (second_literal n v k) ∙ ap not r in
    decided (a i) (a j) (chooses_first a k) (chooses_second a k)
    (sym (two_true a (literal i false) (first_literal n v k) _ _ (true_negative a i) l) ∙ ends.0)
    (sym (two_true a (literal i false) (complement (second_literal n v k)) _ _ (true_negative a i) not_r) ∙ ends.1.0)
    (sym (two_true a (literal j false) (complement (first_literal n v k)) _ _ (true_negative a j) not_l) ∙ ends.1.1.0)
    (sym (two_true a (literal j false) (second_literal n v k) _ _ (true_negative a j) r) ∙ ends.1.1.1.0)
    some

ways_differ : (a : ℕ → Bool) (n v : ℕ) (ks : List KeyLiterals) → a n ≡ true → Sat (keys_clauses n v ks) a → list_any (is_true a) (ways v ks) ≡ true → list_any (differs a) ks ≡ true
ways_differ a n v [] truth sat some = some
ways_differ a n v (k ∷ ks) truth sat some =
    let split : ((a (lost_variable v k) || a (won_variable v k)) || list_any (is_true a) (ways (v + key_variables k) ks)) ≡ true =
    rw (or_assoc, ← true_positive a (lost_variable v k), ← true_positive a (won_variable v k)) some in
    let later = all_last _ (key_clauses n v k) (keys_clauses n (v + key_variables k) ks) sat in
    elim (cases_Bool (a (lost_variable v k) || a (won_variable v k))) [
      | inl here ↦ rw (key_differs a n v k truth (all_first _ (key_clauses n v k) (keys_clauses n (v + key_variables k) ks) sat) here) refl
      | inr none ↦ rw (ways_differ a n (v + key_variables k) ks truth later (rw none at split)) (or-true (differs a k))
    ]

pub differs_when_answered : (a : ℕ → Bool) (n v : ℕ) (ks : List KeyLiterals) → a n ≡ true → Sat (position_clauses n v ks) a → is_true a (position_goal v ks) ≡ true → list_any (differs a) ks ≡ true
differs_when_answered a n v ks truth sat assumed =
    let goal : clause_true a (goal_clause v ks) ≡ true = (all_last _ (keys_clauses n v ks) (goal_clause v ks ∷ []) sat).0 in
    let on : a (v + keys_variables ks) ≡ true = sym (true_positive a (v + keys_variables ks)) ∙ assumed in
    ways_differ a n v ks truth (all_first _ (keys_clauses n v ks) (goal_clause v ks ∷ []) sat)
    (ap (λ t. t || list_any (is_true a) (ways v ks)) (sym (true_negative a (v + keys_variables ks) ∙ ap not on))
    ∙ sym (clause_true-clause_of a (literal (v + keys_variables ks) false ∷ ways v ks)) ∙ goal)
