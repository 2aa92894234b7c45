-- The clauses of a formula hold just where each of its variables is the truth of what it stands for, and its literal is then the truth
-- of the formula.
use Rattle.std.proofs.Common.{inl, inr, ◌≡◌, ℕ, ◌+◌, ◌≤◌, Bool, true, false, not, ◌&&◌, ◌||◌, List, [], ◌∷◌, ◌++◌, length, refl, sym, ap, subst, ◌∙◌, arith, length-append}
use Rattle.std.specs.List.{list_any}
use Rattle.std.proofs.lemmas.Bool.{and_parts, cases_Bool, ltb-true, or_left, or_right}
use Rattle.pb_base.specs.Rule.{Rule, code, negation, both, either, always, never, holds, codes_below}
use Rattle.clause_pool.specs.Literal.{literal, complement, is_true}
use Rattle.clause_pool.specs.Clause.{clause_of, clause_true, Sat}
use Rattle.clause_pool.proofs.ClauseLaws.{clause_true-clause_of}
use Rattle.clause_pool.proofs.LiteralLaws.{is_true-complement}
use Rattle.clausify.specs.Formulas.{connectives}
use Rattle.clausify.proofs.ItemLaws.{or_nothing}
use Rattle.clausify.proofs.FormulaLaws.{Names, Begins, names-append, names_first, names_last}
use Rattle.clausify.proofs.ListLaws.{all-append, all_first, all_last}
use Rattle.clausify.proofs.Truth.{true_positive, true_negative}
use Rattle.wide_clauses.specs.Chains.{Place, alone, in_any, in_all, of_any, of_all, taken, wide_literal, any_literals, all_literals, with_each, one_of_clauses, any_tied, all_tied, wide_clauses}

-- what the variables stand for, in the order in which they are taken
abbrev pub any_named : Place → Rule → List Rule
any_named alone f = f ∷ []
any_named in_any f = []
any_named in_all f = f ∷ []

abbrev pub all_named : Place → Rule → List Rule
all_named alone f = f ∷ []
all_named in_any f = f ∷ []
all_named in_all f = []

abbrev pub named : Rule → Place → List Rule
named (code place) at = []
named (negation f) at = named f alone
named (both f g) at = named g alone ++ named f in_all ++ all_named at (both f g)
named (either f g) at = named g alone ++ named f in_any ++ any_named at (either f g)
named always at = []
named never at = []

any_one : (at : Place) (f : Rule) → length (any_named at f) ≡ of_any at
any_one alone f = refl
any_one in_any f = refl
any_one in_all f = refl

all_one : (at : Place) (f : Rule) → length (all_named at f) ≡ of_all at
all_one alone f = refl
all_one in_any f = refl
all_one in_all f = refl

any_most : (at : Place) → of_any at ≤ 1
any_most alone = omega arith
any_most in_any = omega arith
any_most in_all = omega arith

all_most : (at : Place) → of_all at ≤ 1
all_most alone = omega arith
all_most in_any = omega arith
all_most in_all = omega arith

pub length-named : (f : Rule) (at : Place) → length (named f at) ≡ taken f at
length-named (code place) at = refl
length-named (negation f) at = length-named f alone
length-named (both f g) at =
    omega (
      arith,
      length-append (named g alone ++ named f in_all) (all_named at (both f g)),
      length-append (named g alone) (named f in_all),
      length-named g alone,
      length-named f in_all,
      all_one at (both f g),
    )
length-named (either f g) at =
    omega (
      arith,
      length-append (named g alone ++ named f in_any) (any_named at (either f g)),
      length-append (named g alone) (named f in_any),
      length-named g alone,
      length-named f in_any,
      any_one at (either f g),
    )
length-named always at = refl
length-named never at = refl

-- a chain takes no more variables than it has connectives
pub taken_most : (f : Rule) (at : Place) → taken f at ≤ connectives f
taken_most (code place) at = omega arith
taken_most (negation f) at = taken_most f alone
taken_most (both f g) at = omega (arith, taken_most g alone, taken_most f in_all, all_most at)
taken_most (either f g) at = omega (arith, taken_most g alone, taken_most f in_any, any_most at)
taken_most always at = omega arith
taken_most never at = omega arith

-- the names of the two sides of a chain, and its own
pub record NamesOfChain (a : ℕ → Bool) (x : List Bool) (v : ℕ) (f g : Rule) (at : Place) (own : List Rule) : Type 0 where
  pub right : Names a x v (named g alone)
  pub left : Names a x (v + taken g alone) (named f at)
  pub last : Names a x (v + taken g alone + taken f at) own

pub chain_parts : (a : ℕ → Bool) (x : List Bool) (v : ℕ) (f g : Rule) (at : Place) (own : List Rule) → Names a x v (named g alone ++ named f at ++ own) → NamesOfChain a x v f g at own
chain_parts a x v f g at own h =
    let sides : Names a x v (named g alone ++ named f at) = names_first a x v (named g alone ++ named f at) own h in
    record {
      right = names_first a x v (named g alone) (named f at) sides;
      left = subst (λ (k : ℕ). Names a x (v + k) (named f at)) (length-named g alone) (names_last a x v (named g alone) (named f at) sides);
      last =
          subst (λ (w : ℕ). Names a x w own)
          (let e : v + length (named g alone ++ named f at) ≡ v + taken g alone + taken f at = omega (arith, length-append (named g alone) (named f at), length-named g alone, length-named f at) in e)
          (names_last a x v (named g alone ++ named f at) own h);
    }

pub chain_names : (a : ℕ → Bool) (x : List Bool) (v : ℕ) (f g : Rule) (at : Place) (own : List Rule) → NamesOfChain a x v f g at own → Names a x v (named g alone ++ named f at ++ own)
chain_names a x v f g at own h =
    names-append a x v (named g alone ++ named f at) own
    (names-append a x v (named g alone) (named f at) h.right (subst (λ (k : ℕ). Names a x (v + k) (named f at)) (sym (length-named g alone)) h.left))
    (subst (λ (w : ℕ). Names a x w own)
    (let e : v + taken g alone + taken f at ≡ v + length (named g alone ++ named f at) = omega (arith, length-append (named g alone) (named f at), length-named g alone, length-named f at) in e) h.last)

-- a literal that stands for one of some literals
or_not : (t : Bool) → (not t || t) ≡ true
or_not true = refl
or_not false = refl

forced : (t u : Bool) → (u ≡ true → t ≡ true) → (t || (not u || false)) ≡ true
forced true u h = refl
forced false true h = h refl
forced false false h = refl

unforced : (u : Bool) → (false || (not u || false)) ≡ true → u ≡ false
unforced true h = sym h
unforced false h = refl

not_or : (u : Bool) → (not true || u) ≡ true → u ≡ true
not_or u h = h

none_more : (t u : Bool) → t ≡ false → u ≡ false → (t || u) ≡ false
none_more t u e h = ap (λ s. s || u) e ∙ h

first_where : (a : ℕ → Bool) (l : ℕ) (ls : List ℕ) → clause_true a (clause_of (complement l ∷ ls)) ≡ (not (is_true a l) || list_any (is_true a) ls)
first_where a l ls = clause_true-clause_of a (complement l ∷ ls) ∙ ap (λ t. t || list_any (is_true a) ls) (is_true-complement a l)

pair_where : (a : ℕ → Bool) (l k : ℕ) → clause_true a (clause_of (l ∷ complement k ∷ [])) ≡ (is_true a l || (not (is_true a k) || false))
pair_where a l k = clause_true-clause_of a (l ∷ complement k ∷ []) ∙ ap (λ t. is_true a l || (t || false)) (is_true-complement a k)

sat_each : (a : ℕ → Bool) (l : ℕ) (ls : List ℕ) → (list_any (is_true a) ls ≡ true → is_true a l ≡ true) → Sat (with_each l ls) a
sat_each a l [] h = tt
sat_each a l (k ∷ ks) h = (
  pair_where a l k ∙ forced (is_true a l) (is_true a k) (λ e. h (or_left (is_true a k) (list_any (is_true a) ks) e)),
  sat_each a l ks (λ e. h (or_right (is_true a k) (list_any (is_true a) ks) e)),
)

none_each : (a : ℕ → Bool) (l : ℕ) (ls : List ℕ) → is_true a l ≡ false → Sat (with_each l ls) a → list_any (is_true a) ls ≡ false
none_each a l [] e h = refl
none_each a l (k ∷ ks) e h =
    none_more (is_true a k) (list_any (is_true a) ks)
    (unforced (is_true a k) (sym (ap (λ t. t || (not (is_true a k) || false)) e) ∙ sym (pair_where a l k) ∙ h.0)) (none_each a l ks e h.1)

pub sat_from_one_of : (a : ℕ → Bool) (l : ℕ) (ls : List ℕ) → is_true a l ≡ list_any (is_true a) ls → Sat (one_of_clauses l ls) a
sat_from_one_of a l ls e = (
  first_where a l ls ∙ ap (λ t. not t || list_any (is_true a) ls) e ∙ or_not (list_any (is_true a) ls),
  sat_each a l ls (λ h. e ∙ h),
)

pub one_of_from_sat : (a : ℕ → Bool) (l : ℕ) (ls : List ℕ) → Sat (one_of_clauses l ls) a → is_true a l ≡ list_any (is_true a) ls
one_of_from_sat a l ls h =
    elim (cases_Bool (is_true a l)) [
      | inl on ↦ on ∙ sym (not_or (list_any (is_true a) ls) (sym (ap (λ t. not t || list_any (is_true a) ls) on) ∙ sym (first_where a l ls) ∙ h.0))
      | inr off ↦ off ∙ sym (none_each a l ls off h.1)
    ]

or_swap : (t u : Bool) → (t || u) ≡ (u || t)
or_swap true true = refl
or_swap true false = refl
or_swap false true = refl
or_swap false false = refl

not_both : (t u : Bool) → (not t || not u) ≡ not (u && t)
not_both true true = refl
not_both true false = refl
not_both false true = refl
not_both false false = refl

not_same : (t u : Bool) → not t ≡ not u → t ≡ u
not_same true true h = refl
not_same true false h = sym h
not_same false true h = sym h
not_same false false h = refl

module _ {m : ℕ} (n : ℕ) (x : List Bool) (a : ℕ → Bool) (b : Begins m n x a) where
  -- the literal of a formula is then its truth
  pub wide_denotes : (v : ℕ) (f : Rule) → codes_below m f ≡ true → Names a x v (named f alone) → is_true a (wide_literal n v f) ≡ holds f x
  wide_denotes v (code place) fit h = true_positive a place ∙ b.codes place (ltb-true place m fit)
  wide_denotes v (negation f) fit h = is_true-complement a (wide_literal n v f) ∙ ap not (wide_denotes v f fit h)
  wide_denotes v (both f g) fit h = true_positive a (v + taken g alone + taken f in_all) ∙ (chain_parts a x v f g in_all (both f g ∷ []) h).last.0
  wide_denotes v (either f g) fit h = true_positive a (v + taken g alone + taken f in_any) ∙ (chain_parts a x v f g in_any (either f g ∷ []) h).last.0
  wide_denotes v always fit h = true_positive a n ∙ b.truth
  wide_denotes v never fit h = true_negative a n ∙ ap not b.truth

  -- one of the parts of a chain is true where the chain is
  any_true : (v : ℕ) (f : Rule) → codes_below m f ≡ true → Names a x v (named f in_any) → list_any (is_true a) (any_literals n v f) ≡ holds f x
  any_true v (code place) fit h = or_nothing (is_true a (wide_literal n v (code place))) ∙ wide_denotes v (code place) fit h
  any_true v (negation f) fit h = or_nothing (is_true a (wide_literal n v (negation f))) ∙ wide_denotes v (negation f) fit h
  any_true v (both f g) fit h = or_nothing (is_true a (wide_literal n v (both f g))) ∙ wide_denotes v (both f g) fit h
  any_true v (either f g) fit h =
      let fits = and_parts (codes_below m f) (codes_below m g) fit in
      let parts : NamesOfChain a x v f g in_any [] = chain_parts a x v f g in_any [] h in
      ap (λ t. t || list_any (is_true a) (any_literals n (v + taken g alone) f)) (wide_denotes v g fits.1 parts.right)
      ∙ ap (λ t. holds g x || t) (any_true (v + taken g alone) f fits.0 parts.left) ∙ or_swap (holds g x) (holds f x)
  any_true v always fit h = or_nothing (is_true a (wide_literal n v always)) ∙ wide_denotes v always fit h
  any_true v never fit h = or_nothing (is_true a (wide_literal n v never)) ∙ wide_denotes v never fit h

  lone : (l : ℕ) (t : Bool) → is_true a l ≡ t → (is_true a (complement l) || false) ≡ not t
  lone l t e = or_nothing (is_true a (complement l)) ∙ is_true-complement a l ∙ ap not e

  -- and one of the complements where it is not
  all_true : (v : ℕ) (f : Rule) → codes_below m f ≡ true → Names a x v (named f in_all) → list_any (is_true a) (all_literals n v f) ≡ not (holds f x)
  all_true v (code place) fit h = lone (wide_literal n v (code place)) (holds (code place) x) (wide_denotes v (code place) fit h)
  all_true v (negation f) fit h = lone (wide_literal n v (negation f)) (holds (negation f) x) (wide_denotes v (negation f) fit h)
  all_true v (both f g) fit h =
      let fits = and_parts (codes_below m f) (codes_below m g) fit in
      let parts : NamesOfChain a x v f g in_all [] = chain_parts a x v f g in_all [] h in
      ap (λ t. t || list_any (is_true a) (all_literals n (v + taken g alone) f)) (is_true-complement a (wide_literal n v g) ∙ ap not (wide_denotes v g fits.1 parts.right))
      ∙ ap (λ t. not (holds g x) || t) (all_true (v + taken g alone) f fits.0 parts.left) ∙ not_both (holds g x) (holds f x)
  all_true v (either f g) fit h = lone (wide_literal n v (either f g)) (holds (either f g) x) (wide_denotes v (either f g) fit h)
  all_true v always fit h = lone (wide_literal n v always) (holds always x) (wide_denotes v always fit h)
  all_true v never fit h = lone (wide_literal n v never) (holds never x) (wide_denotes v never fit h)

  any_joined : (v : ℕ) (f g : Rule) → codes_below m f ≡ true → codes_below m g ≡ true → Names a x v (named g alone) → Names a x (v + taken g alone) (named f in_any)
      → list_any (is_true a) (any_literals n v (either f g)) ≡ holds (either f g) x
  any_joined v f g fit_f fit_g right left =
      ap (λ t. t || list_any (is_true a) (any_literals n (v + taken g alone) f)) (wide_denotes v g fit_g right)
      ∙ ap (λ t. holds g x || t) (any_true (v + taken g alone) f fit_f left) ∙ or_swap (holds g x) (holds f x)

  all_joined : (v : ℕ) (f g : Rule) → codes_below m f ≡ true → codes_below m g ≡ true → Names a x v (named g alone) → Names a x (v + taken g alone) (named f in_all)
      → list_any (is_true a) (all_literals n v (both f g)) ≡ not (holds (both f g) x)
  all_joined v f g fit_f fit_g right left =
      ap (λ t. t || list_any (is_true a) (all_literals n (v + taken g alone) f)) (is_true-complement a (wide_literal n v g) ∙ ap not (wide_denotes v g fit_g right))
      ∙ ap (λ t. not (holds g x) || t) (all_true (v + taken g alone) f fit_f left) ∙ not_both (holds g x) (holds f x)

  sat_any_tied : (at : Place) (w : ℕ) (f : Rule) (ls : List ℕ) → list_any (is_true a) ls ≡ holds f x → Names a x w (any_named at f) → Sat (any_tied at w ls) a
  sat_any_tied alone w f ls e h = sat_from_one_of a (literal w true) ls (true_positive a w ∙ h.0 ∙ sym e)
  sat_any_tied in_any w f ls e h = tt
  sat_any_tied in_all w f ls e h = sat_from_one_of a (literal w true) ls (true_positive a w ∙ h.0 ∙ sym e)

  sat_all_tied : (at : Place) (w : ℕ) (f : Rule) (ls : List ℕ) → list_any (is_true a) ls ≡ not (holds f x) → Names a x w (all_named at f) → Sat (all_tied at w ls) a
  sat_all_tied alone w f ls e h = sat_from_one_of a (literal w false) ls (true_negative a w ∙ ap not h.0 ∙ sym e)
  sat_all_tied in_any w f ls e h = sat_from_one_of a (literal w false) ls (true_negative a w ∙ ap not h.0 ∙ sym e)
  sat_all_tied in_all w f ls e h = tt

  any_tied_named : (at : Place) (w : ℕ) (f : Rule) (ls : List ℕ) → list_any (is_true a) ls ≡ holds f x → Sat (any_tied at w ls) a → Names a x w (any_named at f)
  any_tied_named alone w f ls e h = (sym (true_positive a w) ∙ one_of_from_sat a (literal w true) ls h ∙ e, tt)
  any_tied_named in_any w f ls e h = tt
  any_tied_named in_all w f ls e h = (sym (true_positive a w) ∙ one_of_from_sat a (literal w true) ls h ∙ e, tt)

  all_tied_named : (at : Place) (w : ℕ) (f : Rule) (ls : List ℕ) → list_any (is_true a) ls ≡ not (holds f x) → Sat (all_tied at w ls) a → Names a x w (all_named at f)
  all_tied_named alone w f ls e h = (not_same (a w) (holds f x) (sym (true_negative a w) ∙ one_of_from_sat a (literal w false) ls h ∙ e), tt)
  all_tied_named in_any w f ls e h = (not_same (a w) (holds f x) (sym (true_negative a w) ∙ one_of_from_sat a (literal w false) ls h ∙ e), tt)
  all_tied_named in_all w f ls e h = tt

  -- where the variables are the truth of what they stand for, the clauses hold
  pub sat_from_chain : (v : ℕ) (f : Rule) (at : Place) → codes_below m f ≡ true → Names a x v (named f at) → Sat (wide_clauses n v f at) a
  sat_from_chain v (code place) at fit h = tt
  sat_from_chain v (negation f) at fit h = sat_from_chain v f alone fit h
  sat_from_chain v (both f g) at fit h =
      let fits = and_parts (codes_below m f) (codes_below m g) fit in
      let parts : NamesOfChain a x v f g in_all (all_named at (both f g)) = chain_parts a x v f g in_all (all_named at (both f g)) h in
      all-append _ (wide_clauses n v g alone ++ wide_clauses n (v + taken g alone) f in_all) _
      (all-append _ (wide_clauses n v g alone) _ (sat_from_chain v g alone fits.1 parts.right) (sat_from_chain (v + taken g alone) f in_all fits.0 parts.left))
      (sat_all_tied at (v + taken g alone + taken f in_all) (both f g) (all_literals n v (both f g)) (all_joined v f g fits.0 fits.1 parts.right parts.left) parts.last)
  sat_from_chain v (either f g) at fit h =
      let fits = and_parts (codes_below m f) (codes_below m g) fit in
      let parts : NamesOfChain a x v f g in_any (any_named at (either f g)) = chain_parts a x v f g in_any (any_named at (either f g)) h in
      all-append _ (wide_clauses n v g alone ++ wide_clauses n (v + taken g alone) f in_any) _
      (all-append _ (wide_clauses n v g alone) _ (sat_from_chain v g alone fits.1 parts.right) (sat_from_chain (v + taken g alone) f in_any fits.0 parts.left))
      (sat_any_tied at (v + taken g alone + taken f in_any) (either f g) (any_literals n v (either f g)) (any_joined v f g fits.0 fits.1 parts.right parts.left) parts.last)
  sat_from_chain v always at fit h = tt
  sat_from_chain v never at fit h = tt

  -- where the clauses hold, the variables are the truth of what they stand for
  pub chain_from_sat : (v : ℕ) (f : Rule) (at : Place) → codes_below m f ≡ true → Sat (wide_clauses n v f at) a → Names a x v (named f at)
  chain_from_sat v (code place) at fit h = tt
  chain_from_sat v (negation f) at fit h = chain_from_sat v f alone fit h
  chain_from_sat v (both f g) at fit h =
      let fits = and_parts (codes_below m f) (codes_below m g) fit in
      let sides = all_first _ (wide_clauses n v g alone ++ wide_clauses n (v + taken g alone) f in_all) _ h in
      let right = chain_from_sat v g alone fits.1 (all_first _ (wide_clauses n v g alone) _ sides) in
      let left = chain_from_sat (v + taken g alone) f in_all fits.0 (all_last _ (wide_clauses n v g alone) _ sides) in
      chain_names a x v f g in_all (all_named at (both f g)) (record {
        right = right;
        left = left;
        last = all_tied_named at (v + taken g alone + taken f in_all) (both f g) (all_literals n v (both f g)) (all_joined v f g fits.0 fits.1 right left)
            (all_last _ (wide_clauses n v g alone ++ wide_clauses n (v + taken g alone) f in_all) _ h);
      })
  chain_from_sat v (either f g) at fit h =
      let fits = and_parts (codes_below m f) (codes_below m g) fit in
      let sides = all_first _ (wide_clauses n v g alone ++ wide_clauses n (v + taken g alone) f in_any) _ h in
      let right = chain_from_sat v g alone fits.1 (all_first _ (wide_clauses n v g alone) _ sides) in
      let left = chain_from_sat (v + taken g alone) f in_any fits.0 (all_last _ (wide_clauses n v g alone) _ sides) in
      chain_names a x v f g in_any (any_named at (either f g)) (record {
        right = right;
        left = left;
        last = any_tied_named at (v + taken g alone + taken f in_any) (either f g) (any_literals n v (either f g)) (any_joined v f g fits.0 fits.1 right left)
            (all_last _ (wide_clauses n v g alone ++ wide_clauses n (v + taken g alone) f in_any) _ h);
      })
  chain_from_sat v always at fit h = tt
  chain_from_sat v never at fit h = tt
