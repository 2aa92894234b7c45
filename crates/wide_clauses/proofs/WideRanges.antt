-- The literals of items are of the variables that are taken.
use Rattle.std.proofs.Common.{◌≡◌, ℕ, ◌+◌, ◌*◌, ◌<◌, ◌≤◌, true, false, List, [], ◌∷◌, ◌++◌, None, map, arith}
use Rattle.std.specs.List.{AllByRecursion}
use Rattle.std.proofs.lemmas.Bool.{and_parts, ltb-true}
use Rattle.pb_base.specs.Rule.{Rule, code, negation, both, either, always, never, codes_below}
use Rattle.clause_pool.specs.Literal.{literal, complement}
use Rattle.clause_pool.specs.Clause.{AreBelow}
use Rattle.clause_pool.proofs.ClauseLaws.{IsBelow-clause_of}
use Rattle.clausify.specs.Items.{Item, free_item}
use Rattle.clausify.proofs.ItemLaws.{AllBelow, AllFit, claim_fits}
use Rattle.clausify.proofs.ListLaws.{all-append}
use Rattle.clausify.proofs.RangeLaws.{positive_below, negative_below, complement_below, claim_below}
use Rattle.wide_clauses.specs.Chains.{Place, alone, in_any, in_all, of_any, of_all, taken, wide_literal, any_literals, all_literals, with_each, one_of_clauses, any_tied, all_tied, wide_clauses, wide_variables}
use Rattle.wide_clauses.specs.WideItems.{taken_by, wide_item_clauses, wide_literals, wide_own}

abbrev AllLow : ℕ → List ℕ → Type 0
AllLow m ls = AllByRecursion (λ l. l < 2 * m) ls

each_below : (m l : ℕ) (ls : List ℕ) → l < 2 * m → AllLow m ls → AreBelow (2 * m) (with_each l ls)
each_below m l [] h hs = tt
each_below m l (k ∷ ks) h hs = (IsBelow-clause_of (2 * m) (l ∷ complement k ∷ []) (h, (complement_below k m hs.0, tt)), each_below m l ks h hs.1)

one_of_below : (m l : ℕ) (ls : List ℕ) → l < 2 * m → AllLow m ls → AreBelow (2 * m) (one_of_clauses l ls)
one_of_below m l ls h hs = (IsBelow-clause_of (2 * m) (complement l ∷ ls) (complement_below l m h, hs), each_below m l ls h hs)

any_tied_below : (m : ℕ) (at : Place) (w : ℕ) (ls : List ℕ) → w + of_any at ≤ m → AllLow m ls → AreBelow (2 * m) (any_tied at w ls)
any_tied_below m alone w ls h hs = one_of_below m (literal w true) ls (positive_below w m (omega arith)) hs
any_tied_below m in_any w ls h hs = tt
any_tied_below m in_all w ls h hs = one_of_below m (literal w true) ls (positive_below w m (omega arith)) hs

all_tied_below : (m : ℕ) (at : Place) (w : ℕ) (ls : List ℕ) → w + of_all at ≤ m → AllLow m ls → AreBelow (2 * m) (all_tied at w ls)
all_tied_below m alone w ls h hs = one_of_below m (literal w false) ls (negative_below w m (omega arith)) hs
all_tied_below m in_any w ls h hs = one_of_below m (literal w false) ls (negative_below w m (omega arith)) hs
all_tied_below m in_all w ls h hs = tt

-- over the codes below c, with variables from v up to m, where n is always true
module _ (c n m : ℕ) where
  pub wide_literal_below : (v : ℕ) (f : Rule) → codes_below c f ≡ true → c ≤ v → n < v → v + taken f alone ≤ m → wide_literal n v f < 2 * m
  wide_literal_below v (code place) fit codes h k = positive_below place m (let below = ltb-true place c fit in omega arith)
  wide_literal_below v (negation f) fit codes h k = complement_below (wide_literal n v f) m (wide_literal_below v f fit codes h k)
  wide_literal_below v (both f g) fit codes h k = positive_below (v + taken g alone + taken f in_all) m (omega arith)
  wide_literal_below v (either f g) fit codes h k = positive_below (v + taken g alone + taken f in_any) m (omega arith)
  wide_literal_below v always fit codes h k = positive_below n m (omega arith)
  wide_literal_below v never fit codes h k = negative_below n m (omega arith)

  any_below : (v : ℕ) (f : Rule) → codes_below c f ≡ true → c ≤ v → n < v → v + taken f in_any ≤ m → AllLow m (any_literals n v f)
  any_below v (code place) fit codes h k = (wide_literal_below v (code place) fit codes h k, tt)
  any_below v (negation f) fit codes h k = (wide_literal_below v (negation f) fit codes h k, tt)
  any_below v (both f g) fit codes h k = (wide_literal_below v (both f g) fit codes h k, tt)
  any_below v (either f g) fit codes h k =
      let fits = and_parts (codes_below c f) (codes_below c g) fit in
      (wide_literal_below v g fits.1 codes h (omega arith), any_below (v + taken g alone) f fits.0 (omega arith) (omega arith) (omega arith))
  any_below v always fit codes h k = (wide_literal_below v always fit codes h k, tt)
  any_below v never fit codes h k = (wide_literal_below v never fit codes h k, tt)

  all_below : (v : ℕ) (f : Rule) → codes_below c f ≡ true → c ≤ v → n < v → v + taken f in_all ≤ m → AllLow m (all_literals n v f)
  all_below v (code place) fit codes h k = (complement_below _ m (wide_literal_below v (code place) fit codes h k), tt)
  all_below v (negation f) fit codes h k = (complement_below _ m (wide_literal_below v (negation f) fit codes h k), tt)
  all_below v (both f g) fit codes h k =
      let fits = and_parts (codes_below c f) (codes_below c g) fit in
      (complement_below _ m (wide_literal_below v g fits.1 codes h (omega arith)), all_below (v + taken g alone) f fits.0 (omega arith) (omega arith) (omega arith))
  all_below v (either f g) fit codes h k = (complement_below _ m (wide_literal_below v (either f g) fit codes h k), tt)
  all_below v always fit codes h k = (complement_below _ m (wide_literal_below v always fit codes h k), tt)
  all_below v never fit codes h k = (complement_below _ m (wide_literal_below v never fit codes h k), tt)

  pub wide_below : (v : ℕ) (f : Rule) (at : Place) → codes_below c f ≡ true → c ≤ v → n < v → v + taken f at ≤ m → AreBelow (2 * m) (wide_clauses n v f at)
  wide_below v (code place) at fit codes h k = tt
  wide_below v (negation f) at fit codes h k = wide_below v f alone fit codes h k
  wide_below v (both f g) at fit codes h k =
      let fits = and_parts (codes_below c f) (codes_below c g) fit in
      all-append _ (wide_clauses n v g alone ++ wide_clauses n (v + taken g alone) f in_all) _
      (all-append _ (wide_clauses n v g alone) _ (wide_below v g alone fits.1 codes h (omega arith)) (wide_below (v + taken g alone) f in_all fits.0 (omega arith) (omega arith) (omega arith)))
      (all_tied_below m at (v + taken g alone + taken f in_all) (all_literals n v (both f g)) (omega arith) (all_below v (both f g) fit codes h (omega arith)))
  wide_below v (either f g) at fit codes h k =
      let fits = and_parts (codes_below c f) (codes_below c g) fit in
      all-append _ (wide_clauses n v g alone ++ wide_clauses n (v + taken g alone) f in_any) _
      (all-append _ (wide_clauses n v g alone) _ (wide_below v g alone fits.1 codes h (omega arith)) (wide_below (v + taken g alone) f in_any fits.0 (omega arith) (omega arith) (omega arith)))
      (any_tied_below m at (v + taken g alone + taken f in_any) (any_literals n v (either f g)) (omega arith) (any_below v (either f g) fit codes h (omega arith)))
  wide_below v always at fit codes h k = tt
  wide_below v never at fit codes h k = tt

  pub wide_literals_below : (v : ℕ) (fs : List Rule) → AllBelow c fs → c ≤ v → n < v → v + taken_by (map free_item fs) ≤ m → AllLow m (wide_literals n v fs)
  wide_literals_below v [] below codes h k = tt
  wide_literals_below v (f ∷ fs) below codes h k =
      (wide_literal_below v f below.0 codes h (omega arith), wide_literals_below (v + wide_variables f) fs below.1 (omega arith) (omega arith) (omega arith))

  pub wide_items_below : (v : ℕ) (is : List Item) → AllFit c is → c ≤ v → n < v → v + taken_by is ≤ m → AreBelow (2 * m) (wide_item_clauses n v is)
  wide_items_below v [] fit codes h k = tt
  wide_items_below v (i ∷ is) fit codes h k =
      let fits = and_parts (codes_below c i.rule) (claim_fits c i.claim) fit.0 in
      all-append _ (wide_own n v i) (wide_item_clauses n (v + wide_variables i.rule) is)
      (all-append _ (wide_clauses n v i.rule alone) _ (wide_below v i.rule alone fits.0 codes h (omega arith))
      (claim_below c m (wide_literal n v i.rule) None i.claim tt fits.1 (omega arith) (wide_literal_below v i.rule fits.0 codes h (omega arith))))
      (wide_items_below (v + wide_variables i.rule) is fit.1 (omega arith) (omega arith) (omega arith))
