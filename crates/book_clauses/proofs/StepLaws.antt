-- How far a loop over the records of a book has come.
use Rattle.std.proofs.Common.{◌≡◌, ℕ, suc, ◌+◌, ◌<◌, ◌≤◌, ◌*◌, true, List, [], ◌∷◌, ◌++◌, length, get_or, map, take, drop, refl, sym, ap, subst, ◌∙◌, arith, append_assoc, append-nil, drop-cons}
use Rattle.std.specs.Prelude.{All}
use Rattle.std.proofs.lemmas.List.{map-append, take_more}
use Rattle.book_model.specs.Contents.{Contents}
use Rattle.book_model.specs.Book.{SupplementFits, ConstructFits, VariantFits}
use Rattle.book_model.specs.declared.record.Slice.{Slice}
use Rattle.book_model.specs.declared.record.Supplement.{Supplement}
use Rattle.book_model.specs.declared.record.Construct.{Construct}
use Rattle.book_model.specs.declared.record.Variant.{Variant}
use Rattle.pb_base.specs.Rule.{Rule}
use Rattle.clausify.specs.Encoding.{Encodes}
use Rattle.clausify.specs.Formulas.{connectives, formula_clauses, formula_literal, literals_from}
use Rattle.clausify.specs.Items.{demand_item}
use Rattle.clausify.specs.declared.encoder.Encoder.{Encoder}
use Rattle.clausify.proofs.Bounds.{connectives_below, demand_item_below}
use Rattle.guarded_rules.specs.Guarded.{GuardedItem, EncodesGuarded, IsGuarded}
use Rattle.guarded_rules.proofs.MadeLaws.{guarded_item}
use Rattle.book_clauses.specs.BookClauses.{AllHaveGuards, has_guard}
use Rattle.book_clauses.specs.Coding.{free_usage}
use Rattle.book_clauses.proofs.PeriodLaws.{all_kept, all_more}

module _ {X : Type 0} (f : X → GuardedItem) (before : List GuardedItem) where
  pub items_more : (xs : List X) (k : ℕ) (x : X) (e more : Encoder) → k < length xs → x ≡ get_or xs k x → IsGuarded (before ++ map f (take k xs)) e → EncodesGuarded e more (f x)
      → IsGuarded (before ++ map f (take (k + 1) xs)) more
  items_more xs k x e more below read h made =
      subst (λ (is : List GuardedItem). IsGuarded is more)
      (append_assoc before (map f (take k xs)) (f x ∷ [])
      ∙ ap (λ (is : List GuardedItem). before ++ is)
      (sym (map-append f (take k xs) (x ∷ [])) ∙ ap (map f) (ap (λ (y : X). take k xs ++ y ∷ []) read ∙ sym (take_more xs k x below))))
      (guarded_item (before ++ map f (take k xs)) (f x) e more h made)

-- a formula alone
pub free_made : (e more : Encoder) (v : Variant) → Encodes e more (formula_clauses e.truth e.next v.rule) (connectives v.rule) → EncodesGuarded e more (free_usage v)
free_made e more v h = record {
  clauses = h.clauses ∙ ap (λ (cs : List (List ℕ)). e.pool.clauses ++ cs) (sym (append-nil (formula_clauses e.truth e.next v.rule)));
  next = h.next;
  truth = h.truth;
  first = h.first;
}

abbrev rule_of : Variant → Rule
rule_of v = v.rule

-- the literals of the formulas that are left
pub usages_more : (t v w : ℕ) (lits lits' all : List ℕ) (vs : List Variant) (k : ℕ) (x : Variant) (l : ℕ) → k < length vs → x ≡ get_or vs k x
    → lits ++ literals_from t v (map rule_of (drop k vs)) ≡ all → l ≡ formula_literal t v x.rule → w ≡ v + connectives x.rule → lits' ≡ lits ++ l ∷ []
    → lits' ++ literals_from t w (map rule_of (drop (k + 1) vs)) ≡ all
usages_more t v w lits lits' all vs k x l below read left is next more =
    let rest : List Variant = drop (k + 1) vs in
    ap (λ (ls : List ℕ). ls ++ literals_from t w (map rule_of rest)) more
    ∙ append_assoc lits (l ∷ []) (literals_from t w (map rule_of rest))
    ∙ ap (λ (j : ℕ). lits ++ j ∷ literals_from t w (map rule_of rest)) is
    ∙ ap (λ (j : ℕ). lits ++ formula_literal t v x.rule ∷ literals_from t j (map rule_of rest)) next
    ∙ ap (λ (j : ℕ). lits ++ formula_literal t v x.rule ∷ literals_from t (v + connectives x.rule) (map rule_of (drop j vs))) (let e : k + 1 ≡ suc k = omega arith in e)
    ∙ ap (λ (ys : List Variant). lits ++ literals_from t v (map rule_of ys)) (sym (drop-cons vs k x below ∙ ap (λ (y : Variant). y ∷ drop (suc k) vs) (sym read)))
    ∙ left

-- each formula has a literal
pub length-literals_from : (t v : ℕ) (fs : List Rule) → length (literals_from t v fs) ≡ length fs
length-literals_from t v [] = refl
length-literals_from t v (f ∷ fs) = ap suc (length-literals_from t (v + connectives f) fs)

-- there is room for one more formula
pub room_for : (next start k n size : ℕ) → next ≤ start + 512 * k → k < n → start + 512 * n < 4294967296 → size ≤ 512 → next + size < 4294967296
room_for next start k n size come below room small = omega (arith, come, below, room, small)

pub supplement_small : (n : ℕ) (xs : List Supplement) (k : ℕ) (x : Supplement) → All (SupplementFits n) xs → k < length xs → x ≡ get_or xs k x → connectives x.rule ≤ 512
supplement_small n xs k x fit below read = let one = subst (SupplementFits n) (sym read) (fit k x below) in omega (arith, connectives_below x.rule, one.rule.size)

pub demand_small : (n : ℕ) (xs : List Construct) (k : ℕ) (x : Construct) → All (ConstructFits n) xs → k < length xs → x ≡ get_or xs k x → connectives (demand_item x.demand).rule ≤ 512
demand_small n xs k x fit below read = demand_item_below n x.demand (subst (ConstructFits n) (sym read) (fit k x below)).demand

pub usage_small : (n m : ℕ) (xs : List Variant) (k : ℕ) (x : Variant) → All (VariantFits n m) xs → k < length xs → x ≡ get_or xs k x → connectives x.rule ≤ 512
usage_small n m xs k x fit below read = let one = subst (VariantFits n m) (sym read) (fit k x below) in omega (arith, connectives_below x.rule, one.rule.size)

-- the periods of one more record are known
module _ {X : Type 0} (days : X → Slice) where
  pub guards_more : (b : Contents) (ps qs : List Slice) (xs : List X) (k : ℕ) (x : X) → k < length xs → x ≡ get_or xs k x → ((d : Slice) → has_guard b ps d ≡ true → has_guard b qs d ≡ true)
      → AllHaveGuards b ps (map days (take k xs)) → has_guard b qs (days x) ≡ true → AllHaveGuards b qs (map days (take (k + 1) xs))
  guards_more b ps qs xs k x below read keeps h has_one =
      subst (λ (ds : List Slice). AllHaveGuards b qs ds)
      (sym (map-append days (take k xs) (x ∷ [])) ∙ ap (map days) (ap (λ (y : X). take k xs ++ y ∷ []) read ∙ sym (take_more xs k x below)))
      (all_more b qs (map days (take k xs)) (days x) (all_kept b ps qs (map days (take k xs)) keeps h) has_one)
