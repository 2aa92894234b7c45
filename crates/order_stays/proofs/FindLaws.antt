-- What a search with assumed codes says of the cars that have them.
use Rattle.std.proofs.Common.{◌≡◌, inl, inr, ℕ, ◌+◌, ◌*◌, ◌%◌, ◌<◌, Bool, true, eqb, List, [], ◌∷◌, length, refl, sym, ap, subst, ◌∙◌, arith, All}
use Rattle.std.specs.List.{list_all, AllByRecursion}
use Rattle.std.proofs.lemmas.Bool.{and_parts, and_from, or_cases, or_left, or_right, eq-eqb, eqb-true, false≢true, true≢false}
use Rattle.std.proofs.lemmas.List.Elements.{recursion_from_All}
use Rattle.pb_base.specs.Rule.{Rule, always, holds}
use Rattle.pb_base.specs.Sets.{has as has_code}
use Rattle.book_model.specs.Book.{IsBook}
use Rattle.book_model.specs.Contents.{Contents}
use Rattle.book_model.specs.Good.{is_good}
use Rattle.clause_pool.specs.Literal.{literal, complement, is_true}
use Rattle.clause_pool.specs.Clause.{has}
use Rattle.clause_pool.proofs.LiteralLaws.{complement-even}
use Rattle.clausify.specs.Encoding.{EncodesItems}
use Rattle.clausify.specs.Items.{rule_items}
use Rattle.clausify.specs.declared.encoder.Encoder.{Encoder}
use Rattle.clausify.proofs.CodedLaws.{Begun}
use Rattle.clausify.proofs.ItemLaws.{AllFit, good_from_meets, meets_from_good, length_from_good, rule_items_fit}
use Rattle.clausify.proofs.LiftLaws.{items_code}
use Rattle.clausify.proofs.RangeLaws.{positive_below}
use Rattle.clausify.proofs.Truth.{true_positive}
use Rattle.propagate.specs.Trail.{AreLiterals}
use Rattle.propagate.specs.Quiet.{IsConsistent}
use Rattle.item_search.specs.Search.{IsEncoded, CodesItems, AreTrue, IsFound, NoneFound}
use Rattle.item_search.proofs.EncodedLaws.{encoded_none, encoded_then}
use Rattle.blame.specs.Blame.{IsCar, IsNoCar}
use Rattle.order_stays.specs.Stays.{IsCarWith, NoneWith, codes_literals}

-- the literals of codes: they are in range, and none is the complement of another
each_below : (n : ℕ) (kept : List ℕ) → AllByRecursion (λ c. c < n) kept → (l : ℕ) → has (codes_literals kept) l ≡ true → l < 2 * n
each_below n [] within l is_in = absurd (false≢true is_in)
each_below n (c ∷ cs) within l is_in =
    elim (or_cases (eqb (literal c true) l) (has (codes_literals cs) l) is_in) [
      | inl same ↦ subst (λ (k : ℕ). k < 2 * n) (eqb-true (literal c true) l same) (positive_below c n within.0)
      | inr later ↦ each_below n cs within.1 l later
    ]

even : (c : ℕ) → literal c true % 2 ≡ 0
even c = omega arith

each_even : (kept : List ℕ) (l : ℕ) → has (codes_literals kept) l ≡ true → l % 2 ≡ 0
each_even [] l is_in = absurd (false≢true is_in)
each_even (c ∷ cs) l is_in =
    elim (or_cases (eqb (literal c true) l) (has (codes_literals cs) l) is_in) [
      | inl same ↦ subst (λ (k : ℕ). k % 2 ≡ 0) (eqb-true (literal c true) l same) (even c)
      | inr later ↦ each_even cs l later
    ]

module _ (kept lits : List ℕ) (are : lits ≡ codes_literals kept) where
  pub lits_below : (n codes : ℕ) → codes ≡ n → All (λ (c : ℕ). c < n) kept → AreLiterals lits (2 * codes)
  lits_below n codes same within l is_in =
      let low : l < 2 * n = each_below n kept (recursion_from_All (λ (c : ℕ). c < n) kept within) l (subst (λ (ls : List ℕ). has ls l ≡ true) are is_in) in
      omega arith

  pub lits_consistent : IsConsistent lits
  lits_consistent l is_in other =
      let first : l % 2 ≡ 0 = each_even kept l (subst (λ (ls : List ℕ). has ls l ≡ true) are is_in) in
      let second : complement l % 2 ≡ 0 = each_even kept (complement l) (subst (λ (ls : List ℕ). has ls (complement l) ≡ true) are other) in
      let third : (l + 1) % 2 ≡ 0 = subst (λ (k : ℕ). k % 2 ≡ 0) (complement-even l first) second in
      absurd (omega arith)

-- they are true of just the sets that have the codes
true_of_has : (x : List Bool) (kept : List ℕ) → list_all (has_code x) kept ≡ true → AreTrue x (codes_literals kept)
true_of_has x [] h l is_in = absurd (false≢true is_in)
true_of_has x (c ∷ cs) h l is_in =
    let parts = and_parts (has_code x c) (list_all (has_code x) cs) h in
    elim (or_cases (eqb (literal c true) l) (has (codes_literals cs) l) is_in) [
      | inl same ↦ subst (λ (k : ℕ). is_true (has_code x) k ≡ true) (eqb-true (literal c true) l same) (true_positive (has_code x) c ∙ parts.0)
      | inr later ↦ true_of_has x cs parts.1 l later
    ]

has_of_true : (x : List Bool) (kept : List ℕ) → AreTrue x (codes_literals kept) → list_all (has_code x) kept ≡ true
has_of_true x [] h = refl
has_of_true x (c ∷ cs) h =
    let g : ℕ = literal c true in
    and_from (has_code x c) (list_all (has_code x) cs)
    (sym (true_positive (has_code x) c) ∙ h g (or_left (eqb g g) (has (codes_literals cs) g) (eq-eqb g g refl)))
    (has_of_true x cs (λ l is_in. h l (or_right (eqb g l) (has (codes_literals cs) l) is_in)))

module _ (b : Contents) (day : ℕ) where
  pub rules_code : IsBook b → CodesItems (length b.codes) (rule_items b day) (is_good b day)
  rules_code book =
      items_code (length b.codes) (rule_items b day) (is_good b day) (rule_items_fit b day book.supplements_fit book.constructs_fit)
      (λ x len good. meets_from_good b day x good)
      (λ x len met. good_from_meets b day x len met)

  -- what comes of a search where they are assumed
  pub car_found : (kept : List ℕ) (x : List Bool) → IsFound (length b.codes) (is_good b day) (codes_literals kept) x → IsCarWith b day kept x
  car_found kept x found = record { good = found.passes; has_kept = has_of_true x kept found.lits_true }

  pub none_found : (kept : List ℕ) → NoneFound (length b.codes) (is_good b day) (codes_literals kept) → NoneWith b day kept
  none_found kept none = λ x car.
      none x (record { counted = length_from_good b day x car.good; passes = car.good; lits_true = true_of_has x kept car.has_kept })

  -- what is told where TRUE is asked
  pub car_told : (kept : List ℕ) (f : Rule) (x : List Bool) → IsCar b day kept f x → IsCarWith b day kept x
  car_told kept f x car = record { good = car.good; has_kept = car.has_chosen }

  pub none_told : (kept : List ℕ) (f : Rule) → f ≡ always → IsNoCar b day kept f → NoneWith b day kept
  none_told kept f is none = λ x car. true≢false (sym (ap (λ (g : Rule). holds g x) is) ∙ none x car.good car.has_kept)

-- the encoder begun, and with the rules
pub record IsMade (b : Contents) (day : ℕ) (m0 m1 : Encoder) : Type 0 where
  pub begun : Begun b m0
  pub rules : EncodesItems m0 m1 (rule_items b day)

pub made_truth : (b : Contents) (day : ℕ) (m0 m1 : Encoder) → IsMade b day m0 m1 → m1.truth ≡ length b.codes
made_truth b day m0 m1 h = h.rules.truth ∙ h.begun.truth

pub made_encoded : (b : Contents) (day : ℕ) (m0 m1 : Encoder) → IsMade b day m0 m1 → IsEncoded (rule_items b day) m1
made_encoded b day m0 m1 h =
    encoded_then [] (rule_items b day) m0 m1 (encoded_none (length b.codes) m0 h.begun.clauses h.begun.truth h.begun.next) h.rules

pub made_fit : (b : Contents) (day : ℕ) (m0 m1 : Encoder) → IsBook b → IsMade b day m0 m1 → AllFit m1.truth (rule_items b day)
made_fit b day m0 m1 book h =
    subst (λ (n : ℕ). AllFit n (rule_items b day)) (sym (made_truth b day m0 m1 h)) (rule_items_fit b day book.supplements_fit book.constructs_fit)
