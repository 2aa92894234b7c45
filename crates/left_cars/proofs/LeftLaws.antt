-- The clauses of the rules and of the chosen codes are satisfied over just the cars that are left.
use Rattle.std.proofs.Common.{◌≡◌, ℕ, ◌+◌, ◌<◌, Bool, true, List, [], ◌∷◌, length, map, drop, get_or, refl, sym, subst, ◌∙◌}
use Rattle.std.specs.List.{list_all, AllByRecursion}
use Rattle.std.proofs.lemmas.Bool.{and_parts, and_from, lt-ltb}
use Rattle.std.proofs.lemmas.List.Elements.{recursion_from_All}
use Rattle.std.proofs.lemmas.List.{drop_more}
use Rattle.pb_base.specs.Sets.{has}
use Rattle.book_model.specs.Contents.{Contents}
use Rattle.book_model.specs.Book.{IsBook}
use Rattle.book_model.specs.Good.{is_good}
use Rattle.clause_pool.specs.Literal.{literal}
use Rattle.clause_pool.specs.Clause.{clause_of}
use Rattle.clausify.specs.Encoding.{EncodesAlone, EncodesItems}
use Rattle.clausify.specs.Items.{rule_items}
use Rattle.clausify.specs.declared.encoder.Encoder.{Encoder}
use Rattle.clausify.proofs.CodedLaws.{Begun}
use Rattle.clausify.proofs.ItemLaws.{AllFit, AllMeet, good_from_meets, meets_from_good, length_from_good, rule_items_fit}
use Rattle.clausify.proofs.LiftLaws.{items_code}
use Rattle.clausify.proofs.ListLaws.{all-append, all_first, all_last}
use Rattle.clausify.proofs.Remaining.{ItemsLeft, items_many}
use Rattle.item_search.specs.Search.{IsEncoded, CodesItems}
use Rattle.item_search.proofs.EncodedLaws.{encoded_none, encoded_then, one_item}
use Rattle.left_cars.specs.Left.{is_left, AreChosen, chosen_item, left_items}

pub good_of_left : (b : Contents) (day : ℕ) (chosen : List ℕ) (x : List Bool) → is_left b day chosen x ≡ true → is_good b day x ≡ true
good_of_left b day chosen x left = (and_parts (is_good b day x) (list_all (has x) chosen) left).0

pub length_of_left : (b : Contents) (day : ℕ) (chosen : List ℕ) (x : List Bool) → is_left b day chosen x ≡ true → length x ≡ length b.codes
length_of_left b day chosen x left = length_from_good b day x (good_of_left b day chosen x left)

chosen_fit : (n : ℕ) (chosen : List ℕ) → AllByRecursion (λ c. c < n) chosen → AllFit n (map chosen_item chosen)
chosen_fit n [] within = tt
chosen_fit n (c ∷ cs) within = (and_from _ _ (lt-ltb c n within.0) refl, chosen_fit n cs within.1)

chosen_met : (x : List Bool) (chosen : List ℕ) → list_all (has x) chosen ≡ true → AllMeet x (map chosen_item chosen)
chosen_met x [] h = tt
chosen_met x (c ∷ cs) h = let parts = and_parts (has x c) (list_all (has x) cs) h in (parts.0, chosen_met x cs parts.1)

chosen_from_met : (x : List Bool) (chosen : List ℕ) → AllMeet x (map chosen_item chosen) → list_all (has x) chosen ≡ true
chosen_from_met x [] h = refl
chosen_from_met x (c ∷ cs) h = and_from (has x c) (list_all (has x) cs) h.0 (chosen_from_met x cs h.1)

pub left_fit : (b : Contents) (day : ℕ) (chosen : List ℕ) → IsBook b → AreChosen b chosen → AllFit (length b.codes) (left_items b day chosen)
left_fit b day chosen book within =
    all-append _ (rule_items b day) (map chosen_item chosen) (rule_items_fit b day book.supplements_fit book.constructs_fit)
    (chosen_fit (length b.codes) chosen (recursion_from_All (λ (c : ℕ). c < length b.codes) chosen within))

pub left_code : (b : Contents) (day : ℕ) (chosen : List ℕ) → IsBook b → AreChosen b chosen → CodesItems (length b.codes) (left_items b day chosen) (is_left b day chosen)
left_code b day chosen book within =
    items_code (length b.codes) (left_items b day chosen) (is_left b day chosen) (left_fit b day chosen book within)
    (λ x len left.
    let parts = and_parts (is_good b day x) (list_all (has x) chosen) left in
    all-append _ (rule_items b day) (map chosen_item chosen) (meets_from_good b day x parts.0) (chosen_met x chosen parts.1))
    (λ x len met.
    and_from (is_good b day x) (list_all (has x) chosen) (good_from_meets b day x len (all_first _ (rule_items b day) (map chosen_item chosen) met))
    (chosen_from_met x chosen (all_last _ (rule_items b day) (map chosen_item chosen) met)))

-- the encoder begun, with the rules, and with the chosen codes
pub record IsMade (b : Contents) (day : ℕ) (chosen : List ℕ) (m0 m1 m2 : Encoder) : Type 0 where
  pub begun : Begun b m0
  pub rules : EncodesItems m0 m1 (rule_items b day)
  pub codes : EncodesItems m1 m2 (map chosen_item chosen)

pub made_truth : (b : Contents) (day : ℕ) (chosen : List ℕ) (m0 m1 m2 : Encoder) → IsMade b day chosen m0 m1 m2 → m2.truth ≡ length b.codes
made_truth b day chosen m0 m1 m2 h = h.codes.truth ∙ h.rules.truth ∙ h.begun.truth

pub made_encoded : (b : Contents) (day : ℕ) (chosen : List ℕ) (m0 m1 m2 : Encoder) → IsMade b day chosen m0 m1 m2 → IsEncoded (left_items b day chosen) m2
made_encoded b day chosen m0 m1 m2 h =
    encoded_then (rule_items b day) (map chosen_item chosen) m1 m2
    (encoded_then [] (rule_items b day) m0 m1 (encoded_none (length b.codes) m0 h.begun.clauses h.begun.truth h.begun.next) h.rules)
    h.codes

pub made_fit : (b : Contents) (day : ℕ) (chosen : List ℕ) (m0 m1 m2 : Encoder) → IsBook b → AreChosen b chosen → IsMade b day chosen m0 m1 m2 → AllFit m2.truth (left_items b day chosen)
made_fit b day chosen m0 m1 m2 book within h =
    subst (λ (n : ℕ). AllFit n (left_items b day chosen)) (sym (made_truth b day chosen m0 m1 m2 h)) (left_fit b day chosen book within)

-- one chosen code more is there
pub chosen_step : (start m more : Encoder) (chosen : List ℕ) (i l : ℕ) → i < length chosen → l ≡ literal (get_or chosen i 0) true
    → ItemsLeft start m (map chosen_item chosen) (map chosen_item (drop i chosen)) → EncodesAlone m more (clause_of (l ∷ []) ∷ [])
    → ItemsLeft start more (map chosen_item chosen) (map chosen_item (drop (i + 1) chosen))
chosen_step start m more chosen i l within is left made =
    let place : ℕ = get_or chosen i 0 in
    items_many start m more (map chosen_item chosen) (chosen_item place ∷ []) (map chosen_item (drop (i + 1) chosen))
    (subst (λ (cs : List ℕ). ItemsLeft start m (map chosen_item chosen) (map chosen_item cs)) (drop_more chosen i 0 within) left)
    (one_item (chosen_item place) m more (subst (λ (k : ℕ). EncodesAlone m more (clause_of (k ∷ []) ∷ [])) is made))
