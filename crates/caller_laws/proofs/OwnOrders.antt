-- A caller's own orders: what stands at the caller's keys, what is listed, and what one more order changes.
use Rattle.std.proofs.Common.{◌≡◌, ℕ, suc, ◌≤◌, Bool, true, false, ◌&&◌, cond, List, [], ◌∷◌, Option, Some, length, refl, sym, ap, ◌∙◌, arith, true≢false}
use Rattle.std.specs.Prelude.{nat_lt}
use Rattle.std.specs.BTreeMap.{insert_entry, is_at}
use Rattle.std.specs.Cmp.{Equal-is}
use Rattle.std.specs.List.{AllByRecursion}
use Rattle.std.specs.List.Sorted.{IsStrictlySortedBy}
use Rattle.std.specs.Map.{keys_of}
use Rattle.std.specs.Ordering.{match_ordering}
use Rattle.std.specs.declared.cmp.Ordering.{Ordering}
use Rattle.std.specs.declared.cmp.Ordering.TheVariants.{Less, Equal, Greater}
use Rattle.std.proofs.lemmas.Bool.{cond_both}
use Rattle.pb_base.specs.Names.{same_name}
use Rattle.desk_words.specs.declared.order_words.OrderWords.{OrderWords}
use Rattle.order_desk.specs.Listing.{own_above}
use Rattle.order_desk.specs.Tables.{by_key, order_at}
use Rattle.order_desk.specs.declared.order_key.OrderKey.{OrderKey}
use Rattle.order_desk.proofs.Entries.{weaker}
use Rattle.order_desk.proofs.Keys.{by_key_exact, by_key_total}
use Rattle.caller_laws.specs.Callers.{is_own, own_orders}

module _ (caller : List ℕ) where
  -- keys that are equal have one caller
  of_one : (k q : OrderKey) → by_key k q ≡ Equal → same_name k.caller caller ≡ same_name q.caller caller
  of_one k q equal = ap (λ (x : OrderKey). same_name x.caller caller) (by_key_exact k q equal)

  pub fewer : (orders : List (OrderKey × OrderWords)) → length (own_orders caller orders) ≤ length orders
  fewer [] = omega arith
  fewer (e ∷ es) =
      let later : length (own_orders caller es) ≤ length es = fewer es in
      cond_both (is_own caller e) (e ∷ own_orders caller es) (own_orders caller es) (λ (xs : List (OrderKey × OrderWords)). length xs ≤ suc (length es))
      (λ own. omega (arith, later)) (λ other. omega (arith, later))

  -- ---- at a key of the caller's

  apart : (key q : OrderKey) → same_name key.caller caller ≡ true → same_name q.caller caller ≡ false → is_at (by_key key) q ≡ false
  apart key q own other = by (is_at (by_key key) q) refl
    where
      by : (b : Bool) → is_at (by_key key) q ≡ b → b ≡ false
      by false at = refl
      by true at = absurd (true≢false (sym own ∙ of_one key q ((Equal-is (by_key key q)).0 at) ∙ other))

  pub at_own : (key : OrderKey) → same_name key.caller caller ≡ true → (orders : List (OrderKey × OrderWords))
      → order_at (own_orders caller orders) key ≡ order_at orders key
  at_own key own [] = refl
  at_own key own (e ∷ es) = by (is_own caller e) refl (at_own key own es)
    where
      by : (b : Bool) → is_own caller e ≡ b → order_at (own_orders caller es) key ≡ order_at es key
          → order_at (cond b (e ∷ own_orders caller es) (own_orders caller es)) key ≡ order_at (e ∷ es) key
      by true is later = ap (λ (o : Option OrderWords). cond (is_at (by_key key) e.0) (Some e.1) o) later
      by false is later = later ∙ sym (ap (λ (b : Bool). cond b (Some e.1) (order_at es key)) (apart key e.0 own is))

  -- ---- the list

  pub listed_own : (number : ℕ) (orders : List (OrderKey × OrderWords))
      → own_above caller number (own_orders caller orders) ≡ own_above caller number orders
  listed_own number [] = refl
  listed_own number (e ∷ es) = by (is_own caller e) refl (listed_own number es)
    where
      by : (b : Bool) → is_own caller e ≡ b → own_above caller number (own_orders caller es) ≡ own_above caller number es
          → own_above caller number (cond b (e ∷ own_orders caller es) (own_orders caller es)) ≡ own_above caller number (e ∷ es)
      by true is later = λ i. cond (same_name e.0.caller caller && nat_lt number e.0.number) (e ∷ later i) (later i)
      by false is later =
          later ∙ sym (ap (λ (b : Bool). cond (b && nat_lt number e.0.number) (e ∷ own_above caller number es) (own_above caller number es)) is)

  -- ---- right tables

  above_own : (P : OrderKey → Type 0) (orders : List (OrderKey × OrderWords)) → AllByRecursion P (keys_of orders)
      → AllByRecursion P (keys_of (own_orders caller orders))
  above_own P [] all = tt
  above_own P (e ∷ es) all =
      let later : AllByRecursion P (keys_of (own_orders caller es)) = above_own P es all.1 in
      cond_both (is_own caller e) (e ∷ own_orders caller es) (own_orders caller es) (λ (xs : List (OrderKey × OrderWords)). AllByRecursion P (keys_of xs))
      (λ own. (all.0, later)) (λ other. later)

  pub sorted_own : (orders : List (OrderKey × OrderWords)) → IsStrictlySortedBy by_key (keys_of orders)
      → IsStrictlySortedBy by_key (keys_of (own_orders caller orders))
  unfolding IsStrictlySortedBy
  sorted_own [] sorted = tt
  sorted_own (e ∷ es) sorted =
      let later : IsStrictlySortedBy by_key (keys_of (own_orders caller es)) = sorted_own es sorted.1 in
      cond_both (is_own caller e) (e ∷ own_orders caller es) (own_orders caller es)
      (λ (xs : List (OrderKey × OrderWords)). IsStrictlySortedBy by_key (keys_of xs))
      (λ own. (above_own (λ q. by_key e.0 q ≡ Less) es sorted.0, later)) (λ other. later)

  pub all_own : (P : OrderKey × OrderWords → Type 0) (orders : List (OrderKey × OrderWords)) → AllByRecursion P orders
      → AllByRecursion P (own_orders caller orders)
  all_own P [] all = tt
  all_own P (e ∷ es) all =
      let later : AllByRecursion P (own_orders caller es) = all_own P es all.1 in
      cond_both (is_own caller e) (e ∷ own_orders caller es) (own_orders caller es) (AllByRecursion P) (λ own. (all.0, later)) (λ other. later)

  -- ---- one more order

  put_first : (key : OrderKey) (order : OrderWords) (orders : List (OrderKey × OrderWords)) → AllByRecursion (λ q. by_key key q ≡ Less) (keys_of orders)
      → insert_entry by_key orders key order ≡ (key, order) ∷ orders
  put_first key order [] all = refl
  put_first key order (e ∷ es) all =
      ap (λ (r : Ordering). match_ordering r ((key, order) ∷ e ∷ es) ((e.0, order) ∷ es) (e ∷ insert_entry by_key es key order)) all.0

  -- of another caller
  pub others_put : (key : OrderKey) (order : OrderWords) → same_name key.caller caller ≡ false → (orders : List (OrderKey × OrderWords))
      → own_orders caller (insert_entry by_key orders key order) ≡ own_orders caller orders
  others_put key order other [] = ap (λ (b : Bool). cond b ((key, order) ∷ []) []) other
  others_put key order other (e ∷ es) = by (by_key key e.0) refl (others_put key order other es)
    where
      by : (r : Ordering) → by_key key e.0 ≡ r → own_orders caller (insert_entry by_key es key order) ≡ own_orders caller es
          → own_orders caller (match_ordering r ((key, order) ∷ e ∷ es) ((e.0, order) ∷ es) (e ∷ insert_entry by_key es key order))
          ≡ own_orders caller (e ∷ es)
      by Less p later = ap (λ (b : Bool). cond b ((key, order) ∷ own_orders caller (e ∷ es)) (own_orders caller (e ∷ es))) other
      by Equal p later =
          let off : same_name e.0.caller caller ≡ false = sym (of_one key e.0 p) ∙ other in
          ap (λ (b : Bool). cond b ((e.0, order) ∷ own_orders caller es) (own_orders caller es)) off
          ∙ sym (ap (λ (b : Bool). cond b (e ∷ own_orders caller es) (own_orders caller es)) off)
      by Greater p later = ap (λ (rest : List (OrderKey × OrderWords)). cond (is_own caller e) (e ∷ rest) rest) later

  -- of the caller
  pub own_put : (key : OrderKey) (order : OrderWords) → same_name key.caller caller ≡ true → (orders : List (OrderKey × OrderWords))
      → IsStrictlySortedBy by_key (keys_of orders)
      → own_orders caller (insert_entry by_key orders key order) ≡ insert_entry by_key (own_orders caller orders) key order
  unfolding IsStrictlySortedBy
  own_put key order own [] sorted = ap (λ (b : Bool). cond b ((key, order) ∷ []) []) own
  own_put key order own (e ∷ es) sorted = by (by_key key e.0) refl (own_put key order own es sorted.1)
    where
      -- where the head is another caller's
      passed : (b : Bool) → by_key key e.0 ≡ Greater
          → own_orders caller (insert_entry by_key es key order) ≡ insert_entry by_key (own_orders caller es) key order
          → cond b (e ∷ own_orders caller (insert_entry by_key es key order)) (own_orders caller (insert_entry by_key es key order))
          ≡ insert_entry by_key (cond b (e ∷ own_orders caller es) (own_orders caller es)) key order
      passed false p later = later
      passed true p later =
          ap (λ (rest : List (OrderKey × OrderWords)). e ∷ rest) later
          ∙ sym (ap (λ (r : Ordering). match_ordering r ((key, order) ∷ e ∷ own_orders caller es) ((e.0, order) ∷ own_orders caller es)
          (e ∷ insert_entry by_key (own_orders caller es) key order)) p)

      by : (r : Ordering) → by_key key e.0 ≡ r
          → own_orders caller (insert_entry by_key es key order) ≡ insert_entry by_key (own_orders caller es) key order
          → own_orders caller (match_ordering r ((key, order) ∷ e ∷ es) ((e.0, order) ∷ es) (e ∷ insert_entry by_key es key order))
          ≡ insert_entry by_key (own_orders caller (e ∷ es)) key order
      by Less p later =
          let further : AllByRecursion (λ q. by_key key q ≡ Less) (keys_of es) =
          weaker (λ q. by_key e.0 q ≡ Less) (λ q. by_key key q ≡ Less) (λ q above. by_key_total.trans key e.0 q p above) (keys_of es) sorted.0 in
          ap (λ (b : Bool). cond b ((key, order) ∷ own_orders caller (e ∷ es)) (own_orders caller (e ∷ es))) own
          ∙ sym (put_first key order (own_orders caller (e ∷ es)) (above_own (λ q. by_key key q ≡ Less) (e ∷ es) (p, further)))
      by Equal p later =
          let on : same_name e.0.caller caller ≡ true = sym (of_one key e.0 p) ∙ own in
          ap (λ (b : Bool). cond b ((e.0, order) ∷ own_orders caller es) (own_orders caller es)) on
          ∙ sym (ap (λ (r : Ordering). match_ordering r ((key, order) ∷ e ∷ own_orders caller es) ((e.0, order) ∷ own_orders caller es)
          (e ∷ insert_entry by_key (own_orders caller es) key order)) p)
          ∙ sym (ap (λ (b : Bool). insert_entry by_key (cond b (e ∷ own_orders caller es) (own_orders caller es)) key order) on)
      by Greater p later = passed (is_own caller e) p later
