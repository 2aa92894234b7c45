-- What a set that says which periods a day is in has to meet: just what is active on the day.
use Rattle.std.proofs.Common.{inl, inr, ◌≡◌, ℕ, ◌+◌, ◌<◌, ◌≤◌, Bool, true, List, [], ◌∷◌, Option, None, Some, length, map, refl, sym, subst, ◌∙◌, arith}
use Rattle.std.specs.List.{filter, slice_get, AllByRecursion}
use Rattle.std.specs.Option.{IfSome}
use Rattle.std.proofs.lemmas.Bool.{cases_Bool, cond-true, cond-false, and_from}
use Rattle.std.proofs.lemmas.List.Elements.{recursion_from_All}
use Rattle.pb_base.specs.Sets.{has}
use Rattle.book_model.specs.Activity.{is_within}
use Rattle.book_model.specs.Contents.{Contents}
use Rattle.book_model.specs.Book.{IsBook, SupplementFits, ConstructFits, VariantFits}
use Rattle.book_model.specs.Good.{is_good}
use Rattle.book_model.specs.declared.record.Slice.{Slice}
use Rattle.book_model.specs.declared.record.Supplement.{Supplement}
use Rattle.book_model.specs.declared.record.Construct.{Construct}
use Rattle.book_model.specs.declared.record.Variant.{Variant}
use Rattle.clausify.specs.Items.{Item, free_item, supplement_item, construct_item, supplement_items, construct_items}
use Rattle.clausify.proofs.ItemLaws.{meets, item_fits, AllMeet, supplement_item_fits, construct_item_fits, good_from_meets, meets_from_good}
use Rattle.clausify.proofs.ListLaws.{all-append, all_first, all_last}
use Rattle.guarded_rules.specs.Guarded.{guarded, is_on, AllGuardedFit}
use Rattle.clausify.proofs.AgreeLaws.{Agree, meets_agree}
use Rattle.guarded_rules.proofs.FitLaws.{fits_guarded}
use Rattle.guarded_rules.proofs.GuardedLaws.{AllMeetGuarded, met_where_on, met_where_off, met_unless}
use Rattle.book_clauses.specs.BookClauses.{AllHaveGuards, construct_days, guard_in, has_guard, is_in, supplement_days}
use Rattle.book_clauses.specs.Coding.{book_items, book_rules, free_usage, free_usages, guarded_construct, guarded_supplements}
use Rattle.book_clauses.proofs.PeriodLaws.{guard_low, guard_on}

module _ {X : Type 0} (x z : List Bool) (w : X → Bool) (g : X → Option ℕ) (f : X → Item) where
  abbrev AreSo : List X → Type 0
  AreSo xs = AllByRecursion (λ s. (is_on z (g s) ≡ w s) × (meets z (f s) ≡ meets x (f s))) xs

  active_from_guarded : (xs : List X) → AreSo xs → AllMeetGuarded z (map (λ s. guarded (g s) (f s)) xs) → AllMeet x (map f (filter w xs))
  active_from_guarded [] so h = tt
  active_from_guarded (s ∷ xs) so h =
      elim (cases_Bool (w s)) [
        | inl e ↦
            subst (λ (k : List X). AllMeet x (map f k)) (sym (cond-true (w s) (s ∷ filter w xs) (filter w xs) e))
            (sym so.0.1 ∙ met_where_on (is_on z (g s)) (meets z (f s)) (so.0.0 ∙ e) h.0, active_from_guarded xs so.1 h.1)
        | inr e ↦ subst (λ (k : List X). AllMeet x (map f k)) (sym (cond-false (w s) (s ∷ filter w xs) (filter w xs) e)) (active_from_guarded xs so.1 h.1)
      ]

  guarded_from_active : (xs : List X) → AreSo xs → AllMeet x (map f (filter w xs)) → AllMeetGuarded z (map (λ s. guarded (g s) (f s)) xs)
  guarded_from_active [] so h = tt
  guarded_from_active (s ∷ xs) so h =
      elim (cases_Bool (w s)) [
        | inl e ↦
            let both = subst (λ (k : List X). AllMeet x (map f k)) (cond-true (w s) (s ∷ filter w xs) (filter w xs) e) h in
            (met_unless (is_on z (g s)) (meets z (f s)) (so.0.1 ∙ both.0), guarded_from_active xs so.1 both.1)
        | inr e ↦
            let rest = subst (λ (k : List X). AllMeet x (map f k)) (cond-false (w s) (s ∷ filter w xs) (filter w xs) e) h in
            (met_where_off (is_on z (g s)) (meets z (f s)) (so.0.0 ∙ e), guarded_from_active xs so.1 rest)
      ]

module _ {X : Type 0} (Fits : X → Type 0) (g : X → Option ℕ) (f : X → Item) where
  fit_guarded : (n m : ℕ) → n ≤ m → ((s : X) → Fits s → item_fits n (f s) ≡ true) → ((s : X) → IfSome (g s) (λ k. k < m)) → (xs : List X) → AllByRecursion Fits xs
      → AllGuardedFit m (map (λ s. guarded (g s) (f s)) xs)
  fit_guarded n m more gives low [] h = tt
  fit_guarded n m more gives low (s ∷ xs) h = (fits_guarded n m more (g s) (low s) (f s) (gives s h.0), fit_guarded n m more gives low xs h.1)

  so_from_fit : (n : ℕ) (x z : List Bool) (w : X → Bool) (days : X → Slice) (b : Contents) (ps : List Slice) → Agree n x z → ((s : X) → Fits s → item_fits n (f s) ≡ true)
      → ((s : X) → has_guard b ps (days s) ≡ true → is_on z (g s) ≡ w s) → (xs : List X) → AllByRecursion Fits xs → AllHaveGuards b ps (map days xs) → AreSo x z w g f xs
  so_from_fit n x z w days b ps same gives on [] h guards = tt
  so_from_fit n x z w days b ps same gives on (s ∷ xs) h guards =
      ((on s guards.0, meets_agree n x z same (f s) (gives s h.0)), so_from_fit n x z w days b ps same gives on xs h.1 guards.1)

usages_met : (z : List Bool) (vs : List Variant) → AllMeetGuarded z (map free_usage vs)
usages_met z [] = tt
usages_met z (v ∷ vs) = (refl, usages_met z vs)

-- all records speak of the book's codes
pub book_fit : (b : Contents) (ps : List Slice) → IsBook b → AllGuardedFit (length b.codes + length ps) (book_items b ps)
book_fit b ps book =
    let n : ℕ = length b.codes in
    let m : ℕ = n + length ps in
    let more : n ≤ m = omega arith in
    all-append _ (book_rules b ps) (free_usages b)
    (all-append _ (guarded_supplements b ps) (map (guarded_construct b ps) b.constructs)
    (fit_guarded (SupplementFits n) (λ s. guard_in b ps (supplement_days s)) supplement_item n m more (supplement_item_fits n) (λ s. guard_low b ps (supplement_days s)) b.supplements
    (recursion_from_All (SupplementFits n) b.supplements book.supplements_fit))
    (fit_guarded (ConstructFits n) (λ c. guard_in b ps (construct_days c)) construct_item n m more (construct_item_fits n) (λ c. guard_low b ps (construct_days c)) b.constructs
    (recursion_from_All (ConstructFits n) b.constructs book.constructs_fit)))
    (fit_guarded (VariantFits n (length b.positions)) (λ v. None) (λ v. free_item v.rule) n m more (λ v h. and_from _ _ (h.rule.in_range) refl) (λ v. tt) b.variants
    (recursion_from_All (VariantFits n (length b.positions)) b.variants book.variants_fit))

-- a set and one that says which periods a day is in
pub record IsSaid (b : Contents) (ps : List Slice) (day : ℕ) (x z : List Bool) : Type 0 where
  pub same : Agree (length b.codes) x z
  pub periods : (k : ℕ) (p : Slice) → slice_get ps k ≡ Some p → has z (length b.codes + k) ≡ is_in day p

module _ (b : Contents) (ps : List Slice) (book : IsBook b) (supplements : AllHaveGuards b ps (map supplement_days b.supplements)) (constructs : AllHaveGuards b ps (map construct_days b.constructs)) where
  supplements_so : (day : ℕ) → b.first ≤ day → day ≤ b.last → (x z : List Bool) → IsSaid b ps day x z
      → AreSo x z (λ (s : Supplement). is_within s.from s.until day) (λ s. guard_in b ps (supplement_days s)) supplement_item b.supplements
  supplements_so day low high x z said =
      so_from_fit (SupplementFits (length b.codes)) (λ s. guard_in b ps (supplement_days s)) supplement_item (length b.codes) x z (λ (s : Supplement). is_within s.from s.until day) supplement_days b ps
      said.same (supplement_item_fits (length b.codes)) (λ s one. guard_on b ps day low high z said.periods (supplement_days s) one) b.supplements
      (recursion_from_All (SupplementFits (length b.codes)) b.supplements book.supplements_fit) supplements

  constructs_so : (day : ℕ) → b.first ≤ day → day ≤ b.last → (x z : List Bool) → IsSaid b ps day x z
      → AreSo x z (λ (c : Construct). is_within c.from c.until day) (λ c. guard_in b ps (construct_days c)) construct_item b.constructs
  constructs_so day low high x z said =
      so_from_fit (ConstructFits (length b.codes)) (λ c. guard_in b ps (construct_days c)) construct_item (length b.codes) x z (λ (c : Construct). is_within c.from c.until day) construct_days b ps
      said.same (construct_item_fits (length b.codes)) (λ c one. guard_on b ps day low high z said.periods (construct_days c) one) b.constructs
      (recursion_from_All (ConstructFits (length b.codes)) b.constructs book.constructs_fit) constructs

  pub good_from_book : (day : ℕ) → b.first ≤ day → day ≤ b.last → (x z : List Bool) → length x ≡ length b.codes → IsSaid b ps day x z
      → AllMeetGuarded z (book_items b ps) → is_good b day x ≡ true
  good_from_book day low high x z len said h =
      let rules = all_first _ (book_rules b ps) (free_usages b) h in
      good_from_meets b day x len
      (all-append _ (supplement_items b day) (construct_items b day)
      (active_from_guarded x z (λ (s : Supplement). is_within s.from s.until day) (λ s. guard_in b ps (supplement_days s)) supplement_item b.supplements (supplements_so day low high x z said)
      (all_first _ (guarded_supplements b ps) (map (guarded_construct b ps) b.constructs) rules))
      (active_from_guarded x z (λ (c : Construct). is_within c.from c.until day) (λ c. guard_in b ps (construct_days c)) construct_item b.constructs (constructs_so day low high x z said)
      (all_last _ (guarded_supplements b ps) (map (guarded_construct b ps) b.constructs) rules)))

  pub book_from_good : (day : ℕ) → b.first ≤ day → day ≤ b.last → (x z : List Bool) → IsSaid b ps day x z → is_good b day x ≡ true
      → AllMeetGuarded z (book_items b ps)
  book_from_good day low high x z said good =
      let met = meets_from_good b day x good in
      all-append _ (book_rules b ps) (free_usages b)
      (all-append _ (guarded_supplements b ps) (map (guarded_construct b ps) b.constructs)
      (guarded_from_active x z (λ (s : Supplement). is_within s.from s.until day) (λ s. guard_in b ps (supplement_days s)) supplement_item b.supplements (supplements_so day low high x z said)
      (all_first _ (supplement_items b day) (construct_items b day) met))
      (guarded_from_active x z (λ (c : Construct). is_within c.from c.until day) (λ c. guard_in b ps (construct_days c)) construct_item b.constructs (constructs_so day low high x z said)
      (all_last _ (supplement_items b day) (construct_items b day) met)))
      (usages_met z b.variants)
