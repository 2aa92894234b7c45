-- The entries of a day: they fit, they are few, and what meets them all is a car of the day that has the codes.
use Rattle.std.proofs.Common.{◌≡◌, ℕ, suc, ◌+◌, ◌<◌, ◌≤◌, Bool, true, false, not, ◌&&◌, ◌==◌, List, [], ◌∷◌, ◌++◌, Option, Some, length, map, slice_get, refl, sym, ap, subst, ◌∙◌, inl, inr, arith, All, length-append}
use Rattle.std.specs.Option.{option_map_or}
use Rattle.std.specs.List.{list_any, list_all, AllByRecursion}
use Rattle.std.proofs.lemmas.Bool.{and_parts, and_from, or_from, or_parts, not_from_false, not-true, cases_Bool, cond-true, cond-false, eq-eqb}
use Rattle.std.proofs.lemmas.List.{length-map}
use Rattle.std.proofs.lemmas.List.Folds.{list_all-append}
use Rattle.std.proofs.lemmas.List.Elements.{recursion_from_All, All-from_recursion}
use Rattle.pb_base.specs.Rule.{holds}
use Rattle.pb_base.specs.Sets.{has}
use Rattle.pb_base.specs.declared.limits.TheConstants.{MOST_CODES}
use Rattle.book_model.specs.Book.{IsBook}
use Rattle.book_model.specs.Contents.{Contents}
use Rattle.book_model.specs.Good.{fires, breaks, is_met, is_good, is_closed, is_constructible}
use Rattle.book_model.specs.declared.record.Supplement.{Supplement as SupplementRecord}
use Rattle.book_model.specs.declared.record.Construct.{Construct as ConstructRecord}
use Rattle.book_model.proofs.BookLimits.{constructs_below}
use Rattle.clausify.proofs.ListLaws.{all-append}
use Rattle.blame.specs.Blame.{AreFew}
use Rattle.blame.specs.Entries.{active_from, is_active_supplement, is_active_construct, supplement_entries, construct_entries, all_entries, meets_entry, meets_all, EntryFits}
use Rattle.blame.specs.declared.entries.Entry.{Entry}
use Rattle.blame.specs.declared.entries.Entry.TheVariants.{Supplement, Construct, Chosen}
use Rattle.blame.proofs.ListLaws.{found_within}

-- a list of which another is the end, from the place i on
abbrev EndsWith : {X : Type 0} → List X → ℕ → List X → Type 0
EndsWith all i xs = (k : ℕ) → slice_get all (i + k) ≡ slice_get xs k

module _ {X : Type 0} (w : X → Bool) (named : ℕ → Entry) (all : List X) where
  first_is : (i : ℕ) (x : X) (xs : List X) → EndsWith all i (x ∷ xs) → slice_get all i ≡ Some x
  first_is i x xs ends = let here : i ≡ i + 0 = omega arith in ap (slice_get all) here ∙ ends 0

  later_are : (i : ℕ) (x : X) (xs : List X) → EndsWith all i (x ∷ xs) → EndsWith all (suc i) xs
  later_are i x xs ends k = let there : suc i + k ≡ i + suc k = omega arith in ap (slice_get all) there ∙ ends (suc k)

  -- what holds of each active record holds of the entries
  active_all : (P : Entry → Type 0) → ((p : ℕ) (x : X) → slice_get all p ≡ Some x → w x ≡ true → P (named p)) → (i : ℕ) (xs : List X) → EndsWith all i xs
      → AllByRecursion P (active_from w named i xs)
  active_all P each i [] ends = tt
  active_all P each i (x ∷ xs) ends =
      let later = active_all P each (suc i) xs (later_are i x xs ends) in
      elim (cases_Bool (w x)) [
        | inl yes_ ↦
            subst (AllByRecursion P) (sym (cond-true (w x) (named i ∷ active_from w named (suc i) xs) (active_from w named (suc i) xs) yes_))
            (each i x (first_is i x xs ends) yes_, later)
        | inr no_ ↦ subst (AllByRecursion P) (sym (cond-false (w x) (named i ∷ active_from w named (suc i) xs) (active_from w named (suc i) xs) no_)) later
      ]

  -- where all entries are met, no record is against the set
  none_against : (meets : Entry → Bool) (against : X → Bool) → ((x : X) → w x ≡ false → against x ≡ false)
      → ((p : ℕ) (x : X) → slice_get all p ≡ Some x → meets (named p) ≡ true → against x ≡ false)
      → (i : ℕ) (xs : List X) → EndsWith all i xs → list_all meets (active_from w named i xs) ≡ true → list_any against xs ≡ false
  none_against meets against idle met i [] ends h = refl
  none_against meets against idle met i (x ∷ xs) ends h =
      elim (cases_Bool (w x)) [
        | inl yes_ ↦
            let parts = and_parts (meets (named i)) (list_all meets (active_from w named (suc i) xs))
            (sym (ap (list_all meets) (cond-true (w x) (named i ∷ active_from w named (suc i) xs) (active_from w named (suc i) xs) yes_)) ∙ h) in
            or_from (against x) (list_any against xs) (met i x (first_is i x xs ends) parts.0) (none_against meets against idle met (suc i) xs (later_are i x xs ends) parts.1)
        | inr no_ ↦
            or_from (against x) (list_any against xs) (idle x no_)
            (none_against meets against idle met (suc i) xs (later_are i x xs ends)
            (sym (ap (list_all meets) (cond-false (w x) (named i ∷ active_from w named (suc i) xs) (active_from w named (suc i) xs) no_)) ∙ h))
      ]

  -- and the other way round
  met_active : (meets : Entry → Bool) (against : X → Bool) → ((p : ℕ) (x : X) → slice_get all p ≡ Some x → against x ≡ false → meets (named p) ≡ true)
      → (i : ℕ) (xs : List X) → EndsWith all i xs → list_any against xs ≡ false → list_all meets (active_from w named i xs) ≡ true
  met_active meets against met i [] ends h = refl
  met_active meets against met i (x ∷ xs) ends h =
      let parts = or_parts (against x) (list_any against xs) h in
      let later = met_active meets against met (suc i) xs (later_are i x xs ends) parts.1 in
      elim (cases_Bool (w x)) [
        | inl yes_ ↦
            ap (list_all meets) (cond-true (w x) (named i ∷ active_from w named (suc i) xs) (active_from w named (suc i) xs) yes_)
            ∙ and_from (meets (named i)) (list_all meets (active_from w named (suc i) xs)) (met i x (first_is i x xs ends) parts.0) later
        | inr no_ ↦ ap (list_all meets) (cond-false (w x) (named i ∷ active_from w named (suc i) xs) (active_from w named (suc i) xs) no_) ∙ later
      ]

  length-active : (i : ℕ) (xs : List X) → length (active_from w named i xs) ≤ length xs
  length-active i [] = omega arith
  length-active i (x ∷ xs) =
      elim (cases_Bool (w x)) [
        | inl yes_ ↦ omega (arith, ap length (cond-true (w x) (named i ∷ active_from w named (suc i) xs) (active_from w named (suc i) xs) yes_), length-active (suc i) xs)
        | inr no_ ↦ omega (arith, ap length (cond-false (w x) (named i ∷ active_from w named (suc i) xs) (active_from w named (suc i) xs) no_), length-active (suc i) xs)
      ]

whole : {X : Type 0} (xs : List X) → EndsWith xs 0 xs
whole xs k = let e : 0 + k ≡ k = omega arith in ap (slice_get xs) e

module _ (b : Contents) (day : ℕ) where
  supplement_fits : (p : ℕ) (s : SupplementRecord) → slice_get b.supplements p ≡ Some s → is_active_supplement day s ≡ true → EntryFits b day (Supplement p)
  supplement_fits p s there on = record {
    there = found_within b.supplements p s there;
    active = ap (λ (o : Option SupplementRecord). option_map_or (is_active_supplement day) o false) there ∙ on;
  }

  construct_fits : (p : ℕ) (c : ConstructRecord) → slice_get b.constructs p ≡ Some c → is_active_construct day c ≡ true → EntryFits b day (Construct p)
  construct_fits p c there on = record {
    there = found_within b.constructs p c there;
    active = ap (λ (o : Option ConstructRecord). option_map_or (is_active_construct day) o false) there ∙ on;
  }

  chosen_fit : (chosen : List ℕ) → AllByRecursion (λ (c : ℕ). c < length b.codes) chosen → AllByRecursion (EntryFits b day) (map (λ c. Chosen c) chosen)
  chosen_fit [] within = tt
  chosen_fit (c ∷ cs) within = (record { there = within.0; active = refl }, chosen_fit cs within.1)

  pub all_fit : (chosen : List ℕ) (all : List Entry) → All (λ (c : ℕ). c < length b.codes) chosen → all ≡ all_entries b day chosen → All (EntryFits b day) all
  all_fit chosen all within is =
      subst (All (EntryFits b day)) (sym is)
      (All-from_recursion (EntryFits b day) (all_entries b day chosen)
      (all-append (EntryFits b day) (supplement_entries b day ++ construct_entries b day) (map (λ c. Chosen c) chosen)
      (all-append (EntryFits b day) (supplement_entries b day) (construct_entries b day)
      (active_all (is_active_supplement day) (λ p. Supplement p) b.supplements (EntryFits b day) supplement_fits 0 b.supplements (whole b.supplements))
      (active_all (is_active_construct day) (λ p. Construct p) b.constructs (EntryFits b day) construct_fits 0 b.constructs (whole b.constructs)))
      (chosen_fit chosen (recursion_from_All (λ (c : ℕ). c < length b.codes) chosen within))))

  pub all_few : IsBook b → (chosen : List ℕ) (all : List Entry) → length chosen ≤ MOST_CODES → all ≡ all_entries b day chosen → AreFew all
  all_few book chosen all few is =
      omega (
        arith,
        ap length is,
        length-append (supplement_entries b day ++ construct_entries b day) (map (λ c. Chosen c) chosen),
        length-append (supplement_entries b day) (construct_entries b day),
        length-map chosen (λ c. Chosen c),
        length-active (is_active_supplement day) (λ p. Supplement p) b.supplements 0 b.supplements,
        length-active (is_active_construct day) (λ p. Construct p) b.constructs 0 b.constructs,
        book.supplements_limit,
        constructs_below b book,
        few,
      )

  chosen_there : (x : List Bool) (chosen : List ℕ) → meets_all b day x (map (λ c. Chosen c) chosen) ≡ true → list_all (has x) chosen ≡ true
  chosen_there x [] h = refl
  chosen_there x (c ∷ cs) h =
      let parts = and_parts (has x c) (meets_all b day x (map (λ d. Chosen d) cs)) h in
      and_from (has x c) (list_all (has x) cs) parts.0 (chosen_there x cs parts.1)

  never_fires : (x : List Bool) (p : ℕ) (s : SupplementRecord) → slice_get b.supplements p ≡ Some s → meets_entry b day x (Supplement p) ≡ true → fires day x s ≡ false
  never_fires x p s there met =
      sym (ap (λ (o : Option SupplementRecord). option_map_or (fires day x) o false) there) ∙ not-true (option_map_or (fires day x) (slice_get b.supplements p) false) met

  never_breaks : (x : List Bool) (p : ℕ) (c : ConstructRecord) → slice_get b.constructs p ≡ Some c → meets_entry b day x (Construct p) ≡ true → breaks day x c ≡ false
  never_breaks x p c there met =
      sym (ap (λ (o : Option ConstructRecord). option_map_or (breaks day x) o false) there) ∙ not-true (option_map_or (breaks day x) (slice_get b.constructs p) false) met

  -- supplementing rules, constructibility rules and codes
  by_kind : (chosen : List ℕ) (x : List Bool) → meets_all b day x (all_entries b day chosen) ≡ true
      → (meets_all b day x (supplement_entries b day) ≡ true) × (meets_all b day x (construct_entries b day) ≡ true) × (meets_all b day x (map (λ c. Chosen c) chosen) ≡ true)
  by_kind chosen x met =
      let all = and_parts (meets_all b day x (supplement_entries b day ++ construct_entries b day)) (meets_all b day x (map (λ c. Chosen c) chosen))
      (sym (list_all-append (meets_entry b day x) (supplement_entries b day ++ construct_entries b day) (map (λ c. Chosen c) chosen)) ∙ met) in
      let rules = and_parts (meets_all b day x (supplement_entries b day)) (meets_all b day x (construct_entries b day))
      (sym (list_all-append (meets_entry b day x) (supplement_entries b day) (construct_entries b day)) ∙ all.0) in
      (rules.0, rules.1, all.1)

  pub good_from_all : (chosen : List ℕ) (x : List Bool) → length x ≡ length b.codes → meets_all b day x (all_entries b day chosen) ≡ true → is_good b day x ≡ true
  good_from_all chosen x counted met =
      let kinds = by_kind chosen x met in
      let none_fires : list_any (fires day x) b.supplements ≡ false =
      none_against (is_active_supplement day) (λ p. Supplement p) b.supplements (meets_entry b day x) (fires day x)
      (λ s off. ap (λ (t : Bool). t && holds s.rule x && not (has x s.code)) off) (never_fires x) 0 b.supplements (whole b.supplements) kinds.0 in
      let none_breaks : list_any (breaks day x) b.constructs ≡ false =
      none_against (is_active_construct day) (λ p. Construct p) b.constructs (meets_entry b day x) (breaks day x)
      (λ c off. ap (λ (t : Bool). t && not (is_met x c.demand)) off) (never_breaks x) 0 b.constructs (whole b.constructs) kinds.1 in
      and_from _ _ (and_from _ _ (not_from_false _ none_fires) (not_from_false _ none_breaks)) (eq-eqb _ _ counted)

  pub chosen_from_all : (chosen : List ℕ) (x : List Bool) → meets_all b day x (all_entries b day chosen) ≡ true → list_all (has x) chosen ≡ true
  chosen_from_all chosen x met = chosen_there x chosen (by_kind chosen x met).2

  chosen_met : (x : List Bool) (chosen : List ℕ) → list_all (has x) chosen ≡ true → meets_all b day x (map (λ c. Chosen c) chosen) ≡ true
  chosen_met x [] h = refl
  chosen_met x (c ∷ cs) h =
      let parts = and_parts (has x c) (list_all (has x) cs) h in
      and_from (has x c) (meets_all b day x (map (λ d. Chosen d) cs)) parts.0 (chosen_met x cs parts.1)

  -- a car that has the codes meets all entries
  pub all_from_good : (chosen : List ℕ) (x : List Bool) → is_good b day x ≡ true → list_all (has x) chosen ≡ true → meets_all b day x (all_entries b day chosen) ≡ true
  all_from_good chosen x good there =
      let rules = and_parts (is_closed b day x && is_constructible b day x) (length x == length b.codes) good in
      let kinds = and_parts (is_closed b day x) (is_constructible b day x) rules.0 in
      let supplements : meets_all b day x (supplement_entries b day) ≡ true =
      met_active (is_active_supplement day) (λ p. Supplement p) b.supplements (meets_entry b day x) (fires day x)
      (λ p s at unfired. not_from_false _ (ap (λ (o : Option SupplementRecord). option_map_or (fires day x) o false) at ∙ unfired)) 0 b.supplements (whole b.supplements)
      (not-true _ kinds.0) in
      let constructs : meets_all b day x (construct_entries b day) ≡ true =
      met_active (is_active_construct day) (λ p. Construct p) b.constructs (meets_entry b day x) (breaks day x)
      (λ p c at unbroken. not_from_false _ (ap (λ (o : Option ConstructRecord). option_map_or (breaks day x) o false) at ∙ unbroken)) 0 b.constructs (whole b.constructs)
      (not-true _ kinds.1) in
      list_all-append (meets_entry b day x) (supplement_entries b day ++ construct_entries b day) (map (λ c. Chosen c) chosen)
      ∙ and_from _ _ (list_all-append (meets_entry b day x) (supplement_entries b day) (construct_entries b day) ∙ and_from _ _ supplements constructs) (chosen_met x chosen there)
