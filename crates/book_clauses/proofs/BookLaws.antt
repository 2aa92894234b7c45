-- What the clauses of a book say of sets of its codes.
use Rattle.std.proofs.Common.{inl, inr, ◌≡◌, ℕ, zero, suc, ◌+◌, ◌-◌, ◌*◌, ◌<◌, ◌≤◌, Bool, true, ltb, List, [], ◌∷◌, ◌++◌, Some, length, get_or, map, refl, sym, ap, subst, ◌∙◌, arith, length-append}
use Rattle.std.specs.List.{slice_get, AllByRecursion}
use Rattle.std.specs.Option.{option_map_or}
use Rattle.std.proofs.lemmas.Bool.{and_parts, and_from, cases_Bool, ltb-true, ltb-false}
use Rattle.std.proofs.lemmas.List.{length-map, map-append}
use Rattle.std.proofs.lemmas.List.Elements.{recursion_from_All}
use Rattle.std.proofs.lemmas.Option.{none-some, same_Some, slice_get-get_or}
use Rattle.pb_base.specs.Rule.{Rule, never, holds, codes_below}
use Rattle.pb_base.specs.Sets.{has}
use Rattle.book_model.specs.Contents.{Contents}
use Rattle.book_model.specs.Book.{IsBook, VariantFits}
use Rattle.book_model.specs.declared.record.Slice.{Slice}
use Rattle.book_model.specs.declared.record.Variant.{Variant}
use Rattle.clause_pool.specs.Literal.{is_true}
use Rattle.clause_pool.specs.Clause.{Sat}
use Rattle.clausify.specs.Formulas.{connectives, formula_literal, literals_from}
use Rattle.clausify.specs.Items.{Item, free_item, variables_of}
use Rattle.clausify.specs.Lifting.{BeginsWith, CodesJust}
use Rattle.clausify.specs.declared.encoder.Encoder.{Encoder}
use Rattle.clausify.proofs.FormulaLaws.{named_in, Names, Begins, length-named_in, names_first, names_last, denotes}
use Rattle.clausify.proofs.ItemLaws.{item_fits, items_named, items_named-append, length-items_named, length_from_good, variables_of-append}
use Rattle.clausify.proofs.RangeLaws.{literal_below}
use Rattle.guarded_rules.specs.Guarded.{GuardedItem, items_of, guarded_variables, meets_all_guarded, AllGuardedFit, IsGuarded}
use Rattle.clausify.proofs.AgreeLaws.{Agree, appended_agree, holds_agree, fits_more}
use Rattle.guarded_rules.proofs.FitLaws.{guard_appended}
use Rattle.guarded_rules.proofs.GuardedLaws.{IsOverGuarded, guarded_over, met_from_all, all_from_met}
use Rattle.guarded_rules.proofs.MadeLaws.{made_just}
use Rattle.book_clauses.specs.BookClauses.{AllHaveGuards, AreUsages, CodesBook, construct_days, is_in, supplement_days}
use Rattle.book_clauses.specs.Coding.{book_items, book_rules, free_usage, free_usages}
use Rattle.book_clauses.proofs.PeriodLaws.{bits, bit_at}
use Rattle.book_clauses.proofs.MeetLaws.{IsSaid, book_fit, book_from_good, good_from_book}

-- a set with further truth values behind it
pub with_behind : (x t : List Bool) (a : ℕ → Bool) → BeginsWith x a → ((k : ℕ) → k < length t → a (length x + k) ≡ has t k)
    → (i : ℕ) → i < length x + length t → a i ≡ has (x ++ t) i
with_behind x t a begins behind i low =
    elim (cases_Bool (ltb i (length x))) [
      | inl here ↦ begins i (ltb-true i (length x) here) ∙ sym (appended_agree x t i (ltb-true i (length x) here))
      | inr there ↦
          let past : length x ≤ i = ltb-false i (length x) there in
          let k : ℕ = i - length x in
          let is : length x + k ≡ i = omega (arith, past) in
          ap a (sym is) ∙ behind k (omega (arith, past, low)) ∙ sym (guard_appended x t k) ∙ ap (has (x ++ t)) is
    ]

said_by_bits : (b : Contents) (ps : List Slice) (day : ℕ) (x : List Bool) → length x ≡ length b.codes → IsSaid b ps day x (x ++ bits ps day)
said_by_bits b ps day x len = record {
  same = λ i low. appended_agree x (bits ps day) i (omega (arith, len, low));
  periods = λ k p there.
      ap (λ (n : ℕ). has (x ++ bits ps day) (n + k)) (sym len) ∙ guard_appended x (bits ps day) k ∙ bit_at day ps k p there;
}

some_day : Slice
some_day = record { first = 0; last = 0 }

within_get : (ps : List Slice) (k : ℕ) (p : Slice) → slice_get ps k ≡ Some p → k < length ps
within_get [] k p there = absurd (none-some p there)
within_get (q ∷ ps) zero p there = omega arith
within_get (q ∷ ps) (suc k) p there = omega (arith, within_get ps k p there)

pub codes_book : (b : Contents) (ps : List Slice) (e : Encoder) → IsBook b → AllHaveGuards b ps (map supplement_days b.supplements) → AllHaveGuards b ps (map construct_days b.constructs)
    → e.truth ≡ length b.codes + length ps → IsGuarded (book_items b ps) e → CodesBook b ps e.pool.clauses
codes_book b ps e book supplements constructs truth made =
    let n : ℕ = length b.codes in
    let is : List GuardedItem = book_items b ps in
    let fit : AllGuardedFit e.truth is = subst (λ (m : ℕ). AllGuardedFit m is) (sym truth) (book_fit b ps book) in
    let just : CodesJust e.truth (meets_all_guarded is) e.pool.clauses e.next = made_just is e fit made in
    record {
      lifts = λ day low high x good.
          let len : length x ≡ n = length_from_good b day x good in
          let z : List Bool = x ++ bits ps day in
          let counted : length z ≡ length x + length ps = length-append x (bits ps day) ∙ ap (λ (k : ℕ). length x + k) (length-map ps (is_in day)) in
          let lift = just.lifts z (omega (arith, counted, len, truth))
          (all_from_met z is (book_from_good b ps book supplements constructs day low high x z (said_by_bits b ps day x len) good)) in (
            lift.0,
            record {
              begins = λ i below. lift.1.begins i (omega (arith, counted, below)) ∙ appended_agree x (bits ps day) i below;
              periods = λ k p there.
                  lift.1.begins (n + k) (omega (arith, counted, len, within_get ps k p there)) ∙ (said_by_bits b ps day x len).periods k p there;
            },
            lift.1.satisfies,
          );
      begins_good = λ day low high x a len says sat.
          let z : List Bool = x ++ bits ps day in
          let bits_long : length (bits ps day) ≡ length ps = length-map ps (is_in day) in
          let counted : length z ≡ length x + length ps = length-append x (bits ps day) ∙ ap (λ (k : ℕ). length x + k) bits_long in
          let behind : (k : ℕ) → k < length (bits ps day) → a (length x + k) ≡ has (bits ps day) k =
          λ k below.
          let there = slice_get-get_or ps k some_day (omega (arith, below, bits_long)) in
          ap (λ (m : ℕ). a (m + k)) len ∙ says.periods k (get_or ps k some_day) there ∙ sym (bit_at day ps k (get_or ps k some_day) there) in
          let begins : BeginsWith z a = λ i below. with_behind x (bits ps day) a says.begins behind i (omega (arith, below, counted, bits_long)) in
          good_from_book b ps book supplements constructs day low high x z len (said_by_bits b ps day x len)
          (met_from_all z is (just.begins_so a z (omega (arith, counted, len, truth)) begins sat));
    }

-- the literals of variants' formulas
abbrev pub rule_of : Variant → Rule
rule_of v = v.rule

usage_items_are : (vs : List Variant) → items_of (map free_usage vs) ≡ map free_item (map rule_of vs)
usage_items_are [] = refl
usage_items_are (v ∷ vs) = ap (λ (is : List Item). free_item v.rule ∷ is) (usage_items_are vs)

abbrev rule_at : List Variant → ℕ → Rule
rule_at vs k = option_map_or rule_of (slice_get vs k) never

-- they are the truth of these over a set, where z has further truth values behind it
usage_true : (n m t : ℕ) → n ≤ m → (x z : List Bool) (a : ℕ → Bool) → Agree n x z → Begins m t z a → (vs : List Variant) (v k l : ℕ)
    → AllByRecursion (λ u. item_fits n (free_item u.rule) ≡ true) vs → Names a z v (items_named (map free_item (map rule_of vs)))
    → slice_get (literals_from t v (map rule_of vs)) k ≡ Some l → is_true a l ≡ holds (rule_at vs k) x
usage_true n m t more x z a same begins [] v k l fit names there = absurd (none-some l there)
usage_true n m t more x z a same begins (u ∷ vs) v zero l fit names there =
    let own = and_parts (codes_below n u.rule) true fit.0 in
    let wide = and_parts (codes_below m u.rule) true (fits_more n m more (free_item u.rule) fit.0) in
    ap (is_true a) (sym (same_Some (formula_literal t v u.rule) l there))
    ∙ denotes t z a begins v u.rule wide.0 (names_first a z v (named_in u.rule) (items_named (map free_item (map rule_of vs))) names)
    ∙ holds_agree n x z same u.rule own.0
usage_true n m t more x z a same begins (u ∷ vs) v (suc k) l fit names there =
    usage_true n m t more x z a same begins vs (v + connectives u.rule) k l fit.1
    (subst (λ (j : ℕ). Names a z (v + j) (items_named (map free_item (map rule_of vs)))) (length-named_in u.rule)
    (names_last a z v (named_in u.rule) (items_named (map free_item (map rule_of vs))) names))
    there

usage_low : (n t m : ℕ) (vs : List Variant) (v k l : ℕ) → AllByRecursion (λ u. item_fits n (free_item u.rule) ≡ true) vs → n ≤ v → t < v
    → v + variables_of (map free_item (map rule_of vs)) ≤ m → slice_get (literals_from t v (map rule_of vs)) k ≡ Some l → l < 2 * m
usage_low n t m [] v k l fit codes h room there = absurd (none-some l there)
usage_low n t m (u ∷ vs) v zero l fit codes h room there =
    subst (λ (j : ℕ). j < 2 * m) (same_Some (formula_literal t v u.rule) l there)
    (literal_below n t v m u.rule (and_parts (codes_below n u.rule) true fit.0).0 codes h (omega (arith, room)))
usage_low n t m (u ∷ vs) v (suc k) l fit codes h room there =
    usage_low n t m vs (v + connectives u.rule) k l fit.1 (omega (arith, codes)) (omega (arith, h)) (omega (arith, room)) there

-- as many truth values as there are periods
behind_of : ℕ → List Slice → (ℕ → Bool) → List Bool
behind_of v [] a = []
behind_of v (p ∷ ps) a = a v ∷ behind_of (v + 1) ps a

length-behind_of : (v : ℕ) (ps : List Slice) (a : ℕ → Bool) → length (behind_of v ps a) ≡ length ps
unfolding behind_of
length-behind_of v [] a = refl
length-behind_of v (p ∷ ps) a = ap suc (length-behind_of (v + 1) ps a)

has-behind_of : (v : ℕ) (ps : List Slice) (a : ℕ → Bool) (k : ℕ) → k < length ps → a (v + k) ≡ has (behind_of v ps a) k
unfolding behind_of
has-behind_of v [] a k low = absurd (omega (arith, low))
has-behind_of v (p ∷ ps) a zero low = ap a (let e : v + 0 ≡ v = omega arith in e)
has-behind_of v (p ∷ ps) a (suc k) low = ap a (let e : v + suc k ≡ v + 1 + k = omega arith in e) ∙ has-behind_of (v + 1) ps a k (omega (arith, low))

variants_fit_free : (n m : ℕ) (vs : List Variant) → AllByRecursion (VariantFits n m) vs → AllByRecursion (λ u. item_fits n (free_item u.rule) ≡ true) vs
variants_fit_free n m [] h = tt
variants_fit_free n m (v ∷ vs) h = (and_from _ _ (h.0.rule.in_range) refl, variants_fit_free n m vs h.1)

pub book_usages : (b : Contents) (ps : List Slice) (e : Encoder) (v : ℕ) (lits : List ℕ) → IsBook b → e.truth ≡ length b.codes + length ps → IsGuarded (book_items b ps) e
    → v ≡ e.truth + 1 + guarded_variables (book_rules b ps) → lits ≡ literals_from e.truth v (map rule_of b.variants) → AreUsages b e.pool.clauses e.next lits
book_usages b ps e v lits book truth made start are = λ variant l there.
    let n : ℕ = length b.codes in
    let t : ℕ = e.truth in
    let is : List GuardedItem = book_items b ps in
    let free = variants_fit_free n (length b.positions) b.variants (recursion_from_All (VariantFits n (length b.positions)) b.variants book.variants_fit) in
    let read : slice_get (literals_from t v (map rule_of b.variants)) variant ≡ Some l = subst (λ (ls : List ℕ). slice_get ls variant ≡ Some l) are there in
    let parted : items_of is ≡ items_of (book_rules b ps) ++ map free_item (map rule_of b.variants) =
    map-append (λ (i : GuardedItem). i.item) (book_rules b ps) (free_usages b) ∙ ap (λ (js : List Item). items_of (book_rules b ps) ++ js) (usage_items_are b.variants) in
    let taken : guarded_variables is ≡ guarded_variables (book_rules b ps) + variables_of (map free_item (map rule_of b.variants)) =
    ap variables_of parted ∙ variables_of-append (items_of (book_rules b ps)) (map free_item (map rule_of b.variants)) in
    record {
      below = usage_low n t e.next b.variants v variant l free (omega (arith, start, truth)) (omega (arith, start)) (omega (arith, start, taken, made.variables)) read;
      right = λ x a len begins sat.
          let behind : List Bool = behind_of (length x) ps a in
          let z : List Bool = x ++ behind in
          let codes : (i : ℕ) → i < t → a i ≡ has z i =
          λ i low.
          with_behind x behind a begins (λ k below. has-behind_of (length x) ps a k (omega (arith, below, length-behind_of (length x) ps a))) i
          (omega (arith, low, truth, len, length-behind_of (length x) ps a)) in
          let fit : AllGuardedFit t is = subst (λ (m : ℕ). AllGuardedFit m is) (sym truth) (book_fit b ps book) in
          let over : IsOverGuarded t is z a = guarded_over t is z a fit codes (subst (λ (cs : List (List ℕ)). Sat cs a) made.clauses sat) in
          let names : Names a z (t + 1) (items_named (items_of (book_rules b ps)) ++ items_named (map free_item (map rule_of b.variants))) =
          subst (λ (fs : List Rule). Names a z (t + 1) fs) (ap items_named parted ∙ items_named-append (items_of (book_rules b ps)) (map free_item (map rule_of b.variants))) over.names in
          let later : Names a z v (items_named (map free_item (map rule_of b.variants))) =
          subst (λ (j : ℕ). Names a z j (items_named (map free_item (map rule_of b.variants))))
          (ap (λ (j : ℕ). t + 1 + j) (length-items_named (items_of (book_rules b ps))) ∙ sym start)
          (names_last a z (t + 1) (items_named (items_of (book_rules b ps))) (items_named (map free_item (map rule_of b.variants))) names) in
          usage_true n t t (omega (arith, truth)) x z a (λ i low. appended_agree x behind i (omega (arith, low, len))) over.begins b.variants v variant l free later read;
    }
