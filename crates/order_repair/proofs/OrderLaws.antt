-- Orders by the places of their codes: which have no fault, and which are accepted.
use Rattle.std.proofs.Common.{◌≡◌, ℕ, suc, ◌+◌, ◌<◌, ◌≤◌, Bool, true, false, not, cond, ◌&&◌, ◌||◌, ◌==◌, List, [], ◌∷◌, ◌++◌, Option, Some, None, Ok, length, slice_get, option_map, is_none, refl, sym, ap, ap₂, subst, ◌∙◌, inl, inr, arith, All, true≢false}
use Rattle.std.specs.List.{list_all, list_any, position_from, AllByRecursion, IsDistinct}
use Rattle.std.specs.Option.{option_or, option_to_list}
use Rattle.std.specs.Cmp.Lexicographic.{bytes_decides}
use Rattle.std.proofs.lemmas.Bool.{and_parts, cases_Bool, eqb-true, false_from_ne_true, or_parts}
use Rattle.std.proofs.lemmas.List.{length-map, map-append}
use Rattle.std.proofs.lemmas.List.Elements.{All-from_recursion, recursion_from_All}
use Rattle.std.proofs.lemmas.List.Folds.{list_any-append}
use Rattle.std.proofs.lemmas.Map.Steps.{length-le_from_distinct_below}
use Rattle.std.proofs.Math.Bool.{or-true}
use Rattle.pb_base.specs.Names.{place_in, same_name}
use Rattle.pb_base.specs.NamedSet.{first_fault, name_fault, named}
use Rattle.pb_base.specs.Results.{unless}
use Rattle.pb_base.specs.Sets.{has}
use Rattle.pb_base.specs.declared.limits.TheConstants.{MOST_CODES}
use Rattle.pb_base.specs.declared.named_set.NameFault.{NameFault}
use Rattle.pb_base.specs.declared.named_set.NameFault.TheVariants.{Repeated, Unknown}
use Rattle.pb_base.proofs.Faultless.{no_fault}
use Rattle.pb_base.specs.Places.{name_at, names_at, places_of}
use Rattle.pb_base.proofs.NamedSets.{code_at_place}
use Rattle.pb_base.proofs.PlacesLaws.{places_within}
use Rattle.book_model.specs.Activity.{is_within}
use Rattle.book_model.specs.Book.{IsBook}
use Rattle.book_model.specs.Contents.{Contents}
use Rattle.book_model.specs.Good.{breaks, is_closed, is_constructible, is_good}
use Rattle.book_model.specs.Parts.{parts}
use Rattle.clausify.proofs.ItemLaws.{length_from_good}
use Rattle.clausify.proofs.ListLaws.{all-append, all_weaker}
use Rattle.parts_usage.specs.Broken.{first_broken_of}
use Rattle.parts_usage.specs.Fault.{fault_of_name, order_fault}
use Rattle.parts_usage.specs.Outcome.{judged, outcome_of_set}
use Rattle.parts_usage.specs.Unfit.{first_unfit_of}
use Rattle.parts_usage.specs.declared.fault.OrderFault.{OrderFault}
use Rattle.parts_usage.specs.declared.fault.OrderFault.TheVariants.{DayOutsideTerm}
use Rattle.parts_usage.specs.declared.judgement.Outcome.TheVariants as outcome
use Rattle.parts_usage.specs.declared.unfit.Unfit.{Unfit}
use Rattle.supplement.specs.Completion.{completion_of}
use Rattle.supplement.specs.declared.completed.Completed.{Completed}
use Rattle.supplement.proofs.Laws.{completion-closed}
use Rattle.blame.specs.Entries.{Among}
use Rattle.blame.proofs.ListLaws.{all_among}
use Rattle.order_added.specs.Accepted.{is_acceptance, is_accepted}
use Rattle.order_stays.specs.Stays.{IsCarWith}
use Rattle.order_repair.specs.Ordered.{AreOrdered}
use Rattle.order_repair.specs.Places.{is_kept, others_of}
use Rattle.order_repair.proofs.PlaceLaws.{all_known, all_other, AreDistinct, AreWithin, both_distinct, DiffersFrom, distinct_at, has_at, has_others, IsOther, others_among, others_distinct}

-- ---- what an order without a fault names

pub within_term : (within : Bool) (fault : Option NameFault) → cond within (option_map fault_of_name fault) (Some DayOutsideTerm) ≡ None → (within ≡ true) × (fault ≡ None)
within_term true None h = (refl, refl)
within_term true (Some fault) h = absurd (cc)
within_term false fault h = absurd (cc)

no_or : {X : Type 0} (first second : Option X) → option_or first second ≡ None → (first ≡ None) × (second ≡ None)
no_or None second h = (refl, h)
no_or (Some x) second h = absurd (cc)

fresh : (codes left : List (List ℕ)) (name : List ℕ) → name_fault codes left name ≡ None → list_any (same_name name) left ≡ false
fresh codes left name h = go (is_none (place_in codes name)) (list_any (same_name name) left) refl h
  where
    go : (unknown repeated : Bool) → list_any (same_name name) left ≡ repeated
        → cond unknown (Some (Unknown (length left))) (cond repeated (Some (Repeated (length left))) None) ≡ None → list_any (same_name name) left ≡ false
    go true repeated is none = absurd (cc)
    go false true is none = absurd (cc)
    go false false is none = is

-- a name that stands to the left has a place that none of the names has
apart_from : (codes left : List (List ℕ)) (names : List (List ℕ)) (name : List ℕ) (p : ℕ) → list_any (same_name name) left ≡ true → slice_get codes p ≡ Some name
    → first_fault codes left names ≡ None → AllByRecursion (DiffersFrom p) (places_of codes names)
apart_from codes left [] name p there at none = tt
apart_from codes left (next ∷ names) name p there at none =
    let parts = no_or (name_fault codes left next) (first_fault codes (left ++ next ∷ []) names) none in
    let still : list_any (same_name name) (left ++ next ∷ []) ≡ true =
    list_any-append (same_name name) left (next ∷ []) ∙ ap (λ (t : Bool). t || list_any (same_name name) (next ∷ [])) there in
    all-append (DiffersFrom p) (option_to_list (place_in codes next)) (places_of codes names) (by (place_in codes next) refl (fresh codes left next parts.0))
    (apart_from codes (left ++ next ∷ []) names name p still at parts.1)
  where
    by : (place : Option ℕ) → place_in codes next ≡ place → list_any (same_name next) left ≡ false → AllByRecursion (DiffersFrom p) (option_to_list place)
    by None is new = tt
    by (Some q) is new = (
      false_from_ne_true (p == q) (λ same.
          let at_q : slice_get codes q ≡ Some next = code_at_place codes next q is in
          let at_p : slice_get codes p ≡ Some next = ap (slice_get codes) (eqb-true p q same) ∙ at_q in
          let names_same : name ≡ next = cc in
          true≢false (sym there ∙ ap (λ (n : List ℕ). list_any (same_name n) left) names_same ∙ new)),
      tt,
    )

chosen_apart : (codes left names : List (List ℕ)) → first_fault codes left names ≡ None → AreDistinct (places_of codes names)
unfolding IsDistinct
chosen_apart codes left [] none = tt
chosen_apart codes left (next ∷ names) none =
    let parts = no_or (name_fault codes left next) (first_fault codes (left ++ next ∷ []) names) none in
    by (place_in codes next) refl (chosen_apart codes (left ++ next ∷ []) names parts.1) parts.1
  where
    by : (place : Option ℕ) → place_in codes next ≡ place → AreDistinct (places_of codes names) → first_fault codes (left ++ next ∷ []) names ≡ None
        → AreDistinct (option_to_list place ++ places_of codes names)
    by None is rest later = rest
    by (Some p) is rest later =
        let itself : list_any (same_name next) (left ++ next ∷ []) ≡ true =
        list_any-append (same_name next) left (next ∷ []) ∙ ap (λ (t : Bool). list_any (same_name next) left || (t || false)) ((bytes_decides next next).1 refl)
        ∙ or-true (list_any (same_name next) left) in
        (apart_from codes (left ++ next ∷ []) names next p itself (code_at_place codes next p is) later, rest)

-- its codes may be ordered together
pub chosen_ordered : (b : Contents) (day : ℕ) (names : List (List ℕ)) → order_fault b day names ≡ None → AreOrdered b day (places_of b.codes names)
chosen_ordered b day names none =
    let parts = within_term (is_within b.first b.last day) (first_fault b.codes [] names) none in
    record {
      in_term = parts.0;
      within = places_within b.codes names;
      distinct = chosen_apart b.codes [] names parts.1;
    }

distinct_among : (ps qs : List ℕ) → AreDistinct ps → Among ps qs → AreDistinct qs
unfolding IsDistinct
distinct_among [] qs distinct among = subst AreDistinct (sym among) tt
distinct_among (p ∷ ps) qs distinct (inl among) = distinct_among ps qs distinct.1 among
distinct_among (p ∷ ps) qs distinct (inr h) =
    subst AreDistinct (sym h.1) (all_among (DiffersFrom p) ps h.0 distinct.0 h.2, distinct_among ps h.0 distinct.1 h.2)

-- and so may some of them
pub some_ordered : (b : Contents) (day : ℕ) (chosen kept : List ℕ) → AreOrdered b day chosen → Among chosen kept → AreOrdered b day kept
some_ordered b day chosen kept ordered among = record {
  in_term = ordered.in_term;
  within = All-from_recursion (λ (place : ℕ). place < length b.codes) kept
      (all_among (λ (place : ℕ). place < length b.codes) chosen kept (recursion_from_All (λ (place : ℕ). place < length b.codes) chosen ordered.within) among);
  distinct = distinct_among chosen kept ordered.distinct among;
}

below_any : (n : ℕ) (ps : List ℕ) → AllByRecursion (λ p. p < n) ps → (q : ℕ) → list_any (λ p. q == p) ps ≡ true → q < n
below_any n [] within q there = let clash : false ≡ true = there in cc
below_any n (p ∷ ps) within q there = elim (cases_Bool (q == p)) [
  | inl same ↦ let is : q ≡ p = eqb-true q p same in omega (arith, within.0)
  | inr other ↦ below_any n ps within.1 q (sym (ap (λ (t : Bool). t || list_any (λ r. q == r) ps) other) ∙ there)
]

-- they are no more than the book may have
pub few_ordered : (b : Contents) (day : ℕ) (chosen : List ℕ) → IsBook b → AreOrdered b day chosen → length chosen ≤ MOST_CODES
few_ordered b day chosen book ordered =
    let within = recursion_from_All (λ (place : ℕ). place < length b.codes) chosen ordered.within in
    let most : length chosen ≤ length b.codes = length-le_from_distinct_below chosen (length b.codes) ordered.distinct (below_any (length b.codes) chosen within) in
    omega (arith, book.codes_limit)

-- ---- the codes of a car, some of them first

pub others_within : (codes : List (List ℕ)) (x : List Bool) (kept : List ℕ) → length x ≡ length codes → All (λ place. place < length codes) (others_of x kept)
others_within codes x kept counted =
    All-from_recursion (λ (place : ℕ). place < length codes) (others_of x kept)
    (all_weaker (IsOther kept 0 (length codes)) (λ (place : ℕ). place < length codes) (λ p h. h.within) (others_of x kept) (all_other 0 (length codes) x kept (omega arith)))

-- sets of one length that have the same codes are equal
same_sets : (x y : List Bool) → length x ≡ length y → ((i : ℕ) → i < length x → has x i ≡ has y i) → x ≡ y
same_sets [] [] counted same = refl
same_sets [] (b ∷ y) counted same = absurd (omega arith)
same_sets (a ∷ x) [] counted same = absurd (omega arith)
same_sets (a ∷ x) (b ∷ y) counted same =
    let head : a ≡ b = same 0 (omega arith) in
    let tail : x ≡ y = same_sets x y (omega arith) (λ i low. same (suc i) (omega arith)) in
    ap (λ (c : Bool). c ∷ x) head ∙ ap (λ (z : List Bool). b ∷ z) tail

kept_has : (x : List Bool) (kept : List ℕ) (c : ℕ) → list_all (has x) kept ≡ true → is_kept kept c ≡ true → has x c ≡ true
kept_has x [] c all there = let clash : false ≡ true = there in cc
kept_has x (k ∷ kept) c all there =
    let parts = and_parts (has x k) (list_all (has x) kept) all in
    elim (cases_Bool (k == c)) [
      | inl same ↦ ap (has x) (sym (eqb-true k c same)) ∙ parts.0
      | inr other ↦ kept_has x kept c parts.1 (sym (ap (λ (t : Bool). t || is_kept kept c) other) ∙ there)
    ]

joined_has : (k h : Bool) → (k ≡ true → h ≡ true) → h ≡ (k || (h && not k))
joined_has true h is = is refl
joined_has false true is = refl
joined_has false false is = refl

-- the kept codes and the others are all codes of the car
module _ (b : Contents) (day : ℕ) (kept : List ℕ) (x : List Bool) where
  both_within : AreOrdered b day kept → length x ≡ length b.codes → AreWithin b.codes (kept ++ others_of x kept)
  both_within ordered counted =
      all-append (λ (p : ℕ). p < length b.codes) kept (others_of x kept) (recursion_from_All (λ (place : ℕ). place < length b.codes) kept ordered.within)
      (recursion_from_All (λ (place : ℕ). place < length b.codes) (others_of x kept) (others_within b.codes x kept counted))

  has_both : IsCarWith b day kept x → (c : ℕ) → c < length x → has x c ≡ is_kept (kept ++ others_of x kept) c
  has_both car c within =
      let at : 0 + c ≡ c = omega arith in
      let others : is_kept (others_of x kept) c ≡ (has x c && not (is_kept kept c)) =
      subst (λ (k : ℕ). is_kept (others_of x kept) k ≡ (has x c && not (is_kept kept k))) at (has_others 0 (length x) x kept c (omega arith) within) in
      joined_has (is_kept kept c) (has x c) (kept_has x kept c car.has_kept)
      ∙ ap (λ (t : Bool). is_kept kept c || t) (sym others)
      ∙ sym (list_any-append (λ k. k == c) kept (others_of x kept))

  named_both : IsDistinct same_name b.codes → AreOrdered b day kept → IsCarWith b day kept x → named b.codes (names_at b.codes (kept ++ others_of x kept)) ≡ x
  named_both apart ordered car =
      let counted : length x ≡ length b.codes = length_from_good b day x car.good in
      let names = names_at b.codes (kept ++ others_of x kept) in
      let size : length (named b.codes names) ≡ length b.codes = length-map b.codes (λ code. list_any (same_name code) names) in
      sym (same_sets x (named b.codes names) (counted ∙ sym size) (λ c low.
      has_both car c low ∙ sym (has_at b.codes (kept ++ others_of x kept) c apart (omega arith) (both_within ordered counted))))

  no_fault_both : IsDistinct same_name b.codes → AreOrdered b day kept → length x ≡ length b.codes
      → order_fault b day (names_at b.codes (kept ++ others_of x kept)) ≡ None
  no_fault_both apart ordered counted =
      let others : List ℕ = others_of x kept in
      let within = both_within ordered counted in
      let distinct = both_distinct kept others (length b.codes) ordered.distinct (others_distinct 0 (length b.codes) x kept (omega arith)) (all_other 0 (length b.codes) x kept (omega arith)) in
      let none : first_fault b.codes [] (names_at b.codes (kept ++ others)) ≡ None =
      no_fault b.codes (names_at b.codes (kept ++ others)) (all_known b.codes (kept ++ others) within) (distinct_at b.codes (kept ++ others) apart within distinct) in
      ap (λ (w : Bool). cond w (option_map fault_of_name (first_fault b.codes [] (names_at b.codes (kept ++ others)))) (Some DayOutsideTerm)) ordered.in_term
      ∙ ap (option_map fault_of_name) none

-- ---- a car that can be built

none_found : {X : Type 0} (test : X → Bool) (i : ℕ) (xs : List X) → list_any test xs ≡ false → position_from test i xs ≡ None
none_found test i [] h = refl
none_found test i (x ∷ xs) h =
    let parts = or_parts (test x) (list_any test xs) h in
    ap (λ c. cond c (Some i) (position_from test (i + 1) xs)) parts.0 ∙ none_found test (i + 1) xs parts.1

false_from_not : (t : Bool) → not t ≡ true → t ≡ false
false_from_not true h = let clash : false ≡ true = h in cc
false_from_not false h = refl

-- an order without a fault whose codes are those of a car that can be built
order_accepted : (b : Contents) (day : ℕ) (names : List (List ℕ)) (x : List Bool) → order_fault b day names ≡ None → named b.codes names ≡ x → is_good b day x ≡ true
    → first_unfit_of b day x ≡ None → is_accepted b day names ≡ true
unfolding is_accepted
order_accepted b day names x faultless named_is good fits =
    let kinds = and_parts (is_closed b day x) (is_constructible b day x) (and_parts (is_closed b day x && is_constructible b day x) (length x == length b.codes) good).0 in
    let unbroken : first_broken_of b day x ≡ None = none_found (breaks day x) 0 b.constructs (false_from_not (list_any (breaks day x) b.constructs) kinds.1) in
    ap (λ (fault : Option OrderFault). is_acceptance (unless fault (Ok (outcome_of_set b day (completion_of b day (named b.codes names)).set)))) faultless
    ∙ ap (λ (y : List Bool). is_acceptance (Ok (outcome_of_set b day (completion_of b day y).set))) named_is
    ∙ ap (λ (d : Completed). is_acceptance (Ok (outcome_of_set b day d.set))) (completion-closed b day x kinds.0)
    ∙ ap₂ (λ (broken : Option ℕ) (unfit : Option Unfit). is_acceptance (Ok (judged broken unfit (outcome.Accepted x (parts b day x))))) unbroken fits

pub car_accepted : (b : Contents) (day : ℕ) (kept : List ℕ) (x : List Bool) (names others : List (List ℕ)) → IsDistinct same_name b.codes → AreOrdered b day kept
    → IsCarWith b day kept x → first_unfit_of b day x ≡ None → names ≡ names_at b.codes kept → others ≡ names_at b.codes (others_of x kept)
    → is_accepted b day (names ++ others) ≡ true
car_accepted b day kept x names others apart ordered car fits names_are others_are =
    let all : List (List ℕ) = names_at b.codes (kept ++ others_of x kept) in
    let joined : names ++ others ≡ all = ap₂ (λ (ns os : List (List ℕ)). ns ++ os) names_are others_are ∙ sym (map-append (name_at b.codes) kept (others_of x kept)) in
    let counted : length x ≡ length b.codes = length_from_good b day x car.good in
    ap (is_accepted b day) joined
    ∙ order_accepted b day all x (no_fault_both b day kept x apart ordered counted) (named_both b day kept x apart ordered car) car.good fits

-- the others in record order
pub added_among : (codes : List (List ℕ)) (x : List Bool) (kept : List ℕ) → length x ≡ length codes → Among codes (names_at codes (others_of x kept))
added_among codes x kept counted = others_among codes codes 0 x kept (λ j low. let at : 0 + j ≡ j = omega arith in ap (name_at codes) at) counted
