-- Codes that are put to an order by their places, and by their names.
use Rattle.std.proofs.Common.{◌≡◌, ℕ, zero, suc, ◌<◌, Bool, true, false, not, ◌&&◌, cond, List, [], ◌∷◌, ◌++◌, Option, Some, None, Ok, length, take, drop, slice_get, slice_set, nat_lt, refl, sym, ap, ap₂, subst, ◌∙◌, inl, inr, arith, append-nil, append_assoc, ltb-true}
use Rattle.std.specs.List.{list_any, remove, All, AllByRecursion, IsDistinct}
use Rattle.std.proofs.lemmas.List.Elements.{All-from_recursion}
use Rattle.std.specs.Option.{option_map, option_or, option_to_list, is_none}
use Rattle.std.specs.Prelude.{if◌then◌else◌}
use Rattle.std.proofs.lemmas.Bool.{cases_Bool, false≢true, lt-ltb}
use Rattle.std.proofs.lemmas.List.{length-map, length-set, map-append, take-map, drop-map}
use Rattle.std.proofs.lemmas.Option.{slice_get-get_or, slice_get_within, get_or_from_slice_get}
use Rattle.pb_base.specs.Names.{same_name, place_in}
use Rattle.pb_base.specs.NamedSet.{named, name_fault, first_fault}
use Rattle.pb_base.specs.Results.{unless}
use Rattle.pb_base.specs.Sets.{has}
use Rattle.pb_base.specs.declared.named_set.NameFault.{NameFault}
use Rattle.pb_base.specs.declared.named_set.NameFault.TheVariants.{Unknown, Repeated}
use Rattle.pb_base.proofs.NamedSets.{named_by_more, has-named, code_at_place}
use Rattle.pb_base.specs.Places.{name_at, names_at, places_of}
use Rattle.pb_base.proofs.TablePlaces.{place_where_it_stands}
use Rattle.book_model.specs.Activity.{is_within}
use Rattle.book_model.specs.Contents.{Contents}
use Rattle.parts_usage.specs.Fault.{fault_of_name, order_fault}
use Rattle.parts_usage.specs.Ordered.{unless_fault, ordered_of}
use Rattle.parts_usage.specs.Outcome.{outcome_of_set}
use Rattle.parts_usage.specs.declared.fault.OrderFault.{OrderFault}
use Rattle.parts_usage.specs.declared.fault.OrderFault.TheVariants.{DayOutsideTerm}
use Rattle.parts_usage.proofs.OrderedLaws.{ordered_is}
use Rattle.supplement.specs.Completion.{completion_of}
use Rattle.order_added.specs.Accepted.{is_acceptance, is_accepted}
use Rattle.order_added.specs.Added.{Among, IsAdded}
use Rattle.order_added.specs.Judging.{Judging, is_new, with_codes, passes_set, passes_with, IsFew}
use Rattle.order_added.proofs.AcceptLaws.{accepted_when, by_all, length-ordered, passes_named}
use Rattle.order_added.proofs.PassLaws.{among_map}

-- ---- places within a range

abbrev pub AreWithin : ℕ → List ℕ → Type 0
AreWithin n places = AllByRecursion (λ place. place < n) places

within_without : (n : ℕ) (places : List ℕ) (at : ℕ) → AreWithin n places → AreWithin n (remove places at)
within_without n [] zero within = tt
within_without n [] (suc at) within = tt
within_without n (p ∷ ps) zero within = within.1
within_without n (p ∷ ps) (suc at) within = (within.0, within_without n ps at within.1)

new_within : (x : List Bool) (place : ℕ) → is_new x place ≡ true → place < length x
new_within x place new = ltb-true place (length x) (first (nat_lt place (length x)) (not (has x place)) new)
  where
    first : (s t : Bool) → (s && t) ≡ true → s ≡ true
    first true t h = refl
    first false t h = absurd (false≢true h)

-- ---- codes put to a set

pub with_new : (x : List Bool) (place : ℕ) (places : List ℕ) → is_new x place ≡ true → with_codes x (place ∷ places) ≡ with_codes (slice_set x place true) places
with_new x place places new = ap (λ (t : Bool). cond t (with_codes (slice_set x place true) places) None) new

pub with_known : (x : List Bool) (place : ℕ) (places : List ℕ) → is_new x place ≡ false → with_codes x (place ∷ places) ≡ None
with_known x place places known = ap (λ (t : Bool). cond t (with_codes (slice_set x place true) places) None) known

-- these codes, and then those
pub with_both : (x y : List Bool) (these those : List ℕ) → with_codes x these ≡ Some y → with_codes x (these ++ those) ≡ with_codes y those
with_both x y [] those h = let same : x ≡ y = cc in ap (λ (z : List Bool). with_codes z those) same
with_both x y (p ∷ ps) those h =
    elim (cases_Bool (is_new x p)) [
      | inl new ↦ with_new x p (ps ++ those) new ∙ with_both (slice_set x p true) y ps those (sym (with_new x p ps new) ∙ h)
      | inr known ↦ let none : with_codes x (p ∷ ps) ≡ None = with_known x p ps known in absurd (cc)
    ]

pub with_neither : (x : List Bool) (these those : List ℕ) → with_codes x these ≡ None → with_codes x (these ++ those) ≡ None
with_neither x [] those h = absurd (cc)
with_neither x (p ∷ ps) those h =
    elim (cases_Bool (is_new x p)) [
      | inl new ↦ with_new x p (ps ++ those) new ∙ with_neither (slice_set x p true) ps those (sym (with_new x p ps new) ∙ h)
      | inr known ↦ with_known x p (ps ++ those) known
    ]

with_within : (x : List Bool) (places : List ℕ) (y : List Bool) → with_codes x places ≡ Some y → AreWithin (length x) places
with_within x [] y h = tt
with_within x (p ∷ ps) y h =
    elim (cases_Bool (is_new x p)) [
      | inl new ↦ (
        new_within x p new,
        subst (λ (n : ℕ). AreWithin n ps) (length-set x p true) (with_within (slice_set x p true) ps y (sym (with_new x p ps new) ∙ h)),
      )
      | inr known ↦ let none : with_codes x (p ∷ ps) ≡ None = with_known x p ps known in absurd (cc)
    ]

-- with these codes the order passes: so they are codes of the book
pub passes_within : (j : Judging) (added : List ℕ) → passes_with j added ≡ true → AreWithin (length j.ordered) added
unfolding passes_with
passes_within j added passed = by (with_codes j.ordered added) refl
  where
    by : (set : Option (List Bool)) → with_codes j.ordered added ≡ set → AreWithin (length j.ordered) added
    by None none = absurd (false≢true (sym (ap (passes_set j) none) ∙ passed))
    by (Some y) some = with_within j.ordered added y some

-- ---- the first fault of names behind names

or_or : {X : Type 0} (f g h : Option X) → option_or f (option_or g h) ≡ option_or (option_or f g) h
or_or None g h = refl
or_or (Some x) g h = refl

or_none : {X : Type 0} (f g : Option X) → option_or f g ≡ None → (f ≡ None) × (g ≡ None)
or_none None g h = (refl, h)
or_none (Some x) g h = absurd (cc)

fault_behind : (codes left xs ys : List (List ℕ)) → first_fault codes left (xs ++ ys) ≡ option_or (first_fault codes left xs) (first_fault codes (left ++ xs) ys)
fault_behind codes left [] ys = ap (λ (l : List (List ℕ)). first_fault codes l ys) (sym (append-nil left))
fault_behind codes left (x ∷ xs) ys =
    ap (option_or (name_fault codes left x)) (fault_behind codes (left ++ x ∷ []) xs ys)
    ∙ or_or (name_fault codes left x) (first_fault codes (left ++ x ∷ []) xs) (first_fault codes ((left ++ x ∷ []) ++ xs) ys)
    ∙ ap (λ (l : List (List ℕ)). option_or (first_fault codes left (x ∷ xs)) (first_fault codes l ys)) (append_assoc left (x ∷ []) xs)

-- the fault of a name whose code has this place, if it has one, and which stands further left or not
abbrev fault_if : Option ℕ → Bool → ℕ → Option NameFault
fault_if code repeated place = if is_none code then Some (Unknown place) else (if repeated then Some (Repeated place) else None)

-- the name of a code is at fault where the set of the names to its left has the code
known_fault : (codes left : List (List ℕ)) (name : List ℕ) (code : ℕ) (repeated : Bool) → place_in codes name ≡ Some code → has (named codes left) code ≡ repeated
    → name_fault codes left name ≡ fault_if (Some code) repeated (length left)
known_fault codes left name code repeated found is_repeated =
    let is_listed : list_any (same_name name) left ≡ repeated = sym (has-named codes left name code (code_at_place codes name code found)) ∙ is_repeated in
    ap (λ (p : Option ℕ). fault_if p (list_any (same_name name) left) (length left)) found
    ∙ ap (λ (t : Bool). fault_if (Some code) t (length left)) is_listed

-- names without a fault are those of codes
pub record AreFound (codes names : List (List ℕ)) : Type 0 where
  pub are : names_at codes (places_of codes names) ≡ names
  pub within : AreWithin (length codes) (places_of codes names)

unknown_fault : (codes left : List (List ℕ)) (name : List ℕ) → place_in codes name ≡ None → name_fault codes left name ≡ Some (Unknown (length left))
unknown_fault codes left name none = ap (λ (p : Option ℕ). fault_if p (list_any (same_name name) left) (length left)) none

found_more : (codes left : List (List ℕ)) (name : List ℕ) (names : List (List ℕ)) (place : Option ℕ) → place_in codes name ≡ place
    → name_fault codes left name ≡ None → AreFound codes names → AreFound codes (name ∷ names)
found_more codes left name names None none fault rest = let f : name_fault codes left name ≡ Some (Unknown (length left)) = unknown_fault codes left name none in absurd (cc)
found_more codes left name names (Some p) some fault rest =
    let stands : slice_get codes p ≡ Some name = code_at_place codes name p some in
    let places : places_of codes (name ∷ names) ≡ p ∷ places_of codes names = ap (λ (o : Option ℕ). option_to_list o ++ places_of codes names) some in
    record {
      are =
          ap (names_at codes) places
          ∙ ap (λ (n : List ℕ). n ∷ names_at codes (places_of codes names)) (get_or_from_slice_get codes p name [] stands)
          ∙ ap (λ (ns : List (List ℕ)). name ∷ ns) rest.are;
      within = subst (AreWithin (length codes)) (sym places) (slice_get_within codes p name stands, rest.within);
    }

found_when : (codes left names : List (List ℕ)) → first_fault codes left names ≡ None → AreFound codes names
found_when codes left [] h = record { are = refl; within = tt }
found_when codes left (n ∷ ns) h =
    let parts = or_none (name_fault codes left n) (first_fault codes (left ++ n ∷ []) ns) h in
    found_more codes left n ns (place_in codes n) refl parts.0 (found_when codes (left ++ n ∷ []) ns parts.1)

-- ---- orders

fault_parts : (t : Bool) (f : Option NameFault) → (if t then option_map fault_of_name f else Some DayOutsideTerm) ≡ None → (t ≡ true) × (f ≡ None)
fault_parts true None h = (refl, refl)
fault_parts true (Some f) h = absurd (cc)
fault_parts false f h = absurd (cc)

module _ (b : Contents) (day : ℕ) where
  ordered_when : (names : List (List ℕ)) → is_within b.first b.last day ≡ true → first_fault b.codes [] names ≡ None → ordered_of b day names ≡ Some (named b.codes names)
  ordered_when names active none =
      ap (λ (t : Bool). unless_fault (if t then option_map fault_of_name (first_fault b.codes [] names) else Some DayOutsideTerm) (named b.codes names)) active
      ∙ ap (λ (f : Option NameFault). unless_fault (option_map fault_of_name f) (named b.codes names)) none

  unordered_when : (names : List (List ℕ)) (fault : NameFault) → first_fault b.codes [] names ≡ Some fault → ordered_of b day names ≡ None
  unordered_when names fault some = by (is_within b.first b.last day) (first_fault b.codes [] names) some
    where
      by : (t : Bool) (f : Option NameFault) → f ≡ Some fault
          → unless_fault (if t then option_map fault_of_name f else Some DayOutsideTerm) (named b.codes names) ≡ None
      by true None h = absurd (cc)
      by true (Some g) h = refl
      by false f h = refl

  accepted_faultless : (names : List (List ℕ)) → is_accepted b day names ≡ true → order_fault b day names ≡ None
  unfolding is_accepted
  accepted_faultless names accepted = by (order_fault b day names) refl accepted
    where
      by : (fault : Option OrderFault) → order_fault b day names ≡ fault
          → is_acceptance (unless fault (Ok (outcome_of_set b day (completion_of b day (named b.codes names)).set))) ≡ true → order_fault b day names ≡ None
      by None none h = none
      by (Some fault) some h = absurd (false≢true h)

  -- an order with which others are accepted has no fault, nor have the others behind it
  pub record AreFaultless (ordered others : List (List ℕ)) : Type 0 where
    pub faultless : order_fault b day ordered ≡ None
    pub found : AreFound b.codes others

  pub faultless_when : (ordered others : List (List ℕ)) → is_accepted b day (ordered ++ others) ≡ true → AreFaultless ordered others
  faultless_when ordered others accepted =
      let all = fault_parts (is_within b.first b.last day) (first_fault b.codes [] (ordered ++ others)) (accepted_faultless (ordered ++ others) accepted) in
      let parts = or_none (first_fault b.codes [] ordered) (first_fault b.codes ordered others) (sym (fault_behind b.codes [] ordered others) ∙ all.1) in
      record {
        faultless =
            ap (λ (t : Bool). if t then option_map fault_of_name (first_fault b.codes [] ordered) else Some DayOutsideTerm) all.0
            ∙ ap (option_map fault_of_name) parts.0;
        found = found_when b.codes ordered others parts.1;
      }

  -- codes put to the set of an order are put to it by their names
  module _ (distinct : IsDistinct same_name b.codes) where
    -- the code at a place is put to the set of an order, or stands in it already
    record IsPut (names : List (List ℕ)) (x : List Bool) (p : ℕ) (n : List ℕ) (there : Bool) : Type 0 where
      new : is_new x p ≡ not there
      repeated : (rest : List (List ℕ)) → there ≡ true → ordered_of b day (names ++ n ∷ rest) ≡ None
      put : there ≡ false → ordered_of b day (names ++ n ∷ []) ≡ Some (slice_set x p true)

    put_when : (names : List (List ℕ)) (x : List Bool) (p : ℕ) → ordered_of b day names ≡ Some x → p < length b.codes
        → IsPut names x p (name_at b.codes p) (has x p)
    put_when names x p h within =
        let n : List ℕ = name_at b.codes p in
        let stands : slice_get b.codes p ≡ Some n = slice_get-get_or b.codes p [] within in
        let place : place_in b.codes n ≡ Some p = place_where_it_stands b.codes n n p distinct stands refl in
        let o = ordered_is b day names x h in
        let parts = fault_parts (is_within b.first b.last day) (first_fault b.codes [] names) o.faultless in
        let inside : nat_lt p (length x) ≡ true = ap (nat_lt p) (length-ordered b day names x h) ∙ lt-ltb p (length b.codes) within in
        let fault : name_fault b.codes names n ≡ fault_if (Some p) (has x p) (length names) =
        known_fault b.codes names n p (has x p) place (ap (λ (z : List Bool). has z p) (sym o.is)) in
        let behind : (rest : List (List ℕ)) → first_fault b.codes [] (names ++ rest) ≡ first_fault b.codes names rest = λ rest.
        fault_behind b.codes [] names rest ∙ ap (λ (f : Option NameFault). option_or f (first_fault b.codes names rest)) parts.1 in
        record {
          new = ap (λ (s : Bool). s && not (has x p)) inside;
          repeated = λ rest there.
              unordered_when (names ++ n ∷ rest) (Repeated (length names))
              (behind (n ∷ rest)
              ∙ ap (λ (f : Option NameFault). option_or f (first_fault b.codes (names ++ n ∷ []) rest)) (fault ∙ ap (λ (t : Bool). fault_if (Some p) t (length names)) there));
          put = λ fresh.
              ordered_when (names ++ n ∷ []) parts.0
              (behind (n ∷ []) ∙ ap (λ (f : Option NameFault). option_or f None) (fault ∙ ap (λ (t : Bool). fault_if (Some p) t (length names)) fresh))
              ∙ ap (λ (z : List Bool). Some z) (sym (ap (λ (z : List Bool). slice_set z p true) o.is ∙ named_by_more b.codes names n p distinct stands));
        }

    named_with : (names : List (List ℕ)) (x : List Bool) (places : List ℕ) → ordered_of b day names ≡ Some x → AreWithin (length b.codes) places
        → with_codes x places ≡ ordered_of b day (names ++ names_at b.codes places)
    named_with names x [] h within = sym (ap (ordered_of b day) (append-nil names) ∙ h)
    named_with names x (p ∷ ps) h within =
        let n : List ℕ = name_at b.codes p in
        let put = put_when names x p h within.0 in
        elim (cases_Bool (has x p)) [
          | inl there ↦ with_known x p ps (put.new ∙ ap not there) ∙ sym (put.repeated (names_at b.codes ps) there)
          | inr fresh ↦
              with_new x p ps (put.new ∙ ap not fresh)
              ∙ named_with (names ++ n ∷ []) (slice_set x p true) ps (put.put fresh) within.1
              ∙ ap (ordered_of b day) (append_assoc names (n ∷ []) (names_at b.codes ps))
        ]

    -- what passes with codes at places is accepted with their names
    pub accepted_at : (names : List (List ℕ)) (x : List Bool) (places : List ℕ) → ordered_of b day names ≡ Some x → AreWithin (length b.codes) places
        → passes_with (by_all b day x) places ≡ is_accepted b day (names ++ names_at b.codes places)
    accepted_at names x places h within =
        passes_named (by_all b day x) (names ++ names_at b.codes places) places (named_with names x places h within)
        ∙ accepted_when b day x (names ++ names_at b.codes places)

    names_without : (places : List ℕ) (at : ℕ) → remove (names_at b.codes places) at ≡ names_at b.codes (remove places at)
    names_without places at =
        ap₂ (λ (xs ys : List (List ℕ)). xs ++ ys) (take-map (name_at b.codes) at places) (drop-map (name_at b.codes) (suc at) places)
        ∙ sym (map-append (name_at b.codes) (take at places) (drop (suc at) places))

    pub few_within : (names : List (List ℕ)) (x : List Bool) (added : List ℕ) → ordered_of b day names ≡ Some x → IsFew (by_all b day x) added → AreWithin (length b.codes) added
    few_within names x added h few =
        subst (λ (n : ℕ). AreWithin n added) (length-ordered b day names x h) (passes_within (by_all b day x) added few.passes)

    pub added_few : (names : List (List ℕ)) (x : List Bool) (added : List ℕ) → ordered_of b day names ≡ Some x → IsFew (by_all b day x) added
        → IsAdded b day names (names_at b.codes added)
    added_few names x added h few =
        let within : AreWithin (length b.codes) added = few_within names x added h few in
        record {
          accepted = sym (accepted_at names x added h within) ∙ few.passes;
          needed = λ place inside.
              ap (λ (ns : List (List ℕ)). is_accepted b day (names ++ ns)) (names_without added place)
              ∙ sym (accepted_at names x (remove added place) h (within_without (length b.codes) added place within))
              ∙ few.needed place (omega (arith, length-map added (name_at b.codes)));
        }

    -- codes with which the order is accepted, by their places
    pub places_pass : (ordered others : List (List ℕ)) (x : List Bool) (j : Judging) (places : List ℕ) → ordered_of b day ordered ≡ Some x → j ≡ by_all b day x
        → is_accepted b day (ordered ++ others) ≡ true → places ≡ places_of b.codes others → passes_with j places ≡ true
    places_pass ordered others x j places h is accepted placed =
        let found : AreFound b.codes others = (faultless_when ordered others accepted).found in
        ap₂ (λ (k : Judging) (ps : List ℕ). passes_with k ps) is placed
        ∙ accepted_at ordered x (places_of b.codes others) h found.within
        ∙ ap (λ (ns : List (List ℕ)). is_accepted b day (ordered ++ ns)) found.are
        ∙ accepted

    -- few of these, and their names
    pub few_all : (ordered : List (List ℕ)) (x : List Bool) (j : Judging) (few : List ℕ) → ordered_of b day ordered ≡ Some x → j ≡ by_all b day x → IsFew j few
        → All (λ place. place < length b.codes) few
    few_all ordered x j few h is are = All-from_recursion (λ place. place < length b.codes) few (few_within ordered x few h (subst (λ (k : Judging). IsFew k few) is are))

    pub few_added : (ordered : List (List ℕ)) (x : List Bool) (j : Judging) (few : List ℕ) (names : List (List ℕ)) → ordered_of b day ordered ≡ Some x → j ≡ by_all b day x
        → IsFew j few → names ≡ names_at b.codes few → IsAdded b day ordered names
    few_added ordered x j few names h is are named_so =
        subst (IsAdded b day ordered) (sym named_so) (added_few ordered x few h (subst (λ (k : Judging). IsFew k few) is are))

    pub few_among : (ordered others : List (List ℕ)) (places few : List ℕ) (names : List (List ℕ)) → is_accepted b day (ordered ++ others) ≡ true → places ≡ places_of b.codes others
        → Among places few → names ≡ names_at b.codes few → Among others names
    few_among ordered others places few names accepted placed among named_so =
        let others_are : names_at b.codes places ≡ others = ap (names_at b.codes) placed ∙ (faultless_when ordered others accepted).found.are in
        subst (Among others) (sym named_so) (subst (λ (os : List (List ℕ)). Among os (names_at b.codes few)) others_are (among_map (name_at b.codes) places few among))

  -- nothing is added
  pub accepted_alone : (names : List (List ℕ)) (x : List Bool) (j : Judging) → ordered_of b day names ≡ Some x → j ≡ by_all b day x → passes_with j [] ≡ is_accepted b day names
  accepted_alone names x j h is =
      ap (λ (k : Judging). passes_with k []) is ∙ passes_named (by_all b day x) names [] (sym h) ∙ accepted_when b day x names

  pub ordered_faultless : (names : List (List ℕ)) (x : List Bool) → order_fault b day names ≡ None → x ≡ named b.codes names → ordered_of b day names ≡ Some x
  ordered_faultless names x faultless is = ap (λ (f : Option OrderFault). unless_fault f (named b.codes names)) faultless ∙ ap (λ (z : List Bool). Some z) (sym is)

  pub added_none : (names added : List (List ℕ)) → added ≡ [] → is_accepted b day names ≡ true → IsAdded b day names added
  added_none names added none accepted = record {
    accepted = ap (λ (ns : List (List ℕ)). is_accepted b day (names ++ ns)) none ∙ ap (is_accepted b day) (append-nil names) ∙ accepted;
    needed = λ place inside. absurd (omega (arith, ap length none));
  }
