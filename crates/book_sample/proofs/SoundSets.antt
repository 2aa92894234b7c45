-- Every good set of the generated book has exactly one code of each group, and so selects exactly one variant at each position.
use Rattle.std.proofs.Common.{◌≡◌, ◌==◌, ℕ, zero, suc, ◌+◌, ◌<◌, ◌≤◌, Bool, true, false, not, ◌&&◌, ◌||◌, List, [], ◌∷◌, ◌++◌, Option, None, Some, length, drop, refl, sym, ap, ◌∙◌, inl, inr, arith, if◌then◌else◌}
use Rattle.std.specs.Prelude.{filter, slice_get}
use Rattle.std.specs.Option.{option_map_or}
use Rattle.std.specs.List.{list_any}
use Rattle.std.proofs.lemmas.Bool.{and_parts, or_parts, cases_eq, eq-eqb, ne_eqb, not-true}
use Rattle.std.proofs.lemmas.List.Folds.{list_any-append}
use Rattle.pb_base.specs.Rule.{holds}
use Rattle.pb_base.specs.Sets.{has}
use Rattle.book_model.specs.Activity.{is_within}
use Rattle.book_model.specs.Contents.{Contents}
use Rattle.book_model.specs.Good.{breaks, is_met, is_good, is_closed, is_constructible}
use Rattle.book_model.specs.Parts.{variants_from, is_selected, is_selected_at, selected_of}
use Rattle.book_model.specs.Sound.{are_fit_from, is_sound}
use Rattle.book_model.specs.declared.record.Construct.{Construct}
use Rattle.book_model.specs.declared.record.Variant.{Variant}
use Rattle.book_sample.specs.Names.{place}
use Rattle.book_sample.specs.declared.group.Choice.{Choice}
use Rattle.book_sample.specs.declared.group.Group.{Group}
use Rattle.book_sample.proofs.Items.{usage}
use Rattle.book_sample.proofs.ByKind.{some_rule, alone_rule, bound_rules, constructs, positions, variant_of, variants, sample_contents}

-- ---- exactly one code of each group

abbrev pub number : Bool → ℕ
number true = 1
number false = 0

exactly_one : (a b c d : Bool) → (((a || b) || c) || d) ≡ true → (not a || not ((b || c) || d)) ≡ true → (not b || not ((a || c) || d)) ≡ true
    → (not c || not ((a || b) || d)) ≡ true → number a + (number b + (number c + (number d + 0))) ≡ 1
exactly_one false false false false some h1 h2 h3 = cc
exactly_one true false false false some h1 h2 h3 = refl
exactly_one false true false false some h1 h2 h3 = refl
exactly_one false false true false some h1 h2 h3 = refl
exactly_one false false false true some h1 h2 h3 = refl
exactly_one true true c d some h1 h2 h3 = cc
exactly_one true false true d some h1 h2 h3 = cc
exactly_one true false false true some h1 h2 h3 = cc
exactly_one false true true d some h1 h2 h3 = cc
exactly_one false true false true some h1 h2 h3 = cc
exactly_one false false true true some h1 h2 h3 = cc

-- what a rule that is in force and not broken says
met : (w m : Bool) → w ≡ true → (w && not m) ≡ false → m ≡ true
met true true h g = refl
met true false h g = cc
met false m h g = cc

module _ (day : ℕ) (x : List Bool) (inside : is_within 1 1000 day ≡ true) where
  abbrev OneAt : ℕ → Type 0
  OneAt j = number (has x (place j 0)) + (number (has x (place j 1)) + (number (has x (place j 2)) + (number (has x (place j 3)) + 0))) ≡ 1

  abbrev OneEach : ℕ → List Group → Type 0
  OneEach j [] = Unit {0}
  OneEach j (g ∷ gs) = OneAt j × OneEach (suc j) gs

  kept : (c : Construct) (rest : List Construct) → c.from ≡ 1 → c.until ≡ 1000 → (breaks day x c || list_any (breaks day x) rest) ≡ false
      → (is_met x c.demand ≡ true) × (list_any (breaks day x) rest ≡ false)
  kept c rest from until h =
      let parts = or_parts (breaks day x c) (list_any (breaks day x) rest) h in
      (met (is_within c.from c.until day) (is_met x c.demand) (rw (from, until) inside) parts.0, parts.1)

  one_each : (j : ℕ) (gs : List Group) → list_any (breaks day x) (constructs j gs) ≡ false → OneEach j gs
  one_each j [] h = tt
  one_each j (g ∷ gs) h =
      let bound = bound_rules j g.bound in
      let rest = bound ++ constructs (suc j) gs in
      let some = kept (some_rule j) (alone_rule j 0 1 2 3 ∷ alone_rule j 1 0 2 3 ∷ alone_rule j 2 0 1 3 ∷ alone_rule j 3 0 1 2 ∷ rest) refl refl h in
      let first = kept (alone_rule j 0 1 2 3) (alone_rule j 1 0 2 3 ∷ alone_rule j 2 0 1 3 ∷ alone_rule j 3 0 1 2 ∷ rest) refl refl some.1 in
      let second = kept (alone_rule j 1 0 2 3) (alone_rule j 2 0 1 3 ∷ alone_rule j 3 0 1 2 ∷ rest) refl refl first.1 in
      let third = kept (alone_rule j 2 0 1 3) (alone_rule j 3 0 1 2 ∷ rest) refl refl second.1 in
      let fourth = kept (alone_rule j 3 0 1 2) rest refl refl third.1 in
      let later = or_parts (list_any (breaks day x) bound) (list_any (breaks day x) (constructs (suc j) gs))
      (sym (list_any-append (breaks day x) bound (constructs (suc j) gs)) ∙ fourth.1) in (
        exactly_one (has x (place j 0)) (has x (place j 1)) (has x (place j 2)) (has x (place j 3)) some.0 first.0 second.0 third.0,
        one_each (suc j) gs later.1,
      )

-- ---- the number of selected variants, counted over the variants themselves

abbrev pub uses : ℕ → ℕ → List Bool → List Variant → ℕ
uses p day x [] = 0
uses p day x (v ∷ vs) = (if v.position == p then number (is_selected day x v) else 0) + uses p day x vs

first_left : {A : Type 0} (all rest : List A) (i : ℕ) (a : A) → drop i all ≡ a ∷ rest → (slice_get all i ≡ Some a) × (drop (suc i) all ≡ rest)
first_left [] rest zero a h = cc
first_left [] rest (suc i) a h = cc
first_left (b ∷ all) rest zero a h = (cc, cc)
first_left (b ∷ all) rest (suc i) a h = first_left all rest i a h

count_step : (same selected : Bool) (test : ℕ → Bool) (i : ℕ) (places : List ℕ) (n : ℕ) → test i ≡ selected → length (filter test places) ≡ n
    → length (filter test (if same then i ∷ places else places)) ≡ (if same then number selected else 0) + n
count_step true true test i places n is h = rw is (omega (arith, h))
count_step true false test i places n is h = rw is (omega (arith, h))
count_step false selected test i places n is h = omega (arith, h)

count_is : (b : Contents) (day : ℕ) (x : List Bool) (p i : ℕ) (vs : List Variant) → drop i b.variants ≡ vs
    → length (filter (is_selected_at b day x) (variants_from i p vs)) ≡ uses p day x vs
count_is b day x p i [] h = refl
count_is b day x p i (v ∷ vs) h =
    let (here, later) = first_left b.variants vs i v h in
    count_step (v.position == p) (is_selected day x v) (is_selected_at b day x) i (variants_from (suc i) p vs) (uses p day x vs)
    (ap (λ o. option_map_or (is_selected day x) o false) here) (count_is b day x p (suc i) vs later)

-- ---- the variant of a code is selected just where the code is there

whichever : (a b : Bool) → ((a && b) || (a && not b)) ≡ a
whichever true true = refl
whichever true false = refl
whichever false b = refl

usage_is : (x : List Bool) (own : ℕ) (other : Option ℕ) → holds (usage own other) x ≡ has x own
usage_is x own None = refl
usage_is x own (Some other) = whichever (has x own) (has x other)

module _ (day : ℕ) (x : List Bool) (inside : is_within 1 1000 day ≡ true) where
  selected_is : (j e : ℕ) (c : Choice) → is_selected day x (variant_of j e c) ≡ has x (place j e)
  selected_is j e c = rw inside (usage_is x (place j e) c.other)

  none_used : (p j : ℕ) (gs : List Group) → p < j → uses p day x (variants j gs) ≡ 0
  none_used p j [] below = refl
  none_used p j (g ∷ gs) below =
      let other : (j == p) ≡ false = ne_eqb j p (λ same. omega arith) in rw other (omega (arith, none_used p (suc j) gs (omega arith)))

  one_used : (p j : ℕ) (gs : List Group) → OneEach day x inside j gs → j ≤ p → p < j + length gs → uses p day x (variants j gs) ≡ 1
  one_used p j [] each from to = absurd (omega arith)
  one_used p j (g ∷ gs) (one, each) from to = elim (cases_eq j p) [
    | inl same ↦
        rw (
          eq-eqb j p same,
          selected_is j 0 g.first,
          selected_is j 1 g.second,
          selected_is j 2 g.third,
          selected_is j 3 g.fourth,
          none_used p (suc j) gs (omega arith),
        ) one
    | inr differ ↦ rw (ne_eqb j p differ) (omega (arith, one_used p (suc j) gs each (omega arith) (omega arith)))
  ]

  all_fit : (n i : ℕ) (all gs : List Group) → OneEach day x inside 0 all → i + length gs ≤ length all → are_fit_from i (sample_contents n all) day x (positions i gs) ≡ true
  all_fit n i all [] each room = refl
  all_fit n i all (g ∷ gs) each room =
      let count : length (selected_of (sample_contents n all) day x i) ≡ 1 =
      count_is (sample_contents n all) day x i 0 (variants 0 all) refl ∙ one_used i 0 all each (omega arith) (omega arith) in
      rw (inside, count) (all_fit n (suc i) all gs each (omega arith))

pub set_is_sound : (n day : ℕ) (x : List Bool) (gs : List Group) → is_within 1 1000 day ≡ true → is_good (sample_contents n gs) day x ≡ true
    → is_sound (sample_contents n gs) day x ≡ true
set_is_sound n day x gs inside good =
    let b = sample_contents n gs in
    let front = (and_parts (is_closed b day x && is_constructible b day x) (length x == length b.codes) good).0 in
    let constructible = (and_parts (is_closed b day x) (is_constructible b day x) front).1 in
    all_fit day x inside n 0 gs gs (one_each day x inside 0 gs (not-true (list_any (breaks day x) (constructs 0 gs)) constructible)) (omega arith)
