-- The first pass finds the names, in the records' order.
use Rattle.std.proofs.Common.{◌≡◌, ℕ, ◌+◌, ◌≤◌, Bool, false, List, [], ◌∷◌, ◌++◌, Ok, length, refl, ap, ◌∙◌, append_assoc, arith}
use Rattle.std.specs.Prelude.{map, nat_le}
use Rattle.std.specs.List.{IsDistinct, AllByRecursion}
use Rattle.std.proofs.lemmas.Bool.{lt-leb}
use Rattle.std.proofs.lemmas.List.{append-nil, length_push}
use Rattle.pb_base.specs.Names.{same_name}
use Rattle.pb_base.specs.Results.{and_then}
use Rattle.pb_base.specs.declared.limits.TheConstants.{MOST_CODES, MOST_CONSTRUCTS, MOST_MODULES, MOST_POSITIONS, MOST_SUPPLEMENTS, MOST_VARIANTS}
use Rattle.book_text.specs.Names.{added, added_where, added_rule, beside, entered}
use Rattle.book_text.specs.FirstPass.{entered_row}
use Rattle.book_text.specs.Pass.{pass}
use Rattle.book_text.specs.declared.entry.Heading.{Heading}
use Rattle.book_text.specs.declared.fault.Which.{Which}
use Rattle.book_text.specs.declared.fault.Which.TheVariants.{Codes, Supplements, Constructs, Modules, Positions, Variants}
use Rattle.book_text.specs.declared.fields.Days.{Days}
use Rattle.book_text.specs.declared.names.Names.{Names}
use Rattle.book_text.proofs.DistinctLemmas.{IsAbsent}
use Rattle.book_text.proofs.PassLemmas.{pass-more, pass-end}
use Rattle.book_sample.specs.Item.{Item, a_code, a_supplement, a_construct, a_module, a_position, a_variant}
use Rattle.book_sample.specs.Rows.{row_of}
use Rattle.book_sample.specs.Book.{with_construct, with_name, names_after}
use Rattle.book_sample.specs.Written.{AreNames, ListFits, ItemFits}
use Rattle.book_sample.proofs.Distinct.{between, no_place}
use Rattle.book_sample.proofs.RowSaid.{AreSpelled, said, row_says}

added_where_back : (full : Bool) (which : Which) (names : List (List ℕ)) (name : List ℕ) → full ≡ false → IsAbsent name names
    → added_where full which names name ≡ Ok (names ++ name ∷ [])
added_where_back full which names name room absent = rw (no_place names name absent, room) refl

-- a name that stands last among those that fit is added, and they fit without it
added_back : (most : ℕ) (which : Which) (names : List (List ℕ)) (name : List ℕ) → ListFits most (names ++ name ∷ []) → added most which names name ≡ Ok (names ++ name ∷ [])
added_back most which names name fits =
    added_where_back (nat_le most (length names)) which names name (lt-leb most (length names) (omega (arith, fits.within, length_push names name)))
    (between names [] name fits.distinct).before

list_before : (most : ℕ) (names : List (List ℕ)) (name : List ℕ) → ListFits most (names ++ name ∷ []) → ListFits most names
list_before most names name fits = record {
  within = omega (arith, fits.within, length_push names name);
  distinct = rw append-nil at ((between names [] name fits.distinct).others);
}

absent_front : (xs ys : List (List ℕ)) (x : List ℕ) → IsAbsent x (xs ++ ys) → IsAbsent x xs
absent_front [] ys x h = tt
absent_front (y ∷ xs) ys x h = (h.0, absent_front xs ys x h.1)

absent_back : (xs ys : List (List ℕ)) (x : List ℕ) → IsAbsent x (xs ++ ys) → IsAbsent x ys
absent_back [] ys x h = h
absent_back (y ∷ xs) ys x h = absent_back xs ys x h.1

-- the ids of rules, where that of a supplementing one is the last of its kind, or that of a constructibility rule the last of all
module _ (supplements constructs : List (List ℕ)) (id : List ℕ) where
  supplement_between : IsDistinct same_name ((supplements ++ id ∷ []) ++ constructs) → IsDistinct same_name (supplements ++ id ∷ constructs)
  supplement_between d = rw append_assoc at d

  construct_last : IsDistinct same_name (supplements ++ (constructs ++ id ∷ [])) → IsDistinct same_name ((supplements ++ constructs) ++ id ∷ [])
  construct_last d = rw append_assoc d

module _ (all n : Names) (term : Days) where
  supplement_entered : (id : List ℕ) → length (n.supplements ++ id ∷ []) ≤ MOST_SUPPLEMENTS → IsDistinct same_name ((n.supplements ++ id ∷ []) ++ n.constructs.ids)
      → beside n.constructs.ids id (added MOST_SUPPLEMENTS Supplements n.supplements id) ≡ Ok (n.supplements ++ id ∷ [])
  supplement_entered id within d =
      let b = between n.supplements n.constructs.ids id (supplement_between n.supplements n.constructs.ids id d) in
      rw (no_place n.constructs.ids id b.behind)
      (added_where_back (nat_le MOST_SUPPLEMENTS (length n.supplements)) Supplements n.supplements id
      (lt-leb MOST_SUPPLEMENTS (length n.supplements) (omega (arith, within, length_push n.supplements id))) b.before)

  construct_entered : (id : List ℕ) → n.constructs.rules + 1 ≤ MOST_CONSTRUCTS → IsDistinct same_name (n.supplements ++ (n.constructs.ids ++ id ∷ []))
      → beside n.supplements id (added_rule n.constructs id) ≡ Ok (with_construct n.constructs id)
  construct_entered id within d =
      let b = between (n.supplements ++ n.constructs.ids) [] id (construct_last n.supplements n.constructs.ids id d) in
      rw (
        no_place n.supplements id (absent_front n.supplements n.constructs.ids id b.before),
        added_where_back (nat_le MOST_CONSTRUCTS n.constructs.rules) Constructs n.constructs.ids id (lt-leb MOST_CONSTRUCTS n.constructs.rules (omega (arith, within)))
            (absent_back n.supplements n.constructs.ids id b.before),
      ) refl

  item_entered : (item : Item) → AreNames (with_name n item) → entered n (said all term item) ≡ Ok (with_name n item)
  item_entered (a_code name) are = rw (added_back MOST_CODES Codes n.codes name are.codes) refl
  item_entered (a_supplement id rank code rule) are = rw (supplement_entered id are.supplements are.rules) refl
  item_entered (a_construct id on rule) are = rw (construct_entered id are.constructs are.rules) refl
  item_entered (a_module id) are = rw (added_back MOST_MODULES Modules n.modules id are.modules) refl
  item_entered (a_position id group mandatory) are = rw (added_back MOST_POSITIONS Positions n.positions id are.positions) refl
  item_entered (a_variant id position part quantity rule) are = rw (added_back MOST_VARIANTS Variants n.variants id are.variants) refl

-- names that fit with one more fit without it
names_before : (n : Names) (item : Item) → AreNames (with_name n item) → AreNames n
names_before n (a_code name) are = record {
  codes = list_before MOST_CODES n.codes name are.codes;
  supplements = are.supplements;
  constructs = are.constructs;
  rules = are.rules;
  modules = are.modules;
  positions = are.positions;
  variants = are.variants;
}
names_before n (a_supplement id rank code rule) are = record {
  codes = are.codes;
  supplements = omega (arith, are.supplements, length_push n.supplements id);
  constructs = are.constructs;
  rules = (between n.supplements n.constructs.ids id (supplement_between n.supplements n.constructs.ids id are.rules)).others;
  modules = are.modules;
  positions = are.positions;
  variants = are.variants;
}
names_before n (a_construct id on rule) are = record {
  codes = are.codes;
  supplements = are.supplements;
  constructs = omega (arith, are.constructs);
  rules = rw append-nil at ((between (n.supplements ++ n.constructs.ids) [] id (construct_last n.supplements n.constructs.ids id are.rules)).others);
  modules = are.modules;
  positions = are.positions;
  variants = are.variants;
}
names_before n (a_module id) are = record {
  codes = are.codes;
  supplements = are.supplements;
  constructs = are.constructs;
  rules = are.rules;
  modules = list_before MOST_MODULES n.modules id are.modules;
  positions = are.positions;
  variants = are.variants;
}
names_before n (a_position id group mandatory) are = record {
  codes = are.codes;
  supplements = are.supplements;
  constructs = are.constructs;
  rules = are.rules;
  modules = are.modules;
  positions = list_before MOST_POSITIONS n.positions id are.positions;
  variants = are.variants;
}
names_before n (a_variant id position part quantity rule) are = record {
  codes = are.codes;
  supplements = are.supplements;
  constructs = are.constructs;
  rules = are.rules;
  modules = are.modules;
  positions = are.positions;
  variants = list_before MOST_VARIANTS n.variants id are.variants;
}

all_before : (n : Names) (items : List Item) → AreNames (names_after n items) → AreNames n
all_before n [] are = are
all_before n (item ∷ items) are = names_before n item (all_before (with_name n item) items are)

pub names_back : (h : Heading) (all n : Names) (k : ℕ) (items : List Item) → AreSpelled all → AllByRecursion (ItemFits all) items → AreNames (names_after n items)
    → pass (entered_row h) k n (map (row_of all) items) ≡ Ok (names_after n items)
names_back h all n k [] s fits are = pass-end (entered_row h) k n
names_back h all n k (item ∷ items) s fits are =
    pass-more (entered_row h) k n (with_name n item) (row_of all item) (map (row_of all) items)
    (ap (λ r. and_then r (λ entry. entered n entry)) (row_says h all item s fits.0) ∙ item_entered all n h.term item (all_before (with_name n item) items are))
    ∙ names_back h all (with_name n item) (k + 1) items s fits.1 are
