-- Grouping variants by position, one after another.
use Rattle.std.proofs.Common.{◌≡◌, ◌≢◌, ℕ, suc, ◌+◌, ◌<◌, ◌≤◌, ◌==◌, Bool, true, false, nat_eq, List, Vec, Global, map, zero, [], ◌∷◌, ◌++◌, length, get_or, set, drop, refl, sym, ap, ◌∙◌, subst, arith, append_assoc, append-nil, add-one, get_or-set_same, get_or-set_other, if◌then◌else◌}
use Rattle.std.specs.List.{All}
use Rattle.std.proofs.lemmas.List.Elements.{All-nil, All-cons}
use Rattle.std.proofs.lemmas.List.{drop_more, drop_all, length-set, length-map, map-set, get_or-map}
use Rattle.std.proofs.Math.Seq.{map-set_same}
use Rattle.std.specs.Prelude.{Result, Ok, Err, OnErr}
use Rattle.book_model.specs.Parts.{variants_from, variants_of}
use Rattle.book_model.specs.Groups.{AreGroups, with_place}
use Rattle.book_model.specs.BookParts.{AreWhole}
use Rattle.book_model.specs.declared.book.BookParts.{BookParts}
use Rattle.book_model.specs.declared.record.Variant.{Variant}

-- what each group has so far and what the rest of the variants adds to it are all that it gets
pub record AreGroupsTo (positions : ℕ) (variants : List Variant) (i : ℕ) (groups : List (List ℕ)) : Type 0 where
  pub count : length groups ≡ positions
  pub each : (p : ℕ) → p < positions → get_or groups p [] ++ variants_from i p (drop i variants) ≡ variants_of p variants

-- one variant goes into its group and into no other
pub place_added : (groups : List (List ℕ)) (i p : ℕ) (v : Variant) (rest : List Variant) (same : Bool) → nat_eq v.position p ≡ same → v.position < length groups
    → get_or (set groups v.position (get_or groups v.position [] ++ i ∷ [])) p [] ++ variants_from (suc i) p rest ≡ get_or groups p [] ++ variants_from i p (v ∷ rest)
place_added groups i p v rest true e lt =
    let at : v.position ≡ p = grind (arith, e) in
    rw (e, ← at, get_or-set_same groups v.position (get_or groups v.position [] ++ i ∷ []) [] lt) (append_assoc (get_or groups v.position []) (i ∷ []) (variants_from (suc i) v.position rest))
place_added groups i p v rest false e lt =
    let other : p ≢ v.position = grind (arith, e) in
    rw (e, get_or-set_other groups v.position p (get_or groups v.position [] ++ i ∷ []) [] other) refl

pub add-AreGroupsTo : (positions : ℕ) (variants : List Variant) (i : ℕ) (groups : List (List ℕ)) (v : Variant) → i < length variants → v ≡ get_or variants i v → v.position < positions
    → AreGroupsTo positions variants i groups → AreGroupsTo positions variants (i + 1) (set groups v.position (get_or groups v.position [] ++ i ∷ []))
add-AreGroupsTo positions variants i groups v lt is in_range so_far = record {
  count = length-set groups v.position (get_or groups v.position [] ++ i ∷ []) ∙ so_far.count;
  each = λ p within.
      let split : drop i variants ≡ v ∷ drop (i + 1) variants = drop_more variants i v lt ∙ ap (λ (w : Variant). w ∷ drop (i + 1) variants) (sym is) in
      let next : drop i variants ≡ v ∷ drop (suc i) variants = subst (λ (n : ℕ). drop i variants ≡ v ∷ drop n variants) (add-one i) split in
      let in_groups : v.position < length groups = subst (λ (n : ℕ). v.position < n) (sym so_far.count) in_range in
      let added : get_or (set groups v.position (get_or groups v.position [] ++ i ∷ [])) p [] ++ variants_from (suc i) p (drop (suc i) variants) ≡ get_or groups p [] ++ variants_from i p (v ∷ drop (suc i) variants)
      = place_added groups i p v (drop (suc i) variants) (nat_eq v.position p) refl in_groups in
      let here : get_or groups p [] ++ variants_from i p (v ∷ drop (suc i) variants) ≡ variants_of p variants = subst (λ (rest : List Variant). get_or groups p [] ++ variants_from i p rest ≡ variants_of p variants) next (so_far.each p within) in
      rw (add-one i) (added ∙ here);
}

pub whole-AreGroupsTo : (positions : ℕ) (variants : List Variant) (i : ℕ) (groups : List (List ℕ)) → length variants ≤ i
    → AreGroupsTo positions variants i groups → AreGroups positions variants groups
whole-AreGroupsTo positions variants i groups past so_far = record {
  count = so_far.count;
  each = λ p within. sym (append-nil (get_or groups p [])) ∙ rw (drop_all i variants past) at (so_far.each p within);
}

-- the places of one variant more
variants_from-more : (i p : ℕ) (vs : List Variant) (v : Variant) → variants_from i p (vs ++ v ∷ []) ≡ variants_from i p vs ++ (if v.position == p then (i + length vs) ∷ [] else [])
variants_from-more i p [] v = ap (λ n. if v.position == p then n ∷ [] else []) (omega arith)
variants_from-more i p (w ∷ vs) v =
    let rest = variants_from-more (suc i) p vs v in
    let last : suc i + length vs ≡ i + length (w ∷ vs) = omega arith in
    let later = rest ∙ ap (λ n. variants_from (suc i) p vs ++ (if v.position == p then n ∷ [] else [])) last in
    elim (w.position == p) as (λ b. (if b then i ∷ variants_from (suc i) p (vs ++ v ∷ []) else variants_from (suc i) p (vs ++ v ∷ [])) ≡ (if b then i ∷ variants_from (suc i) p vs else variants_from (suc i) p vs) ++ (if v.position == p then (i + length (w ∷ vs)) ∷ [] else [])) [
      | true ↦ ap (λ ns. i ∷ ns) later
      | false ↦ later
    ]

-- groups grow by a variant: its place goes behind those that its position has
pub grows-AreGroups : (positions : ℕ) (variants : List Variant) (groups : List (List ℕ)) (v : Variant) → v.position < positions
    → AreGroups positions variants groups → AreGroups positions (variants ++ v ∷ []) (with_place groups v.position (length variants))
grows-AreGroups positions variants groups v in_range old = record {
  count = length-set groups v.position (get_or groups v.position [] ++ length variants ∷ []) ∙ old.count;
  each = λ p within.
      let in_groups : v.position < length groups = subst (λ (n : ℕ). v.position < n) (sym old.count) in_range in
      let added : get_or (with_place groups v.position (length variants)) p [] ++ [] ≡ get_or groups p [] ++ variants_from (length variants) p (v ∷ [])
      = place_added groups (length variants) p v [] (nat_eq v.position p) refl in_groups in
      let here : length variants ≡ 0 + length variants = omega arith in
      sym (append-nil (get_or (with_place groups v.position (length variants)) p [])) ∙ added
      ∙ ap (λ ns. ns ++ variants_from (length variants) p (v ∷ [])) (old.each p within)
      ∙ ap (λ n. variants_of p variants ++ (if v.position == p then n ∷ [] else [])) here
      ∙ sym (variants_from-more 0 p variants v);
}

-- no variant is in an empty group
pub none_of_empty : (groups : List (Vec ℕ Global)) (p : ℕ) → All (λ (group : Vec ℕ Global). group.items ≡ []) groups → get_or (map (λ (group : Vec ℕ Global). group.items) groups) p [] ≡ []
none_of_empty [] p empty = refl
none_of_empty (g ∷ groups) zero empty = empty 0 g (omega arith)
none_of_empty (g ∷ groups) (suc p) empty = none_of_empty groups p (λ k d lt. empty (suc k) d (omega arith))

pub start-AreGroupsTo : (positions : ℕ) (variants : List Variant) (groups : List (Vec ℕ Global)) → length groups ≡ positions → All (λ (group : Vec ℕ Global). group.items ≡ []) groups
    → AreGroupsTo positions variants 0 (map (λ (group : Vec ℕ Global). group.items) groups)
start-AreGroupsTo positions variants groups count empty = record {
  count = length-map groups (λ (group : Vec ℕ Global). group.items) ∙ count;
  each = λ p within. ap (λ (group : List ℕ). group ++ variants_from 0 p variants) (none_of_empty groups p empty);
}

pub on_err : {T E : Type 0} {P : Type 0} (r : Result T E) → P → OnErr r P
on_err (Ok x) h = tt
on_err (Err e) h = h

pub same-group : (groups : List (Vec ℕ Global)) (i : ℕ) (old new : Vec ℕ Global) → new.items ≡ (get_or groups i old).items
    → map (λ (group : Vec ℕ Global). group.items) (set groups i new) ≡ map (λ (group : Vec ℕ Global). group.items) groups
same-group groups i old new same = map-set_same (λ (group : Vec ℕ Global). group.items) groups i new old same

pub push-group : (groups : List (Vec ℕ Global)) (i place : ℕ) (old new : Vec ℕ Global) → i < length groups → new.items ≡ (get_or groups i old).items ++ place ∷ []
    → map (λ (group : Vec ℕ Global). group.items) (set groups i new)
    ≡ set (map (λ (group : Vec ℕ Global). group.items) groups) i (get_or (map (λ (group : Vec ℕ Global). group.items) groups) i [] ++ place ∷ [])
push-group groups i place old new lt pushed =
    map-set (λ (group : Vec ℕ Global). group.items) groups i new
    ∙ ap (λ (group : List ℕ). set (map (λ (g : Vec ℕ Global). g.items) groups) i group)
    (pushed ∙ ap (λ (group : List ℕ). group ++ place ∷ []) (sym (get_or-map (λ (g : Vec ℕ Global). g.items) groups i old [] lt)))

-- a place below n, before places below n
below_if : (n i : ℕ) (b : Bool) (rest : List ℕ) → i < n → All (λ (w : ℕ). w < n) rest → All (λ (w : ℕ). w < n) (if b then i ∷ rest else rest)
below_if n i true rest lt all = All-cons (λ (w : ℕ). w < n) i rest lt all
below_if n i false rest lt all = all

-- the places of a position's variants are places of variants
pub variants_from-below : (n i place : ℕ) (variants : List Variant) → i + length variants ≤ n → All (λ (v : ℕ). v < n) (variants_from i place variants)
variants_from-below n i place [] fits = All-nil (λ (v : ℕ). v < n)
variants_from-below n i place (v ∷ variants) fits =
    below_if n i (v.position == place) (variants_from (suc i) place variants) (omega arith) (variants_from-below n (suc i) place variants (omega arith))

-- so are those of a group of a whole book
pub group-in_range : (p : BookParts) (place : ℕ) (group : List ℕ) → AreWhole p → place < length p.positions.items → group ≡ get_or p.groups place []
    → All (λ (v : ℕ). v < length p.variants.items) group
group-in_range p place group whole lt is =
    subst (All (λ (v : ℕ). v < length p.variants.items)) (sym (is ∙ whole.groups.each place lt)) (variants_from-below (length p.variants.items) 0 place p.variants.items (omega arith))
