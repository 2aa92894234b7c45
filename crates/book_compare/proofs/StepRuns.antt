-- One step of a loop over codes or positions.
use Rattle.std.proofs.Common.{◌≡◌, ℕ, suc, ◌+◌, ◌<◌, true, false, List, [], ◌∷◌, ◌++◌, Option, Some, None, length, get_or, map, drop, refl, sym, ap, subst, ◌∙◌, inl, inr, arith, append_assoc, append-nil, add-one, drop-cons}
use Rattle.std.specs.List.{slice_get, filter, flat_map, list_any, All, AllByRecursion}
use Rattle.std.specs.Option.{is_none, option_map_or}
use Rattle.std.proofs.lemmas.Bool.{cases_Bool, cond_both, false≢true}
use Rattle.std.proofs.lemmas.List.Elements.{All-from_recursion}
use Rattle.std.proofs.lemmas.Option.{slice_get-get_or, slice_get_within, get_or_from_slice_get}
use Rattle.pb_base.specs.Names.{place_in}
use Rattle.book_model.specs.Activity.{is_within}
use Rattle.book_model.specs.Contents.{Contents}
use Rattle.book_model.specs.declared.record.Position.{Position}
use Rattle.book_model.specs.declared.record.Variant.{Variant}
use Rattle.book_model.specs.Parts.{variants_of}
use Rattle.chosen_parts.specs.Chosen.{part_use, is_same_use}
use Rattle.chosen_parts.specs.declared.part_use.PartUse.{PartUse}
use Rattle.clausify.specs.Choices.{Choice, choices_from, active_variants, is_active_variant}
use Rattle.clausify.specs.declared.usage.Usage.{Usage}
use Rattle.clausify.proofs.ListLaws.{all-append}
use Rattle.clausify.specs.Encoding.{Encodes, EncodesItem}
use Rattle.clausify.specs.Formulas.{connectives, formula_literal, formula_clauses}
use Rattle.clausify.specs.Items.{Item, own_clauses, item_clauses, free_item}
use Rattle.clausify.specs.declared.encoder.Encoder.{Encoder}
use Rattle.clausify.proofs.Remaining.{ItemsLeft, choices_taken, choices_passed}
use Rattle.pb_base.specs.Rule.{Rule}
use Rattle.book_compare.specs.Asked.{uses, new_keys, literals_with}
use Rattle.book_compare.specs.JointItems.{absent_item, day_variants, renamed_usage, renamed_usage_items, renamed_usages}
use Rattle.book_compare.specs.Numbering.{numbers_from, further, missing_from, added_from}
use Rattle.book_compare.proofs.NumberLaws.{cases_option}

-- what is left from a place on, by the item that was read there
pub read_at : {X : Type 0} (xs : List X) (i : ℕ) (x : X) → i < length xs → x ≡ get_or xs i x → drop i xs ≡ x ∷ drop (i + 1) xs
read_at {X} xs i x within read = rw (add-one, drop-cons xs i x within, ← read) refl

-- and by what stands there
pub dropped : {X : Type 0} (xs : List X) (i : ℕ) (x : X) → slice_get xs i ≡ Some x → drop i xs ≡ x ∷ drop (i + 1) xs
dropped xs i x there = read_at xs i x (slice_get_within xs i x there) (sym (get_or_from_slice_get xs i x x there))

-- one more item
pub item_more : (start m more : Encoder) (all rest : List Item) (i : Item) → ItemsLeft start m all (i ∷ rest) → EncodesItem m more i → ItemsLeft start more all rest
item_more start m more all rest i left made = record {
  clauses = rw (made.clauses, left.truth, made.next, append_assoc) left.clauses;
  next = omega (arith, made.next, left.next);
  truth = made.truth ∙ left.truth;
  first = made.first ∙ left.first;
}

-- a code of the first book
module _ (start m : Encoder) (all : List Item) (second cs : List (List ℕ)) (i : ℕ) (c : List ℕ) (there : slice_get cs i ≡ Some c)
    (left : ItemsLeft start m all (map absent_item (missing_from i second (drop i cs)))) where
  pub missing_more : (more : Encoder) → is_none (place_in second c) ≡ true → EncodesItem m more (absent_item i) → ItemsLeft start more all (map absent_item (missing_from (i + 1) second (drop (i + 1) cs)))
  missing_more more none made = item_more start m more all _ (absent_item i) (let split = dropped cs i c there in rw (split, none) at left) made

  pub missing_passed : is_none (place_in second c) ≡ false → ItemsLeft start m all (map absent_item (missing_from (i + 1) second (drop (i + 1) cs)))
  missing_passed some = let split = dropped cs i c there in rw (split, some) at left

-- a code of the second book
module _ (start m : Encoder) (all : List Item) (next : ℕ) (first cs : List (List ℕ)) (i : ℕ) (c : List ℕ) (there : slice_get cs i ≡ Some c)
    (left : ItemsLeft start m all (map absent_item (added_from next first (drop i cs)))) where
  pub added_more : (more : Encoder) → is_none (place_in first c) ≡ true → EncodesItem m more (absent_item next) → ItemsLeft start more all (map absent_item (added_from (next + 1) first (drop (i + 1) cs)))
  added_more more none made = item_more start m more all _ (absent_item next) (let split = dropped cs i c there in rw (split, none) at left) made

  pub added_passed : is_none (place_in first c) ≡ false → ItemsLeft start m all (map absent_item (added_from next first (drop (i + 1) cs)))
  added_passed some = let split = dropped cs i c there in rw (split, some) at left

-- the variable of a code of the second book
module _ (next : ℕ) (first cs : List (List ℕ)) (i : ℕ) (c : List ℕ) (numbers more all : List ℕ) (there : slice_get cs i ≡ Some c)
    (left : numbers ++ numbers_from next first (drop i cs) ≡ all) where
  pub shared_more : (place : ℕ) → place_in first c ≡ Some place → more ≡ numbers ++ place ∷ [] → more ++ numbers_from next first (drop (i + 1) cs) ≡ all
  shared_more place is pushed = let split = dropped cs i c there in rw (pushed, append_assoc) (rw (split, is) at left)

  pub new_more : place_in first c ≡ None → more ≡ numbers ++ next ∷ [] → more ++ numbers_from (next + 1) first (drop (i + 1) cs) ≡ all
  new_more is pushed = let split = dropped cs i c there in rw (pushed, append_assoc) (rw (split, is) at left)

pub shared_further : (first cs : List (List ℕ)) (i : ℕ) (c : List ℕ) (place : ℕ) → slice_get cs i ≡ Some c → place_in first c ≡ Some place → further first (drop i cs) ≡ further first (drop (i + 1) cs)
shared_further first cs i c place there is = rw (dropped cs i c there, is) refl

pub new_further : (first cs : List (List ℕ)) (i : ℕ) (c : List ℕ) → slice_get cs i ≡ Some c → place_in first c ≡ None → further first (drop i cs) ≡ suc (further first (drop (i + 1) cs))
new_further first cs i c there is = rw (dropped cs i c there, is) refl

-- the variants of a position
module _ (b : Contents) (day : ℕ) (ps : List Position) (i : ℕ) (p : Position) (variants all : List ℕ) (within : i < length ps) (read : p ≡ get_or ps i p)
    (left : variants ++ flat_map (λ (c : Choice). c.variants) (choices_from i b day (drop i ps)) ≡ all) where
  pub taken_more : (more : List ℕ) → is_within p.from p.until day ≡ true → more ≡ variants ++ active_variants b day i
      → more ++ flat_map (λ (c : Choice). c.variants) (choices_from (i + 1) b day (drop (i + 1) ps)) ≡ all
  taken_more more active pushed = rw (pushed, append_assoc) (rw (choices_taken b day ps i p within read active) at left)

  pub passed_more : is_within p.from p.until day ≡ false → variants ++ flat_map (λ (c : Choice). c.variants) (choices_from (i + 1) b day (drop (i + 1) ps)) ≡ all
  passed_more passive = rw (choices_passed b day ps i p within read passive) at left

-- active variants are variants
active_in_range : (b : Contents) (day k : ℕ) → is_active_variant b day k ≡ true → k < length b.variants
active_in_range b day k active = elim (cases_option (slice_get b.variants k)) [
  | inl none ↦ absurd (false≢true (rw none at active))
  | inr some ↦ slice_get_within b.variants k some.0 some.1
]

pub filtered_in_range : (b : Contents) (day : ℕ) (ks : List ℕ) → AllByRecursion (λ k. k < length b.variants) (filter (is_active_variant b day) ks)
filtered_in_range b day [] = tt
filtered_in_range b day (k ∷ ks) = elim (cases_Bool (is_active_variant b day k)) [
  | inl active ↦ rw active (active_in_range b day k active, filtered_in_range b day ks)
  | inr passive ↦ rw passive (filtered_in_range b day ks)
]

choices_in_range : (b : Contents) (day i : ℕ) (ps : List Position) → AllByRecursion (λ k. k < length b.variants) (flat_map (λ (c : Choice). c.variants) (choices_from i b day ps))
choices_in_range b day i [] = tt
choices_in_range b day i (p ∷ ps) =
    cond_both (is_within p.from p.until day) _ _ (λ (cs : List Choice). AllByRecursion (λ k. k < length b.variants) (flat_map (λ (c : Choice). c.variants) cs))
    (λ _. all-append _ (active_variants b day i) _ (filtered_in_range b day (variants_of i b.variants)) (choices_in_range b day (suc i) ps))
    (λ _. choices_in_range b day (suc i) ps)

pub day_variants_in_range : (b : Contents) (day : ℕ) → All (λ v. v < length b.variants) (day_variants b day)
day_variants_in_range b day = All-from_recursion (λ v. v < length b.variants) (day_variants b day) (choices_in_range b day 0 b.positions)

-- a number that was read with another in its place where there is none
pub read_zero : (xs : List ℕ) (i : ℕ) → i < length xs → get_or xs i 0 ≡ get_or xs i (get_or xs i 0)
read_zero xs i within = sym (get_or_from_slice_get xs i (get_or xs i 0) _ (slice_get-get_or xs i 0 within))

-- the literals of the usages with a key
module _ (b : Contents) (key : PartUse) (us : List Usage) (i : ℕ) (u : Usage) (lits all : List ℕ) (within : i < length us) (read : u ≡ get_or us i u)
    (left : lits ++ literals_with b (drop i us) key ≡ all) where
  pub with_more : (more : List ℕ) → is_same_use (part_use b u.variant) key ≡ true → more ≡ lits ++ u.literal ∷ [] → more ++ literals_with b (drop (i + 1) us) key ≡ all
  with_more more same pushed = let split = read_at us i u within read in rw (pushed, append_assoc) (rw (split, same) at left)

  pub with_other : is_same_use (part_use b u.variant) key ≡ false → lits ++ literals_with b (drop (i + 1) us) key ≡ all
  with_other other = let split = read_at us i u within read in rw (split, other) at left

-- the keys that are not there yet
module _ (b : Contents) (us : List Usage) (i : ℕ) (u : Usage) (k : PartUse) (keys all : List PartUse) (within : i < length us) (read : u ≡ get_or us i u) (is : k ≡ part_use b u.variant)
    (left : keys ++ new_keys keys (uses b (drop i us)) ≡ all) where
  pub key_more : (more : List PartUse) → list_any (λ p. is_same_use k p) keys ≡ false → more ≡ keys ++ k ∷ [] → more ++ new_keys more (uses b (drop (i + 1) us)) ≡ all
  key_more more new pushed = let split = read_at us i u within read in rw (pushed, append_assoc) (rw (split, ← is, new) at left)

  pub key_seen : list_any (λ p. is_same_use k p) keys ≡ true → keys ++ new_keys keys (uses b (drop (i + 1) us)) ≡ all
  key_seen seen = let split = read_at us i u within read in rw (split, ← is, seen) at left

-- a formula of which nothing is claimed
free_made : (m more : Encoder) (f : Rule) → Encodes m more (formula_clauses m.truth m.next f) (connectives f) → EncodesItem m more (free_item f)
free_made m more f made = record {
  clauses = rw append-nil made.clauses;
  next = made.next;
  truth = made.truth;
  first = made.first;
}

-- the usage of a variant of the second book
module _ (numbers : List ℕ) (b : Contents) (start m more : Encoder) (ks : List ℕ) (i k : ℕ) (f : Rule) (within : i < length ks) (read : k ≡ get_or ks i k) (rule : f ≡ renamed_usage numbers b k)
    (made : Encodes m more (formula_clauses m.truth m.next f) (connectives f)) where
  own_made : Encodes m more (formula_clauses m.truth m.next (renamed_usage numbers b k)) (connectives (renamed_usage numbers b k))
  own_made = rw rule at made

  pub usage_made : ItemsLeft start m (renamed_usage_items numbers b ks) (renamed_usage_items numbers b (drop i ks)) → ItemsLeft start more (renamed_usage_items numbers b ks) (renamed_usage_items numbers b (drop (i + 1) ks))
  usage_made left =
      item_more start m more (renamed_usage_items numbers b ks) (renamed_usage_items numbers b (drop (i + 1) ks)) (free_item (renamed_usage numbers b k))
      (let split = read_at ks i k within read in rw split at left)
      (free_made m more (renamed_usage numbers b k) own_made)

  pub usage_pushed : (us pushed all : List Usage) (l : ℕ) → m.truth ≡ start.truth → l ≡ formula_literal m.truth m.next f → pushed ≡ us ++ record { variant = k; literal = l } ∷ []
      → us ++ renamed_usages numbers b start.truth m.next (drop i ks) ≡ all → pushed ++ renamed_usages numbers b start.truth more.next (drop (i + 1) ks) ≡ all
  usage_pushed us pushed all l truth lit is left =
      let split = read_at ks i k within read in
      rw (is, own_made.next, append_assoc, lit, truth, rule) (rw split at left)
