-- A position with the same variants in both books is the same in each car that both allow.
use Rattle.std.proofs.Common.{◌≡◌, ℕ, suc, ◌+◌, ◌<◌, Bool, true, false, ◌&&◌, ◌||◌, List, [], ◌∷◌, ◌++◌, Option, Some, None, length, get_or, refl, sym, ap, subst, ◌∙◌, inl, inr, arith, All}
use Rattle.std.specs.List.{list_any, slice_get}
use Rattle.std.specs.Option.{option_map_or}
use Rattle.std.proofs.lemmas.Bool.{cases_lt, false≢true}
use Rattle.std.proofs.lemmas.List.Elements.{All-from_recursion}
use Rattle.std.proofs.lemmas.Option.{slice_get_within, get_or_from_slice_get}
use Rattle.pb_base.specs.NamedSet.{named}
use Rattle.pb_base.specs.Rule.{holds}
use Rattle.book_model.specs.Contents.{Contents}
use Rattle.book_model.specs.Parts.{is_active_position, variants_of}
use Rattle.book_model.specs.declared.record.Position.{Position}
use Rattle.clause_pool.specs.Literal.{is_true}
use Rattle.clausify.specs.Choices.{usage, active_variants}
use Rattle.clausify.specs.declared.usage.Usage.{Usage}
use Rattle.clausify.proofs.GoalLaws.{AllRight}
use Rattle.clausify.proofs.ListLaws.{all_filtered}
use Rattle.chosen_parts.specs.Chosen.{position_place, part_use, is_same_use}
use Rattle.chosen_parts.specs.declared.part_use.PartUse.{PartUse}
use Rattle.book_compare.specs.Asked.{is_variant_of, usages_in, usages_at, uses, keys_of, key_literals}
use Rattle.book_compare.specs.Common.{AreAlike}
use Rattle.book_compare.specs.JointItems.{renamed_usage, first_usages, second_usages}
use Rattle.book_compare.specs.Numbering.{numbers_of}
use Rattle.book_compare.specs.Same.{active_of, variants_on, variants_at, IsSameUsage, AreSameBelow, AreSameUsages}
use Rattle.book_compare.specs.Comparing.{AreBooks}
use Rattle.book_compare.proofs.ChoiceLaws.{none_differs}
use Rattle.book_compare.proofs.JointLaws.{first_right, second_right, same_truth}
use Rattle.book_compare.proofs.NoteLaws.{alike_over}
use Rattle.book_compare.proofs.NumberLaws.{cases_option}
use Rattle.book_compare.proofs.StepRuns.{filtered_in_range}
use Rattle.book_compare.proofs.UsageLaws.{true_with, variants_by_id, first_variants, renamed_variants}

pub same_more : (numbers : List ℕ) (first : Contents) (us : List ℕ) (second : Contents) (ws : List ℕ) (i : ℕ) → AreSameBelow numbers first us second ws i
    → ((u w : ℕ) → slice_get us i ≡ Some u → slice_get ws i ≡ Some w → IsSameUsage numbers first second u w) → AreSameBelow numbers first us second ws (i + 1)
same_more numbers first us second ws i before here k u w within own other = elim (cases_lt k i) [
  | inl low ↦ before k u w low own other
  | inr high ↦
      let at : k ≡ i = omega (arith, within, high) in
      here u w (sym (ap (slice_get us) at) ∙ own) (sym (ap (slice_get ws) at) ∙ other)
]

read_is : {X : Type 0} (xs : List X) (i : ℕ) (x y : X) → i < length xs → x ≡ get_or xs i x → slice_get xs i ≡ Some y → x ≡ y
read_is xs i x y within read there =
    read ∙ get_or_from_slice_get xs i y x there

pub same_step : (numbers : List ℕ) (first : Contents) (us : List ℕ) (second : Contents) (ws : List ℕ) (i u w : ℕ) → i < length us → i < length ws → u ≡ get_or us i u → w ≡ get_or ws i w
    → AreSameBelow numbers first us second ws i → IsSameUsage numbers first second u w → AreSameBelow numbers first us second ws (i + 1)
same_step numbers first us second ws i u w within inside one other before here =
    same_more numbers first us second ws i before (λ v t there found.
    subst (λ (s : ℕ). IsSameUsage numbers first second s t) (read_is us i u v within one there)
    (subst (λ (s : ℕ). IsSameUsage numbers first second u s) (read_is ws i w t inside other found) here))

-- what is chosen by key, over variants one by one the same
same_any : (numbers : List ℕ) (first second : Contents) (x y : List Bool) (key : PartUse)
    → ((u w : ℕ) → usage first u ≡ renamed_usage numbers second w → holds (usage first u) x ≡ holds (usage second w) y)
    → (us ws : List ℕ) → length us ≡ length ws → ((k u w : ℕ) → slice_get us k ≡ Some u → slice_get ws k ≡ Some w → IsSameUsage numbers first second u w)
    → list_any (λ k. is_same_use (part_use first k) key && holds (usage first k) x) us ≡ list_any (λ k. is_same_use (part_use second k) key && holds (usage second k) y) ws
same_any numbers first second x y key truth [] [] count each = refl
same_any numbers first second x y key truth [] (w ∷ ws) count each = absurd (omega (arith, count))
same_any numbers first second x y key truth (u ∷ us) [] count each = absurd (omega (arith, count))
same_any numbers first second x y key truth (u ∷ us) (w ∷ ws) count each =
    let here : IsSameUsage numbers first second u w = each 0 u w refl refl in
    rw (here.part, truth u w here.rule, same_any numbers first second x y key truth us ws (omega (arith, count)) (λ k v t own other. each (suc k) v t own other)) refl

-- the literals of a position's usages are the truth of theirs
right_at : (b : Contents) (id : List ℕ) (x : List Bool) (a : ℕ → Bool) (us : List Usage) → AllRight b x a us → AllRight b x a (usages_at b id us)
right_at b id x a us right = elim (cases_option (position_place b id)) [
  | inl none ↦ rw none tt
  | inr some ↦ rw some.1 (all_filtered (λ u. is_true a u.literal ≡ holds (usage b u.variant) x) (λ u. is_variant_of b some.0 u.variant) us right)
]

module _ (first second : Contents) (day : ℕ) (id : List ℕ) (books : AreBooks first second day)
    (same : AreSameUsages (numbers_of first.codes second.codes) first (variants_at first day id) second (variants_at second day id)) where
  abbrev us : List Usage
  us = usages_at first id (first_usages first second day)

  abbrev ws : List Usage
  ws = usages_at second id (second_usages first second day)

  pub alike_when_same : AreAlike first second day id
  alike_when_same names common =
      alike_over first second day books names common id (λ a begins sat.
      none_differs a (key_literals first us second ws) (keys_of (uses first us) (uses second ws)) (λ key.
      true_with first (named first.codes names) a key us (right_at first id (named first.codes names) a (first_usages first second day) (first_right first second day books.one.book books.other.book names a common.in_first begins sat))
      ∙ ap (list_any (λ k. is_same_use (part_use first k) key && holds (usage first k) (named first.codes names))) (variants_by_id first day id (first_usages first second day) (first_variants first day (length first.codes) _))
      ∙ same_any (numbers_of first.codes second.codes) first second (named first.codes names) (named second.codes names) key
      (same_truth first second day books.one.book books.other.book names common.in_first) (variants_at first day id) (variants_at second day id) same.count
      (λ k u w own other. same.each k u w (slice_get_within (variants_at first day id) k u own) own other)
      ∙ sym (ap (list_any (λ k. is_same_use (part_use second k) key && holds (usage second k) (named second.codes names))) (variants_by_id second day id (second_usages first second day) (renamed_variants _ second (length first.codes) _ _)))
      ∙ sym (true_with second (named second.codes names) a key ws (right_at second id (named second.codes names) a (second_usages first second day) (second_right first second day books.one.book books.other.book names a common.in_first begins sat)))))

-- the same of what a body has
pub alike_when : (first second : Contents) (day : ℕ) (id : List ℕ) (numbers own other : List ℕ) → AreBooks first second day → numbers ≡ numbers_of first.codes second.codes
    → own ≡ variants_at first day id → other ≡ variants_at second day id → AreSameUsages numbers first own second other → AreAlike first second day id
alike_when first second day id numbers own other books are own_is other_is same =
    alike_when_same first second day id books (rw (are, own_is, other_is) at same)

-- the active variants of a position, by what is found
pub at_place : (b : Contents) (day : ℕ) (id : List ℕ) (place : ℕ) → position_place b id ≡ Some place → variants_at b day id ≡ variants_on b day place
at_place b day id place is = ap (λ o. option_map_or (variants_on b day) o []) is

pub at_none : (b : Contents) (day : ℕ) (id : List ℕ) → position_place b id ≡ None → variants_at b day id ≡ []
at_none b day id is = ap (λ o. option_map_or (variants_on b day) o []) is

pub on_active : (b : Contents) (day place : ℕ) → option_map_or (is_active_position day) (slice_get b.positions place) false ≡ true → variants_on b day place ≡ active_variants b day place
on_active b day place active = elim (cases_option (slice_get b.positions place)) [
  | inl none ↦ absurd (false≢true (rw none at active))
  | inr some ↦ rw (some.1, (rw some.1 at active)) refl
]

pub on_passive : (b : Contents) (day place : ℕ) → option_map_or (is_active_position day) (slice_get b.positions place) false ≡ false → variants_on b day place ≡ []
on_passive b day place passive = elim (cases_option (slice_get b.positions place)) [
  | inl none ↦ rw none refl
  | inr some ↦ rw (some.1, (rw some.1 at passive)) refl
]

pub active_within : (b : Contents) (day place : ℕ) → All (λ v. v < length b.variants) (active_variants b day place)
active_within b day place = All-from_recursion (λ v. v < length b.variants) (active_variants b day place) (filtered_in_range b day (variants_of place b.variants))
