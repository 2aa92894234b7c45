-- What is noted of cars: nothing at first, and then what each of them shows.
use Rattle.std.proofs.Common.{◌≡◌, ◌⊎◌, inl, inr, ℕ, ◌+◌, ◌<◌, Bool, true, false, List, length, slice_set, replicate, cond, sym, ap, subst, ◌∙◌, arith}
use Rattle.std.proofs.lemmas.Bool.{cases_eq, cases_lt, false≢true}
use Rattle.std.proofs.lemmas.List.{get_or-set_same, get_or-set_other, get_or-replicate, get_or_past, length-set, length-replicate}
use Rattle.pb_base.specs.Sets.{has, none_of}
use Rattle.book_model.specs.Contents.{Contents}
use Rattle.left_cars.specs.Left.{IsShown}
use Rattle.left_cars.specs.Seen.{IsSeen, SeenAt}
use Rattle.left_cars.specs.declared.seen.Seen.{Seen}

-- the set of no codes has none
has-none_of : (n place : ℕ) → has (none_of n) place ≡ false
has-none_of n place =
    elim (cases_lt place n) [
      | inl below ↦ get_or-replicate n place false false below
      | inr above ↦ get_or_past (replicate n false) place false (let e : length (replicate n false) ≡ n = length-replicate n false in omega arith)
    ]

pub none_seen_first : (b : Contents) (day : ℕ) (chosen : List ℕ) (seen : Seen) (n : ℕ) → n ≡ length b.codes → seen.with_it ≡ none_of n → seen.without ≡ none_of n → IsSeen b day chosen seen
none_seen_first b day chosen seen n counted with_none without_none = record {
  with_counted = ap length with_none ∙ length-replicate n false ∙ counted;
  without_counted = ap length without_none ∙ length-replicate n false ∙ counted;
  with_shown = λ place is_in. absurd (false≢true (sym (has-none_of n place) ∙ ap (λ (y : List Bool). has y place) (sym with_none) ∙ is_in));
  without_shown = λ place is_in. absurd (false≢true (sym (has-none_of n place) ∙ ap (λ (y : List Bool). has y place) (sym without_none) ∙ is_in));
}

-- a set with one more code
has_more : (y : List Bool) (place p : ℕ) → place < length y → has (slice_set y place true) p ≡ true → (has y p ≡ true) ⊎ (p ≡ place)
has_more y place p within h =
    elim (cases_eq p place) [
      | inl same ↦ inr same
      | inr other ↦ inl (sym (get_or-set_other y place p true false other) ∙ h)
    ]

has_then : (y : List Bool) (place p : ℕ) → place < length y → has y p ≡ true → has (slice_set y place true) p ≡ true
has_then y place p within h =
    elim (cases_eq p place) [
      | inl same ↦ ap (has (slice_set y place true)) same ∙ get_or-set_same y place true false within
      | inr other ↦ get_or-set_other y place p true false other ∙ h
    ]

-- one car more shows one value of a code
pub record IsNoted (b : Contents) (day : ℕ) (chosen : List ℕ) (old new : Seen) (place : ℕ) : Type 0 where
  pub seen : IsSeen b day chosen new
  pub kept : (p : ℕ) → SeenAt old p → SeenAt new p
  pub here : SeenAt new place

pub noted : (b : Contents) (day : ℕ) (chosen : List ℕ) (old new : Seen) (place : ℕ) (value : Bool) → IsSeen b day chosen old → place < length b.codes → IsShown b day chosen place value
    → new.with_it ≡ cond value (slice_set old.with_it place true) old.with_it → new.without ≡ cond value old.without (slice_set old.without place true)
    → IsNoted b day chosen old new place
noted b day chosen old new place true h within shown with_is without_is =
    let low : place < length old.with_it = omega (arith, h.with_counted) in
    record {
      seen = record {
        with_counted = ap length with_is ∙ length-set old.with_it place true ∙ h.with_counted;
        without_counted = ap length without_is ∙ h.without_counted;
        with_shown = λ p is_in.
            elim (has_more old.with_it place p low (ap (λ (y : List Bool). has y p) (sym with_is) ∙ is_in)) [
              | inl before ↦ h.with_shown p before
              | inr same ↦ subst (λ (k : ℕ). IsShown b day chosen k true) (sym same) shown
            ];
        without_shown = λ p is_in. h.without_shown p (ap (λ (y : List Bool). has y p) (sym without_is) ∙ is_in);
      };
      kept = λ p at.
          elim at [
            | inl has_it ↦ inl (ap (λ (y : List Bool). has y p) with_is ∙ has_then old.with_it place p low has_it)
            | inr lacks ↦ inr (ap (λ (y : List Bool). has y p) without_is ∙ lacks)
          ];
      here = inl (ap (λ (y : List Bool). has y place) with_is ∙ get_or-set_same old.with_it place true false low);
    }
noted b day chosen old new place false h within shown with_is without_is =
    let low : place < length old.without = omega (arith, h.without_counted) in
    record {
      seen = record {
        with_counted = ap length with_is ∙ h.with_counted;
        without_counted = ap length without_is ∙ length-set old.without place true ∙ h.without_counted;
        with_shown = λ p is_in. h.with_shown p (ap (λ (y : List Bool). has y p) (sym with_is) ∙ is_in);
        without_shown = λ p is_in.
            elim (has_more old.without place p low (ap (λ (y : List Bool). has y p) (sym without_is) ∙ is_in)) [
              | inl before ↦ h.without_shown p before
              | inr same ↦ subst (λ (k : ℕ). IsShown b day chosen k false) (sym same) shown
            ];
      };
      kept = λ p at.
          elim at [
            | inl has_it ↦ inl (ap (λ (y : List Bool). has y p) with_is ∙ has_it)
            | inr lacks ↦ inr (ap (λ (y : List Bool). has y p) without_is ∙ has_then old.without place p low lacks)
          ];
      here = inr (ap (λ (y : List Bool). has y place) without_is ∙ get_or-set_same old.without place true false low);
    }

-- of the codes up to this one
pub noted_upto : (b : Contents) (day : ℕ) (chosen : List ℕ) (old new : Seen) (place : ℕ) → IsNoted b day chosen old new place
    → ((p : ℕ) → p < place → SeenAt old p) → (p : ℕ) → p < place + 1 → SeenAt new p
noted_upto b day chosen old new place h upto p low =
    elim (cases_lt p place) [
      | inl below ↦ h.kept p (upto p below)
      | inr above ↦ subst (SeenAt new) (let e : place ≡ p = omega arith in e) h.here
    ]
