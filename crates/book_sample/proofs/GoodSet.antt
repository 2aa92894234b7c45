-- A good set of the generated book: of each group its first code, or its second where a rule binds the first.
use Rattle.std.proofs.Common.{◌≡◌, ◌==◌, ℕ, zero, suc, ◌+◌, ◌*◌, ◌<◌, Bool, true, false, not, ◌&&◌, ◌||◌, List, [], ◌∷◌, ◌++◌, Option, None, Some, length, get_or, drop, refl, sym, ap, ◌∙◌, arith}
use Rattle.std.specs.Prelude.{IfSome}
use Rattle.std.specs.List.{list_any}
use Rattle.std.proofs.lemmas.Bool.{eq-eqb}
use Rattle.std.proofs.lemmas.List.{get_or-drop, drop-drop}
use Rattle.pb_base.specs.Sets.{has}
use Rattle.book_model.specs.Activity.{is_within}
use Rattle.book_model.specs.Good.{breaks, fires, is_good}
use Rattle.book_model.specs.declared.record.Construct.{Construct}
use Rattle.book_sample.specs.Names.{names, place}
use Rattle.book_sample.specs.Fits.{BoundFits, GroupsFit}
use Rattle.book_sample.specs.declared.group.Bound.{Bound}
use Rattle.book_sample.specs.declared.group.Group.{Group}
use Rattle.book_sample.proofs.ByKind.{supplements, bound_rules, constructs, sample_contents}
use Rattle.book_sample.proofs.Fitting.{Counts, length-names}

-- whether the first code of the group is bound
abbrev first_bound : Option Bound → Bool
first_bound None = false
first_bound (Some b) = b.code == 0

abbrev pub good_set : List Group → List Bool
good_set [] = []
good_set (g ∷ gs) = not (first_bound g.bound) ∷ first_bound g.bound ∷ false ∷ false ∷ good_set gs

length-good_set : (gs : List Group) → length (good_set gs) ≡ 4 * length gs
length-good_set [] = refl
length-good_set (g ∷ gs) = omega (arith, length-good_set gs)

-- tests on the codes of a group, of which p tells whether the first is bound
quiet : (w p adds : Bool) → ((w && (((not (not p) && not p) && not false) && not false)) && not adds) ≡ false
quiet true true adds = refl
quiet true false adds = refl
quiet false p adds = refl

some_there : (w p : Bool) → (w && not (((not p || p) || false) || false)) ≡ false
some_there true true = refl
some_there true false = refl
some_there false p = refl

first_alone : (w p : Bool) → (w && not (not (not p) || not ((p || false) || false))) ≡ false
first_alone true true = refl
first_alone true false = refl
first_alone false p = refl

second_alone : (w p : Bool) → (w && not (not p || not ((not p || false) || false))) ≡ false
second_alone true true = refl
second_alone true false = refl
second_alone false p = refl

not_there : (w others : Bool) → (w && not (not false || others)) ≡ false
not_there true others = refl
not_there false others = refl

absent_at : (c : ℕ) (rest : List Bool) → c < 4 → get_or (not (c == 0) ∷ (c == 0) ∷ false ∷ false ∷ rest) c false ≡ false
absent_at zero rest few = refl
absent_at (suc zero) rest few = refl
absent_at (suc (suc zero)) rest few = refl
absent_at (suc (suc (suc zero))) rest few = refl
absent_at (suc (suc (suc (suc c)))) rest few = absurd (omega arith)

module _ (day : ℕ) (x : List Bool) where
  -- what the set has from a group on
  abbrev IsLeft : ℕ → List Bool → Type 0
  IsLeft j left = drop (4 * j) x ≡ left

  has_at : (j e : ℕ) (left : List Bool) → IsLeft j left → has x (place j e) ≡ get_or left e false
  has_at j e left h = sym (get_or-drop (4 * j) x e false) ∙ ap (λ l. get_or l e false) h

  left_behind : (j : ℕ) (a b c d : Bool) (left : List Bool) → IsLeft j (a ∷ b ∷ c ∷ d ∷ left) → IsLeft (suc j) left
  left_behind j a b c d left h =
      let there : 4 * suc j ≡ 4 * j + 4 = omega arith in
      ap (λ k. drop k x) there ∙ sym (drop-drop 4 (4 * j) x) ∙ ap (drop 4) h

  none_fire : (j : ℕ) (gs : List Group) → IsLeft j (good_set gs) → list_any (fires day x) (supplements j gs) ≡ false
  none_fire j [] h = refl
  none_fire j (g ∷ gs) h =
      rw (
        has_at j 0 (good_set (g ∷ gs)) h,
        has_at j 1 (good_set (g ∷ gs)) h,
        has_at j 2 (good_set (g ∷ gs)) h,
        has_at j 3 (good_set (g ∷ gs)) h,
        quiet (is_within 1 1000 day) (first_bound g.bound) (has x (place j g.adds)),
      )
      (none_fire (suc j) gs (left_behind j _ _ _ _ (good_set gs) h))

  bound_kept : (j : ℕ) (o : Option Bound) (left : List Bool) (rest : List Construct) → IfSome o (BoundFits j)
      → IsLeft j (not (first_bound o) ∷ first_bound o ∷ false ∷ false ∷ left) → list_any (breaks day x) rest ≡ false → list_any (breaks day x) (bound_rules j o ++ rest) ≡ false
  bound_kept j None left rest fit h kept = kept
  bound_kept j (Some b) left rest fit h kept =
      rw (
        has_at j b.code (not (b.code == 0) ∷ (b.code == 0) ∷ false ∷ false ∷ left) h ∙ absent_at b.code left fit.code,
        not_there (is_within 1 1000 day) (not (has x (place b.group b.forbids))),
      ) kept

  none_break : (j : ℕ) (gs : List Group) → GroupsFit j gs → IsLeft j (good_set gs) → list_any (breaks day x) (constructs j gs) ≡ false
  none_break j [] fit h = refl
  none_break j (g ∷ gs) (fit, later) h =
      let p = first_bound g.bound in
      rw (
        has_at j 0 (good_set (g ∷ gs)) h,
        has_at j 1 (good_set (g ∷ gs)) h,
        has_at j 2 (good_set (g ∷ gs)) h,
        has_at j 3 (good_set (g ∷ gs)) h,
        some_there (is_within 1 1000 day) p,
        first_alone (is_within 1 1000 day) p,
        second_alone (is_within 1 1000 day) p,
        not_there (is_within 1 1000 day) (not ((not p || p) || false)),
      )
      (bound_kept j g.bound (good_set gs) (constructs (suc j) gs) fit.bound h (none_break (suc j) gs later (left_behind j _ _ _ _ (good_set gs) h)))

pub set_is_good : (n day : ℕ) (gs : List Group) → Counts n gs → GroupsFit 0 gs → is_good (sample_contents n gs) day (good_set gs) ≡ true
set_is_good n day gs c fit =
    let long : (length (good_set gs) == length (names 75 n 0)) ≡ true = eq-eqb (length (good_set gs)) (length (names 75 n 0)) (omega (arith, length-good_set gs, length-names 75 n 0, c.codes)) in
    rw (none_fire day (good_set gs) 0 gs refl, none_break day (good_set gs) 0 gs fit refl, long) refl
