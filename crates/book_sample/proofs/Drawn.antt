-- What is drawn is in its range, and a loop that draws comes one group further with each step.
use Rattle.std.proofs.Common.{◌≡◌, ◌==◌, ℕ, zero, suc, ◌+◌, ◌-◌, ◌*◌, ◌%◌, ◌<◌, ◌≤◌, Bool, true, false, List, [], ◌∷◌, ◌++◌, Some, None, length, refl, ap, sym, ◌∙◌, append_assoc, arith, if◌then◌else◌}
use Rattle.std.specs.Prelude.{IfSome}
use Rattle.std.proofs.lemmas.Bool.{eqb-true, eqb-false, lt-ltb, le-ltb}
use Rattle.std.proofs.lemmas.List.{append-nil}
use Rattle.book_sample.specs.Draws.{stepped, drawn}
use Rattle.book_sample.specs.Names.{code_name, place}
use Rattle.book_sample.specs.Groups.{bound_at, choice_at, before_choice, group_at, behind_group, groups, behind_groups}
use Rattle.book_sample.specs.Fits.{BoundFits, ChoiceFits, GroupFits, GroupsFit}
use Rattle.book_sample.specs.Lines.{code_line, codes_text, group_text, groups_text}
use Rattle.book_sample.specs.Orders.{picks, behind_picks}

pub drawn-below : (x k : ℕ) → 0 < k → drawn x k < k
unfolding drawn
drawn-below x k some = omega arith

-- what holds of a value where a test is true holds of the value that the test lets through
if_some : {A : Type 0} (P : A → Type 0) (b : Bool) (a : A) → (b ≡ true → P a) → IfSome (if b then Some a else None) P
if_some P true a h = h refl
if_some P false a h = tt

if_none : {A : Type 0} (P : A → Type 0) (b : Bool) (a : A) → (b ≡ false → P a) → IfSome (if b then None else Some a) P
if_none P true a h = tt
if_none P false a h = h refl

bound_fits : (j x : ℕ) → IfSome (bound_at j x) (BoundFits j)
unfolding bound_at
bound_fits j x =
    if_some (BoundFits j) (j % 16 == 15)
    (record { code = drawn (stepped x) 4; group = drawn (stepped (stepped x)) j; forbids = drawn (stepped (stepped (stepped x))) 4 })
    (λ h. let at = eqb-true (j % 16) 15 h in record {
      code = drawn-below (stepped x) 4 (omega arith);
      group = drawn-below (stepped (stepped x)) j (omega arith);
      forbids = drawn-below (stepped (stepped (stepped x))) 4 (omega arith);
    })

choice_fits : (j x : ℕ) → ChoiceFits j (choice_at j x)
unfolding choice_at
choice_fits j x = record {
  some = omega arith;
  few = omega (arith, drawn-below (stepped x) 9 (omega arith));
  other = if_none (λ place. place < 4 * j) (j == 0) (drawn (stepped (stepped x)) (4 * j)) (λ h.
      let later = eqb-false j 0 h in drawn-below (stepped (stepped x)) (4 * j) (omega arith));
}

pub group_fits : (j x : ℕ) → GroupFits j (group_at j x)
group_fits j x = record {
  adds = drawn-below (stepped x) 4 (omega arith);
  rank = drawn-below (stepped (stepped x)) 100 (omega arith);
  bound = bound_fits j (stepped (stepped x));
  first = choice_fits j (before_choice j 0 x);
  second = choice_fits j (before_choice j 1 x);
  third = choice_fits j (before_choice j 2 x);
  fourth = choice_fits j (before_choice j 3 x);
}

pub groups_fit : (n j x : ℕ) → GroupsFit j (groups n j x)
groups_fit zero j x = tt
groups_fit (suc n) j x = (group_fits j x, groups_fit n (suc j) (behind_group j x))

pub length-groups : (n j x : ℕ) → length (groups n j x) ≡ n
length-groups zero j x = refl
length-groups (suc n) j x = omega (arith, length-groups n (suc j) (behind_group j x))

-- ---- steps of loops

one_less : (n j : ℕ) → j < n → n - j ≡ suc (n - (j + 1))
one_less n j below = omega arith

next_is : (j : ℕ) → suc j ≡ j + 1
next_is j = omega arith

pub behind_more : (n j x : ℕ) → j < n → behind_groups (n - (j + 1)) (j + 1) (behind_group j x) ≡ behind_groups (n - j) j x
behind_more n j x below = rw (one_less n j below) (ap (λ k. behind_groups (n - (j + 1)) k (behind_group j x)) (sym (next_is j)))

pub codes_more : (n j : ℕ) (text : List ℕ) → j < n → (text ++ code_line j) ++ codes_text (n - (j + 1)) (j + 1) ≡ text ++ codes_text (n - j) j
unfolding codes_text
codes_more n j text below = append_assoc text (code_line j) (codes_text (n - (j + 1)) (j + 1)) ∙ rw (one_less n j below, next_is j) refl

pub codes_end : (n j : ℕ) (text : List ℕ) → n ≤ j → text ++ codes_text (n - j) j ≡ text
unfolding codes_text
codes_end n j text past = let none : n - j ≡ 0 = omega arith in rw none (append-nil text)

pub groups_more : (n j x : ℕ) (text : List ℕ) → j < n
    → (text ++ group_text j (group_at j x)) ++ groups_text (j + 1) (groups (n - (j + 1)) (j + 1) (behind_group j x)) ≡ text ++ groups_text j (groups (n - j) j x)
unfolding groups_text
groups_more n j x text below =
    append_assoc text (group_text j (group_at j x)) (groups_text (j + 1) (groups (n - (j + 1)) (j + 1) (behind_group j x)))
    ∙ rw (one_less n j below, next_is j) refl

pub groups_end : (n j x : ℕ) (text : List ℕ) → n ≤ j → text ++ groups_text j (groups (n - j) j x) ≡ text
unfolding groups_text
groups_end n j x text past = let none : n - j ≡ 0 = omega arith in rw none (append-nil text)

pub picks_taken : (n j x : ℕ) (codes : List (List ℕ)) → j < n → drawn (stepped x) 5 < 4
    → (codes ++ code_name (place j (drawn (stepped x) 5)) ∷ []) ++ picks (n - (j + 1)) (j + 1) (stepped x) ≡ codes ++ picks (n - j) j x
unfolding picks
picks_taken n j x codes below one =
    append_assoc codes (code_name (place j (drawn (stepped x) 5)) ∷ []) (picks (n - (j + 1)) (j + 1) (stepped x))
    ∙ rw (one_less n j below, lt-ltb (drawn (stepped x) 5) 4 one, next_is j) refl

pub picks_passed : (n j x : ℕ) (codes : List (List ℕ)) → j < n → 4 ≤ drawn (stepped x) 5
    → codes ++ picks (n - (j + 1)) (j + 1) (stepped x) ≡ codes ++ picks (n - j) j x
unfolding picks
picks_passed n j x codes below none = rw (one_less n j below, le-ltb (drawn (stepped x) 5) 4 none, next_is j) refl

pub picks_end : (n j x : ℕ) (codes : List (List ℕ)) → n ≤ j → codes ++ picks (n - j) j x ≡ codes
unfolding picks
picks_end n j x codes past = let none : n - j ≡ 0 = omega arith in rw none (append-nil codes)

pub behind_picks_more : (n j x : ℕ) → j < n → behind_picks (n - (j + 1)) (stepped x) ≡ behind_picks (n - j) x
unfolding behind_picks
behind_picks_more n j x below = rw (one_less n j below) refl

pub behind_picks_end : (n j x : ℕ) → n ≤ j → behind_picks (n - j) x ≡ x
unfolding behind_picks
behind_picks_end n j x past = let none : n - j ≡ 0 = omega arith in rw none refl
