-- The codes of a group as they are taken one by one.
use Rattle.std.proofs.Common.{◌≡◌, ◌<◌, ◌≤◌, ◌+◌, ◌++◌, ℕ, Bool, true, false, ◌&&◌, List, [], ◌∷◌, length, map, drop, get_or, Bor, refl, sym, ap, ◌∙◌, arith, ◌||◌, nat_le}
use Rattle.std.specs.List.{list_any}
use Rattle.std.proofs.lemmas.List.{drop_more, drop_all, map_push}
use Rattle.pb_base.specs.declared.limits.TheConstants.{LEAST_GROUP_CODES, MOST_GROUP_CODES}
use Rattle.book_text.specs.Group.{may_follow, are_codes_behind, are_group}

-- a test of what references point to
pub any-now : (test : List ℕ → Bool) (names : List (Bor (List ℕ))) → list_any (λ n. test n.now) names ≡ list_any test (map (λ n. n.now) names)
any-now test [] = refl
any-now test (n ∷ names) = ap (λ b. test n.now || b) (any-now test names)

-- the names from a place on, behind those before it
module _ (seen : List (Bor (List ℕ))) (all : List (List ℕ)) (name : Bor (List ℕ)) where
  abbrev before : List (List ℕ)
  before = map (λ n. n.now) seen

  here : length seen < length all → name.now ≡ get_or all (length seen) name.now → drop (length seen) all ≡ name.now ∷ drop (length seen + 1) all
  here within is = drop_more all (length seen) name.now within ∙ ap (λ (n : List ℕ). n ∷ drop (length seen + 1) all) (sym is)

  pub codes-more : length seen < length all → name.now ≡ get_or all (length seen) name.now → may_follow before name.now ≡ true
      → are_codes_behind before (drop (length seen) all) ≡ are_codes_behind (map (λ n. n.now) (seen ++ name ∷ [])) (drop (length seen + 1) all)
  codes-more within is may = rw (here within is, may, map_push (λ (n : Bor (List ℕ)). n.now) seen name) refl

  pub codes-wrong : length seen < length all → name.now ≡ get_or all (length seen) name.now → may_follow before name.now ≡ false → are_codes_behind before (drop (length seen) all) ≡ false
  codes-wrong within is may = rw (here within is, may) refl

pub are_codes-end : (before all : List (List ℕ)) (k : ℕ) → length all ≤ k → are_codes_behind before (drop k all) ≡ true
are_codes-end before all k past = rw (drop_all k all past) refl

no-group : (least most : Bool) → (least && most && false) ≡ false
no-group true true = refl
no-group true false = refl
no-group false most = refl

too-many : (least : Bool) (codes : Bool) → (least && false && codes) ≡ false
too-many true codes = refl
too-many false codes = refl

pub group-of_wrong : (names : List (List ℕ)) → are_codes_behind [] names ≡ false → are_group names ≡ false
group-of_wrong names wrong = rw wrong (no-group (nat_le LEAST_GROUP_CODES (length names)) (nat_le (length names) MOST_GROUP_CODES))

pub group-of_many : (names : List (List ℕ)) → MOST_GROUP_CODES < length names → are_group names ≡ false
group-of_many names many =
    let past : nat_le (length names) MOST_GROUP_CODES ≡ false = grind arith in
    rw past (too-many (nat_le LEAST_GROUP_CODES (length names)) (are_codes_behind [] names))

true-last : (least : Bool) → (least && true && true) ≡ least
true-last true = refl
true-last false = refl

pub group-of_all : (names : List (List ℕ)) → length names ≤ MOST_GROUP_CODES → are_codes_behind [] names ≡ true → are_group names ≡ nat_le LEAST_GROUP_CODES (length names)
group-of_all names few codes =
    let within : nat_le (length names) MOST_GROUP_CODES ≡ true = grind arith in
    rw (within, codes) (true-last (nat_le LEAST_GROUP_CODES (length names)))
