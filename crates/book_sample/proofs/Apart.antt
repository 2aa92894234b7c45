-- The names of the generated book are names, and no two records of a kind have the same.
use Rattle.std.proofs.Common.{◌≡◌, ℕ, zero, suc, ◌+◌, ◌*◌, ◌/◌, ◌%◌, ◌<◌, ◌≤◌, true, false, List, [], ◌∷◌, ◌++◌, Option, None, Some, length, refl, arith}
use Rattle.std.specs.Prelude.{nat_eq}
use Rattle.std.specs.List.{IsDistinct, AllByRecursion, list_all}
use Rattle.std.specs.Cmp.Lexicographic.{bytes_decides}
use Rattle.std.proofs.lemmas.Bool.{false_from_ne_true}
use Rattle.std.proofs.lemmas.Bool.Decides.{nat_tests}
use Rattle.pb_base.specs.Names.{is_name, is_code_name, is_part, is_name_byte, same_name}
use Rattle.book_text.proofs.DistinctLemmas.{IsAbsent, absent-append}
use Rattle.book_sample.specs.Names.{name, names, place}
use Rattle.book_sample.specs.declared.group.Bound.{Bound}
use Rattle.book_sample.specs.declared.group.Group.{Group}
use Rattle.book_sample.proofs.ByKind.{supplement_ids, bound_ids, rule_ids, position_ids, variant_ids}

digit_is : (d : ℕ) → d < 10 → is_name_byte (48 + d) ≡ true
digit_is d small = grind (arith, nat_tests)

last_digit : (n : ℕ) → is_name_byte (48 + n % 10) ≡ true
last_digit n = digit_is (n % 10) (omega arith)

-- the bytes of a name
name_bytes : (letter i : ℕ) → is_name_byte letter ≡ true → list_all is_name_byte (name letter i) ≡ true
name_bytes letter i h = rw (h, last_digit (i / 1000), last_digit (i / 100), last_digit (i / 10), last_digit i) refl

pub name_is : (letter i : ℕ) → is_name_byte letter ≡ true → is_name (name letter i) ≡ true
name_is letter i h = name_bytes letter i h

pub part_is : (letter i : ℕ) → is_name_byte letter ≡ true → is_part (name letter i) ≡ true
part_is letter i h = name_bytes letter i h

pub code_name_is : (i : ℕ) → is_code_name (name 75 i) ≡ true
code_name_is i = rw (name_is 75 i refl) refl

-- names with other letters or numbers are others
same_number : (letter other i j : ℕ) → i < 10000 → j < 10000 → name letter i ≡ name other j → (letter ≡ other) × (i ≡ j)
same_number letter other i j in_i in_j e =
    let first : letter ≡ other = cc in
    let a : 48 + i / 1000 % 10 ≡ 48 + j / 1000 % 10 = cc in
    let b : 48 + i / 100 % 10 ≡ 48 + j / 100 % 10 = cc in
    let c : 48 + i / 10 % 10 ≡ 48 + j / 10 % 10 = cc in
    let d : 48 + i % 10 ≡ 48 + j % 10 = cc in
    (first, omega arith)

pub name_apart : (letter other i j : ℕ) → i < 10000 → j < 10000 → (letter ≡ other → i ≡ j → ⊥) → same_name (name letter i) (name other j) ≡ false
name_apart letter other i j in_i in_j apart =
    false_from_ne_true (same_name (name letter i) (name other j)) (λ same.
    let both = same_number letter other i j in_i in_j ((bytes_decides (name letter i) (name other j)).0 same) in
    apart both.0 both.1)

-- ---- names in order

module _ (letter : ℕ) where
  absent_names : (n i j : ℕ) → i < j → j + n ≤ 10000 → IsAbsent (name letter i) (names letter n j)
  absent_names zero i j below room = tt
  absent_names (suc n) i j below room =
      (name_apart letter letter i j (omega arith) (omega arith) (λ _ same. omega arith), absent_names n i (suc j) (omega arith) (omega arith))

  pub names_distinct : (n j : ℕ) → j + n ≤ 10000 → IsDistinct same_name (names letter n j)
  unfolding IsDistinct
  names_distinct zero j room = tt
  names_distinct (suc n) j room = (absent_names n j (suc j) (omega arith) (omega arith), names_distinct n (suc j) (omega arith))

-- ---- the names of each kind; the groups have numbers from j on, with at most 1,000 of them

abbrev HasRoom : ℕ → List Group → Type 0
HasRoom j gs = 4 * (j + length gs) ≤ 10000

apart_letters : (letter other i j : ℕ) → i < 10000 → j < 10000 → nat_eq letter other ≡ false → same_name (name letter i) (name other j) ≡ false
apart_letters letter other i j in_i in_j differ = name_apart letter other i j in_i in_j (λ same _. grind (arith, nat_tests))

absent_supplements : (i j : ℕ) (gs : List Group) → i < j → HasRoom j gs → IsAbsent (name 83 i) (supplement_ids j gs)
absent_supplements i j [] below room = tt
absent_supplements i j (g ∷ gs) below room =
    (name_apart 83 83 i j (omega arith) (omega arith) (λ _ same. omega arith), absent_supplements i (suc j) gs (omega arith) (omega arith))

supplements_distinct : (j : ℕ) (gs : List Group) → HasRoom j gs → IsDistinct same_name (supplement_ids j gs)
unfolding IsDistinct
supplements_distinct j [] room = tt
supplements_distinct j (g ∷ gs) room = (absent_supplements j (suc j) gs (omega arith) (omega arith), supplements_distinct (suc j) gs (omega arith))

absent_positions : (i j : ℕ) (gs : List Group) → i < j → HasRoom j gs → IsAbsent (name 80 i) (position_ids j gs)
absent_positions i j [] below room = tt
absent_positions i j (g ∷ gs) below room =
    (name_apart 80 80 i j (omega arith) (omega arith) (λ _ same. omega arith), absent_positions i (suc j) gs (omega arith) (omega arith))

pub positions_distinct : (j : ℕ) (gs : List Group) → HasRoom j gs → IsDistinct same_name (position_ids j gs)
unfolding IsDistinct
positions_distinct j [] room = tt
positions_distinct j (g ∷ gs) room = (absent_positions j (suc j) gs (omega arith) (omega arith), positions_distinct (suc j) gs (omega arith))

absent_variants : (i j : ℕ) (gs : List Group) → i < 4 * j → HasRoom j gs → IsAbsent (name 86 i) (variant_ids j gs)
absent_variants i j [] below room = tt
absent_variants i j (g ∷ gs) below room =
    let other : (e : ℕ) → e < 4 → same_name (name 86 i) (name 86 (place j e)) ≡ false =
    λ e few. name_apart 86 86 i (place j e) (omega arith) (omega arith) (λ _ same. omega arith) in
    (other 0 (omega arith), (other 1 (omega arith), (other 2 (omega arith), (other 3 (omega arith), absent_variants i (suc j) gs (omega arith) (omega arith)))))

pub variants_distinct : (j : ℕ) (gs : List Group) → HasRoom j gs → IsDistinct same_name (variant_ids j gs)
unfolding IsDistinct
variants_distinct j [] room = tt
variants_distinct j (g ∷ gs) room =
    let apart : (e f : ℕ) → e < f → f < 4 → same_name (name 86 (place j e)) (name 86 (place j f)) ≡ false =
    λ e f less few. name_apart 86 86 (place j e) (place j f) (omega arith) (omega arith) (λ _ same. omega arith) in
    let later : (e : ℕ) → e < 4 → IsAbsent (name 86 (place j e)) (variant_ids (suc j) gs) =
    λ e few. absent_variants (place j e) (suc j) gs (omega arith) (omega arith) in (
      (apart 0 1 (omega arith) (omega arith), (apart 0 2 (omega arith) (omega arith), (apart 0 3 (omega arith) (omega arith), later 0 (omega arith)))),
      (
        (apart 1 2 (omega arith) (omega arith), (apart 1 3 (omega arith) (omega arith), later 1 (omega arith))),
        ((apart 2 3 (omega arith) (omega arith), later 2 (omega arith)), (later 3 (omega arith), variants_distinct (suc j) gs (omega arith))),
      ),
    )

-- a name of a letter that is none of the three, or with a number before those of its letter
absent_bound : (letter i j : ℕ) (o : Option Bound) → i < 10000 → j < 10000 → (letter ≡ 90 → i < j) → IsAbsent (name letter i) (bound_ids j o)
absent_bound letter i j None in_i in_j h = tt
absent_bound letter i j (Some b) in_i in_j h = (name_apart letter 90 i j in_i in_j (λ same number. let below = h same in omega arith), tt)

absent_rules : (letter i j : ℕ) (gs : List Group) → i < 10000 → HasRoom j gs → (letter ≡ 71 → i < j) → (letter ≡ 88 → i < 4 * j) → (letter ≡ 90 → i < j)
    → IsAbsent (name letter i) (rule_ids j gs)
absent_rules letter i j [] in_i room h71 h88 h90 = tt
absent_rules letter i j (g ∷ gs) in_i room h71 h88 h90 =
    let other : (e : ℕ) → e < 4 → same_name (name letter i) (name 88 (place j e)) ≡ false =
    λ e few. name_apart letter 88 i (place j e) in_i (omega arith) (λ same number. let below = h88 same in omega arith) in (
      name_apart letter 71 i j in_i (omega arith) (λ same number. let below = h71 same in omega arith),
      (
        other 0 (omega arith),
        (
          other 1 (omega arith),
          (
            other 2 (omega arith),
            (
              other 3 (omega arith),
              absent-append (bound_ids j g.bound) (rule_ids (suc j) gs) (name letter i)
                  (absent_bound letter i j g.bound in_i (omega arith) h90)
                  (absent_rules letter i (suc j) gs in_i (omega arith) (λ same. let below = h71 same in omega arith) (λ same. let below = h88 same in omega arith)
                  (λ same. let below = h90 same in omega arith)),
            ),
          ),
        ),
      ),
    )

bound_before : (j : ℕ) (o : Option Bound) (rest : List (List ℕ)) → IsAbsent (name 90 j) rest → IsDistinct same_name rest → IsDistinct same_name (bound_ids j o ++ rest)
unfolding IsDistinct
bound_before j None rest absent d = d
bound_before j (Some b) rest absent d = (absent, d)

-- a name with another letter, or of another code of the group, is not among the rest of the group's rules
behind : (letter i j : ℕ) (g : Group) (gs : List Group) → i < 10000 → HasRoom j (g ∷ gs) → (letter ≡ 71 → i < suc j) → (letter ≡ 88 → i < 4 * suc j)
    → (letter ≡ 90 → ⊥) → IsAbsent (name letter i) (bound_ids j g.bound ++ rule_ids (suc j) gs)
behind letter i j g gs in_i room h71 h88 h90 =
    absent-append (bound_ids j g.bound) (rule_ids (suc j) gs) (name letter i)
    (absent_bound letter i j g.bound in_i (omega arith) (λ same. absurd (h90 same)))
    (absent_rules letter i (suc j) gs in_i (omega arith) h71 h88 (λ same. absurd (h90 same)))

rules_distinct : (j : ℕ) (gs : List Group) → HasRoom j gs → IsDistinct same_name (rule_ids j gs)
unfolding IsDistinct
rules_distinct j [] room = tt
rules_distinct j (g ∷ gs) room =
    let some_alone : (e : ℕ) → e < 4 → same_name (name 71 j) (name 88 (place j e)) ≡ false = λ e few. apart_letters 71 88 j (place j e) (omega arith) (omega arith) refl in
    let apart : (e f : ℕ) → e < f → f < 4 → same_name (name 88 (place j e)) (name 88 (place j f)) ≡ false =
    λ e f less few. name_apart 88 88 (place j e) (place j f) (omega arith) (omega arith) (λ _ same. omega arith) in
    let later : (e : ℕ) → e < 4 → IsAbsent (name 88 (place j e)) (bound_ids j g.bound ++ rule_ids (suc j) gs) =
    λ e few. behind 88 (place j e) j g gs (omega arith) room (λ same. omega arith) (λ _. omega arith) (λ same. omega arith) in (
      (
        some_alone 0 (omega arith),
        (
          some_alone 1 (omega arith),
          (
            some_alone 2 (omega arith),
            (some_alone 3 (omega arith), behind 71 j j g gs (omega arith) room (λ _. omega arith) (λ same. omega arith) (λ same. omega arith)),
          ),
        ),
      ),
      (
        (apart 0 1 (omega arith) (omega arith), (apart 0 2 (omega arith) (omega arith), (apart 0 3 (omega arith) (omega arith), later 0 (omega arith)))),
        (
          (apart 1 2 (omega arith) (omega arith), (apart 1 3 (omega arith) (omega arith), later 1 (omega arith))),
          (
            (apart 2 3 (omega arith) (omega arith), later 2 (omega arith)),
            (
              later 3 (omega arith),
              bound_before j g.bound (rule_ids (suc j) gs)
                  (absent_rules 90 j (suc j) gs (omega arith) (omega arith) (λ same. omega arith) (λ same. omega arith) (λ _. omega arith))
                  (rules_distinct (suc j) gs (omega arith)),
            ),
          ),
        ),
      ),
    )

-- supplementing and constructibility rules together
joined_distinct : (xs ys : List (List ℕ)) → IsDistinct same_name xs → IsDistinct same_name ys → AllByRecursion (λ x. IsAbsent x ys) xs → IsDistinct same_name (xs ++ ys)
unfolding IsDistinct
joined_distinct [] ys d e h = e
joined_distinct (x ∷ xs) ys d e h = (absent-append xs ys x d.0 h.0, joined_distinct xs ys d.1 e h.1)

all_absent : (i : ℕ) (some : List Group) (gs : List Group) → HasRoom i some → HasRoom 0 gs → AllByRecursion (λ x. IsAbsent x (rule_ids 0 gs)) (supplement_ids i some)
all_absent i [] gs room_i room = tt
all_absent i (g ∷ some) gs room_i room =
    (absent_rules 83 i 0 gs (omega arith) room (λ same. omega arith) (λ same. omega arith) (λ same. omega arith), all_absent (suc i) some gs (omega arith) room)

pub all_rules_distinct : (gs : List Group) → HasRoom 0 gs → IsDistinct same_name (supplement_ids 0 gs ++ rule_ids 0 gs)
all_rules_distinct gs room =
    joined_distinct (supplement_ids 0 gs) (rule_ids 0 gs) (supplements_distinct 0 gs room) (rules_distinct 0 gs room) (all_absent 0 gs gs room room)
