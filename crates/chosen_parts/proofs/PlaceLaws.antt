-- Where the position of an id stands.
use Rattle.std.proofs.Common.{◌≡◌, ℕ, zero, suc, ◌+◌, Bool, true, false, cond, List, [], ◌∷◌, Option, Some, None, map, refl, sym, ap, subst, ◌∙◌, inl, inr, arith}
use Rattle.std.specs.List.{slice_get, position_from, list_any, IsDistinct, AllByRecursion}
use Rattle.std.specs.Option.{option_map_or}
use Rattle.std.specs.Cmp.Lexicographic.{bytes_decides}
use Rattle.std.proofs.lemmas.Bool.{cases_Bool, cond-true, cond-false, false≢true, or_from}
use Rattle.std.proofs.lemmas.Map.Keys.{IsDistinct-head, IsDistinct-tail}
use Rattle.pb_base.specs.Names.{same_name}
use Rattle.book_model.specs.Book.{IsBook}
use Rattle.book_model.specs.Contents.{Contents}
use Rattle.book_model.specs.declared.record.Position.{Position}
use Rattle.chosen_parts.specs.Chosen.{position_place, is_at}

-- what is found is there, and passes
pub record IsFound {X : Type 0} (test : X → Bool) (i k : ℕ) (xs : List X) : Type 0 where
  pub behind : ℕ
  pub item : X
  pub place : k ≡ i + behind
  pub there : slice_get xs behind ≡ Some item
  pub passes : test item ≡ true

pub found_there : {X : Type 0} (test : X → Bool) (i k : ℕ) (xs : List X) → position_from test i xs ≡ Some k → IsFound test i k xs
found_there test i k [] h = cc
found_there {X} test i k (x ∷ xs) h = elim (cases_Bool (test x)) [
  | inl e ↦
      let here : Some i ≡ Some k = sym (cond-true (test x) (Some i) (position_from test (i + 1) xs) e) ∙ h in
      let same : i ≡ k = cc in
      record { behind = 0; item = x; place = omega (arith, same); there = refl; passes = e }
  | inr e ↦
      let later : IsFound test (i + 1) k xs = found_there test (i + 1) k xs (sym (cond-false (test x) (Some i) (position_from test (i + 1) xs) e) ∙ h) in
      record { behind = suc later.behind; item = later.item; place = omega (arith, later.place); there = later.there; passes = later.passes }
]

-- where none is found, none passes
pub none_found : {X : Type 0} (test : X → Bool) (i : ℕ) (xs : List X) → position_from test i xs ≡ None → list_any test xs ≡ false
none_found test i [] h = refl
none_found {X} test i (x ∷ xs) h = elim (cases_Bool (test x)) [
  | inl e ↦ let found : Some i ≡ None = sym (cond-true (test x) (Some i) (position_from test (i + 1) xs) e) ∙ h in cc
  | inr e ↦ or_from (test x) (list_any test xs) e (none_found test (i + 1) xs (sym (cond-false (test x) (Some i) (position_from test (i + 1) xs) e) ∙ h))
]

other_at : (name other : List ℕ) (names : List (List ℕ)) (k : ℕ) → AllByRecursion (λ n. same_name name n ≡ false) names → slice_get names k ≡ Some other → same_name name other ≡ false
other_at name other [] k apart is = cc
other_at name other (n ∷ names) zero apart is =
    let same : n ≡ other = cc in
    subst (λ (m : List ℕ). same_name name m ≡ false) same apart.0
other_at name other (n ∷ names) (suc k) apart is = other_at name other names k apart.1 is

-- of things with distinct names, the one of a name is found where it stands
module _ {X : Type 0} (name : X → List ℕ) where
  mapped_at : (xs : List X) (k : ℕ) (x : X) → slice_get xs k ≡ Some x → slice_get (map name xs) k ≡ Some (name x)
  mapped_at [] k x is = cc
  mapped_at (y ∷ xs) zero x is = let same : y ≡ x = cc in ap (λ (z : X). Some (name z)) same
  mapped_at (y ∷ xs) (suc k) x is = mapped_at xs k x is

  pub found_by_name : (id : List ℕ) (i k : ℕ) (xs : List X) (x : X) → IsDistinct same_name (map name xs) → slice_get xs k ≡ Some x → same_name (name x) id ≡ true
      → position_from (λ y. same_name (name y) id) i xs ≡ Some (i + k)
  found_by_name id i k [] x apart is same = cc
  found_by_name id i zero (y ∷ xs) x apart is same =
      let first : y ≡ x = cc in
      let here : i ≡ i + 0 = omega arith in
      cond-true _ (Some i) _ (ap (λ (z : X). same_name (name z) id) first ∙ same) ∙ ap (λ (n : ℕ). Some n) here
  found_by_name id i (suc k) (y ∷ xs) x apart is same =
      let named : name x ≡ id = (bytes_decides (name x) id).0 same in
      let other : same_name (name y) (name x) ≡ false = other_at (name y) (name x) (map name xs) k (IsDistinct-head same_name (name y) (map name xs) apart) (mapped_at xs k x is) in
      let there : i + 1 + k ≡ i + suc k = omega arith in
      cond-false _ (Some i) _ (ap (same_name (name y)) (sym named) ∙ other)
      ∙ found_by_name id (i + 1) k xs x (IsDistinct-tail same_name (name y) (map name xs) apart) is same
      ∙ ap (λ (n : ℕ). Some n) there

from_none : (k : ℕ) → Some (0 + k) ≡ Some k
from_none k = ap (λ (n : ℕ). Some n) (let e : 0 + k ≡ k = omega arith in e)

pub guessed : (b : Contents) (id : List ℕ) (guess : ℕ) → IsBook b → is_at b id guess ≡ true → position_place b id ≡ Some guess
guessed b id guess book at = by (slice_get b.positions guess) refl
  where
    by : (o : Option Position) → slice_get b.positions guess ≡ o → position_place b id ≡ Some guess
    by None is = absurd (false≢true (sym (ap (λ o. option_map_or (λ p. same_name p.id id) o false) is) ∙ at))
    by (Some p) is =
        found_by_name (λ (q : Position). q.id) id 0 guess b.positions p book.position_ids_distinct is (sym (ap (λ o. option_map_or (λ q. same_name q.id id) o false) is) ∙ at)
        ∙ from_none guess

-- each position is found by its id
pub own_place : (b : Contents) (k : ℕ) (p : Position) → IsBook b → slice_get b.positions k ≡ Some p → position_place b p.id ≡ Some k
own_place b k p book is =
    found_by_name (λ (q : Position). q.id) p.id 0 k b.positions p book.position_ids_distinct is ((bytes_decides p.id p.id).1 refl) ∙ from_none k

-- and what is found has the id
pub record IsPositionOf (b : Contents) (id : List ℕ) (k : ℕ) : Type 0 where
  pub position : Position
  pub there : slice_get b.positions k ≡ Some position
  pub same : position.id ≡ id

pub position_found : (b : Contents) (id : List ℕ) (k : ℕ) → position_place b id ≡ Some k → IsPositionOf b id k
position_found b id k h =
    let test : Position → Bool = λ p. same_name p.id id in
    let found : IsFound test 0 k b.positions = found_there test 0 k b.positions h in
    let at : found.behind ≡ k = omega (arith, found.place) in
    record {
      position = found.item;
      there = subst (λ (j : ℕ). slice_get b.positions j ≡ Some found.item) at found.there;
      same = (bytes_decides found.item.id id).0 found.passes;
    }
