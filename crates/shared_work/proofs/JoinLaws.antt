-- What was made of each run of neighbours, one behind the other, is what was made of all items.
use Rattle.std.specs.Prelude.{IfOk, IsOkAnd, min}
use Rattle.std.proofs.Common.{◌≡◌, ℕ, zero, suc, ◌+◌, ◌*◌, ◌/◌, ◌%◌, ◌<◌, ◌≤◌, List, [], ◌∷◌, ◌++◌, Result, Ok, Err, inl, inr, length, take, drop, get_or, refl, sym, ap, subst, ◌∙◌, arith, take-add}
use Rattle.std.specs.List.{AllZip}
use Rattle.std.specs.Fork.{slice_chunk}
use native.Mathlib.Nat.{suc-mul, zero-mul}
use Rattle.std.proofs.lemmas.Bool.{cases_lt}
use Rattle.std.proofs.lemmas.List.{drop-drop, take_all}
use Rattle.std.proofs.lemmas.Nat.{div-add-mod', mod_below}
use Rattle.pb_base.specs.InParts.{InParts}

pub zip-append : {X M : Type 0} (P : X → M → Type 0) (xs ys : List X) (ms ns : List M) → AllZip P xs ms → AllZip P ys ns → AllZip P (xs ++ ys) (ms ++ ns)
zip-append P [] ys [] ns h k = k
zip-append P [] ys (m ∷ ms) ns h k = absurd h
zip-append P (x ∷ xs) ys [] ns h k = absurd h
zip-append P (x ∷ xs) ys (m ∷ ms) ns h k = (h.0, zip-append P xs ys ms ns h.1 k)

module _ {X : Type 0} (size : ℕ) where
  first_run : (items : List X) → slice_chunk items size 0 ≡ take size items
  first_run items = ap (λ (n : ℕ). take size (drop n items)) (zero-mul size)

  later_run : (items : List X) (n : ℕ) → slice_chunk items size (suc n) ≡ slice_chunk (drop size items) size n
  later_run items n =
      let place : suc n * size ≡ size + n * size = omega (arith, suc-mul n size) in
      ap (λ (k : ℕ). take size (drop k items)) place ∙ ap (take size) (sym (drop-drop (n * size) size items))

  runs_taken : (items : List X) (n : ℕ) → take (suc n * size) items ≡ take size items ++ take (n * size) (drop size items)
  runs_taken items n =
      let place : suc n * size ≡ size + n * size = omega (arith, suc-mul n size) in
      ap (λ (k : ℕ). take k items) place ∙ take-add size (n * size) items

module _ {X M V E : Type 0} (P : X → M → Type 0) (items_in : V → List M) (size : ℕ) where
  -- of each run so much was made
  abbrev AreMade : List X → List (Result V E) → Type 0
  AreMade items runs = (n : ℕ) (d : Result V E) → n < length runs → IfOk (get_or runs n d) (λ v. AllZip P (slice_chunk items size n) (items_in v))

  own_part : (run : List X) (r : Result V E) (own : List M) → IfOk r (λ v. AllZip P run (items_in v)) → IsOkAnd r (λ v. items_in v ≡ own) → AllZip P run own
  own_part run (Ok v) own made is = subst (AllZip P run) is made
  own_part run (Err e) own made is = absurd is

  made_of_runs : (items : List X) (runs : List (Result V E)) (all : List M)
      → InParts (λ (r : Result V E) (own : List M). IsOkAnd r (λ v. items_in v ≡ own)) runs all → AreMade items runs → AllZip P (take (length runs * size) items) all
  made_of_runs items [] all parts made =
      subst (AllZip P (take (0 * size) items)) (sym parts) (subst (λ (n : ℕ). AllZip P (take n items) []) (sym (zero-mul size)) tt)
  made_of_runs items (r ∷ runs) all parts made =
      let own = own_part (take size items) r parts.0
      (subst (λ (run : List X). IfOk r (λ v. AllZip P run (items_in v))) (first_run size items) (made 0 r (omega arith))) parts.3 in
      let later = made_of_runs (drop size items) runs parts.1 parts.4
      (λ n d low. subst (λ (run : List X). IfOk (get_or runs n d) (λ v. AllZip P run (items_in v))) (later_run size items n) (made (suc n) d (omega (arith, low)))) in
      subst (AllZip P (take (suc (length runs) * size) items)) (sym parts.2)
      (subst (λ (xs : List X). AllZip P xs (parts.0 ++ parts.1)) (sym (runs_taken size items (length runs)))
      (zip-append P (take size items) (take (length runs * size) (drop size items)) parts.0 parts.1 own later))

  pub made_of_all : (items : List X) (runs : List (Result V E)) (all : List M)
      → length items ≤ length runs * size → AreMade items runs → InParts (λ (r : Result V E) (own : List M). IsOkAnd r (λ v. items_in v ≡ own)) runs all → AllZip P items all
  made_of_all items runs all past made parts =
      subst (λ (xs : List X). AllZip P xs all) (take_all (length runs * size) items past) (made_of_runs items runs all parts made)

  -- the same of an answer
  pub through : {F : Type 0} (items : List X) (runs : List (Result V E)) (joined : Result V F) → length items ≤ length runs * size → AreMade items runs
      → IfOk joined (λ all. InParts (λ (r : Result V E) (own : List M). IsOkAnd r (λ v. items_in v ≡ own)) runs (items_in all))
      → IfOk joined (λ all. AllZip P items (items_in all))
  through items runs (Ok all) past made parts = made_of_all items runs (items_in all) past made parts
  through items runs (Err e) past made parts = tt

-- so many runs hold all items
pub covered : (count length_of size : ℕ) → 0 < size → count ≡ length_of / size + min 1 (length_of % size) → length_of ≤ count * size
covered count length_of size some is =
    let q = length_of / size in
    let r = length_of % size in
    let whole : q * size + r ≡ length_of = div-add-mod' length_of size in
    let below : r < size = mod_below length_of size some in
    elim (cases_lt 0 r) [
      | inl more ↦
          let one : count ≡ suc q = omega arith in
          omega (arith, whole, below, ap (λ (n : ℕ). n * size) one, suc-mul q size)
      | inr none ↦
          let same : count ≡ q = omega arith in
          omega (arith, whole, none, ap (λ (n : ℕ). n * size) same)
    ]

-- some items are divided into runs of some
pub some_size : (len workers size : ℕ) → 0 < len → 0 < workers → size ≡ len / workers + min 1 (len % workers) → 0 < size
some_size len workers zero some more is = absurd (omega (arith, covered zero len workers more is, some, zero-mul workers))
some_size len workers (suc size) some more is = omega arith

pub some_items : (count : ℕ) → (count ≡ 0 → ⊥) → 0 < count
some_items zero filled = absurd (filled refl)
some_items (suc count) filled = omega arith
