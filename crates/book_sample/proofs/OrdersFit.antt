-- Each order names codes of the book, none twice, and a day of its term.
use Rattle.std.proofs.Common.{◌≡◌, ℕ, zero, suc, ◌+◌, ◌*◌, ◌<◌, ◌≤◌, true, false, ◌||◌, List, [], ◌∷◌, ◌++◌, None, Some, length, refl, sym, ap, ◌∙◌, inl, inr, arith}
use Rattle.std.specs.List.{list_any}
use Rattle.std.proofs.lemmas.Bool.{cases_lt, le-leb, le-ltb, lt-ltb, or_from}
use Rattle.std.proofs.lemmas.List.Folds.{list_any-append}
use Rattle.pb_base.specs.Names.{same_name, place_in}
use Rattle.pb_base.specs.NamedSet.{first_fault}
use Rattle.book_model.specs.Activity.{is_within}
use Rattle.rule_text.proofs.Back.{name_place}
use Rattle.parts_usage.specs.Fault.{order_fault}
use Rattle.book_sample.specs.Draws.{stepped, drawn}
use Rattle.book_sample.specs.Names.{names, code_name, place}
use Rattle.book_sample.specs.Orders.{picks, order_at}
use Rattle.book_sample.specs.declared.group.Group.{Group}
use Rattle.book_sample.proofs.Drawn.{drawn-below}
use Rattle.book_sample.proofs.Apart.{name_apart, names_distinct}
use Rattle.book_sample.proofs.ByKind.{sample_contents}
use Rattle.book_sample.proofs.Fitting.{Counts, length-names}
use Rattle.book_sample.proofs.Spelled.{code_at}

-- these names are of codes with numbers below i
abbrev AreBefore : ℕ → List (List ℕ) → Type 0
AreBefore i left = (k : ℕ) → i ≤ k → k < 10000 → list_any (same_name (code_name k)) left ≡ false

before_more : (i j : ℕ) (left : List (List ℕ)) → i ≤ j → AreBefore i left → AreBefore j left
before_more i j left less h k from to = h k (omega arith) to

before_push : (i j : ℕ) (left : List (List ℕ)) → i < j → j ≤ 10000 → AreBefore i left → AreBefore j (left ++ code_name i ∷ [])
before_push i j left less room h k from to =
    list_any-append (same_name (code_name k)) left (code_name i ∷ [])
    ∙ or_from (list_any (same_name (code_name k)) left) (same_name (code_name k) (code_name i) || false) (h k (omega arith) to)
    (or_from (same_name (code_name k) (code_name i)) false (name_apart 75 75 k i to (omega arith) (λ _ same. omega arith)) refl)

module _ (n : ℕ) (few : n ≤ 10000) where
  known : (i : ℕ) → i < n → place_in (names 75 n 0) (code_name i) ≡ Some i
  known i inside =
      ap (place_in (names 75 n 0)) (sym (code_at n i inside))
      ∙ name_place (names 75 n 0) i (names_distinct 75 n 0 (omega arith)) (omega (arith, length-names 75 n 0))

  no_fault : (count j x : ℕ) (left : List (List ℕ)) → 4 * (j + count) ≤ n → AreBefore (4 * j) left → first_fault (names 75 n 0) left (picks count j x) ≡ None
  unfolding picks
  no_fault zero j x left room before = refl
  no_fault (suc count) j x left room before =
      let k = drawn (stepped x) 5 in
      elim (cases_lt k 4) [
        | inl one ↦
            let i = place j k in
            let is_known = known i (omega arith) in
            let is_new : list_any (same_name (code_name i)) left ≡ false = before i (omega arith) (omega arith) in
            rw (lt-ltb k 4 one, is_known, is_new)
            (no_fault count (suc j) (stepped x) (left ++ code_name i ∷ []) (omega arith)
            (before_push i (4 * suc j) left (omega arith) (omega arith) (before_more (4 * j) i left (omega arith) before)))
        | inr none ↦
            rw (le-ltb k 4 none) (no_fault count (suc j) (stepped x) left (omega arith) (before_more (4 * j) (4 * suc j) left (omega arith) before))
      ]

pub order_fits : (n x : ℕ) (gs : List Group) → Counts n gs → order_fault (sample_contents n gs) (order_at (length gs) x).day (order_at (length gs) x).codes ≡ None
order_fits n x gs c =
    let d = drawn (stepped x) 1000 in
    let small = drawn-below (stepped x) 1000 (omega arith) in
    let inside : is_within 1 1000 (1 + d) ≡ true = rw (le-leb 1 (1 + d) (omega arith), le-leb (1 + d) 1000 (omega arith)) refl in
    rw (inside, no_fault n (omega (arith, c.codes, c.few)) (length gs) 0 (stepped x) [] (omega (arith, c.codes)) (λ k from to. refl)) refl
