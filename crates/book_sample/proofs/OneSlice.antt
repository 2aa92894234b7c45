-- The term of the generated book is one slice, since every record is in force for the whole of it.
use Rattle.std.proofs.Common.{◌≡◌, ◌==◌, ℕ, zero, suc, ◌+◌, ◌-◌, ◌<◌, ◌≤◌, Bool, true, false, List, [], ◌∷◌, ◌++◌, Option, None, Some, Ok, refl, ap, ◌∙◌, arith}
use Rattle.std.specs.Prelude.{filter, map}
use Rattle.std.specs.List.{list_any, range_with_len}
use Rattle.std.proofs.lemmas.Bool.{eq-eqb, ne_eqb, or_from}
use Rattle.std.proofs.lemmas.List.Folds.{list_any-append}
use Rattle.book_model.specs.Contents.{Contents}
use Rattle.book_model.specs.Slices.{days_from_to, turns_at, is_change, change_days, periods_of, runs_from, slices_of, within_limit}
use Rattle.book_model.specs.declared.record.Construct.{Construct}
use Rattle.book_model.specs.declared.record.Slice.{Slice}
use Rattle.book_sample.specs.declared.group.Bound.{Bound}
use Rattle.book_sample.specs.declared.group.Group.{Group}
use Rattle.book_sample.proofs.ByKind.{supplements, bound_rules, constructs, positions, variants, sample_contents}

none_pass : (test : ℕ → Bool) (a n : ℕ) → ((k : ℕ) → a ≤ k → k < a + n → test k ≡ false) → filter test (range_with_len a n) ≡ []
none_pass test a zero h = refl
none_pass test a (suc n) h = rw (h a (omega arith) (omega arith)) (none_pass test (a + 1) n (λ k from to. h k (omega arith) (omega arith)))

-- a book on which nothing turns inside its term
pub one_slice : (b : Contents) → b.first ≤ b.last → ((day : ℕ) → b.first < day → day ≤ b.last → list_any (turns_at day) (periods_of b) ≡ false)
    → slices_of b ≡ Ok (days_from_to b.first b.last ∷ [])
unfolding slices_of
one_slice b order still =
    let first : is_change b b.first ≡ true = rw (eq-eqb b.first b.first refl) refl in
    let later : filter (is_change b) (range_with_len (b.first + 1) (b.last - b.first)) ≡ [] =
    none_pass (is_change b) (b.first + 1) (b.last - b.first) (λ day from to.
    or_from (day == b.first) (list_any (turns_at day) (periods_of b)) (ne_eqb day b.first (λ same. omega arith)) (still day (omega arith) (omega arith))) in
    let days : change_days b ≡ b.first ∷ [] = rw (first, later) refl in
    ap (λ days. within_limit (runs_from days b.last)) days

-- no record turns on a day on which the term doesn't
module _ (day : ℕ) (still : turns_at day (days_from_to 1 1000) ≡ false) where
  still_supplements : (j : ℕ) (gs : List Group) → list_any (turns_at day) (map (λ s. days_from_to s.from s.until) (supplements j gs)) ≡ false
  still_supplements j [] = refl
  still_supplements j (g ∷ gs) = rw still (still_supplements (suc j) gs)

  still_bound : (j : ℕ) (o : Option Bound) (rest : List Construct) → list_any (turns_at day) (map (λ c. days_from_to c.from c.until) rest) ≡ false
      → list_any (turns_at day) (map (λ c. days_from_to c.from c.until) (bound_rules j o ++ rest)) ≡ false
  still_bound j None rest h = h
  still_bound j (Some b) rest h = rw still h

  still_constructs : (j : ℕ) (gs : List Group) → list_any (turns_at day) (map (λ c. days_from_to c.from c.until) (constructs j gs)) ≡ false
  still_constructs j [] = refl
  still_constructs j (g ∷ gs) = rw still (still_bound j g.bound (constructs (suc j) gs) (still_constructs (suc j) gs))

  still_positions : (j : ℕ) (gs : List Group) → list_any (turns_at day) (map (λ p. days_from_to p.from p.until) (positions j gs)) ≡ false
  still_positions j [] = refl
  still_positions j (g ∷ gs) = rw still (still_positions (suc j) gs)

  still_variants : (j : ℕ) (gs : List Group) → list_any (turns_at day) (map (λ v. days_from_to v.from v.until) (variants j gs)) ≡ false
  still_variants j [] = refl
  still_variants j (g ∷ gs) = rw still (still_variants (suc j) gs)

  still_periods : (n : ℕ) (gs : List Group) → list_any (turns_at day) (periods_of (sample_contents n gs)) ≡ false
  still_periods n gs =
      let s : List Slice = map (λ s. days_from_to s.from s.until) (supplements 0 gs) in
      let c : List Slice = map (λ c. days_from_to c.from c.until) (constructs 0 gs) in
      let p : List Slice = map (λ p. days_from_to p.from p.until) (positions 0 gs) in
      let v : List Slice = map (λ v. days_from_to v.from v.until) (variants 0 gs) in
      list_any-append (turns_at day) ((s ++ c) ++ p) v ∙ or_from (list_any (turns_at day) ((s ++ c) ++ p)) (list_any (turns_at day) v)
      (list_any-append (turns_at day) (s ++ c) p ∙ or_from (list_any (turns_at day) (s ++ c)) (list_any (turns_at day) p)
      (list_any-append (turns_at day) s c ∙ or_from (list_any (turns_at day) s) (list_any (turns_at day) c) (still_supplements 0 gs) (still_constructs 0 gs))
      (still_positions 0 gs)) (still_variants 0 gs)

pub sample_slice : (n : ℕ) (gs : List Group) → slices_of (sample_contents n gs) ≡ Ok (days_from_to 1 1000 ∷ [])
sample_slice n gs =
    one_slice (sample_contents n gs) (omega arith) (λ day from to.
    still_periods day (or_from (day == 1) (day == 1001) (ne_eqb day 1 (λ same. omega arith)) (ne_eqb day 1001 (λ same. omega arith))) n gs)
