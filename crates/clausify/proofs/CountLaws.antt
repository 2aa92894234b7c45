-- How many questions there are.
use Rattle.std.proofs.Common.{◌≡◌, ℕ, zero, suc, ◌+◌, ◌*◌, ◌-◌, ◌/◌, ◌≤◌, Bool, true, false, if◌then◌else◌, List, [], ◌∷◌, ◌++◌, length, map, refl, sym, ap, ◌∙◌, arith, length-append}
use Rattle.std.specs.List.{flat_map}
use Rattle.std.proofs.lemmas.List.{length-map}
use Rattle.std.proofs.Math.Nat.{mul-le-mul_left}
use Rattle.book_model.specs.Contents.{Contents}
use Rattle.book_model.specs.declared.record.Position.{Position}
use Rattle.clausify.specs.Choices.{Choice, choices, choices_from}
use Rattle.clausify.proofs.Remaining.{choices_left}
use Rattle.clausify.specs.Questions.{choice_questions, uncovered_question, code_questions_from, questions}
use Rattle.clausify.specs.Pairs.{pairs}
use Rattle.clausify.specs.declared.question.Question.{Question}
use Rattle.clausify.specs.declared.question.Question.TheVariants.{Superfluous, Ambiguous}

-- the number of pairs, and what a position has
abbrev pub choice_count : ℕ → Bool → ℕ
choice_count variants mandatory = variants + variants * (variants - 1) / 2 + (if mandatory then 1 else 0)

length-pairs_more : {X : Type 0} (x : X) (xs : List X) → length (pairs (x ∷ xs)) ≡ length xs + length (pairs xs)
length-pairs_more {X} x xs =
    let with_first : X → X × X = λ y. (x, y) in
    omega (arith, length-append (map with_first xs) (pairs xs), length-map xs with_first)

one_more : (n count : ℕ) → 2 * count ≡ n * (n - 1) → 2 * (n + count) ≡ suc n * (suc n - 1)
one_more zero count h = omega (arith, h)
one_more (suc m) count h =
    let before : 2 * count ≡ suc m * m = h ∙ ap (λ (k : ℕ). suc m * k) (let e : suc m - 1 ≡ m = omega arith in e) in
    let after : 2 * (suc m + count) ≡ suc (suc m) * suc m = omega (arith, before) in
    after ∙ ap (λ (k : ℕ). suc (suc m) * k) (let e : suc m ≡ suc (suc m) - 1 = omega arith in e)

twice-pairs : {X : Type 0} (xs : List X) → 2 * length (pairs xs) ≡ length xs * (length xs - 1)
twice-pairs [] = refl
twice-pairs (x ∷ xs) = ap (λ (k : ℕ). 2 * k) (length-pairs_more x xs) ∙ one_more (length xs) (length (pairs xs)) (twice-pairs xs)

length-pairs : {X : Type 0} (xs : List X) → length (pairs xs) ≡ length xs * (length xs - 1) / 2
length-pairs xs = let twice = twice-pairs xs in omega (arith, twice)

length-uncovered : (mandatory : Bool) (position : ℕ) → length (uncovered_question mandatory position) ≡ (if mandatory then 1 else 0)
length-uncovered true position = refl
length-uncovered false position = refl

pub length-choice_questions : (c : Choice) → length (choice_questions c) ≡ choice_count (length c.variants) c.mandatory
length-choice_questions c =
    let ambiguous : ℕ × ℕ → Question = λ p. Ambiguous c.position p.0 p.1 in
    omega (
      arith,
      length-append (map Superfluous c.variants ++ map ambiguous (pairs c.variants)) (uncovered_question c.mandatory c.position),
      length-append (map Superfluous c.variants) (map ambiguous (pairs c.variants)),
      length-map c.variants Superfluous,
      length-map (pairs c.variants) ambiguous,
      length-pairs c.variants,
      length-uncovered c.mandatory c.position,
    )

pub length-code_questions : (i : ℕ) (names : List (List ℕ)) → length (code_questions_from i names) ≡ 2 * length names
length-code_questions i [] = refl
length-code_questions i (name ∷ names) = omega (arith, length-code_questions (suc i) names)

-- the product fits
pub pairs_limit : (k : ℕ) → k ≤ 200 → k * (k - 1) ≤ 39800
pairs_limit k h = omega (arith, mul-le-mul_left k (let below : k - 1 ≤ 199 = omega arith in below))

pub count_begin : (b : Contents) (day codes : ℕ) (ps : List Position) → codes ≡ length b.codes → ps ≡ b.positions → 1 + 2 * codes + length (flat_map choice_questions (choices_left b day ps 0)) ≡ length (questions b day)
count_begin b day codes ps counted are =
    let rest : ℕ = length (flat_map choice_questions (choices b day)) in
    let same : length (flat_map choice_questions (choices_left b day ps 0)) ≡ rest = ap (λ (qs : List Position). length (flat_map choice_questions (choices_from 0 b day qs))) are in
    omega (arith, counted, same, length-append (code_questions_from 0 b.codes) (flat_map choice_questions (choices b day)), length-code_questions 0 b.codes)

pub count_step : (count more k total : ℕ) (rest rest' : List Choice) (c : Choice) → count + length (flat_map choice_questions rest) ≡ total → rest ≡ c ∷ rest' → k ≡ length c.variants → more ≡ choice_count k c.mandatory
    → count + more + length (flat_map choice_questions rest') ≡ total
count_step count more k total rest rest' c left is counted taken =
    let own : more ≡ length (choice_questions c) = taken ∙ ap (λ (j : ℕ). choice_count j c.mandatory) counted ∙ sym (length-choice_questions c) in
    let all : length (flat_map choice_questions rest) ≡ length (choice_questions c ++ flat_map choice_questions rest') = ap (λ (cs : List Choice). length (flat_map choice_questions cs)) is in
    omega (arith, left, own, all, length-append (choice_questions c) (flat_map choice_questions rest'))
