-- What is asked of the generated book on a day: two questions of each code, and at most eleven of each position.
use Rattle.std.proofs.Common.{ℕ, zero, suc, ◌*◌, ◌≤◌, Bool, true, false, List, [], ◌∷◌, length, length-append, arith, if◌then◌else◌}
use Rattle.std.specs.Prelude.{filter}
use Rattle.std.specs.List.{flat_map}
use Rattle.pb_base.specs.declared.limits.TheConstants.{MOST_QUESTIONS}
use Rattle.book_model.specs.Parts.{variants_of, is_active_position}
use Rattle.clausify.specs.Choices.{Choice, active_variants, is_active_variant, choices_from, choices}
use Rattle.clausify.specs.Questions.{choice_questions, code_questions_from, questions}
use Rattle.clausify.proofs.CountLaws.{choice_count, length-choice_questions, length-code_questions}
use Rattle.book_sample.specs.Names.{names}
use Rattle.book_sample.specs.declared.group.Group.{Group}
use Rattle.book_sample.proofs.ByKind.{position_of, positions, sample_contents}
use Rattle.book_sample.proofs.Fitting.{Counts, few_variants, length-names}

kept_fewer : {X : Type 0} (b : Bool) (test : X → Bool) (x : X) (xs : List X) → length (filter test xs) ≤ length xs
    → length (if b then x ∷ filter test xs else filter test xs) ≤ suc (length xs)
kept_fewer true test x xs h = omega arith
kept_fewer false test x xs h = omega arith

filter_fewer : {X : Type 0} (test : X → Bool) (xs : List X) → length (filter test xs) ≤ length xs
filter_fewer test [] = omega arith
filter_fewer test (x ∷ xs) = kept_fewer (test x) test x xs (filter_fewer test xs)

-- at most four variants have six pairs
eleven : (k : ℕ) (mandatory : Bool) → k ≤ 4 → choice_count k mandatory ≤ 11
eleven zero true few = omega arith
eleven zero false few = omega arith
eleven (suc zero) true few = omega arith
eleven (suc zero) false few = omega arith
eleven (suc (suc zero)) true few = omega arith
eleven (suc (suc zero)) false few = omega arith
eleven (suc (suc (suc zero))) true few = omega arith
eleven (suc (suc (suc zero))) false few = omega arith
eleven (suc (suc (suc (suc zero)))) true few = omega arith
eleven (suc (suc (suc (suc zero)))) false few = omega arith
eleven (suc (suc (suc (suc (suc k))))) mandatory few = absurd (omega arith)

choice_few : (c : Choice) → length c.variants ≤ 4 → length (choice_questions c) ≤ 11
choice_few c few = omega (arith, length-choice_questions c, eleven (length c.variants) c.mandatory few)

one_choice : (b : Bool) (c : Choice) (cs : List Choice) (more : ℕ) → length c.variants ≤ 4 → length (flat_map choice_questions cs) ≤ 11 * more
    → length (flat_map choice_questions (if b then c ∷ cs else cs)) ≤ 11 * suc more
one_choice true c cs more few rest = omega (arith, length-append (choice_questions c) (flat_map choice_questions cs), choice_few c few)
one_choice false c cs more few rest = omega arith

choices_few : (n day i : ℕ) (all gs : List Group) → length (flat_map choice_questions (choices_from i (sample_contents n all) day (positions i gs))) ≤ 11 * length gs
choices_few n day i all [] = omega arith
choices_few n day i all (g ∷ gs) = one_choice (is_active_position day (position_of i)) (record {
  position = i;
  mandatory = true;
  variants = active_variants (sample_contents n all) day i;
}) (choices_from (suc i) (sample_contents n all) day (positions (suc i) gs)) (length gs)
    (let fewer = filter_fewer (is_active_variant (sample_contents n all) day) (variants_of i (sample_contents n all).variants) in omega (arith, fewer, few_variants 0 i 0 all))
    (choices_few n day (suc i) all gs)

pub sample_questions : (n day : ℕ) (gs : List Group) → Counts n gs → length (questions (sample_contents n gs) day) ≤ MOST_QUESTIONS
sample_questions n day gs c =
    omega (
      arith,
      length-append (code_questions_from 0 (names 75 n 0)) (flat_map choice_questions (choices (sample_contents n gs) day)),
      length-code_questions 0 (names 75 n 0),
      length-names 75 n 0,
      choices_few n day 0 gs gs,
      c.codes,
      c.few,
    )
