-- Clauses at small formulas and books, which a wrong body would make otherwise. A clause is written as its literals' codes: twice the
-- variable, plus one where it is negative.
use Rattle.std.proofs.Common.{◌≡◌, false, List, [], ◌∷◌, Some, map, refl}
use Rattle.std.specs.Prelude.{codes}
use Rattle.pb_base.specs.Rule.{either}
use Rattle.book_model.specs.Contents.{Contents}
use Rattle.book_model.specs.WorkedBook.{book_t, m1, m2, g5}
use Rattle.clausify.specs.Coded.{slice_asked}
use Rattle.clausify.specs.Items.{apart_literals, clause_where}
use Rattle.clausify.specs.declared.question.Question.{Question}
use Rattle.clausify.specs.declared.question.Question.TheVariants.{Void, Necessary, Inadmissible, Superfluous, Ambiguous}
use Rattle.wide_clauses.specs.Chains.{alone, wide_clauses}

-- each part of a chain of three stands in its clauses, the last one too
three_in_a_chain : wide_clauses 5 6 (either (either m1 m2) g5) alone ≡ (0 ∷ 2 ∷ 4 ∷ 13 ∷ []) ∷ (5 ∷ 12 ∷ []) ∷ (3 ∷ 12 ∷ []) ∷ (1 ∷ 12 ∷ []) ∷ []
three_in_a_chain = refl

-- two codes of a group behind a guard, the third variable: where it isn't true, both may be there
pair_behind_a_guard : map (clause_where (Some 2)) (map apart_literals ((0, 1) ∷ [])) ≡ (1 ∷ 3 ∷ 5 ∷ []) ∷ []
pair_behind_a_guard = refl

-- the worked book whose position is optional
abbrev optional_book : Contents
optional_book = record {
  name = book_t.name;
  first = book_t.first;
  last = book_t.last;
  codes = book_t.codes;
  supplements = book_t.supplements;
  constructs = book_t.constructs;
  modules = book_t.modules;
  positions = record { id = codes "P1"; «module» = Some 0; mandatory = false; from = 1; until = 1000 } ∷ [];
  variants = book_t.variants;
}

-- its two variants are asked as a pair, too
abbrev optional_asked : List Question
optional_asked =
    Void ∷ Necessary 0 ∷ Inadmissible 0 ∷ Necessary 1 ∷ Inadmissible 1 ∷ Necessary 2 ∷ Inadmissible 2 ∷ Necessary 3 ∷ Inadmissible 3
    ∷ Necessary 4 ∷ Inadmissible 4 ∷ Superfluous 0 ∷ Superfluous 1 ∷ Ambiguous 0 0 1 ∷ []

pairs_of_an_optional_position : map (λ a. a.question) (slice_asked optional_book 1) ≡ optional_asked
pairs_of_an_optional_position = refl
