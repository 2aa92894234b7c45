-- The definitions at the worked book. A clause is written as its literals' codes: twice the variable, plus one where it is
-- negative.
use Rattle.std.proofs.Common.{◌≡◌, List, [], ◌∷◌, length, refl}
use Rattle.book_model.specs.WorkedBook.{book_t}
use Rattle.clausify.specs.Questions.{questions}
use Rattle.clausify.specs.Coded.{goals_start, core_clauses, slice_clauses, slice_variables, slice_asked}
use Rattle.clausify.specs.Layout.{start_at, slice_starts}
use Rattle.clausify.specs.declared.question.Asked.{Asked}
use Rattle.clausify.specs.declared.question.Question.TheVariants.{Void, Necessary, Inadmissible, Superfluous, Ambiguous, Uncovered}

its_clauses : slice_clauses book_t 1 ≡
    (10 ∷ [])
    ∷ (0 ∷ 13 ∷ []) ∷ (7 ∷ 13 ∷ []) ∷ (1 ∷ 6 ∷ 12 ∷ []) ∷ (4 ∷ 13 ∷ [])
    ∷ (0 ∷ 2 ∷ 15 ∷ []) ∷ (1 ∷ 14 ∷ []) ∷ (3 ∷ 14 ∷ []) ∷ (14 ∷ [])
    ∷ (1 ∷ 3 ∷ [])
    ∷ (4 ∷ 6 ∷ 17 ∷ []) ∷ (5 ∷ 16 ∷ []) ∷ (7 ∷ 16 ∷ []) ∷ (16 ∷ [])
    ∷ (5 ∷ 7 ∷ [])
    ∷ (0 ∷ 19 ∷ []) ∷ (2 ∷ 19 ∷ []) ∷ (1 ∷ 3 ∷ 18 ∷ [])
    ∷ (1 ∷ 21 ∷ []) ∷ (3 ∷ 21 ∷ []) ∷ (0 ∷ 2 ∷ 20 ∷ []) ∷ []
its_clauses = refl

its_variables : slice_variables book_t 1 ≡ 11
its_variables = refl

abbrev its_asked : List Asked
its_asked =
    record { question = Void; goal = 10 }
    ∷ record { question = Necessary 0; goal = 1 } ∷ record { question = Inadmissible 0; goal = 0 }
    ∷ record { question = Necessary 1; goal = 3 } ∷ record { question = Inadmissible 1; goal = 2 }
    ∷ record { question = Necessary 2; goal = 5 } ∷ record { question = Inadmissible 2; goal = 4 }
    ∷ record { question = Necessary 3; goal = 7 } ∷ record { question = Inadmissible 3; goal = 6 }
    ∷ record { question = Necessary 4; goal = 9 } ∷ record { question = Inadmissible 4; goal = 8 }
    ∷ record { question = Superfluous 0; goal = 0 } ∷ record { question = Superfluous 1; goal = 2 }
    ∷ record { question = Ambiguous 0 0 1; goal = 18 } ∷ record { question = Uncovered 0; goal = 20 } ∷ []

its_questions : slice_asked book_t 1 ≡ its_asked
its_questions = refl

there_are_fifteen : length (questions book_t 1) ≡ 15
there_are_fifteen = refl

-- where the clauses of its supplementing rule, its four constructibility rules and its two variants begin, and those of the goals
its_starts : slice_starts book_t 1 ≡
    start_at 6 1 ∷ start_at 7 5 ∷ start_at 8 9 ∷ start_at 8 10 ∷ start_at 9 14 ∷ start_at 9 15 ∷ start_at 9 15 ∷ []
its_starts = refl

its_goals : start_at (goals_start book_t 1) (length (core_clauses book_t 1)) ≡ start_at 9 15
its_goals = refl
