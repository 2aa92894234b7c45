-- The definitions at the worked book whose rules are two groups.
use Rattle.std.proofs.Common.{◌≡◌, [], ◌∷◌, length, refl}
use Rattle.book_model.specs.WorkedBook.{book_tg}
use Rattle.clausify.specs.Coded.{slice_clauses, slice_variables}
use Rattle.clausify.specs.Items.{claim_clauses, most_of}

its_clauses : slice_clauses book_tg 1 ≡
    (10 ∷ [])
    ∷ (0 ∷ 13 ∷ []) ∷ (7 ∷ 13 ∷ []) ∷ (1 ∷ 6 ∷ 12 ∷ []) ∷ (4 ∷ 13 ∷ [])
    ∷ (0 ∷ 2 ∷ []) ∷ (1 ∷ 3 ∷ []) ∷ (4 ∷ 6 ∷ []) ∷ (5 ∷ 7 ∷ [])
    ∷ (0 ∷ 15 ∷ []) ∷ (2 ∷ 15 ∷ []) ∷ (1 ∷ 3 ∷ 14 ∷ [])
    ∷ (1 ∷ 17 ∷ []) ∷ (3 ∷ 17 ∷ []) ∷ (0 ∷ 2 ∷ 16 ∷ []) ∷ []
its_clauses = refl

there_are_fifteen : length (slice_clauses book_tg 1) ≡ 15
there_are_fifteen = refl

its_variables : slice_variables book_tg 1 ≡ 9
its_variables = refl

-- four codes, in no order of theirs: six pairs in the order in which the group names them
pairs_as_written : claim_clauses (most_of (3 ∷ 0 ∷ 2 ∷ 1 ∷ [])) 0 ≡
    (1 ∷ 7 ∷ []) ∷ (5 ∷ 7 ∷ []) ∷ (3 ∷ 7 ∷ []) ∷ (1 ∷ 5 ∷ []) ∷ (1 ∷ 3 ∷ []) ∷ (3 ∷ 5 ∷ []) ∷ []
pairs_as_written = refl
