-- The clauses of several positions of two books, one behind the other, each with a last variable of its own, by which it is asked.
--     together_clauses n v kss         the clauses of positions with these keys, where v is the first variable that they take
--     together_variables kss           how many variables they take
--     together_goals v kss             the literals that ask of each
--     searched_clauses first second day ps, searched_variables .., searched_goals ..
--                                      the same of positions of two books, behind the clauses of the books
use Rattle.std.specs.Prelude.{ℕ, ◌+◌, List, [], ◌∷◌, ◌++◌, length, map, slice_index_or}
use Rattle.book_model.specs.Contents.{Contents}
use Rattle.book_compare.specs.Asked.{asked_keys}
use Rattle.book_compare.specs.JointItems.{joint_clauses, joint_variables}
use Rattle.book_compare.specs.Keys.{KeyLiterals, keys_variables, position_clauses, position_goal}
use Rattle.book_compare.specs.declared.place.Place.{Place}

abbrev pub position_variables : List KeyLiterals → ℕ
position_variables ks = keys_variables ks + 1

abbrev pub together_clauses : ℕ → ℕ → List (List KeyLiterals) → List (List ℕ)
together_clauses n v [] = []
together_clauses n v (ks ∷ kss) = position_clauses n v ks ++ together_clauses n (v + position_variables ks) kss

abbrev pub together_variables : List (List KeyLiterals) → ℕ
together_variables [] = 0
together_variables (ks ∷ kss) = position_variables ks + together_variables kss

abbrev pub together_goals : ℕ → List (List KeyLiterals) → List ℕ
together_goals v [] = []
together_goals v (ks ∷ kss) = position_goal v ks ∷ together_goals (v + position_variables ks) kss

abbrev pub place_keys : Contents → Contents → ℕ → List Place → List (List KeyLiterals)
place_keys first second day ps = map (λ p. asked_keys first second day p.id) ps

abbrev pub searched_clauses : Contents → Contents → ℕ → List Place → List (List ℕ)
searched_clauses first second day ps =
    joint_clauses first second day ++ together_clauses (length first.codes) (joint_variables first second day) (place_keys first second day ps)

abbrev pub searched_variables : Contents → Contents → ℕ → List Place → ℕ
searched_variables first second day ps = joint_variables first second day + together_variables (place_keys first second day ps)

abbrev pub searched_goals : Contents → Contents → ℕ → List Place → List ℕ
searched_goals first second day ps = together_goals (joint_variables first second day) (place_keys first second day ps)

-- the literal that asks of the position at this place in the list
abbrev pub goal_at : Contents → Contents → ℕ → List Place → ℕ → ℕ
goal_at first second day ps at = slice_index_or (searched_goals first second day ps) at 0
