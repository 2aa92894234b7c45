-- The text of a rule with fewest brackets: no blanks and no semicolon.
--     printed names rule
use Rattle.std.specs.Prelude.{ℕ, suc, max, Bool, true, false, ◌||◌, List, [], ◌∷◌, ◌++◌, slice_index_or}
use Rattle.pb_base.specs.Rule.{Rule, code, negation, both, either, always, never}
use Rattle.pb_base.specs.Names.{true_word, false_word}

abbrev pub is_either : Rule → Bool
is_either (either l r) = true
is_either rule = false

abbrev pub is_both : Rule → Bool
is_both (both l r) = true
is_both rule = false

abbrev pub is_pair : Rule → Bool
is_pair rule = is_either rule || is_both rule

abbrev pub bracketed : Bool → List ℕ → List ℕ
bracketed true text = 40 ∷ (text ++ 41 ∷ [])
bracketed false text = text

abbrev pub printed : List (List ℕ) → Rule → List ℕ
printed names (code place) = slice_index_or names place []
printed names (negation rule) = 45 ∷ bracketed (is_pair rule) (printed names rule)
printed names (both l r) = bracketed (is_either l) (printed names l) ++ 43 ∷ bracketed (is_pair r) (printed names r)
printed names (either l r) = printed names l ++ 47 ∷ bracketed (is_either r) (printed names r)
printed names always = true_word
printed names never = false_word

abbrev pub bracket_depth : Bool → ℕ → ℕ
bracket_depth true depth = suc depth
bracket_depth false depth = depth

-- how deep the printed text nests
abbrev pub printed_depth : Rule → ℕ
printed_depth (code place) = 0
printed_depth (negation rule) = suc (bracket_depth (is_pair rule) (printed_depth rule))
printed_depth (both l r) = max (bracket_depth (is_either l) (printed_depth l)) (bracket_depth (is_pair r) (printed_depth r))
printed_depth (either l r) = max (printed_depth l) (bracket_depth (is_either r) (printed_depth r))
printed_depth always = 0
printed_depth never = 0
