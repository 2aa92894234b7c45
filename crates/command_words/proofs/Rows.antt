-- The rows that the option parser makes of operands and of one budget, and what is read from them.
use Rattle.std.proofs.Common.{◌≡◌, ◌∙◌, ◌++◌, refl, sym, ap, List, [], ◌∷◌, Some, None, codes, append_assoc, append-nil, false}
use Rattle.std.specs.Option.{unwrap_or}
use Rattle.clap.specs.Walk.{Row, Text, all_of, first_of, has_row, used}
use Rattle.command_words.specs.Parts.{Words}
use Rattle.command_words.proofs.PlainWalk.{budget, budget_row, operands_row, with_operand, with_operands}

abbrev pub operands_rows : Words → List Row
operands_rows [] = []
operands_rows (word ∷ words) = operands_row (word ∷ words) ∷ []

-- the operands before the budget, and those after it
abbrev pub placed : Words → Text → Words → List Row
placed [] text after = budget_row (text ∷ []) ∷ operands_rows after
placed (word ∷ words) text after = operands_row ((word ∷ words) ++ after) ∷ budget_row (text ∷ []) ∷ []

one_row : (word : Text) (words : Words) → with_operand word (operands_rows words) ≡ operands_rows (words ++ word ∷ [])
one_row word [] = refl
one_row word (x ∷ xs) = refl

pub more_rows : (words before : Words) → with_operands words (operands_rows before) ≡ operands_rows (before ++ words)
more_rows [] before = ap operands_rows (sym (append-nil before))
more_rows (word ∷ words) before =
    ap (with_operands words) (one_row word before) ∙ more_rows words (before ++ word ∷ []) ∙ ap operands_rows (append_assoc before (word ∷ []) words)

one_placed : (word : Text) (before : Words) (text : Text) (after : Words) → with_operand word (placed before text after) ≡ placed before text (after ++ word ∷ [])
one_placed word [] text [] = refl
one_placed word [] text (x ∷ xs) = refl
one_placed word (y ∷ ys) text after = ap (λ values. operands_row values ∷ budget_row (text ∷ []) ∷ []) (append_assoc (y ∷ ys) after (word ∷ []))

pub more_placed : (words before : Words) (text : Text) (after : Words) → with_operands words (placed before text after) ≡ placed before text (after ++ words)
more_placed [] before text after = ap (placed before text) (sym (append-nil after))
more_placed (word ∷ words) before text after =
    ap (with_operands words) (one_placed word before text after) ∙ more_placed words before text (after ++ word ∷ [])
    ∙ ap (placed before text) (append_assoc after (word ∷ []) words)

pub no_budget_yet : (words : Words) → has_row (codes "budget") (operands_rows words) ≡ false
no_budget_yet [] = refl
no_budget_yet (word ∷ words) = refl

pub budget_placed : (before : Words) (text : Text) → used budget (text ∷ []) (operands_rows before) ≡ placed before text []
budget_placed [] text = refl
budget_placed (word ∷ words) text = ap (λ values. operands_row values ∷ budget_row (text ∷ []) ∷ []) (sym (append-nil (word ∷ words)))

pub no_budget : (words : Words) → first_of (codes "budget") (operands_rows words) ≡ None
no_budget [] = refl
no_budget (word ∷ words) = refl

pub all_operands : (words : Words) → unwrap_or (all_of (codes "operands") (operands_rows words)) [] ≡ words
all_operands [] = refl
all_operands (word ∷ words) = refl

pub the_budget : (before : Words) (text : Text) (after : Words) → first_of (codes "budget") (placed before text after) ≡ Some text
the_budget [] text after = refl
the_budget (word ∷ words) text after = refl

pub placed_operands : (before : Words) (text : Text) (after : Words) → unwrap_or (all_of (codes "operands") (placed before text after)) [] ≡ before ++ after
placed_operands [] text [] = refl
placed_operands [] text (word ∷ words) = refl
placed_operands (word ∷ words) text after = refl
