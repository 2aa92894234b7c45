-- The lines of a certificate as they are kept: a number above 2^64 - 1 as that number, and a variable above 2^32 - 1 as that
-- one. No place, question or slice has the one number, and no variable of a slice the other, so both name nothing.
--     kept_line line     the line with its numbers and literals as they are kept
--     AllNamed stage     whatever a line may name at this stage is kept as it is
use Rattle.std.specs.Prelude.{ℕ, ◌+◌, ◌-◌, ◌*◌, ◌/◌, ◌%◌, ◌==◌, ◌<◌, ◌≤◌, min, Bool, true, false, List, [], ◌∷◌, Option, None, Some, map, length, if◌then◌else◌}
use Rattle.std.specs.Option.{option_map}
use Rattle.pb_base.specs.Digits.{is_digit}
use Rattle.std.specs.List.{AllByRecursion}
use Rattle.clause_pool.specs.Literal.{literal}
use Rattle.clause_pool.specs.Clause.{AreBelow}
use Rattle.clause_pool.specs.declared.chain.Pair.{Pair}
use Rattle.derivation.specs.CertLine.{CertLine, line_from, pairs_from, head_line, book_line, slice_line, set_line, step_line, close_line, end_line}
use Rattle.derivation.specs.Pieces.{pieces}
use Rattle.derivation.specs.Words.{has_number_form}
use Rattle.derivation.specs.Stage.{SliceSoFar, Stage, within}

abbrev pub highest : ℕ
highest = 18446744073709551615

abbrev pub highest_variable : ℕ
highest_variable = 4294967295

abbrev pub kept : ℕ → ℕ
kept number = min number highest

abbrev pub kept_literal : ℕ → ℕ
kept_literal l = literal (min (l / 2) highest_variable) (l % 2 == 0)

-- a number as it is read, digit by digit
abbrev pub with_digit : ℕ → ℕ → ℕ
with_digit value digit = kept (10 * value + (digit - 48))

abbrev pub digits_kept : ℕ → List ℕ → Option ℕ
digits_kept value [] = Some value
digits_kept value (b ∷ bs) = if is_digit b then digits_kept (with_digit value b) bs else None

abbrev pub number_kept : List ℕ → Option ℕ
number_kept word = if has_number_form word then digits_kept 0 word else None

abbrev pub literal_at : Bool → ℕ → ℕ
literal_at positive variable = literal (min variable highest_variable) positive

abbrev pub literal_kept : List ℕ → Option ℕ
literal_kept [] = None
literal_kept (sign ∷ number) =
    if sign == 43 then option_map (literal_at true) (number_kept number)
    else (if sign == 45 then option_map (literal_at false) (number_kept number) else None)

-- the first word as a number or a literal, and the words behind it
abbrev pub first_as : (List ℕ → Option ℕ) → List (List ℕ) → Option (ℕ × List (List ℕ))
first_as read [] = None
first_as read (word ∷ words) = option_map (λ value. (value, words)) (read word)

abbrev pub first_number : List (List ℕ) → Option (ℕ × List (List ℕ))
first_number words = first_as number_kept words

abbrev pub first_literal : List (List ℕ) → Option (ℕ × List (List ℕ))
first_literal words = first_as literal_kept words

-- the pairs that words are
abbrev pub pairs_kept : List (List ℕ) → Option (List Pair)
pairs_kept words = pairs_from number_kept literal_kept words

-- a line as it is read
abbrev pub line_kept : List ℕ → Option CertLine
line_kept text = line_from number_kept literal_kept (pieces 32 text)

abbrev pub kept_pair : Pair → Pair
kept_pair p = record { lit = kept_literal p.lit; with = kept p.with }

abbrev pub kept_line : CertLine → CertLine
kept_line head_line = head_line
kept_line (book_line name count) = book_line name (kept count)
kept_line (slice_line number) = slice_line (kept number)
kept_line (set_line names) = set_line names
kept_line (step_line start pairs) = step_line (kept start) (map kept_pair pairs)
kept_line (close_line question clause) = close_line (kept question) (kept clause)
kept_line end_line = end_line

pub record NamesKept (s : SliceSoFar) : Type 0 where
  pub slice : s.slice + 1 < highest
  pub clauses : length s.clauses ≤ highest
  pub literals : AreBelow (2 * highest_variable) s.clauses
  pub questions : AllByRecursion (λ w. w.question < highest) s.left

abbrev pub AllNamed : Stage → Type 0
AllNamed (within s) = NamesKept s
AllNamed stage = Unit {0}
