-- What a line of a certificate says, by its words alone.
--     cert_line text     the line, or nothing where the text has the form of none
use Rattle.std.specs.Prelude.{ℕ, ◌&&◌, List, [], ◌∷◌, Option, None, Some, codes, if◌then◌else◌}
use Rattle.std.specs.Option.{option_and_then, option_map, option_zip}
use Rattle.std.specs.List.{list_all}
use Rattle.pb_base.specs.Names.{same_name, is_name, is_code_name}
use Rattle.clause_pool.specs.declared.chain.Pair.{Pair}
use Rattle.derivation.specs.Pieces.{pieces}
use Rattle.derivation.specs.Words.{cert_number, cert_literal}

pub data CertLine : Type 0 where
  head_line : CertLine
  -- the book's name and the number of its slices
  book_line : List ℕ → ℕ → CertLine
  -- the number of the slice
  slice_line : ℕ → CertLine
  -- the names of codes
  set_line : List (List ℕ) → CertLine
  -- the clause that a chain starts with, and its pairs
  step_line : ℕ → List Pair → CertLine
  -- a question and the clause that closes it
  close_line : ℕ → ℕ → CertLine
  end_line : CertLine

-- `partsbook certificate 1`
abbrev pub head_from : List (List ℕ) → Option CertLine
head_from (subject ∷ version ∷ []) =
    if same_name subject (codes "certificate") && same_name version (codes "1") then Some head_line else None
head_from _ = None

-- `set CODE CODE ..`
abbrev pub set_from : List (List ℕ) → Option CertLine
set_from names = if list_all is_code_name names then Some (set_line names) else None

-- `end`
abbrev pub end_from : List (List ℕ) → Option CertLine
end_from [] = Some end_line
end_from _ = None

-- a step has at least one pair
abbrev pub step_with : Option ℕ → Option (List Pair) → Option CertLine
step_with (Some start) (Some (p ∷ ps)) = Some (step_line start (p ∷ ps))
step_with _ _ = None

-- the other lines, where these two read the numbers and the literals
module _ (number literal : List ℕ → Option ℕ) where
  -- `book NAME SLICES`
  abbrev pub book_from : List (List ℕ) → Option CertLine
  book_from (name ∷ count ∷ []) = if is_name name then option_map (book_line name) (number count) else None
  book_from _ = None

  -- `slice K`
  abbrev pub slice_from : List (List ℕ) → Option CertLine
  slice_from (k ∷ []) = option_map slice_line (number k)
  slice_from _ = None

  -- `LIT WITH LIT WITH ..`
  abbrev pub pair_from : List ℕ → List ℕ → Option Pair
  pair_from lit other = option_map (λ z. record { lit = z.0; with = z.1 }) (option_zip (literal lit) (number other))

  abbrev pub pairs_from : List (List ℕ) → Option (List Pair)
  pairs_from [] = Some []
  pairs_from (lit ∷ []) = None
  pairs_from (lit ∷ other ∷ words) = option_and_then (λ p. option_map (λ ps. p ∷ ps) (pairs_from words)) (pair_from lit other)

  -- `step START LIT WITH LIT WITH ..`
  abbrev pub step_from : List (List ℕ) → Option CertLine
  step_from [] = None
  step_from (start ∷ words) = step_with (number start) (pairs_from words)

  -- `close QUESTION CLAUSE`
  abbrev pub close_from : List (List ℕ) → Option CertLine
  close_from (question ∷ clause ∷ []) = option_map (λ z. close_line z.0 z.1) (option_zip (number question) (number clause))
  close_from _ = None

  abbrev pub other_from : List ℕ → List (List ℕ) → Option CertLine
  other_from keyword words =
      if same_name keyword (codes "close") then close_from words
      else (if same_name keyword (codes "set") then set_from words
      else (if same_name keyword (codes "slice") then slice_from words
      else (if same_name keyword (codes "book") then book_from words
      else (if same_name keyword (codes "end") then end_from words
      else (if same_name keyword (codes "partsbook") then head_from words
      else None)))))

  abbrev pub line_from : List (List ℕ) → Option CertLine
  line_from [] = None
  line_from (keyword ∷ words) = if same_name keyword (codes "step") then step_from words else other_from keyword words

abbrev pub cert_line : List ℕ → Option CertLine
cert_line text = line_from cert_number cert_literal (pieces 32 text)
