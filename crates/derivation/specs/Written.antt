-- The text of a certificate as it is written, from the proofs of the slices.
--     cert_lines b proofs     its lines
--     IsBegun b count proofs text
--                             the text so far of a certificate of so many slices, behind those of these proofs
--     written lines           lines as a text: a keyword and further words, each behind one space, and a line feed
use Rattle.std.specs.Prelude.{◌≡◌, ℕ, suc, ◌<◌, ◌^◌, ◌/◌, ◌%◌, ◌==◌, Bool, true, false, List, [], ◌∷◌, ◌++◌, codes, length, map, if◌then◌else◌}
use Rattle.std.specs.List.{flat_map, list_all, All, AllByRecursion}
use Rattle.std.specs.Fmt.{decimal}
use Rattle.pb_base.specs.Names.{is_name, is_code_name}
use Rattle.book_model.specs.Contents.{Contents}
use Rattle.clause_pool.specs.Derivation.{IsDerived}
use Rattle.clause_pool.specs.declared.chain.Pair.{Pair}
use Rattle.derivation.specs.declared.closing.Closing.{Closing}
use Rattle.derivation.specs.declared.slice_proof.SliceProof.{SliceProof}
use Rattle.derivation.specs.CertLine.{CertLine, head_line, book_line, slice_line, set_line, step_line, close_line, end_line}

-- words, each behind a space
abbrev pub spaced : List (List ℕ) → List ℕ
spaced words = flat_map (λ word. 32 ∷ word) words

abbrev pub line_of : List ℕ → List (List ℕ) → List ℕ
line_of keyword words = (keyword ++ spaced words) ++ 10 ∷ []

-- `+` or `-`, then the number of the variable
abbrev pub literal_word : ℕ → List ℕ
literal_word l = (if l % 2 == 0 then 43 else 45) ∷ decimal (l / 2)

abbrev pub pair_words : List Pair → List (List ℕ)
pair_words pairs = flat_map (λ p. literal_word p.lit ∷ decimal p.with ∷ []) pairs

abbrev pub keyword_of : CertLine → List ℕ
keyword_of head_line = codes "partsbook"
keyword_of (book_line name count) = codes "book"
keyword_of (slice_line number) = codes "slice"
keyword_of (set_line names) = codes "set"
keyword_of (step_line start pairs) = codes "step"
keyword_of (close_line question clause) = codes "close"
keyword_of end_line = codes "end"

abbrev pub words_of : CertLine → List (List ℕ)
words_of head_line = codes "certificate" ∷ codes "1" ∷ []
words_of (book_line name count) = name ∷ decimal count ∷ []
words_of (slice_line number) = decimal number ∷ []
words_of (set_line names) = names
words_of (step_line start pairs) = decimal start ∷ pair_words pairs
words_of (close_line question clause) = decimal question ∷ decimal clause ∷ []
words_of end_line = []

abbrev pub written : List CertLine → List ℕ
written lines = flat_map (λ l. line_of (keyword_of l) (words_of l)) lines

-- the names of the codes in a set, in order
abbrev pub members : List (List ℕ) → List Bool → List (List ℕ)
members [] x = []
members (name ∷ names) [] = []
members (name ∷ names) (true ∷ x) = name ∷ members names x
members (name ∷ names) (false ∷ x) = members names x

-- a step for each derived clause, by where its chain starts and the pairs of it
abbrev pub step_lines : List ℕ → List (List Pair) → List CertLine
step_lines (start ∷ starts) (pairs ∷ chains) = step_line start pairs ∷ step_lines starts chains
step_lines _ _ = []

abbrev pub close_lines : List Closing → List CertLine
close_lines closings = map (λ c. close_line c.question c.at) closings

abbrev pub slice_lines : Contents → ℕ → SliceProof → List CertLine
slice_lines b number proof =
    slice_line number ∷ set_line (members b.codes proof.set)
    ∷ (step_lines proof.kernel.starts proof.kernel.pairs ++ close_lines proof.closed.items)

-- those of some slices, of which the first has this number
abbrev pub lines_from : Contents → ℕ → List SliceProof → List CertLine
lines_from b number [] = []
lines_from b number (proof ∷ proofs) = slice_lines b number proof ++ lines_from b (suc number) proofs

abbrev pub cert_lines : Contents → List SliceProof → List CertLine
cert_lines b proofs = head_line ∷ book_line b.name (length proofs) ∷ (lines_from b 0 proofs ++ end_line ∷ [])

-- what is written as a number or a name reads back as it
pub record PairFits (p : Pair) : Type 0 where
  pub lit : p.lit < 2 ^ 33
  pub other : p.with < 2 ^ 64

abbrev pub LineFits : CertLine → Type 0
LineFits head_line = Unit {0}
LineFits (book_line name count) = (is_name name ≡ true) × (count < 2 ^ 64)
LineFits (slice_line number) = number < 2 ^ 64
LineFits (set_line names) = list_all is_code_name names ≡ true
LineFits (step_line start pairs) = (start < 2 ^ 64) × All PairFits pairs × (0 < length pairs)
LineFits (close_line question clause) = (question < 2 ^ 64) × (clause < 2 ^ 64)
LineFits end_line = Unit {0}

-- its first lines, behind those of these proofs
abbrev pub begun_lines : Contents → ℕ → List SliceProof → List CertLine
begun_lines b count proofs = head_line ∷ book_line b.name count ∷ lines_from b 0 proofs

pub record IsBegun (b : Contents) (count : ℕ) (proofs : List SliceProof) (text : List ℕ) : Type 0 where
  pub lines : text ≡ written (begun_lines b count proofs)
  pub fit : AllByRecursion LineFits (begun_lines b count proofs)
  pub derived : AllByRecursion (λ p. IsDerived p.kernel) proofs
