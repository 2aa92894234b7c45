-- What a text reads as: its requirements, or its first fault.
--     requirements_of b text    those of a text on the book b
-- The text as a whole is tested first: its size, and that it is UTF-8. Then its rows are gone over twice: the first pass looks at
-- each row by itself and at its id, the second reads the rules. The second begins where the first found no fault.
use Rattle.std.specs.Prelude.{ℕ, List, [], ◌∷◌, ◌++◌, Option, Some, None, Result, Ok, Err, length, not, nat_lt, if◌then◌else◌}
use Rattle.std.specs.Str.{is_utf8}
use Rattle.pb_base.specs.Results.{and_then}
use Rattle.pb_base.specs.Rule.{Rule}
use Rattle.pb_base.specs.declared.limits.TheConstants.{MOST_TEXT_BYTES}
use Rattle.book_model.specs.Book.{RuleFits}
use Rattle.book_model.specs.Contents.{Contents}
use Rattle.book_text.specs.Rows.{Row, rows_of}
use Rattle.book_text.specs.SecondPass.{rule_in}
use Rattle.book_text.specs.declared.fault.BookKind.TheVariants.{TooLarge, NotUtf8}
use Rattle.requirements.specs.Fault.{as_in_books, at_row}
use Rattle.requirements.specs.Pass.{pass}
use Rattle.requirements.specs.Stated.{stated_with}
use Rattle.requirements.specs.declared.fault.RequirementFault.{RequirementFault}
use Rattle.requirements.specs.declared.fault.RequirementKind.{RequirementKind}
use Rattle.requirements.specs.declared.fault.RequirementKind.TheVariants.{AsInBooks}
use Rattle.book_text.specs.declared.fields.Days.{Days}
use Rattle.requirements.specs.declared.requirement.Claim.{Claim}
use Rattle.requirements.specs.declared.requirement.Claim.TheVariants.{Meets, Uses}
use Rattle.requirements.specs.declared.requirement.Requirement.{Requirement}
use Rattle.requirements.specs.declared.stated.Stated.{Stated}

abbrev pub claim_of : Option (List ℕ) → Rule → Claim
claim_of None rule = Meets rule
claim_of (Some part) rule = Uses part rule

-- the requirement of what a row states, over these codes
abbrev pub requirement_of : List (List ℕ) → Stated → Result Requirement RequirementKind
requirement_of codes s =
    and_then (as_in_books (rule_in codes s.text)) (λ rule.
    Ok (record { id = s.head.id; claim = claim_of s.head.part rule; from = s.head.days.from; until = s.head.days.until }))

abbrev pub with_requirement : List (List ℕ) → List Requirement → Stated → Result (List Requirement) RequirementKind
with_requirement codes before s = and_then (requirement_of codes s) (λ r. Ok (before ++ r ∷ []))

abbrev pub term_of : Contents → Days
term_of b = record { from = b.first; until = b.last }

abbrev pub requirements_of_rows : Contents → List Row → Result (List Requirement) RequirementFault
requirements_of_rows b rows = and_then (pass (stated_with (term_of b)) 1 [] rows) (λ stated. pass (with_requirement b.codes) 1 [] stated)

-- a fault of the text as a whole is at row 0
unfoldable pub requirements_of : Contents → List ℕ → Result (List Requirement) RequirementFault
requirements_of b text =
    if nat_lt MOST_TEXT_BYTES (length text) then at_row 0 (Err (AsInBooks TooLarge))
    else if not (is_utf8 text) then at_row 0 (Err (AsInBooks NotUtf8))
    else requirements_of_rows b (rows_of text)

abbrev pub rule_of_claim : Claim → Rule
rule_of_claim (Meets rule) = rule
rule_of_claim (Uses part rule) = rule

-- a requirement over so many codes
pub record RequirementFits (codes : ℕ) (r : Requirement) : Type 0 where
  pub rule : RuleFits codes (rule_of_claim r.claim)
