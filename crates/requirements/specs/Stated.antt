-- What a row states by itself. Each kind has so many fields in all, the kind's word counted. They are read from the left; the rule
-- is read later.
--     require   ID, RULE, FROM, UNTIL
--     uses      ID, PART, RULE, FROM, UNTIL
use Rattle.std.specs.Prelude.{ℕ, ◌≤◌, List, [], ◌∷◌, ◌++◌, Option, Some, None, Result, Ok, Err, codes, length, map, is_some, nat_le, if◌then◌else◌}
use Rattle.pb_base.specs.Names.{place_in, same_name}
use Rattle.pb_base.specs.Results.{and_then}
use Rattle.pb_base.specs.declared.limits.TheConstants.{MOST_TEXT_BYTES}
use Rattle.book_text.specs.Entry.{of_width}
use Rattle.book_text.specs.Fields.{field, name_in, part_in, days_in}
use Rattle.book_text.specs.Rows.{Row}
use Rattle.book_text.specs.declared.fault.BookKind.{BookKind}
use Rattle.book_text.specs.declared.fault.BookKind.TheVariants.{UnknownKind, Duplicate}
use Rattle.requirements.specs.Fault.{as_in_books}
use Rattle.requirements.specs.declared.fault.RequirementKind.{RequirementKind}
use Rattle.requirements.specs.declared.fault.RequirementKind.TheVariants.{AsInBooks, TooMany}
use Rattle.book_text.specs.declared.fields.Days.{Days}
use Rattle.requirements.specs.declared.requirement.TheConstants.{MOST_REQUIREMENTS}
use Rattle.requirements.specs.declared.stated.Head.{Head}
use Rattle.requirements.specs.declared.stated.Stated.{Stated}

abbrev pub require_head : Days → Row → Result Head BookKind
require_head term row = of_width 5 row (
    and_then (name_in (field row 1)) (λ id.
    and_then (days_in term (field row 3) (field row 4)) (λ days.
    Ok (record { id = id; part = None; days = days }))))

abbrev pub uses_head : Days → Row → Result Head BookKind
uses_head term row = of_width 6 row (
    and_then (name_in (field row 1)) (λ id.
    and_then (part_in (field row 2)) (λ part.
    and_then (days_in term (field row 4) (field row 5)) (λ days.
    Ok (record { id = id; part = Some part; days = days })))))

-- a row but for its rule
abbrev pub head_of : Days → Row → Result Head BookKind
head_of term row =
    if same_name (field row 0) (codes "require") then require_head term row
    else if same_name (field row 0) (codes "uses") then uses_head term row
    else Err UnknownKind

-- the text of its rule
abbrev pub text_of : Option (List ℕ) → Row → List ℕ
text_of None row = field row 2
text_of (Some part) row = field row 3

abbrev pub stated_of : Days → Row → Result Stated BookKind
stated_of term row = and_then (head_of term row) (λ head. Ok (record { head = head; text = text_of head.part row }))

abbrev pub ids_of : List Stated → List (List ℕ)
ids_of before = map (λ s. s.head.id) before

-- the ids with one more, which is new, and for which there is room
abbrev pub added_id : List (List ℕ) → List ℕ → Result (List (List ℕ)) RequirementKind
added_id ids id =
    if is_some (place_in ids id) then Err (AsInBooks Duplicate)
    else if nat_le MOST_REQUIREMENTS (length ids) then Err TooMany
    else Ok (ids ++ id ∷ [])

-- what the rows so far state, and one row more
abbrev pub stated_with : Days → List Stated → Row → Result (List Stated) RequirementKind
stated_with term before row =
    and_then (as_in_books (stated_of term row)) (λ s.
    and_then (added_id (ids_of before) s.head.id) (λ ids.
    Ok (before ++ s ∷ [])))

-- the text of a rule is no longer than a text may be
abbrev pub IsShortText : Stated → Type 0
IsShortText s = length s.text ≤ MOST_TEXT_BYTES
