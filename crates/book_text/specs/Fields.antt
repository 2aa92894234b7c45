-- What the fields of a row read as: a value, or the kind of the fault.
--     name_in         an Id: 1 to 8 bytes of A to Z and 0 to 9
--     code_name_in    a CodeName: an Id other than TRUE and FALSE
--     part_in         a Part: 1 to 16 bytes of A to Z and 0 to 9
--     number_in       1 to 5 digits, from a least to a greatest value; leading zeros are accepted
--     day_in          a number from 1 to 99,999
use Rattle.std.specs.Prelude.{ℕ, Bool, true, false, not, ◌&&◌, ◌||◌, ◌==◌, List, [], length, drop, Option, Some, None, Result, Ok, Err, nat_le, nat_lt, slice_index_or, if◌then◌else◌, codes}
use Rattle.std.specs.List.{list_all}
use Rattle.pb_base.specs.Names.{is_name, is_code_name, is_part, same_name}
use Rattle.pb_base.specs.Digits.{short_number}
use Rattle.book_text.specs.Rows.{Row}
use Rattle.pb_base.specs.Results.{and_then}
use Rattle.pb_base.specs.declared.limits.TheConstants.{LAST_DAY}
use Rattle.book_text.specs.declared.fields.Days.{Days}
use Rattle.book_text.specs.declared.fields.Form.{Form}
use Rattle.book_text.specs.declared.fields.Form.TheVariants as form
use Rattle.book_text.specs.declared.fields.GroupKind.{GroupKind}
use Rattle.book_text.specs.declared.fields.GroupKind.TheVariants as group
use Rattle.book_text.specs.declared.fault.BookKind.{BookKind}
use Rattle.book_text.specs.declared.fault.BookKind.TheVariants.{BadName, BadNumber, BadDays}

-- the field at a place, counted from 0
abbrev pub field : Row → ℕ → List ℕ
field row place = slice_index_or row place []

abbrev pub is_empty : List ℕ → Bool
is_empty text = length text == 0

-- whether a row has so many fields, and further ones only where they are empty
abbrev pub is_width : ℕ → Row → Bool
is_width width row = nat_le width (length row) && list_all is_empty (drop width row)

abbrev pub name_in : List ℕ → Result (List ℕ) BookKind
name_in text = if is_name text then Ok text else Err BadName

abbrev pub code_name_in : List ℕ → Result (List ℕ) BookKind
code_name_in text = if is_code_name text then Ok text else Err BadName

abbrev pub part_in : List ℕ → Result (List ℕ) BookKind
part_in text = if is_part text then Ok text else Err BadName

-- a code, or none for `*`
abbrev pub code_or_star_in : List ℕ → Result (Option (List ℕ)) BookKind
code_or_star_in text = if same_name text (codes "*") then Ok None else and_then (code_name_in text) (λ name. Ok (Some name))

-- a module, or none where the field is empty
abbrev pub module_in : List ℕ → Result (Option (List ℕ)) BookKind
module_in text = if is_empty text then Ok None else and_then (name_in text) (λ name. Ok (Some name))

abbrev pub is_mandatory_in : List ℕ → Result Bool BookKind
is_mandatory_in text =
    if same_name text (codes "mandatory") then Ok true
    else if same_name text (codes "optional") then Ok false
    else Err BadName

-- the kind of a group
abbrev pub group_kind_in : List ℕ → Result GroupKind BookKind
group_kind_in text =
    if same_name text (codes "one") then Ok group.One
    else if same_name text (codes "most") then Ok group.Most
    else Err BadName

-- the form of a book, which is the first where the field is empty
abbrev pub form_in : List ℕ → Result Form BookKind
form_in text =
    if is_empty text || same_name text (codes "1") then Ok form.One
    else if same_name text (codes "2") then Ok form.Two
    else Err BadNumber

-- a number from `low` to `high`
abbrev pub in_range : ℕ → ℕ → Option ℕ → Result ℕ BookKind
in_range low high (Some value) = if nat_le low value && nat_le value high then Ok value else Err BadNumber
in_range low high None = Err BadNumber

abbrev pub number_in : ℕ → ℕ → List ℕ → Result ℕ BookKind
number_in low high text = in_range low high (short_number text)

abbrev pub day_in : List ℕ → Result ℕ BookKind
day_in text = number_in 1 LAST_DAY text

-- a day, or the other one where the field is empty
abbrev pub day_or : ℕ → List ℕ → Result ℕ BookKind
day_or other text = if is_empty text then Ok other else day_in text

-- the term of a book, whose first day is not after its last
abbrev pub term_of : ℕ → ℕ → Result Days BookKind
term_of from until = if nat_lt until from then Err BadDays else Ok (record { from = from; until = until })

-- the days of a record: an empty field takes the term's day, and where both days are written the first is not after the last
abbrev pub days_in : Days → List ℕ → List ℕ → Result Days BookKind
days_in term first last =
    and_then (day_or term.from first) (λ from.
    and_then (day_or term.until last) (λ until.
    if not (is_empty first) && not (is_empty last) && nat_lt until from then Err BadDays
    else Ok (record { from = from; until = until })))
