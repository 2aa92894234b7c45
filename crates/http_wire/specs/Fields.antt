-- The fields of a head, each its name and its value, and what is read in them.
--     values_of name fields       the values of the fields of a name, in their order
--     body_length values          how long the body is, by the values of the Content-Length fields
--     says_close value            a Connection field asks to close
--     is_continue value           an Expect field awaits 100 Continue
--     one_caller values           the caller, by the values of the X-Caller fields
use Rattle.std.specs.Prelude.{ℕ, Bool, ◌&&◌, ◌==◌, nat_lt, List, [], ◌∷◌, length, Option, Some, None, Result, Ok, Err, codes, if◌then◌else◌}
use Rattle.std.specs.List.{list_all, list_any, filter_map, slice_split}
use Rattle.std.specs.Str.{str_eq_ignore_ascii_case}
use Rattle.httparse.specs.Grammar.{trim_ows}
use Rattle.pb_base.specs.Digits.{is_digit, value_of}
use Rattle.pb_base.specs.Names.{is_name}
use Rattle.pb_base.specs.declared.limits.TheConstants.{MOST_TEXT_BYTES}
use Rattle.http_wire.specs.declared.refusal.Refusal.{Refusal}
use Rattle.http_wire.specs.declared.refusal.Refusal.TheVariants.{Malformed, LongBody}

abbrev pub Field : Type 0
Field = List ℕ × List ℕ

-- words are compared without regard to case
abbrev pub same_word : List ℕ → List ℕ → Bool
same_word a b = str_eq_ignore_ascii_case a b

abbrev pub value_if_named : List ℕ → Field → Option (List ℕ)
value_if_named name field = if same_word field.0 name then Some field.1 else None

abbrev pub values_of : List ℕ → List Field → List (List ℕ)
values_of name fields = filter_map (value_if_named name) fields

-- one or more digits
abbrev pub is_digits : List ℕ → Bool
is_digits value = nat_lt 0 (length value) && list_all is_digit value

-- the number that the value writes, unless it is none, or too large for a body
abbrev pub length_by : List ℕ → Result ℕ Refusal
length_by value =
    if is_digits value
    then (if nat_lt MOST_TEXT_BYTES (value_of value) then Err LongBody else Ok (value_of value))
    else Err Malformed

-- the length of the body, or why it is refused; without a field the body is empty
abbrev pub body_length : List (List ℕ) → Result ℕ Refusal
body_length [] = Ok 0
body_length (value ∷ []) = length_by value
body_length (value ∷ more) = Err Malformed

-- one of the words between the commas is `close`
abbrev pub says_close : List ℕ → Bool
says_close value = list_any (λ word. same_word (trim_ows word) (codes "close")) (slice_split (λ b. b == 44) value)

abbrev pub is_continue : List ℕ → Bool
is_continue value = same_word value (codes "100-continue")

-- the one value, where it is a name
abbrev pub one_caller : List (List ℕ) → Option (List ℕ)
one_caller (value ∷ []) = if is_name value then Some value else None
one_caller _ = None
