-- The table of the format: the record that a row says, by its kind, or the first fault of the row by itself. Each kind has so
-- many fields in all, the kind's word counted. They are read from the left; the texts of codes and modules are free, and a rule
-- is read later, as are the places of a group's codes.
--     book         NAME, FIRST, LAST, and, if wanted, FORM
--     code         CODE, TEXT
--     supplement   ID, RANK, CODE, RULE, FROM, UNTIL
--     construct    ID, CODE or *, RULE, FROM, UNTIL
--     group        ID, one or most, CODES, FROM, UNTIL, in a book of form 2
--     module       ID, TEXT
--     position     ID, MODULE or nothing, mandatory or optional, FROM, UNTIL
--     variant      ID, POSITION, PART, QUANTITY, RULE, FROM, UNTIL
use Rattle.std.specs.Prelude.{ℕ, List, [], Option, Some, None, Result, Ok, Err, not, ◌||◌, if◌then◌else◌}
use Rattle.book_text.specs.Rows.{Row}
use Rattle.pb_base.specs.Results.{and_then}
use Rattle.book_text.specs.Fields.{field, is_width, name_in, code_name_in, code_or_star_in, part_in, module_in, is_mandatory_in, group_kind_in, form_in, number_in, day_in, term_of, days_in}
use Rattle.book_text.specs.Group.{is_group}
use Rattle.book_text.specs.Kind.{kind_of}
use Rattle.book_text.specs.declared.kind.Kind.{Kind}
use Rattle.book_text.specs.declared.kind.Kind.TheVariants as kind
use Rattle.book_text.specs.declared.fields.Days.{Days}
use Rattle.book_text.specs.declared.fields.Form.{Form}
use Rattle.book_text.specs.declared.fields.Form.TheVariants as form
use Rattle.book_text.specs.declared.entry.Heading.{Heading}
use Rattle.book_text.specs.declared.entry.Entry.{Entry}
use Rattle.book_text.specs.declared.entry.Entry.TheVariants.{Code, Supplement, Construct, Group, Module, Position, Variant}
use Rattle.book_text.specs.declared.fault.BookKind.{BookKind}
use Rattle.book_text.specs.declared.fault.BookKind.TheVariants.{NoBookRecord, SecondBookRecord, UnknownKind, FieldCount, BadName}

-- the record of a row that has to have so many fields
abbrev pub of_width : {A : Type 0} → ℕ → Row → Result A BookKind → Result A BookKind
of_width width row said = if is_width width row then said else Err FieldCount

abbrev pub book_in : Row → Result Heading BookKind
book_in row =
    if not (is_width 4 row || is_width 5 row) then Err FieldCount else
    and_then (name_in (field row 1)) (λ name.
    and_then (day_in (field row 2)) (λ from.
    and_then (day_in (field row 3)) (λ until.
    and_then (form_in (field row 4)) (λ form.
    and_then (term_of from until) (λ term.
    Ok (record { name = name; term = term; form = form }))))))

abbrev pub code_in : Row → Result Entry BookKind
code_in row = of_width 3 row (
    and_then (code_name_in (field row 1)) (λ name.
    Ok (Code name)))

abbrev pub supplement_in : Days → Row → Result Entry BookKind
supplement_in term row = of_width 7 row (
    and_then (name_in (field row 1)) (λ id.
    and_then (number_in 0 9999 (field row 2)) (λ rank.
    and_then (code_name_in (field row 3)) (λ code.
    and_then (days_in term (field row 5) (field row 6)) (λ days.
    Ok (Supplement id rank code days))))))

abbrev pub construct_in : Days → Row → Result Entry BookKind
construct_in term row = of_width 6 row (
    and_then (name_in (field row 1)) (λ id.
    and_then (code_or_star_in (field row 2)) (λ on.
    and_then (days_in term (field row 4) (field row 5)) (λ days.
    Ok (Construct id on days)))))

abbrev pub group_in : Days → Row → Result Entry BookKind
group_in term row = of_width 6 row (
    and_then (name_in (field row 1)) (λ id.
    and_then (group_kind_in (field row 2)) (λ kind.
    if not (is_group (field row 3)) then Err BadName else
    and_then (days_in term (field row 4) (field row 5)) (λ days.
    Ok (Group id kind days)))))

abbrev pub module_record_in : Row → Result Entry BookKind
module_record_in row = of_width 3 row (
    and_then (name_in (field row 1)) (λ id.
    Ok (Module id)))

abbrev pub position_in : Days → Row → Result Entry BookKind
position_in term row = of_width 6 row (
    and_then (name_in (field row 1)) (λ id.
    and_then (module_in (field row 2)) (λ group.
    and_then (is_mandatory_in (field row 3)) (λ mandatory.
    and_then (days_in term (field row 4) (field row 5)) (λ days.
    Ok (Position id group mandatory days))))))

abbrev pub variant_in : Days → Row → Result Entry BookKind
variant_in term row = of_width 8 row (
    and_then (name_in (field row 1)) (λ id.
    and_then (name_in (field row 2)) (λ position.
    and_then (part_in (field row 3)) (λ part.
    and_then (number_in 1 999 (field row 4)) (λ quantity.
    and_then (days_in term (field row 6) (field row 7)) (λ days.
    Ok (Variant id position part quantity days)))))))

-- the first row is the `book` record
abbrev pub heading_of_kind : Option Kind → Row → Result Heading BookKind
heading_of_kind (Some kind.Book) row = book_in row
heading_of_kind _ row = Err NoBookRecord

abbrev pub heading_of : Row → Result Heading BookKind
heading_of row = heading_of_kind (kind_of (field row 0)) row

-- groups come with form 2
abbrev pub group_in_form : Form → Days → Row → Result Entry BookKind
group_in_form form.One term row = Err UnknownKind
group_in_form form.Two term row = group_in term row

-- and no other row is
abbrev pub entry_of_kind : Option Kind → Heading → Row → Result Entry BookKind
entry_of_kind None h row = Err UnknownKind
entry_of_kind (Some kind.Book) h row = Err SecondBookRecord
entry_of_kind (Some kind.Code) h row = code_in row
entry_of_kind (Some kind.Supplement) h row = supplement_in h.term row
entry_of_kind (Some kind.Construct) h row = construct_in h.term row
entry_of_kind (Some kind.Group) h row = group_in_form h.form h.term row
entry_of_kind (Some kind.Module) h row = module_record_in row
entry_of_kind (Some kind.Position) h row = position_in h.term row
entry_of_kind (Some kind.Variant) h row = variant_in h.term row

-- the record of a further row, in a book of this heading
abbrev pub entry_of : Heading → Row → Result Entry BookKind
entry_of h row = entry_of_kind (kind_of (field row 0)) h row

-- the text that stands in a row beside its record: of its rule, or of a group's codes; none where a record of the kind has neither
abbrev pub text_of : Entry → Row → List ℕ
text_of (Supplement id rank code days) row = field row 4
text_of (Construct id on days) row = field row 3
text_of (Group id kind days) row = field row 3
text_of (Variant id position part quantity days) row = field row 5
text_of (Code name) row = []
text_of (Module id) row = []
text_of (Position id group mandatory days) row = []
