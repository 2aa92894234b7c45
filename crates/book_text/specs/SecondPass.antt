-- The second pass: names become places, and rules are read. A name may stand before its record.
use Rattle.std.specs.Prelude.{ℕ, Bool, List, [], ◌∷◌, ◌++◌, length, Option, Some, None, Result, Ok, Err, nat_le, ok_or, if◌then◌else◌}
use Rattle.pb_base.specs.Names.{place_in}
use Rattle.pb_base.specs.Rule.{Rule}
use Rattle.rule_text.specs.Reading.{rule_of}
use Rattle.rule_text.specs.declared.fault.RuleFault.{RuleFault}
use Rattle.book_model.specs.Parts.{variants_of}
use Rattle.book_model.specs.declared.demand.Demand.{Demand}
use Rattle.book_model.specs.declared.demand.Demand.TheVariants as demand
use Rattle.book_model.specs.declared.record.Supplement.{Supplement}
use Rattle.book_model.specs.declared.record.Construct.{Construct}
use Rattle.book_model.specs.declared.record.Position.{Position}
use Rattle.book_model.specs.declared.record.Variant.{Variant}
use Rattle.book_text.specs.Rows.{Row}
use Rattle.pb_base.specs.Results.{and_then}
use Rattle.pb_base.specs.declared.limits.TheConstants.{MOST_CHOICES}
use Rattle.book_text.specs.Entry.{entry_of, text_of}
use Rattle.book_text.specs.Group.{names_in}
use Rattle.book_text.specs.Pass.{pass}
use Rattle.book_text.specs.Records.{Records, no_records}
use Rattle.book_text.specs.declared.fields.Days.{Days}
use Rattle.book_text.specs.declared.fields.GroupKind.{GroupKind}
use Rattle.book_text.specs.declared.fields.GroupKind.TheVariants as group
use Rattle.book_text.specs.declared.entry.Heading.{Heading}
use Rattle.book_text.specs.declared.names.Names.{Names}
use Rattle.book_text.specs.declared.entry.Entry.{Entry}
use Rattle.book_text.specs.declared.entry.Entry.TheVariants as e
use Rattle.book_text.specs.declared.fault.BookFault.{BookFault}
use Rattle.book_text.specs.declared.fault.BookKind.{BookKind}
use Rattle.book_text.specs.declared.fault.BookKind.TheVariants.{UnknownName, BadRule, Limit}
use Rattle.book_text.specs.declared.fault.Which.TheVariants.{Choices}

-- the place of the record with this name
abbrev pub place_of : List (List ℕ) → List ℕ → Result ℕ BookKind
place_of names name = ok_or (place_in names name) UnknownName

-- the same of a name that may be left out
abbrev pub place_if_named : List (List ℕ) → Option (List ℕ) → Result (Option ℕ) BookKind
place_if_named names None = Ok None
place_if_named names (Some name) = and_then (place_of names name) (λ place. Ok (Some place))

-- the places of the records with these names
abbrev pub places_of : List (List ℕ) → List (List ℕ) → Result (List ℕ) BookKind
places_of names [] = Ok []
places_of names (name ∷ more) =
    and_then (place_of names name) (λ place.
    and_then (places_of names more) (λ places.
    Ok (place ∷ places)))

abbrev pub as_rule : Result Rule RuleFault → Result Rule BookKind
as_rule (Ok rule) = Ok rule
as_rule (Err fault) = Err (BadRule fault)

-- the rule that a text spells over the codes of the book
abbrev pub rule_in : List (List ℕ) → List ℕ → Result Rule BookKind
rule_in codes text = as_rule (rule_of codes text)

-- a supplementing rule: its code is one of the book's
abbrev pub supplement_of : List (List ℕ) → List ℕ → ℕ → List ℕ → Days → List ℕ → Result Supplement BookKind
supplement_of codes id rank code days text =
    and_then (place_of codes code) (λ place.
    and_then (rule_in codes text) (λ rule.
    Ok (record { id = id; rank = rank; code = place; rule = rule; from = days.from; until = days.until })))

-- a constructibility rule: its code, where it has one, is one of the book's
abbrev pub construct_of : List (List ℕ) → List ℕ → Option (List ℕ) → Days → List ℕ → Result Construct BookKind
construct_of codes id on days text =
    and_then (place_if_named codes on) (λ place.
    and_then (rule_in codes text) (λ rule.
    Ok (record { id = id; demand = demand.Rule place rule; from = days.from; until = days.until })))

abbrev pub demand_of : GroupKind → List ℕ → Demand
demand_of group.One places = demand.One places
demand_of group.Most places = demand.Most places

-- a group: its codes are some of the book's
abbrev pub group_of : List (List ℕ) → List ℕ → GroupKind → Days → List ℕ → Result Construct BookKind
group_of codes id kind days text =
    and_then (places_of codes (names_in text)) (λ places.
    Ok (record { id = id; demand = demand_of kind places; from = days.from; until = days.until }))

-- a position: its module, where it stands in one, is one of the book's
abbrev pub position_of : List (List ℕ) → List ℕ → Option (List ℕ) → Bool → Days → Result Position BookKind
position_of modules id group mandatory days =
    and_then (place_if_named modules group) (λ place.
    Ok (record { id = id; «module» = place; mandatory = mandatory; from = days.from; until = days.until }))

-- a variant: its position is one of the book's
abbrev pub variant_of : Names → List ℕ → List ℕ → List ℕ → ℕ → Days → List ℕ → Result Variant BookKind
variant_of names id position part quantity days text =
    and_then (place_of names.positions position) (λ place.
    and_then (rule_in names.codes text) (λ rule.
    Ok (record { id = id; position = place; part = part; quantity = quantity; rule = rule; from = days.from; until = days.until })))

-- the variants with one more, of which its position has no more than it may
abbrev pub with_variant : List Variant → Variant → Result (List Variant) BookKind
with_variant variants v =
    if nat_le MOST_CHOICES (length (variants_of v.position variants)) then Err (Limit Choices) else Ok (variants ++ v ∷ [])

-- the records with that of a row, which has this text beside it; the codes stand among the names already
abbrev pub resolved : Names → Records → Entry → List ℕ → Result Records BookKind
resolved names r (e.Code name) text = Ok r
resolved names r (e.Supplement id rank code days) text =
    and_then (supplement_of names.codes id rank code days text) (λ s. Ok (record r { supplements = r.supplements ++ s ∷ [] }))
resolved names r (e.Construct id on days) text =
    and_then (construct_of names.codes id on days text) (λ c. Ok (record r { constructs = r.constructs ++ c ∷ [] }))
resolved names r (e.Group id kind days) text =
    and_then (group_of names.codes id kind days text) (λ c. Ok (record r { constructs = r.constructs ++ c ∷ [] }))
resolved names r (e.Module id) text =
    Ok (record r { modules = r.modules ++ record { id = id } ∷ [] })
resolved names r (e.Position id group mandatory days) text =
    and_then (position_of names.modules id group mandatory days) (λ p. Ok (record r { positions = r.positions ++ p ∷ [] }))
resolved names r (e.Variant id position part quantity days) text =
    and_then (variant_of names id position part quantity days text) (λ v.
    and_then (with_variant r.variants v) (λ variants. Ok (record r { variants = variants })))

abbrev pub resolved_row : Heading → Names → Records → Row → Result Records BookKind
resolved_row heading names r row = and_then (entry_of heading row) (λ entry. resolved names r entry (text_of entry row))

-- the records of the rows behind the heading, which is row 1
abbrev pub second_pass : Heading → Names → List Row → Result Records BookFault
second_pass heading names rows = pass (resolved_row heading names) 2 no_records rows
