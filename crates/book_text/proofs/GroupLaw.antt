-- A group whose text is one names some of the book's codes, each once.
use Rattle.std.proofs.Common.{◌≡◌, ◌≤◌, ℕ, Bool, true, false, not, ◌&&◌, ◌||◌, List, [], ◌∷◌, ◌++◌, length, Option, Some, None, Ok, refl, subst, arith, append_assoc}
use Rattle.std.specs.Prelude.{nat_le}
use Rattle.std.specs.List.{IsDistinct, list_any}
use Rattle.std.proofs.lemmas.Bool.{and_parts}
use Rattle.std.proofs.lemmas.List.{append-nil}
use Rattle.pb_base.specs.Names.{is_code_name, same_name}
use Rattle.pb_base.specs.declared.limits.TheConstants.{LEAST_GROUP_CODES, MOST_GROUP_CODES}
use Rattle.book_model.specs.Book.{GroupFits}
use Rattle.book_text.specs.Rows.{Row}
use Rattle.book_text.specs.Fields.{field, is_width, name_in, code_name_in, code_or_star_in, part_in, module_in, is_mandatory_in, group_kind_in, number_in, days_in}
use Rattle.book_text.specs.Group.{names_in, may_follow, are_codes_behind, is_group, are_group}
use Rattle.book_text.specs.Kind.{kind_of}
use Rattle.book_text.specs.Entry.{group_in_form, entry_of_kind, entry_of}
use Rattle.book_text.specs.SecondPass.{places_of}
use Rattle.book_text.specs.declared.kind.Kind.{Kind}
use Rattle.book_text.specs.declared.kind.Kind.TheVariants as kind
use Rattle.book_text.specs.declared.entry.Heading.{Heading}
use Rattle.book_text.specs.declared.entry.Entry.{Entry}
use Rattle.book_text.specs.declared.entry.Entry.TheVariants as e
use Rattle.book_text.specs.declared.fields.Days.{Days}
use Rattle.book_text.specs.declared.fields.Form.{Form}
use Rattle.book_text.specs.declared.fields.Form.TheVariants as form
use Rattle.book_text.specs.declared.fault.BookKind.TheVariants.{FieldCount, BadName}
use Rattle.book_text.proofs.DistinctLemmas.{IsAbsent, distinct-push}
use Rattle.book_text.proofs.Faultless.{Says, says-then, says-if, says-else}
use Rattle.book_text.proofs.PlaceLemmas.{places_of-below, length-places_of, places_of-distinct}

-- ---- the names of a group are distinct

absent-by : (here later : Bool) (name x : List ℕ) (names : List (List ℕ)) → same_name name x ≡ here → not (here || later) ≡ true → (not later ≡ true → IsAbsent name names) → IsAbsent name (x ∷ names)
absent-by true later name x names e h rest = cc
absent-by false later name x names e h rest = (e, rest h)

absent-from_any : (names : List (List ℕ)) (name : List ℕ) → not (list_any (same_name name) names) ≡ true → IsAbsent name names
absent-from_any [] name h = tt
absent-from_any (x ∷ names) name h = absent-by (same_name name x) (list_any (same_name name) names) name x names refl h (absent-from_any names name)

distinct-behind : (before names : List (List ℕ)) → IsDistinct same_name before → are_codes_behind before names ≡ true → IsDistinct same_name (before ++ names)
distinct-behind before [] d h = rw (append-nil before) d
distinct-behind before (name ∷ names) d h =
    let (may, rest) = and_parts (may_follow before name) (are_codes_behind (before ++ name ∷ []) names) h in
    let new = (and_parts (is_code_name name) (not (list_any (same_name name) before)) may).1 in
    subst (IsDistinct same_name) (append_assoc before (name ∷ []) names)
    (distinct-behind (before ++ name ∷ []) names (distinct-push before name d (absent-from_any before name new)) rest)

no-names : IsDistinct same_name []
unfolding IsDistinct
no-names = tt

-- what a group's text says of the names
pub record AreGroup (names : List (List ℕ)) : Type 0 where
  pub least : LEAST_GROUP_CODES ≤ length names
  pub most : length names ≤ MOST_GROUP_CODES
  pub distinct : IsDistinct same_name names

are_group-says : (names : List (List ℕ)) → are_group names ≡ true → AreGroup names
are_group-says names h =
    let (count, codes) = and_parts (nat_le LEAST_GROUP_CODES (length names) && nat_le (length names) MOST_GROUP_CODES) (are_codes_behind [] names) h in
    let (least, most) = and_parts (nat_le LEAST_GROUP_CODES (length names)) (nat_le (length names) MOST_GROUP_CODES) count in
    record { least = grind (arith, least); most = grind (arith, most); distinct = distinct-behind [] names no-names codes }

-- its places fit
pub places_of-fits : (codes : List (List ℕ)) (text : List ℕ) (places : List ℕ) → is_group text ≡ true → places_of codes (names_in text) ≡ Ok places → GroupFits (length codes) places
places_of-fits codes text places is h =
    let says = are_group-says (names_in text) is in
    let count = length-places_of codes (names_in text) places h in
    record {
      in_range = places_of-below codes (names_in text) places h;
      distinct = places_of-distinct codes (names_in text) places says.distinct h;
      least = omega (arith, count, says.least);
      most = omega (arith, count, says.most);
    }

-- ---- the text beside the record of a group is a group's

-- the text that a row with this record has beside it
abbrev pub IsBeside : Row → Entry → Type 0
IsBeside row (e.Group id kind days) = is_group (field row 3) ≡ true
IsBeside row (e.Code name) = Unit {0}
IsBeside row (e.Supplement id rank code days) = Unit {0}
IsBeside row (e.Construct id on days) = Unit {0}
IsBeside row (e.Module id) = Unit {0}
IsBeside row (e.Position id group mandatory days) = Unit {0}
IsBeside row (e.Variant id position part quantity days) = Unit {0}

true-of : (b : Bool) → not b ≡ false → b ≡ true
true-of true h = refl
true-of false h = cc

group_says : (f : Form) (term : Days) (row : Row) → Says (IsBeside row) (group_in_form f term row)
group_says form.One term row = tt
group_says form.Two term row =
    let P = IsBeside row in
    says-if P (is_width 6 row) _ FieldCount (
    says-then P (name_in (field row 1)) _ (λ id _.
    says-then P (group_kind_in (field row 2)) _ (λ which _.
    says-else P (not (is_group (field row 3))) _ BadName (λ is.
    says-then P (days_in term (field row 4) (field row 5)) _ (λ days _. true-of (is_group (field row 3)) is)))))

kind_says : (k : Option Kind) (h : Heading) (row : Row) → Says (IsBeside row) (entry_of_kind k h row)
kind_says None h row = tt
kind_says (Some kind.Book) h row = tt
kind_says (Some kind.Code) h row =
    let P = IsBeside row in
    says-if P (is_width 3 row) _ FieldCount (says-then P (code_name_in (field row 1)) _ (λ name _. tt))
kind_says (Some kind.Supplement) h row =
    let P = IsBeside row in
    says-if P (is_width 7 row) _ FieldCount (
    says-then P (name_in (field row 1)) _ (λ id _.
    says-then P (number_in 0 9999 (field row 2)) _ (λ rank _.
    says-then P (code_name_in (field row 3)) _ (λ code _.
    says-then P (days_in h.term (field row 5) (field row 6)) _ (λ days _. tt)))))
kind_says (Some kind.Construct) h row =
    let P = IsBeside row in
    says-if P (is_width 6 row) _ FieldCount (
    says-then P (name_in (field row 1)) _ (λ id _.
    says-then P (code_or_star_in (field row 2)) _ (λ on _.
    says-then P (days_in h.term (field row 4) (field row 5)) _ (λ days _. tt))))
kind_says (Some kind.Group) h row = group_says h.form h.term row
kind_says (Some kind.Module) h row =
    let P = IsBeside row in
    says-if P (is_width 3 row) _ FieldCount (says-then P (name_in (field row 1)) _ (λ id _. tt))
kind_says (Some kind.Position) h row =
    let P = IsBeside row in
    says-if P (is_width 6 row) _ FieldCount (
    says-then P (name_in (field row 1)) _ (λ id _.
    says-then P (module_in (field row 2)) _ (λ group _.
    says-then P (is_mandatory_in (field row 3)) _ (λ mandatory _.
    says-then P (days_in h.term (field row 4) (field row 5)) _ (λ days _. tt)))))
kind_says (Some kind.Variant) h row =
    let P = IsBeside row in
    says-if P (is_width 8 row) _ FieldCount (
    says-then P (name_in (field row 1)) _ (λ id _.
    says-then P (name_in (field row 2)) _ (λ position _.
    says-then P (part_in (field row 3)) _ (λ part _.
    says-then P (number_in 1 999 (field row 4)) _ (λ quantity _.
    says-then P (days_in h.term (field row 6) (field row 7)) _ (λ days _. tt))))))

pub entry_of-beside : (h : Heading) (row : Row) (entry : Entry) → entry_of h row ≡ Ok entry → IsBeside row entry
entry_of-beside h row entry is = rw is at (kind_says (kind_of (field row 0)) h row)
