-- The second pass finds the records: names become places again, and rules are read back.
use Rattle.std.proofs.Common.{◌≡◌, ◌==◌, ℕ, suc, ◌+◌, ◌<◌, ◌≤◌, Bool, true, false, List, [], ◌∷◌, ◌++◌, Option, Some, None, Ok, length, refl, ap, ◌∙◌, arith, if◌then◌else◌}
use Rattle.std.specs.Prelude.{map, IfSome}
use Rattle.std.specs.Option.{option_map}
use Rattle.std.specs.List.{IsDistinct, AllByRecursion}
use Rattle.std.proofs.lemmas.Bool.{lt-leb, eq-eqb}
use Rattle.pb_base.specs.Names.{same_name}
use Rattle.pb_base.specs.Results.{and_then}
use Rattle.pb_base.specs.Rule.{Rule}
use Rattle.pb_base.specs.declared.limits.TheConstants.{MOST_CHOICES}
use Rattle.rule_text.specs.Printing.{printed}
use Rattle.rule_text.proofs.Back.{AreCodes, name_place, reads_back}
use Rattle.book_model.specs.Parts.{variants_from, variants_of}
use Rattle.book_model.specs.declared.record.Variant.{Variant}
use Rattle.book_text.specs.Entry.{text_of}
use Rattle.book_text.specs.Pass.{pass}
use Rattle.book_text.specs.Records.{Records}
use Rattle.book_text.specs.SecondPass.{as_rule, place_of, place_if_named, rule_in, resolved, resolved_row, with_variant}
use Rattle.book_text.specs.declared.entry.Heading.{Heading}
use Rattle.book_text.specs.declared.fields.Days.{Days}
use Rattle.book_text.specs.declared.names.Names.{Names}
use Rattle.book_text.proofs.PassLemmas.{pass-more, pass-end}
use Rattle.book_sample.specs.Item.{Item, a_code, a_supplement, a_construct, a_module, a_position, a_variant}
use Rattle.book_sample.specs.Rows.{name_at, row_of}
use Rattle.book_sample.specs.Book.{with_record, records_after}
use Rattle.book_sample.specs.Written.{AreNames, ItemFits, RuleFits}
use Rattle.book_sample.proofs.RowSaid.{AreSpelled, said, row_says}

-- ---- a position has few enough variants at each step where it has in the end

abbrev HasRoom : List Variant → Type 0
HasRoom variants = (place : ℕ) → length (variants_of place variants) ≤ MOST_CHOICES

one_if : Bool → ℕ
one_if true = 1
one_if false = 0

count_one : (b : Bool) (i : ℕ) → length (if b then i ∷ [] else []) ≡ one_if b
unfolding one_if
count_one true i = refl
count_one false i = refl

count_more : (b : Bool) (i : ℕ) (others more : List ℕ) (n : ℕ) → length more ≡ length others + n
    → length (if b then i ∷ more else more) ≡ length (if b then i ∷ others else others) + n
count_more true i others more n h = omega arith
count_more false i others more n h = h

count_push : (i place : ℕ) (variants : List Variant) (v : Variant)
    → length (variants_from i place (variants ++ v ∷ [])) ≡ length (variants_from i place variants) + one_if (v.position == place)
count_push i place [] v = let none : 0 + one_if (v.position == place) ≡ one_if (v.position == place) = omega arith in rw none (count_one (v.position == place) i)
count_push i place (w ∷ variants) v =
    count_more (w.position == place) i (variants_from (suc i) place variants) (variants_from (suc i) place (variants ++ v ∷ []))
    (one_if (v.position == place)) (count_push (suc i) place variants v)

room_before : (variants : List Variant) (v : Variant) → HasRoom (variants ++ v ∷ []) → HasRoom variants
room_before variants v h place = omega (arith, h place, count_push 0 place variants v)

room_for : (variants : List Variant) (v : Variant) → HasRoom (variants ++ v ∷ []) → with_variant variants v ≡ Ok (variants ++ v ∷ [])
unfolding one_if
room_for variants v h =
    let same : (v.position == v.position) ≡ true = eq-eqb v.position v.position refl in
    let one = ap one_if same in
    rw (lt-leb MOST_CHOICES (length (variants_of v.position variants)) (omega (arith, h v.position, count_push 0 v.position variants v, one))) refl

record_room : (days : Days) (r : Records) (item : Item) → HasRoom (with_record days r item).variants → HasRoom r.variants
record_room days r (a_code name) h = h
record_room days r (a_supplement id rank code rule) h = h
record_room days r (a_construct id on rule) h = h
record_room days r (a_module id) h = h
record_room days r (a_position id group mandatory) h = h
record_room days r (a_variant id position part quantity rule) h =
    room_before r.variants (record { id = id; position = position; part = part; quantity = quantity; rule = rule; from = days.from; until = days.until }) h

all_room : (days : Days) (r : Records) (items : List Item) → HasRoom (records_after days r items).variants → HasRoom r.variants
all_room days r [] h = h
all_room days r (item ∷ items) h = record_room days r item (all_room days (with_record days r item) items h)

-- ---- each record

place_found : (names : List (List ℕ)) (place : ℕ) → IsDistinct same_name names → place < length names → place_of names (name_at names place) ≡ Ok place
place_found names place d inside = rw (name_place names place d inside) refl

named_found : (names : List (List ℕ)) (place : Option ℕ) → IsDistinct same_name names → IfSome place (λ p. p < length names)
    → place_if_named names (option_map (name_at names) place) ≡ Ok place
named_found names None d inside = refl
named_found names (Some place) d inside = rw (place_found names place d inside) refl

rule_found : (names : List (List ℕ)) (rule : Rule) → AreCodes names → RuleFits (length names) rule → rule_in names (printed names rule) ≡ Ok rule
rule_found names rule are fits = ap as_rule (reads_back names rule are fits.in_range fits.depth fits.size)

module _ (n : Names) (are : AreNames n) (s : AreSpelled n) (term : Days) (r : Records) where
  are_codes : AreCodes n.codes
  are_codes = (s.codes, are.codes.distinct)

  pub item_resolved : (item : Item) → ItemFits n item → HasRoom (with_record term r item).variants
      → resolved n r (said n term item) (text_of (said n term item) (row_of n item)) ≡ Ok (with_record term r item)
  item_resolved (a_code name) fits room = refl
  item_resolved (a_supplement id rank code rule) (_, _, inside, fits) room =
      rw (place_found n.codes code are.codes.distinct inside, rule_found n.codes rule are_codes fits) refl
  item_resolved (a_construct id on rule) (_, inside, fits) room =
      rw (named_found n.codes on are.codes.distinct inside, rule_found n.codes rule are_codes fits) refl
  item_resolved (a_module id) fits room = refl
  item_resolved (a_position id group mandatory) (_, inside) room = rw (named_found n.modules group are.modules.distinct inside) refl
  item_resolved (a_variant id position part quantity rule) (_, inside, _, _, _, fits) room =
      rw (
        place_found n.positions position are.positions.distinct inside,
        rule_found n.codes rule are_codes fits,
        room_for r.variants (record { id = id; position = position; part = part; quantity = quantity; rule = rule; from = term.from; until = term.until }) room,
      ) refl

pub records_back : (h : Heading) (n : Names) (k : ℕ) (r : Records) (items : List Item) → AreNames n → AreSpelled n → AllByRecursion (ItemFits n) items
    → HasRoom (records_after h.term r items).variants → pass (resolved_row h n) k r (map (row_of n) items) ≡ Ok (records_after h.term r items)
records_back h n k r [] are s fits room = pass-end (resolved_row h n) k r
records_back h n k r (item ∷ items) are s fits room =
    pass-more (resolved_row h n) k r (with_record h.term r item) (row_of n item) (map (row_of n) items)
    (ap (λ said. and_then said (λ entry. resolved n r entry (text_of entry (row_of n item)))) (row_says h n item s fits.0)
    ∙ item_resolved n are s h.term r item fits.0 (all_room h.term (with_record h.term r item) items room))
    ∙ records_back h n (k + 1) (with_record h.term r item) items are s fits.1 room
