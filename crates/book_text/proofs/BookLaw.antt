-- Where the passes find no fault, the heading, the names and the records make a book that meets its condition.
use Rattle.std.proofs.Common.{◌≡◌, ◌≤◌, ◌++◌, ℕ, Bool, true, false, List, [], ◌∷◌, length, map, Option, Some, None, Ok, Err, refl, sym, ap, ◌∙◌, subst, arith, if◌then◌else◌}
use Rattle.std.specs.Prelude.{nat_lt, not, ◌||◌, All}
use Rattle.std.specs.Str.{is_utf8}
use Rattle.std.specs.List.{IsDistinct}
use Rattle.std.proofs.lemmas.List.{length-map}
use Rattle.pb_base.specs.Names.{same_name}
use Rattle.book_model.specs.Contents.{Contents}
use Rattle.book_model.specs.Book.{IsBook, PositionFits, VariantFits}
use Rattle.book_model.specs.declared.record.Supplement.{Supplement}
use Rattle.book_model.specs.declared.record.Construct.{Construct}
use Rattle.book_model.specs.declared.record.Module.{Module}
use Rattle.book_model.specs.declared.record.Position.{Position}
use Rattle.book_model.specs.declared.record.Variant.{Variant}
use Rattle.book_text.specs.Rows.{Row, rows_of}
use Rattle.pb_base.specs.Results.{and_then}
use Rattle.pb_base.specs.declared.limits.TheConstants.{MOST_TEXT_BYTES}
use Rattle.book_text.specs.Fault.{at_row}
use Rattle.book_text.specs.Fields.{field, is_width, name_in, day_in, form_in, term_of}
use Rattle.book_text.specs.Kind.{kind_of}
use Rattle.book_text.specs.Entry.{book_in, heading_of_kind, heading_of}
use Rattle.book_text.specs.BookText.{book_of, book_of_rows, book_behind}
use Rattle.book_text.specs.FirstPass.{first_pass}
use Rattle.book_text.specs.Records.{Records, book_with}
use Rattle.book_text.specs.SecondPass.{second_pass}
use Rattle.book_text.specs.declared.kind.Kind.{Kind}
use Rattle.book_text.specs.declared.kind.Kind.TheVariants as kind
use Rattle.book_text.specs.declared.fields.Days.{Days}
use Rattle.book_text.specs.declared.names.Names.{Names}
use Rattle.book_text.specs.declared.entry.Heading.{Heading}
use Rattle.book_text.specs.declared.fault.BookKind.TheVariants.{FieldCount, BadDays, TooLarge, NotUtf8}
use Rattle.book_text.proofs.Faultless.{Says, says-then, says-else, and_then-Ok, at_row-Ok}
use Rattle.book_text.proofs.NamesLaw.{NamesFit, first_pass-fits}
use Rattle.book_text.proofs.RecordsLaw.{RecordsFit, AreNamed, second_pass-fits, passes-named}

-- ---- the term

abbrev pub IsOrdered : Days → Type 0
IsOrdered days = days.from ≤ days.until

ordered-by : (b : Bool) (days got : Days) → nat_lt days.until days.from ≡ b → (if b then Err BadDays else Ok days) ≡ Ok got → IsOrdered got
ordered-by true days got e h = cc
ordered-by false days got e h = let same : days ≡ got = cc in subst IsOrdered same (grind (arith, e))

term_of-ordered : (from until : ℕ) (days : Days) → term_of from until ≡ Ok days → IsOrdered days
term_of-ordered from until days h = ordered-by (nat_lt until from) (record { from = from; until = until }) days refl h

abbrev HasOrdered : Heading → Type 0
HasOrdered heading = IsOrdered heading.term

book_in-ordered : (row : Row) → Says HasOrdered (book_in row)
book_in-ordered row =
    says-else HasOrdered (not (is_width 4 row || is_width 5 row)) _ FieldCount (λ _.
    says-then HasOrdered (name_in (field row 1)) _ (λ name _.
    says-then HasOrdered (day_in (field row 2)) _ (λ from _.
    says-then HasOrdered (day_in (field row 3)) _ (λ until _.
    says-then HasOrdered (form_in (field row 4)) _ (λ form _.
    says-then HasOrdered (term_of from until) _ (λ term is. term_of-ordered from until term is))))))

of_kind-ordered : (k : Option Kind) (row : Row) → Says HasOrdered (heading_of_kind k row)
of_kind-ordered None row = tt
of_kind-ordered (Some kind.Book) row = book_in-ordered row
of_kind-ordered (Some kind.Code) row = tt
of_kind-ordered (Some kind.Supplement) row = tt
of_kind-ordered (Some kind.Construct) row = tt
of_kind-ordered (Some kind.Group) row = tt
of_kind-ordered (Some kind.Module) row = tt
of_kind-ordered (Some kind.Position) row = tt
of_kind-ordered (Some kind.Variant) row = tt

-- a heading's first day is not after its last
pub heading_of-ordered : (row : Row) (heading : Heading) → heading_of row ≡ Ok heading → IsOrdered heading.term
heading_of-ordered row heading h = rw h at (of_kind-ordered (kind_of (field row 0)) row)

-- ---- the book

as-many : {X : Type 0} (id_of : X → List ℕ) (records : List X) (names : List (List ℕ)) → map id_of records ≡ names → length records ≡ length names
as-many id_of records names h = sym (length-map records id_of) ∙ ap length h

whole-book : (heading : Heading) (names : Names) (r : Records) → IsOrdered heading.term → NamesFit names → RecordsFit names r → AreNamed names r → IsBook (book_with heading names r)
whole-book heading names r ordered fit fits named =
    let supplements = as-many (λ (s : Supplement). s.id) r.supplements names.supplements named.supplements in
    let modules = as-many (λ (m : Module). m.id) r.modules names.modules named.modules in
    let positions = as-many (λ (p : Position). p.id) r.positions names.positions named.positions in
    let variants = as-many (λ (v : Variant). v.id) r.variants names.variants named.variants in
    record {
      term = ordered;
      codes_limit = fit.codes.within;
      supplements_limit = omega (arith, supplements, fit.rules.supplements_within);
      constructs_limit = omega (arith, named.constructs.rules, fit.rules.rules_within);
      groups_limit = omega (arith, named.constructs.groups, fit.rules.groups_within);
      modules_limit = omega (arith, modules, fit.modules.within);
      positions_limit = omega (arith, positions, fit.positions.within);
      variants_limit = omega (arith, variants, fit.variants.within);
      choices_limit = fits.choices;
      supplements_fit = fits.supplements;
      constructs_fit = fits.constructs;
      positions_fit = subst (λ (n : ℕ). All (PositionFits n) r.positions) (sym modules) fits.positions;
      variants_fit = subst (λ (n : ℕ). All (VariantFits (length names.codes) n) r.variants) (sym positions) fits.variants;
      rule_ids_distinct =
          subst (λ (ids : List (List ℕ)). IsDistinct same_name (ids ++ map (λ (c : Construct). c.id) r.constructs)) (sym named.supplements)
          (subst (λ (ids : List (List ℕ)). IsDistinct same_name (names.supplements ++ ids)) (sym named.constructs.ids) fit.rules.distinct);
      module_ids_distinct = subst (IsDistinct same_name) (sym named.modules) fit.modules.distinct;
      position_ids_distinct = subst (IsDistinct same_name) (sym named.positions) fit.positions.distinct;
      variant_ids_distinct = subst (IsDistinct same_name) (sym named.variants) fit.variants.distinct;
    }

-- what the passes make of the rows behind a heading is a book
pub passes-book : (heading : Heading) (rows : List Row) (names : Names) (records : Records)
    → IsOrdered heading.term → first_pass heading rows ≡ Ok names → second_pass heading names rows ≡ Ok records
    → IsBook (book_with heading names records)
passes-book heading rows names records ordered first second =
    whole-book heading names records ordered (first_pass-fits heading rows names first)
    (second_pass-fits heading names rows records second) (passes-named heading names rows records first second)

-- it has as many positions as their names are
pub passes-positions : (heading : Heading) (rows : List Row) (names : Names) (records : Records)
    → first_pass heading rows ≡ Ok names → second_pass heading names rows ≡ Ok records → length names.positions ≡ length records.positions
passes-positions heading rows names records first second =
    sym (as-many (λ (p : Position). p.id) records.positions names.positions (passes-named heading names rows records first second).positions)

-- what the rows of a text read as, if they have no fault, is a book
pub rows-book : (rows : List Row) (b : Contents) → book_of_rows rows ≡ Ok b → IsBook b
rows-book [] b h = cc
rows-book (row ∷ rows) b h =
    let (heading, headed, read) = and_then-Ok (at_row 1 (heading_of row)) (λ heading. book_behind heading rows) b h in
    let (names, first, named) =
    and_then-Ok (first_pass heading rows) (λ names. and_then (second_pass heading names rows) (λ records. Ok (book_with heading names records))) b read in
    let (records, second, same) = and_then-Ok (second_pass heading names rows) (λ records. Ok (book_with heading names records)) b named in
    let is : book_with heading names records ≡ b = cc in
    subst IsBook is (passes-book heading rows names records (heading_of-ordered row heading (at_row-Ok 1 (heading_of row) heading headed)) first second)

-- and so is what the text reads as
whole-by : (large utf8 : Bool) (rows : List Row) (b : Contents)
    → (if large then at_row 0 (Err TooLarge) else if not utf8 then at_row 0 (Err NotUtf8) else book_of_rows rows) ≡ Ok b → IsBook b
whole-by true utf8 rows b h = cc
whole-by false false rows b h = cc
whole-by false true rows b h = rows-book rows b h

pub book_of-book : (text : List ℕ) (b : Contents) → book_of text ≡ Ok b → IsBook b
unfolding book_of
book_of-book text b h = whole-by (nat_lt MOST_TEXT_BYTES (length text)) (is_utf8 text) (rows_of text) b h
