-- A text without a quotation mark is parted by its commas and its line ends alone.
use Rattle.std.proofs.Common.{◌≡◌, ◌≤◌, ◌<◌, ◌+◌, ◌⊎◌, ℕ, zero, suc, Bool, true, false, List, [], ◌∷◌, ◌++◌, length, take, drop, map, get_or, get_or-drop, length-drop, append_assoc, append-nil, Option, Some, None, refl, sym, ap, ◌∙◌, inl, inr, arith, subst, eqb, leb, if◌then◌else◌}
use Rattle.std.specs.Borrow.{Bor}
use Rattle.std.proofs.lemmas.List.{drop_all, drop_more, map-append}
use Rattle.std.proofs.lemmas.Bool.{and_from, and_parts, cases_Bool, cases_order, cond-true, cond-false, eqb-true, le-leb, ne_eqb}
use Rattle.csv.specs.Machine.{Read, field_after, fields_after, is_end, next_record, step}
use Rattle.csv.specs.Reading.{default_config, records_from, records_next, is_bom, strip_bom}
use Rattle.csv.specs.Records.{field_at}
use Rattle.csv.specs.declared.parser.State.{State}
use Rattle.csv.specs.declared.parser.State.TheVariants as st
use Rattle.csv.specs.declared.parser.Action.{Action}
use Rattle.csv.specs.declared.parser.Action.TheVariants as act
use Rattle.book_text.specs.Plain.{plain_rows, HasNoQuote, IsLineEnd, NoLineEnd, EndsField, IsRowRead, has_mark}
use Rattle.book_text.specs.Rows.{Row}
use Rattle.book_text.specs.Unread.{rows_from}
use Rattle.book_text.proofs.RowsLemmas.{enough, rows_from-next, steps-next, next_record-short}

-- what each byte does
copies : (c : ℕ) → (c ≡ 44 → ⊥) → (c ≡ 10 → ⊥) → (c ≡ 13 → ⊥) → step default_config st.InField c ≡ (st.InField, act.Copy)
copies c comma feed return_ = rw (ne_eqb c 44 comma, ne_eqb c 10 feed, ne_eqb c 13 return_) refl

starts : (c : ℕ) → (c ≡ 34 → ⊥) → step default_config st.StartField c ≡ step default_config st.InField c
starts c quote = rw (ne_eqb c 34 quote) refl

begins : (c : ℕ) → (c ≡ 34 → ⊥) → (c ≡ 10 → ⊥) → (c ≡ 13 → ⊥) → step default_config st.StartRecord c ≡ step default_config st.InField c
begins c quote feed return_ = rw (ne_eqb c 34 quote, ne_eqb c 10 feed, ne_eqb c 13 return_) refl

abbrev after_step : List (List ℕ) → List ℕ → ℕ → List ℕ → State × Action → Option Read
after_step fields field c rest z =
    if is_end z.1 then Some (fields_after z.1 fields field, z.0, rest) else next_record default_config z.0 (fields_after z.1 fields field) (field_after z.1 c field) rest

by_step : (s : State) (fields : List (List ℕ)) (field : List ℕ) (c : ℕ) (rest : List ℕ) → next_record default_config s fields field (c ∷ rest) ≡ after_step fields field c rest (step default_config s c)
unfolding next_record
by_step s fields field c rest = refl

same_step : (s s2 : State) (fields : List (List ℕ)) (field : List ℕ) (c : ℕ) (rest : List ℕ) → step default_config s c ≡ step default_config s2 c
    → next_record default_config s fields field (c ∷ rest) ≡ next_record default_config s2 fields field (c ∷ rest)
same_step s s2 fields field c rest same = by_step s fields field c rest ∙ ap (after_step fields field c rest) same ∙ sym (by_step s2 fields field c rest)

-- bytes that only join the field at hand
copied : (fields : List (List ℕ)) (field xs : List ℕ) (end : ℕ) → end ≤ length xs → ((k : ℕ) → k < end → (get_or xs k 0 ≡ 44 → ⊥) × (get_or xs k 0 ≡ 10 → ⊥) × (get_or xs k 0 ≡ 13 → ⊥))
    → next_record default_config st.InField fields field xs ≡ next_record default_config st.InField fields (field ++ take end xs) (drop end xs)
copied fields field xs zero within before = ap (λ f. next_record default_config st.InField fields f xs) (sym (append-nil field))
copied fields field [] (suc end) within before = absurd (omega arith)
copied fields field (c ∷ xs) (suc end) within before =
    let first = before 0 (omega arith) in
    by_step st.InField fields field c xs ∙ ap (after_step fields field c xs) (copies c first.0 first.1 first.2)
    ∙ copied fields (field ++ c ∷ []) xs end (omega arith) (λ k below. before (suc k) (omega arith))
    ∙ ap (λ f. next_record default_config st.InField fields f (drop end xs)) (append_assoc field (c ∷ []) (take end xs))

-- the byte that ends a field
at_comma : (fields : List (List ℕ)) (field : List ℕ) (c : ℕ) (rest : List ℕ) → c ≡ 44 → next_record default_config st.InField fields field (c ∷ rest) ≡ next_record default_config st.StartField (fields ++ field ∷ []) [] rest
at_comma fields field c rest is = by_step st.InField fields field c rest ∙ ap (λ b. after_step fields field b rest (step default_config st.InField b)) is

at_feed : (fields : List (List ℕ)) (field : List ℕ) (c : ℕ) (rest : List ℕ) → c ≡ 10 → next_record default_config st.InField fields field (c ∷ rest) ≡ Some (fields ++ field ∷ [], st.StartRecord, rest)
at_feed fields field c rest is = by_step st.InField fields field c rest ∙ ap (λ b. after_step fields field b rest (step default_config st.InField b)) is

at_return : (fields : List (List ℕ)) (field : List ℕ) (c : ℕ) (rest : List ℕ) → c ≡ 13 → next_record default_config st.InField fields field (c ∷ rest) ≡ Some (fields ++ field ∷ [], st.AfterCr, rest)
at_return fields field c rest is = by_step st.InField fields field c rest ∙ ap (λ b. after_step fields field b rest (step default_config st.InField b)) is

at_end : (fields : List (List ℕ)) (field : List ℕ) → next_record default_config st.InField fields field [] ≡ Some (fields ++ field ∷ [], st.StartRecord, [])
unfolding next_record
at_end fields field = refl

pub no_quote_behind : (text : List ℕ) (n : ℕ) → HasNoQuote text → HasNoQuote (drop n text)
no_quote_behind text n plain k below is = plain (n + k) (omega (arith, below, length-drop n text)) (sym (get_or-drop n text k 0) ∙ is)

at_end_of_start : (fields : List (List ℕ)) → next_record default_config st.StartField fields [] [] ≡ next_record default_config st.InField fields [] []
unfolding next_record
at_end_of_start fields = refl

-- a field begins like any other byte
field_starts : (fields : List (List ℕ)) (xs : List ℕ) → HasNoQuote xs → next_record default_config st.StartField fields [] xs ≡ next_record default_config st.InField fields [] xs
field_starts fields [] plain = at_end_of_start fields
field_starts fields (c ∷ xs) plain = same_step st.StartField st.InField fields [] c xs (starts c (plain 0 (omega arith)))

-- so does a row, behind line ends
pub row_starts : (text : List ℕ) → 0 < length text → HasNoQuote text → NoLineEnd text → next_record default_config st.StartRecord [] [] text ≡ next_record default_config st.InField [] [] text
row_starts [] some plain first = absurd (omega arith)
row_starts (c ∷ xs) some plain first =
    let ends = first (omega arith) in same_step st.StartRecord st.InField [] [] c xs (begins c (plain 0 (omega arith)) ends.0 ends.1)

-- one field more, and the row goes on
pub field_more : (fields : List (List ℕ)) (xs : List ℕ) (end : ℕ) → HasNoQuote xs → EndsField xs end → end < length xs → get_or xs end 0 ≡ 44
    → next_record default_config st.InField fields [] xs ≡ next_record default_config st.InField (fields ++ take end xs ∷ []) [] (drop (end + 1) xs)
field_more fields xs end plain ends below comma =
    copied fields [] xs end ends.within ends.before
    ∙ ap (next_record default_config st.InField fields (take end xs)) (drop_more xs end 0 below)
    ∙ at_comma fields (take end xs) (get_or xs end 0) (drop (end + 1) xs) comma
    ∙ field_starts (fields ++ take end xs ∷ []) (drop (end + 1) xs) (no_quote_behind xs (end + 1) plain)

-- the last field of a row, and what is behind it
record IsLast (fields : List (List ℕ)) (xs : List ℕ) (end : ℕ) (rest : List ℕ) : Type 0 where
  state : State
  between : (state ≡ st.StartRecord) ⊎ (state ≡ st.AfterCr)
  last : next_record default_config st.InField fields [] xs ≡ Some (fields ++ take end xs ∷ [], state, rest)

last_field : (fields : List (List ℕ)) (xs : List ℕ) (end : ℕ) → EndsField xs end → end < length xs → (get_or xs end 0 ≡ 44 → ⊥) → IsLast fields xs end (drop (end + 1) xs)
last_field fields xs end ends below other =
    let whole = copied fields [] xs end ends.within ends.before ∙ ap (next_record default_config st.InField fields (take end xs)) (drop_more xs end 0 below) in
    elim (ends.found below) [
      | inl comma ↦ absurd (other comma)
      | inr line_end ↦
          elim line_end [
            | inl feed ↦ record { state = st.StartRecord; between = inl refl; last = whole ∙ at_feed fields (take end xs) (get_or xs end 0) (drop (end + 1) xs) feed }
            | inr return_ ↦ record { state = st.AfterCr; between = inr refl; last = whole ∙ at_return fields (take end xs) (get_or xs end 0) (drop (end + 1) xs) return_ }
          ]
    ]

last_of_text : (fields : List (List ℕ)) (xs : List ℕ) (end : ℕ) → EndsField xs end → end ≡ length xs → IsLast fields xs end []
last_of_text fields xs end ends all = record {
  state = st.StartRecord;
  between = inl refl;
  last = copied fields [] xs end ends.within ends.before ∙ ap (next_record default_config st.InField fields (take end xs)) (drop_all end xs (omega (arith, all))) ∙ at_end fields (take end xs);
}

at_end_of_return : next_record default_config st.AfterCr [] [] [] ≡ next_record default_config st.StartRecord [] [] []
unfolding next_record
at_end_of_return = refl

-- behind a carriage return a row begins as behind a line feed
after_return : (xs : List ℕ) → next_record default_config st.AfterCr [] [] xs ≡ next_record default_config st.StartRecord [] [] xs
after_return [] = at_end_of_return
after_return (c ∷ xs) =
    elim (cases_Bool (eqb c 10)) [
      | inl feed ↦ let is : c ≡ 10 = eqb-true c 10 feed in same_step st.AfterCr st.StartRecord [] [] c xs (rw is refl)
      | inr other ↦ same_step st.AfterCr st.StartRecord [] [] c xs (rw other refl)
    ]

rows_after_return : (xs : List ℕ) → rows_from st.AfterCr (Some xs) ≡ plain_rows xs
rows_after_return xs = rows_from-next st.AfterCr xs ∙ ap (records_next (records_from default_config (length xs))) (after_return xs) ∙ sym (rows_from-next st.StartRecord xs)

-- a row that was read, with what is behind it
row_taken : (text : List ℕ) (row : Row) (s : State) (rest : List ℕ) → (s ≡ st.StartRecord) ⊎ (s ≡ st.AfterCr) → length rest < length text
    → next_record default_config st.StartRecord [] [] text ≡ Some (row, s, rest) → plain_rows text ≡ row ∷ plain_rows rest
row_taken text row s rest between fewer is =
    rows_from-next st.StartRecord text ∙ ap (records_next (records_from default_config (length text))) is
    ∙ ap (λ (rows : List Row). row ∷ rows)
    (elim between [
      | inl start ↦ ap (λ z. records_from default_config (length text) z rest) start ∙ enough (length text) (length rest + 1) st.StartRecord rest refl fewer (omega arith)
      | inr return_ ↦ ap (λ z. records_from default_config (length text) z rest) return_ ∙ enough (length text) (length rest + 1) st.AfterCr rest refl fewer (omega arith) ∙ rows_after_return rest
    ])

row_read : (text : List ℕ) (row : Row) (s : State) (rest : List ℕ) → (s ≡ st.StartRecord) ⊎ (s ≡ st.AfterCr) → length rest < length text → HasNoQuote rest
    → next_record default_config st.StartRecord [] [] text ≡ Some (row, s, rest) → IsRowRead text row rest
row_read text row s rest between fewer plain is = record {
  rows = row_taken text row s rest between fewer is;
  plain = plain;
  fewer = omega arith;
  short = λ few place. let short = next_record-short (length text) st.StartRecord [] [] text (row, s, rest) (λ k. omega arith) (omega arith) is place in omega (arith, few, short);
}

-- the fields that were read begin the row of the text
abbrev pub BeginsRow : List ℕ → List (List ℕ) → List ℕ → Type 0
BeginsRow text fields rest = next_record default_config st.StartRecord [] [] text ≡ next_record default_config st.InField fields [] rest

pub row_ends : (text : List ℕ) (fields : List (List ℕ)) (xs : List ℕ) (end : ℕ) → HasNoQuote xs → length xs ≤ length text → BeginsRow text fields xs → EndsField xs end → end < length xs → (get_or xs end 0 ≡ 44 → ⊥)
    → IsRowRead text (fields ++ take end xs ∷ []) (drop (end + 1) xs)
row_ends text fields xs end plain within begun ends below other =
    let last = last_field fields xs end ends below other in
    row_read text (fields ++ take end xs ∷ []) last.state (drop (end + 1) xs) last.between (omega (arith, length-drop (end + 1) xs)) (no_quote_behind xs (end + 1) plain) (begun ∙ last.last)

pub row_ends_text : (text : List ℕ) (fields : List (List ℕ)) (xs : List ℕ) (end : ℕ) → 0 < length text → BeginsRow text fields xs → EndsField xs end → end ≡ length xs
    → IsRowRead text (fields ++ take end xs ∷ []) (drop end xs)
row_ends_text text fields xs end some begun ends all =
    let last = last_of_text fields xs end ends all in
    let none : drop end xs ≡ [] = drop_all end xs (omega (arith, all)) in
    rw none (row_read text (fields ++ take end xs ∷ []) last.state [] last.between (omega arith) (λ k below is. omega arith) (begun ∙ last.last))

-- some fields of a row were read, and the next one ends here
pub record IsBegun (text : List ℕ) (fields : List (Bor (List ℕ))) (rest : List ℕ) (end : ℕ) : Type 0 where
  pub begun : BeginsRow text (map (λ f. f.now) fields) rest
  pub ends : EndsField rest end
  pub plain : HasNoQuote rest
  pub within : length rest ≤ length text

pub begun_first : (text : List ℕ) (fields : List (Bor (List ℕ))) (end : ℕ) → fields ≡ [] → 0 < length text → HasNoQuote text → NoLineEnd text → EndsField text end → IsBegun text fields text end
begun_first text fields end none some plain first ends =
    rw none (record { begun = row_starts text some plain first; ends = ends; plain = plain; within = omega arith })

field_named : (fields fields2 : List (Bor (List ℕ))) (field : Bor (List ℕ)) (text : List ℕ) → fields2 ≡ fields ++ field ∷ [] → field.now ≡ text
    → map (λ f. f.now) fields2 ≡ map (λ f. f.now) fields ++ text ∷ []
field_named fields fields2 field text are is =
    ap (map (λ f. f.now)) are ∙ map-append (λ f. f.now) fields (field ∷ []) ∙ ap (λ x. map (λ f. f.now) fields ++ x ∷ []) is

pub begun_more : (text : List ℕ) (fields fields2 : List (Bor (List ℕ))) (field : Bor (List ℕ)) (rest rest2 : List ℕ) (end end2 : ℕ) → IsBegun text fields rest end → end < length rest → get_or rest end 0 ≡ 44
    → fields2 ≡ fields ++ field ∷ [] → field.now ≡ take end rest → rest2 ≡ drop (end + 1) rest → EndsField rest2 end2 → IsBegun text fields2 rest2 end2
begun_more text fields fields2 field rest rest2 end end2 b below comma are is behind ends = record {
  begun =
      b.begun ∙ field_more (map (λ f. f.now) fields) rest end b.plain b.ends below comma
      ∙ ap (λ fs. next_record default_config st.InField fs [] (drop (end + 1) rest)) (sym (field_named fields fields2 field (take end rest) are is))
      ∙ ap (next_record default_config st.InField (map (λ f. f.now) fields2) []) (sym behind);
  ends = ends;
  plain = subst HasNoQuote (sym behind) (no_quote_behind rest (end + 1) b.plain);
  within = omega (arith, b.within, length-drop (end + 1) rest, ap length behind);
}

pub begun_last : (text : List ℕ) (fields fields2 : List (Bor (List ℕ))) (field : Bor (List ℕ)) (rest rest2 : List ℕ) (end : ℕ) → IsBegun text fields rest end → 0 < length text → (end < length rest → get_or rest end 0 ≡ 44 → ⊥)
    → fields2 ≡ fields ++ field ∷ [] → field.now ≡ take end rest → (end < length rest → rest2 ≡ drop (end + 1) rest) → (end ≡ length rest → rest2 ≡ drop end rest) → IsRowRead text (map (λ f. f.now) fields2) rest2
begun_last text fields fields2 field rest rest2 end b some other are is line all =
    let named = field_named fields fields2 field (take end rest) are is in
    elim (cases_order end (length rest)) [
      | inl same ↦ rw (named, all same) (row_ends_text text (map (λ f. f.now) fields) rest end some b.begun b.ends same)
      | inr o ↦ elim o [
        | inl below ↦ rw (named, line below) (row_ends text (map (λ f. f.now) fields) rest end b.plain b.within b.begun b.ends below (other below))
        | inr above ↦ absurd (let within = b.ends.within in omega arith)
      ]
    ]

-- line ends before a row
skips : (c : ℕ) → IsLineEnd c → step default_config st.StartRecord c ≡ (st.StartRecord, act.Skip)
skips c (inl feed) = rw feed refl
skips c (inr return_) = rw return_ refl

line_end_skipped : (c : ℕ) (xs : List ℕ) → IsLineEnd c → plain_rows (c ∷ xs) ≡ plain_rows xs
line_end_skipped c xs ends =
    rows_from-next st.StartRecord (c ∷ xs)
    ∙ ap (records_next (records_from default_config (suc (length xs)))) (by_step st.StartRecord [] [] c xs ∙ ap (after_step [] [] c xs) (skips c ends))
    ∙ sym (enough (length xs + 1) (suc (suc (length xs))) st.StartRecord xs refl (omega arith) (omega arith) ∙ steps-next (suc (length xs)) st.StartRecord xs)

pub first_skipped : (xs ys : List ℕ) → 0 < length xs → IsLineEnd (get_or xs 0 0) → ys ≡ drop 1 xs → plain_rows ys ≡ plain_rows xs
first_skipped [] ys some ends is = absurd (omega arith)
first_skipped (c ∷ xs) ys some ends is = ap plain_rows is ∙ sym (line_end_skipped c xs ends)

pub no_rows : plain_rows [] ≡ []
unfolding records_from next_record
no_rows = refl

pub nothing_left : (xs : List ℕ) → length xs ≡ 0 → plain_rows xs ≡ []
nothing_left [] none = no_rows
nothing_left (c ∷ xs) none = absurd (omega arith)

-- a byte order mark has no quotation mark, and what is behind it neither
pub no_quote_without : (text : List ℕ) → HasNoQuote text → HasNoQuote (strip_bom text)
unfolding strip_bom
no_quote_without [] plain = plain
no_quote_without (a ∷ []) plain = plain
no_quote_without (a ∷ b ∷ []) plain = plain
no_quote_without (a ∷ b ∷ c ∷ rest) plain = either_way (is_bom a b c)
  where
    either_way : (t : Bool) → HasNoQuote (if t then rest else a ∷ b ∷ c ∷ rest)
    either_way true = λ k below is. plain (suc (suc (suc k))) (omega arith) is
    either_way false = plain

pub marked : (text : List ℕ) → has_mark text ≡ true → drop 3 text ≡ strip_bom text
unfolding strip_bom
marked [] h = absurd (cc)
marked (a ∷ []) h = absurd (cc)
marked (a ∷ b ∷ []) h = absurd (cc)
marked (a ∷ b ∷ c ∷ rest) h = sym (cond-true (is_bom a b c) rest (a ∷ b ∷ c ∷ rest) (and_parts (leb 3 (length (a ∷ b ∷ c ∷ rest))) (is_bom a b c) h).1)

pub unmarked : (text : List ℕ) → has_mark text ≡ false → text ≡ strip_bom text
unfolding strip_bom
unmarked [] h = refl
unmarked (a ∷ []) h = refl
unmarked (a ∷ b ∷ []) h = refl
unmarked (a ∷ b ∷ c ∷ rest) h =
    elim (cases_Bool (is_bom a b c)) [
      | inl is ↦ absurd (let both = and_from (leb 3 (length (a ∷ b ∷ c ∷ rest))) (is_bom a b c) (le-leb 3 (length (a ∷ b ∷ c ∷ rest)) (omega arith)) is in cc)
      | inr none ↦ sym (cond-false (is_bom a b c) rest (a ∷ b ∷ c ∷ rest) none)
    ]

-- a field that stands in the text
pub field_there : (fields : List (Bor (List ℕ))) (place : ℕ) (field : Bor (List ℕ)) → place < length fields → field ≡ get_or fields place field
    → Some field.now ≡ field_at (map (λ f. f.now) fields) place
unfolding field_at
field_there [] place field within is = absurd (omega arith)
field_there (f ∷ fs) zero field within is = ap (λ (g : Bor (List ℕ)). Some g.now) is
field_there (f ∷ fs) (suc place) field within is = field_there fs place field (omega arith) is

pub no_field_there : (fields : List (Bor (List ℕ))) (place : ℕ) → length fields ≤ place → None ≡ field_at (map (λ f. f.now) fields) place
unfolding field_at
no_field_there [] place past = refl
no_field_there (f ∷ fs) zero past = absurd (omega arith)
no_field_there (f ∷ fs) (suc place) past = no_field_there fs place (omega arith)
