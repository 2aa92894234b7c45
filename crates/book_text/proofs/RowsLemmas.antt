-- The rows that a reader takes in turn are the rows of the text.
use Rattle.std.proofs.Common.{◌≡◌, ◌≤◌, ◌<◌, ◌+◌, ℕ, drop, get_or, length-drop, length-append, zero, suc, List, [], ◌∷◌, ◌++◌, length, Option, Some, None, true, false, not, refl, sym, ap, ◌∙◌, inl, arith, Bool, subst, if◌then◌else◌}
use Rattle.std.specs.Borrow.{Bor}
use Rattle.csv.specs.Machine.{Read, ends_at_end, field_after, fields_after, is_end, next_record, step}
use Rattle.csv.specs.Reading.{ReadRecord, Reached, default_config, is_flexible, reader_state, records_from, records_next, is_bom, strip_bom, took_first}
use Rattle.csv.specs.declared.parser.State.{State}
use Rattle.csv.specs.declared.parser.State.TheVariants as st
use Rattle.csv.specs.declared.parser.Action.{Action}
use Rattle.csv.specs.declared.parser.Action.TheVariants as act
use Rattle.csv.specs.declared.reader.Reader.{Reader}
use Rattle.csv.proofs.ReadFacts.{rows-end, rows-more}
use Rattle.book_text.specs.Rows.{Row, IsNext, IsShort}
use Rattle.book_text.specs.Unread.{rows_from, unread_rows, IsReading}

-- a byte that ends a record leaves a state between two records
pub ends_at_end-step : (s : State) (c : ℕ) → is_end (step default_config s c).1 ≡ true → ends_at_end (step default_config s c).0 ≡ false
ends_at_end-step st.StartRecord c h = grind arith
ends_at_end-step st.StartField c h = grind arith
ends_at_end-step st.InField c h = grind arith
ends_at_end-step st.InQuoted c h = grind arith
ends_at_end-step st.InEscape c h = grind arith
ends_at_end-step st.AfterQuote c h = grind arith
ends_at_end-step st.InComment c h = grind arith
ends_at_end-step st.AfterCr c h = grind arith

-- a record's state is one between two records, and so many bytes at most are left
abbrev pub EndsWithin : ℕ → Read → Type 0
EndsWithin n p = (ends_at_end p.1 ≡ false) × (length p.2 ≤ n)

-- what holds of both ends of a test holds of what it gives
ends-at : (P : Read → Type 0) (b : Bool) (r : Read) (more : Option Read) (p : Read)
    → (b ≡ true → P r) → ((q : Read) → more ≡ Some q → P q)
    → (if b then Some r else more) ≡ Some p → P p
ends-at P true r more p here later e = let same : r ≡ p = cc in subst P same (here refl)
ends-at P false r more p here later e = later p e

-- a record that is read ends between two records, and takes a byte or more where there are any
pub next_record-after : (s : State) (fields : List (List ℕ)) (field xs : List ℕ) (p : Read)
    → next_record default_config s fields field xs ≡ Some p → EndsWithin (length (drop 1 xs)) p
unfolding next_record
next_record-after s fields field [] p e =
    ends-at (EndsWithin 0) (ends_at_end s) (fields ++ (field ∷ []), st.StartRecord, []) None p (λ _. (refl, omega arith)) (λ q h. cc) e
next_record-after s fields field (c ∷ rest) p e =
    let next = step default_config s c in
    ends-at (EndsWithin (length rest)) (is_end next.1) (fields_after next.1 fields field, next.0, rest)
    (next_record default_config next.0 (fields_after next.1 fields field) (field_after next.1 c field) rest) p
    (λ h. (ends_at_end-step s c h, omega arith))
    (λ q h. let deeper : EndsWithin (length (drop 1 rest)) q = next_record-after next.0 (fields_after next.1 fields field) (field_after next.1 c field) rest q h in (deeper.0, omega (arith, deeper.1, length-drop 1 rest)))
    e

-- between two records a record takes a byte or more
pub next_record-takes : (s : State) (xs : List ℕ) (p : Read)
    → ends_at_end s ≡ false → next_record default_config s [] [] xs ≡ Some p → length p.2 < length xs
unfolding next_record
next_record-takes s [] p b e = cc
next_record-takes s (c ∷ rest) p b e = let after : EndsWithin (length rest) p = next_record-after s [] [] (c ∷ rest) p e in omega (arith, after.1)

-- rows that enough steps read are the same however many steps there are
enough-by : (n m : ℕ) (found : Option Read) → ((p : Read) → found ≡ Some p → records_from default_config n p.1 p.2 ≡ records_from default_config m p.1 p.2)
    → records_next (records_from default_config n) found ≡ records_next (records_from default_config m) found
enough-by n m None h = refl
enough-by n m (Some p) h = ap (λ (rows : List Row). p.0 ∷ rows) (h p refl)

pub enough : (n m : ℕ) (s : State) (xs : List ℕ) → ends_at_end s ≡ false → length xs < n → length xs < m → records_from default_config n s xs ≡ records_from default_config m s xs
unfolding records_from
enough zero m s xs b h g = absurd (omega arith)
enough (suc n) zero s xs b h g = absurd (omega arith)
enough (suc n) (suc m) s xs b h g =
    enough-by n m (next_record default_config s [] [] xs) (λ p is.
    let takes = next_record-takes s xs p b is in
    enough n m p.1 p.2 (next_record-after s [] [] xs p is).0 (omega arith) (omega arith))

-- no field is longer than n
abbrev pub Short : ℕ → List (List ℕ) → Type 0
Short n fields = (place : ℕ) → length (get_or fields place []) ≤ n

pub short-push : (n : ℕ) (fields : List (List ℕ)) (field : List ℕ) → Short n fields → length field ≤ n → Short n (fields ++ field ∷ [])
short-push n [] field h l zero = l
short-push n [] field h l (suc place) = omega arith
short-push n (f ∷ fields) field h l zero = h 0
short-push n (f ∷ fields) field h l (suc place) = short-push n fields field (λ k. h (suc k)) l place

short-after : (a : Action) (n : ℕ) (fields : List (List ℕ)) (field : List ℕ) → Short n fields → length field ≤ n → Short n (fields_after a fields field)
short-after act.EndField n fields field h l = short-push n fields field h l
short-after act.EndRecord n fields field h l = short-push n fields field h l
short-after act.Skip n fields field h l = h
short-after act.Copy n fields field h l = h

field_after-longer : (a : Action) (c : ℕ) (field : List ℕ) → length (field_after a c field) ≤ length field + 1
field_after-longer act.Copy c field = omega (arith, length-append field (c ∷ []))
field_after-longer act.EndField c field = omega arith
field_after-longer act.Skip c field = omega arith
field_after-longer act.EndRecord c field = omega arith

-- a record's fields are no longer than what was there to read
pub next_record-short : (n : ℕ) (s : State) (fields : List (List ℕ)) (field xs : List ℕ) (p : Read)
    → Short n fields → length field + length xs ≤ n → next_record default_config s fields field xs ≡ Some p → Short n p.0
unfolding next_record
next_record-short n s fields field [] p h l e =
    ends-at (λ q. Short n q.0) (ends_at_end s) (fields ++ (field ∷ []), st.StartRecord, []) None p (λ _. short-push n fields field h (omega arith)) (λ q none. cc) e
next_record-short n s fields field (c ∷ rest) p h l e =
    let next = step default_config s c in
    let longer = field_after-longer next.1 c field in
    let so_far : Short n (fields_after next.1 fields field) = short-after next.1 n fields field h (omega arith) in
    ends-at (λ q. Short n q.0) (is_end next.1) (fields_after next.1 fields field, next.0, rest)
    (next_record default_config next.0 (fields_after next.1 fields field) (field_after next.1 c field) rest) p
    (λ _. so_far)
    (λ q found. next_record-short n next.0 (fields_after next.1 fields field) (field_after next.1 c field) rest q so_far (omega arith) found)
    e

pub steps-next : (n : ℕ) (s : State) (xs : List ℕ) → records_from default_config (suc n) s xs ≡ records_next (records_from default_config n) (next_record default_config s [] [] xs)
unfolding records_from
steps-next n s xs = refl

-- the rows that are read from between two rows, by what the next read finds
pub rows_from-next : (s : State) (xs : List ℕ) → rows_from s (Some xs) ≡ records_next (records_from default_config (length xs)) (next_record default_config s [] [] xs)
rows_from-next s xs =
    let one : length xs + 1 ≡ suc (length xs) = omega arith in
    ap (λ n. records_from default_config n s xs) one ∙ steps-next (length xs) s xs

-- the read of a row from bytes that are known
record IsTaken (s s2 : State) (xs ys : List ℕ) (row : Row) : Type 0 where
  next : rows_from s (Some xs) ≡ row ∷ rows_from s2 (Some ys)
  between : ends_at_end s2 ≡ false
  fewer : length ys ≤ length xs
  short : Short (length xs) row

row-taken : (s s2 : State) (xs ys : List ℕ) (row : Row) → ends_at_end s ≡ false → Reached default_config s xs (row ∷ []) s2 ys → IsTaken s s2 xs ys row
unfolding Reached
row-taken s s2 xs ys row b (p, is, first, (state, rest)) =
    let takes = next_record-takes s xs p b is in
    let after = (next_record-after s [] [] xs p is).0 in
    let short = next_record-short (length xs) s [] [] xs p (λ k. omega arith) (omega arith) is in
    rw (first, ← state, ← rest) (record {
      next = rows_from-next s xs ∙ rw is (ap (λ (rows : List Row). p.0 ∷ rows) (enough (length xs) (length p.2 + 1) p.1 p.2 after (omega arith) (omega arith)));
      between = after;
      fewer = omega arith;
      short = short;
    })

-- the bytes that a slice has
abbrev slice_bytes : Bor (List ℕ) → Option (List ℕ)
slice_bytes s = Some s.now

-- what a read gives that found a row, or none
pub record ReadGives (found : Bool) (a b : Reader (Bor (List ℕ))) (row : Row) : Type 0 where
  pub next : IsNext found row (unread_rows a) (if not found then [] else unread_rows b)
  pub reading : not found ≡ false → IsReading b
  pub short : found ≡ true → IsShort row

pub read-gives : (found : Bool) (a b : Reader (Bor (List ℕ))) (row : Row) → IsReading a → ReadRecord slice_bytes a b found row → took_first b ≡ true → is_flexible b ≡ is_flexible a → ReadGives found a b row
unfolding Reached
read-gives true a b row is read first flexible =
    let (left, known, within) = is.text in
    let (rest, rest_known, reached) = rows-more slice_bytes a b row default_config (reader_state a) left left [] is.config known (refl, refl) read in
    let taken = row-taken (reader_state a) (reader_state b) left rest row is.between reached in
    record {
      next = ap (rows_from (reader_state a)) known ∙ taken.next ∙ ap (λ text. row ∷ rows_from (reader_state b) text) (sym rest_known);
      reading = λ _. record {
        untrimmed = read.3 ∙ is.untrimmed;
        flexible = flexible ∙ is.flexible;
        ready = inl first;
        config = read.2 ∙ is.config;
        between = taken.between;
        text = (rest, rest_known, omega (arith, taken.fewer, within));
      };
      short = λ _ place. omega (arith, taken.short place, within);
    }
read-gives false a b row is read first flexible =
    let (left, known, within) = is.text in
    let none = rows-end slice_bytes a b row default_config left is.config known read in
    record {
      next = ap (rows_from (reader_state a)) known ∙ rows_from-next (reader_state a) left ∙ rw none refl;
      reading = λ e. cc e;
      short = λ e. cc e;
    }

-- each row takes a byte or more
count-by : (n size : ℕ) (found : Option Read) → ((p : Read) → found ≡ Some p → length (records_from default_config n p.1 p.2) < size)
    → length (records_next (records_from default_config n) found) ≤ size
count-by n size None h = omega arith
count-by n size (Some p) h = omega (arith, h p refl)

pub rows-count : (n : ℕ) (s : State) (xs : List ℕ) → ends_at_end s ≡ false → length (records_from default_config n s xs) ≤ length xs
unfolding records_from
rows-count zero s xs b = omega arith
rows-count (suc n) s xs b =
    count-by n (length xs) (next_record default_config s [] [] xs) (λ p is.
    omega (arith, next_record-takes s xs p b is, rows-count n p.1 p.2 (next_record-after s [] [] xs p is).0))

if-shorter : (b : Bool) (n : ℕ) (xs ys : List ℕ) → length xs ≤ n → length ys ≤ n → length (if b then xs else ys) ≤ n
if-shorter true n xs ys h g = h
if-shorter false n xs ys h g = g

pub strip_bom-shorter : (text : List ℕ) → length (strip_bom text) ≤ length text
unfolding strip_bom
strip_bom-shorter [] = omega arith
strip_bom-shorter (a ∷ []) = omega arith
strip_bom-shorter (a ∷ b ∷ []) = omega arith
strip_bom-shorter (a ∷ b ∷ c ∷ rest) = if-shorter (is_bom a b c) (suc (suc (suc (length rest)))) rest (a ∷ b ∷ c ∷ rest) (omega arith) (omega arith)
