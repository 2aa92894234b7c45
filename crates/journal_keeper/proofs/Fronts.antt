-- What a file that begins with the front of a journal keeps.
use Rattle.std.proofs.Common.{◌≡◌, ◌≢◌, ◌⊎◌, inl, inr, ℕ, false, ltb, eqb, List, [], ◌∷◌, ◌++◌, length, Option, Some, None, refl, sym, ap, ◌∙◌, append_assoc, arith, length-append}
use Rattle.std.specs.Option.{option_map}
use Rattle.std.proofs.lemmas.Bool.{cases_eq, le-ltb, and_right}
use Rattle.std.proofs.lemmas.Bool.Decides.{nat_tests}
use Rattle.std.proofs.lemmas.List.{append-nil}
use Rattle.keeper.specs.Rows.{Kept, bare, begun}
use Rattle.journal_keeper.specs.Record.{Entry, Draft, Book, Order, Withdrawn, effect}
use Rattle.journal_keeper.specs.Journal.{header, entries_behind, entries_from, journal_in, is_empty_store, after, kept_in, IsRecord}
use Rattle.journal_keeper.specs.Sound.{Reads, IsFront, IsClosed, IsInDoubt}

map_same : {A : Type 0} (o : Option (List A)) → o ≡ option_map (λ later. [] ++ later) o
map_same None = refl
map_same (Some x) = refl

map_twice : {A : Type 0} (xs ys : List A) (o : Option (List A)) → option_map (λ later. xs ++ later) (option_map (λ later. ys ++ later) o) ≡ option_map (λ later. (xs ++ ys) ++ later) o
map_twice xs ys None = refl
map_twice xs ys (Some x) = ap Some (sym (append_assoc xs ys x))

-- the bytes of a record are passed over
passed : (bytes rest : List ℕ) → entries_behind (bytes ++ rest) (length bytes) ≡ entries_from rest
passed [] rest = refl
passed (byte ∷ bytes) rest = passed bytes rest

pub reads_none : Reads [] []
reads_none rest = map_same (entries_from rest)

reads_one : (bytes : List ℕ) (entry : Entry) → IsRecord bytes entry → Reads (1 ∷ bytes) (entry ∷ [])
reads_one bytes entry is rest = rw (is rest) (ap (option_map (λ later. entry ∷ later)) (passed bytes rest))

reads_both : (one two : List ℕ) (es fs : List Entry) → Reads one es → Reads two fs → Reads (one ++ two) (es ++ fs)
reads_both one two es fs first second rest =
    ap entries_from (append_assoc one two rest) ∙ first (two ++ rest) ∙ ap (option_map (λ later. es ++ later)) (second rest) ∙ map_twice es fs (entries_from rest)

pub reads_more : (body bytes : List ℕ) (entries : List Entry) (entry : Entry) → Reads body entries → IsRecord bytes entry → Reads (body ++ 1 ∷ bytes) (entries ++ entry ∷ [])
reads_more body bytes entries entry reads is = reads_both body (1 ∷ bytes) entries (entry ∷ []) reads (reads_one bytes entry is)

-- a front, with an open gate and a record behind it
pub front_more : (front bytes : List ℕ) (entries : List Entry) (entry : Entry) → IsFront front entries → IsRecord bytes entry → IsFront (front ++ 1 ∷ bytes) (entries ++ entry ∷ [])
front_more front bytes entries entry is_front is = record {
  body = is_front.body ++ 1 ∷ bytes;
  front_is = ap (λ l. l ++ 1 ∷ bytes) is_front.front_is;
  reads = reads_more is_front.body bytes entries entry is_front.reads is;
}

pub after_more : (entries : List Entry) (entry : Entry) (kept : Kept) → after (entries ++ entry ∷ []) kept ≡ effect entry (after entries kept)
after_more [] entry kept = refl
after_more (e ∷ entries) entry kept = after_more entries entry (effect e kept)

effect_form : (entry : Entry) (kept : Kept) → (effect entry kept).form ≡ kept.form
effect_form (Draft row) kept = refl
effect_form (Book row) kept = refl
effect_form (Order row) kept = refl
effect_form (Withdrawn number) kept = refl

pub after_form : (entries : List Entry) (kept : Kept) → (after entries kept).form ≡ kept.form
after_form [] kept = refl
after_form (e ∷ entries) kept = after_form entries (effect e kept) ∙ effect_form e kept

-- a store with rows, or with a form, is begun already
pub begun_already : (kept : Kept) → kept.form ≡ 2 → begun kept ≡ kept
begun_already kept is = rw is refl

-- what begins with a front is no empty store
not_empty : (body : List ℕ) (gate : ℕ) (rest : List ℕ) → is_empty_store (header ++ body ++ gate ∷ rest) ≡ false
not_empty body gate rest =
    let long : ltb (length (header ++ body ++ gate ∷ rest)) 9 ≡ false = le-ltb _ _ (omega (arith, length-append body (gate ∷ rest))) in
    rw long (and_right (eqb (length (header ++ body ++ gate ∷ rest)) 9) false refl)

pub shut_from : (gate : ℕ) (rest : List ℕ) → gate ≢ 1 → entries_from (gate ∷ rest) ≡ Some []
shut_from gate rest shut = grind (arith, nat_tests)

closed_journal : (body : List ℕ) (entries : List Entry) (gate : ℕ) (rest : List ℕ) → Reads body entries → gate ≢ 1
    → journal_in (header ++ body ++ gate ∷ rest) ≡ Some entries
closed_journal body entries gate rest reads shut =
    reads (gate ∷ rest) ∙ ap (option_map (λ later. entries ++ later)) (shut_from gate rest shut) ∙ ap Some (append-nil entries)

-- a closed gate ends the journal, whatever stands behind it
pub kept_closed : (front : List ℕ) (entries : List Entry) (file : List ℕ) → IsFront front entries → IsClosed front file → kept_in file ≡ after entries (bare 2)
kept_closed front entries file is_front closed =
    let file_is : file ≡ header ++ is_front.body ++ closed.gate ∷ closed.rest = closed.file_is ∙ ap (λ l. l ++ closed.gate ∷ closed.rest) is_front.front_is in
    ap kept_in file_is ∙ rw (not_empty is_front.body closed.gate closed.rest, closed_journal is_front.body entries closed.gate closed.rest is_front.reads closed.shut) refl

-- a record behind a gate in doubt counts or it does not
pub kept_in_doubt : (front bytes : List ℕ) (entries : List Entry) (entry : Entry) (file : List ℕ) → IsFront front entries → IsRecord bytes entry → IsInDoubt front bytes file
    → (kept_in file ≡ after entries (bare 2)) ⊎ (kept_in file ≡ effect entry (after entries (bare 2)))
kept_in_doubt front bytes entries entry file is_front is doubt = elim (cases_eq doubt.gate 1) [
  | inl opened ↦
      let file_is : file ≡ (front ++ 1 ∷ bytes) ++ 0 ∷ doubt.rest =
      doubt.file_is ∙ ap (λ g. front ++ g ∷ (bytes ++ 0 ∷ doubt.rest)) opened ∙ sym (append_assoc front (1 ∷ bytes) (0 ∷ doubt.rest)) in
      inr (kept_closed (front ++ 1 ∷ bytes) (entries ++ entry ∷ []) file (front_more front bytes entries entry is_front is)
      (record { gate = 0; rest = doubt.rest; shut = λ e. absurd cc; file_is = file_is })
      ∙ after_more entries entry (bare 2))
  | inr shut ↦ inl (kept_closed front entries file is_front (record { gate = doubt.gate; rest = bytes ++ 0 ∷ doubt.rest; shut = shut; file_is = doubt.file_is }))
]
