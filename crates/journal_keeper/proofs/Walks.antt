-- Records that are read one after the other.
use Rattle.std.proofs.Common.{◌≡◌, ℕ, ◌+◌, ◌-◌, Bool, true, false, cond, eqb, List, [], ◌∷◌, ◌++◌, take, drop, Option, Some, None, refl, sym, ap, ◌∙◌, append_assoc, arith, length-append}
use Rattle.std.proofs.lemmas.Bool.{eqb-true}
use Rattle.std.proofs.lemmas.List.{take-append-drop}
use Rattle.keeper.specs.Rows.{Kept, bare}
use Rattle.journal_keeper.specs.Record.{Entry, effect, record_in}
use Rattle.journal_keeper.specs.Journal.{header, behind, after}
use Rattle.journal_keeper.specs.Sound.{Reads, IsLastGate, IsOpen}
use Rattle.journal_keeper.proofs.Records.{front_record}
use Rattle.journal_keeper.proofs.Fronts.{reads_none, reads_more, after_more}

-- the bytes up to the rest are gates and records
pub record IsReadTo (body rest : List ℕ) : Type 0 where
  pub front : List ℕ
  pub entries : List Entry
  pub body_is : body ≡ front ++ rest
  pub reads : Reads front entries

abbrev pub read_none : (body : List ℕ) → IsReadTo body body
read_none body = record { front = []; entries = []; body_is = refl; reads = reads_none }

-- one record more
abbrev pub read_more : (body rest line next : List ℕ) (entry : Entry) (n : ℕ) → IsReadTo body rest → rest ≡ 1 ∷ line → record_in line ≡ Some (entry, n) → next ≡ drop n line → IsReadTo body next
read_more body rest line next entry n so_far is read next_is =
    let one = front_record line entry n read in
    record {
      front = so_far.front ++ 1 ∷ take n line;
      entries = so_far.entries ++ entry ∷ [];
      body_is =
          so_far.body_is ∙ ap (λ l. so_far.front ++ l) (is ∙ ap (λ l. 1 ∷ l) (sym (take-append-drop n line) ∙ ap (λ l. take n line ++ l) (sym next_is)))
          ∙ sym (append_assoc so_far.front (1 ∷ take n line) next);
      reads = reads_more so_far.front (take n line) so_far.entries entry so_far.reads one.0;
    }

-- the place of the last gate in a file
pub found_open : (file body : List ℕ) (place : ℕ) → file ≡ header ++ body → IsLastGate body place → IsOpen (8 + place) false file (λ image. image ≡ file)
found_open file body place is last =
    let file_is : file ≡ (header ++ last.front) ++ last.gate ∷ last.rest = is ∙ ap (λ l. header ++ l) last.body_is ∙ sym (append_assoc header last.front (last.gate ∷ last.rest)) in
    record {
      front = header ++ last.front;
      entries = last.entries;
      is_front = record { body = last.front; front_is = refl; reads = last.reads };
      place = omega (arith, last.place_is, length-append header last.front);
      ends = record {
        here = record { gate = last.gate; rest = last.rest; shut = last.shut; file_is = file_is };
        each = λ image same. record { gate = last.gate; rest = last.rest; shut = last.shut; file_is = same ∙ file_is };
      };
    }

-- the rows of what was read so far
pub record IsGathered (body rest : List ℕ) (kept : Kept) : Type 0 where
  pub walk : IsReadTo body rest
  pub rows : kept ≡ after walk.entries (bare 2)

pub gathered_none : (body : List ℕ) (kept : Kept) → kept ≡ bare 2 → IsGathered body body kept
gathered_none body kept is = record { walk = read_none body; rows = is }

pub gathered_more : (body rest line next : List ℕ) (entry : Entry) (n : ℕ) (kept kept' : Kept) → IsGathered body rest kept → rest ≡ 1 ∷ line → record_in line ≡ Some (entry, n) → next ≡ drop n line
    → kept' ≡ effect entry kept → IsGathered body next kept'
gathered_more body rest line next entry n kept kept' so_far is read next_is put = record {
  walk = read_more body rest line next entry n so_far.walk is read next_is;
  rows = put ∙ ap (effect entry) so_far.rows ∙ sym (after_more so_far.walk.entries entry (bare 2));
}

-- what stands behind a front, where the file begins with it
pub behind_is : (front file rest : List ℕ) → behind front file ≡ Some rest → file ≡ front ++ rest
behind_is [] file rest is = some_is file rest is
  where
    some_is : (x y : List ℕ) → Some x ≡ Some y → x ≡ y
    some_is x y e = cc
behind_is (byte ∷ front) [] rest is = absurd cc
behind_is (byte ∷ front) (other ∷ file) rest is =
    let g = tested (eqb other byte) (behind front file) rest is in
    ap (λ b. b ∷ file) (eqb-true other byte g.0) ∙ ap (λ l. byte ∷ l) (behind_is front file rest g.1)
  where
    tested : (b : Bool) (o : Option (List ℕ)) (x : List ℕ) → cond b o None ≡ Some x → (b ≡ true) × (o ≡ Some x)
    tested true o x e = (refl, e)
    tested false o x e = absurd cc
