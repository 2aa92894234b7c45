-- What a stop makes of an empty store while a journal is begun in it.
use Rattle.std.proofs.Common.{◌≡◌, ◌≢◌, inl, inr, ℕ, ◌<◌, ◌≤◌, true, false, ltb, eqb, List, [], ◌∷◌, ◌++◌, length, Option, Some, None, refl, sym, ap, subst, ◌∙◌, arith}
use Rattle.std.proofs.lemmas.Bool.{cases_lt, cases_eq, lt-ltb, le-ltb, eq-eqb, ne_eqb}
use Rattle.keeper.specs.Rows.{bare}
use Rattle.journal_keeper.specs.declared.stage.Stage.{Stage}
use Rattle.journal_keeper.specs.declared.stage.Stage.TheVariants.{Shut, Late, Open}
use Rattle.disk.specs.Disk.{overwritten, Torn, Overwrites, IsCut, IsCutOrNot, WhereTold, Becomes, AfterStep, Follows, Only}
use Rattle.journal_keeper.specs.Journal.{header, unopened, is_empty_store}
use Rattle.journal_keeper.specs.Stage.{seen_by, counts_empty, IsBlank, KeepsBlank}
use Rattle.journal_keeper.specs.Sound.{IsOpen, IsSound}
use Rattle.journal_keeper.proofs.Fronts.{reads_none}
use Rattle.journal_keeper.proofs.Writes.{torn_gate}

short_empty : (file : List ℕ) → length file < 9 → is_empty_store file ≡ true
short_empty file lt = let t : ltb (length file) 9 ≡ true = lt-ltb (length file) 9 lt in rw t refl

-- 9 bytes at most, of which the first is not 1
unopened_empty : (byte : ℕ) (rest : List ℕ) → length (byte ∷ rest) ≤ 9 → byte ≢ 1 → is_empty_store (byte ∷ rest) ≡ true
unopened_empty byte rest le ne = elim (cases_lt (length (byte ∷ rest)) 9) [
  | inl lt ↦ short_empty (byte ∷ rest) lt
  | inr ge ↦
      let no_less : ltb (length (byte ∷ rest)) 9 ≡ false = le-ltb (length (byte ∷ rest)) 9 ge in
      let nine : eqb (length (byte ∷ rest)) 9 ≡ true = eq-eqb (length (byte ∷ rest)) 9 (omega (arith, le, ge)) in
      rw (no_less, nine, ne_eqb byte 1 ne) refl
]

-- after a cut of all bytes that is on the disk no byte is left
pub cut_only : (leaves leaves' : List ℕ → Type 0) → Follows (IsCut 0) leaves leaves' → Only [] leaves'
cut_only leaves leaves' durable image left = (durable image left).2

-- after a write that is on the disk one image may be left, where one could before
pub written_only : (at : ℕ) (bytes file : List ℕ) (leaves leaves' : List ℕ → Type 0) → at ≤ length file → Only file leaves → Follows (Overwrites at bytes) leaves leaves'
    → Only (overwritten at bytes file) leaves'
written_only at bytes file leaves leaves' within only durable image left =
    let from = durable image left in
    let same : from.0 ≡ file = only from.0 from.1 in
    subst (λ f. Overwrites at bytes f image) same from.2 within

-- the image of a step from the one file that may be left
pub step_from : (step : List ℕ → List ℕ → Type 0) (P : List ℕ → Type 0) (file : List ℕ) (leaves : List ℕ → Type 0) → Only file leaves
    → ((image : List ℕ) → step file image → P image) → (image : List ℕ) → AfterStep step leaves image → P image
step_from step P file leaves only each image from = each image (subst (λ f. step f image) (only from.0 from.1) from.2)

pub becomes_weaker : (S T : List ℕ → List ℕ → Type 0) (content content' : Option (List ℕ)) → ((file file' : List ℕ) → content ≡ Some file → S file file' → T file file')
    → Becomes S content content' → Becomes T content content'
becomes_weaker S T None content' each becomes = becomes
becomes_weaker S T (Some file) content' each becomes = (becomes.0, becomes.1, each file becomes.0 refl becomes.2)

pub keeps_empty : (old new : List ℕ) → is_empty_store new ≡ true → KeepsBlank old new
keeps_empty old new is = record { empty = λ was. is; blank = λ was. inl is }

-- the cut was made or not
pub cut_blank : (old new : List ℕ) → IsCutOrNot 0 old new → KeepsBlank old new
cut_blank old new (inl same) = record { empty = λ was. ap is_empty_store same ∙ was; blank = λ was. subst IsBlank (sym same) was }
cut_blank old new (inr cut) = keeps_empty old new (ap is_empty_store cut)

-- the closed first byte is being written
pub first_empty : (image : List ℕ) → Torn 0 1 [] image → is_empty_store image ≡ true
first_empty image torn = short_empty image (omega (arith, torn.no_longer))

-- the other bytes are being written behind it
pub others_empty : (image : List ℕ) → Torn 1 8 (0 ∷ []) image → is_empty_store image ≡ true
others_empty [] torn = short_empty [] (omega arith)
others_empty (byte ∷ rest) torn =
    let is : byte ≡ 0 = first byte torn.before in
    unopened_empty byte rest (omega (arith, torn.no_longer)) (λ one. absurd (omega (arith, is, one)))
  where
    first : (b : ℕ) → (b ∷ []) ≡ (0 ∷ []) → b ≡ 0
    first b e = cc

-- the first byte is being opened
pub last_blank : (image : List ℕ) → Torn 0 1 unopened image → IsBlank image
last_blank image torn =
    let t = torn_gate [] 0 (80 ∷ 66 ∷ 74 ∷ 79 ∷ 85 ∷ 82 ∷ 78 ∷ 0 ∷ []) unopened 0 refl refl image torn in
    elim (cases_eq t.0 1) [
      | inl one ↦ inr (t.1 ∙ ap (λ g. g ∷ 80 ∷ 66 ∷ 74 ∷ 79 ∷ 85 ∷ 82 ∷ 78 ∷ 0 ∷ []) one)
      | inr other ↦ inl (ap is_empty_store t.1 ∙ unopened_empty t.0 (80 ∷ 66 ∷ 74 ∷ 79 ∷ 85 ∷ 82 ∷ 78 ∷ 0 ∷ []) (omega arith) other)
    ]

-- a journal without records
pub new_open : (file : List ℕ) (leaves : List ℕ → Type 0) → file ≡ header ++ 0 ∷ [] → Only file leaves → IsOpen 8 false file leaves
new_open file leaves is only = record {
  front = header;
  entries = [];
  is_front = record { body = []; front_is = refl; reads = reads_none };
  place = refl;
  ends = record {
    here = record { gate = 0; rest = []; shut = λ e. absurd cc; file_is = is };
    each = λ image left. record { gate = 0; rest = []; shut = λ e. absurd cc; file_is = only image left ∙ is };
  };
}

-- what counts as empty is told as a store without form and rows
pub counted_seen : (stage : Stage) (file : List ℕ) → counts_empty stage file ≡ true → seen_by stage file ≡ bare 0
counted_seen Shut file is = rw is refl
counted_seen Late file is = refl
counted_seen (Open gate in_doubt) file is = absurd cc

pub counted_still : (stage : Stage) (file file' : List ℕ) → counts_empty stage file ≡ true → KeepsBlank file file' → counts_empty stage file' ≡ true
counted_still Shut file file' is keeps = keeps.empty is
counted_still Late file file' is keeps = refl
counted_still (Open gate in_doubt) file file' is keeps = absurd cc

pub counted_sound : (stage : Stage) (content : Option (List ℕ)) (leaves : List ℕ → Type 0) → WhereTold content (λ file. (counts_empty stage file ≡ true) × IsBlank file) → IsSound stage content leaves
counted_sound Shut content leaves each = tt
counted_sound Late content leaves each = λ file told. (each file told).1
counted_sound (Open gate in_doubt) content leaves each = λ file told. absurd (no (each file told).0)
  where
    no : false ≡ true → ⊥
    no e = cc

-- and it is blank
pub counted_blank : (stage : Stage) (content : Option (List ℕ)) (leaves : List ℕ → Type 0) (file : List ℕ) → IsSound stage content leaves → content ≡ Some file
    → counts_empty stage file ≡ true → (counts_empty stage file ≡ true) × IsBlank file
counted_blank Shut content leaves file sound told is = (is, inl is)
counted_blank Late content leaves file sound told is = (is, sound file told)
counted_blank (Open gate in_doubt) content leaves file sound told is = absurd cc
