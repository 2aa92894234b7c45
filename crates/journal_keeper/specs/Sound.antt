-- What is so of the file, and of each image that may be left of it, between two calls of a keeper.
use Rattle.std.specs.Prelude.{◌≡◌, ◌≢◌, ℕ, Bool, true, false, List, [], ◌∷◌, ◌++◌, length, Option, None}
use Rattle.std.specs.Option.{option_map}
use Rattle.journal_keeper.specs.declared.stage.Stage.{Stage}
use Rattle.journal_keeper.specs.declared.stage.Stage.TheVariants.{Shut, Late, Open}
use Rattle.disk.specs.Disk.{WhereTold}
use Rattle.journal_keeper.specs.Record.{Entry}
use Rattle.journal_keeper.specs.Journal.{header, entries_from, journal_in, IsRecord}
use Rattle.journal_keeper.specs.Stage.{IsBlank}

-- what begins with this body has these entries, and then those of the rest
abbrev pub Reads : List ℕ → List Entry → Type 0
Reads body entries = (rest : List ℕ) → entries_from (body ++ rest) ≡ option_map (λ later. entries ++ later) (entries_from rest)

-- the front of a journal, up to its last gate
pub record IsFront (front : List ℕ) (entries : List Entry) : Type 0 where
  pub body : List ℕ
  pub front_is : front ≡ header ++ body
  pub reads : Reads body entries

-- the front, and a gate that ends the journal
pub record IsClosed (front file : List ℕ) : Type 0 where
  pub gate : ℕ
  pub rest : List ℕ
  pub shut : gate ≢ 1
  pub file_is : file ≡ front ++ gate ∷ rest

-- the front, a gate that may be open, and a whole record with a closed gate behind it; the rest is of an earlier put
pub record IsInDoubt (front bytes file : List ℕ) : Type 0 where
  pub gate : ℕ
  pub rest : List ℕ
  pub file_is : file ≡ front ++ gate ∷ (bytes ++ 0 ∷ rest)

pub record IsUnsure (front : List ℕ) (file : List ℕ) (leaves : List ℕ → Type 0) : Type 0 where
  pub bytes : List ℕ
  pub entry : Entry
  pub is_record : IsRecord bytes entry
  pub here : IsInDoubt front bytes file
  pub each : (image : List ℕ) → leaves image → IsInDoubt front bytes image

pub record IsSure (front : List ℕ) (file : List ℕ) (leaves : List ℕ → Type 0) : Type 0 where
  pub here : IsClosed front file
  pub each : (image : List ℕ) → leaves image → IsClosed front image

abbrev pub EndsWell : Bool → List ℕ → List ℕ → (List ℕ → Type 0) → Type 0
EndsWell false front file leaves = IsSure front file leaves
EndsWell true front file leaves = IsUnsure front file leaves

pub record IsOpen (gate : ℕ) (in_doubt : Bool) (file : List ℕ) (leaves : List ℕ → Type 0) : Type 0 where
  pub front : List ℕ
  pub entries : List Entry
  pub is_front : IsFront front entries
  pub place : gate ≡ length front
  pub ends : EndsWell in_doubt front file leaves

abbrev pub IsSound : Stage → Option (List ℕ) → (List ℕ → Type 0) → Type 0
IsSound Shut content leaves = Unit {0}
IsSound Late content leaves = WhereTold content IsBlank
IsSound (Open gate in_doubt) content leaves = WhereTold content (λ file. IsOpen gate in_doubt file leaves)

-- the place of the gate that ends a journal, in what begins with the first gate
pub record IsLastGate (body : List ℕ) (place : ℕ) : Type 0 where
  pub front : List ℕ
  pub entries : List Entry
  pub gate : ℕ
  pub rest : List ℕ
  pub shut : gate ≢ 1
  pub body_is : body ≡ front ++ gate ∷ rest
  pub reads : Reads front entries
  pub place_is : place ≡ length front

-- how far one has come with a file that was found
abbrev pub IsStageOf : List ℕ → Stage → Type 0
IsStageOf file Shut = journal_in file ≡ None
IsStageOf file Late = ⊥
IsStageOf file (Open gate in_doubt) = (in_doubt ≡ false) × IsOpen gate false file (λ image. image ≡ file)

-- a record, and a closed gate behind it
pub record IsMade (bytes : List ℕ) (entry : Entry) : Type 0 where
  pub front : List ℕ
  pub bytes_are : bytes ≡ front ++ 0 ∷ []
  pub is_record : IsRecord front entry
