-- What a keeper tells of its file, by how far it has come with it.
use Rattle.std.specs.Prelude.{◌≡◌, ◌⊎◌, ℕ, ◌+◌, Bool, true, false, List, [], ◌∷◌, ◌++◌, length, take, drop, Option, Some, None, Result, Ok, Err, nat_lt}
use Rattle.std.specs.Option.{option_map}
use Rattle.keeper.specs.Rows.{Kept, bare}
use Rattle.pb_outside.specs.declared.error.OutError.{OutError}
use Rattle.pb_outside.specs.declared.error.OutError.TheVariants.{Failed, Memory}
use Rattle.journal_keeper.specs.declared.stage.Stage.{Stage}
use Rattle.journal_keeper.specs.declared.stage.Stage.TheVariants.{Shut, Late, Open}
use Rattle.journal_keeper.specs.Record.{Entry, effect, ◌>>=◌, record_in, record_of}
use Rattle.journal_keeper.specs.Journal.{kept_in, journal_in, is_empty_store, header}

-- the rows that a keeper tells of a file: those up to its last gate; where a `begin` failed late, it counts as empty
abbrev pub seen_by : Stage → List ℕ → Kept
seen_by Shut file = kept_in file
seen_by Late file = bare 0
seen_by (Open gate in_doubt) file = kept_in (take gate file ++ 0 ∷ [])

-- what the record behind a gate in doubt sets
abbrev pub doubted_by : Stage → List ℕ → Option Entry
doubted_by Shut file = None
doubted_by Late file = None
doubted_by (Open gate false) file = None
doubted_by (Open gate true) file = option_map (λ read. read.0) (record_in (drop (gate + 1) file))

-- the same, where the content is told
abbrev pub doubted : Stage → Option (List ℕ) → Option Entry
doubted Shut content = None
doubted Late content = None
doubted (Open gate false) content = None
doubted (Open gate true) content = content >>= doubted_by (Open gate true)

-- After a put no gate is in doubt, or the put failed, and it is the gate that was in doubt before or the put's own.
abbrev pub DoubtsOnly : {T : Type 0} → Result T OutError → Entry → Option Entry → Option Entry → Type 0
DoubtsOnly (Ok done) entry before after = after ≡ None
DoubtsOnly (Err Failed) entry before after = (after ≡ None) ⊎ (after ≡ before) ⊎ (after ≡ Some entry)
DoubtsOnly (Err Memory) entry before after = after ≡ None

-- a `begin` has found a journal, or made one
abbrev pub is_open : Stage → Bool
is_open Shut = false
is_open Late = false
is_open (Open gate in_doubt) = true

-- no gate is in doubt
abbrev pub settled : Stage → Stage
settled Shut = Shut
settled Late = Late
settled (Open gate in_doubt) = Open gate false

-- a journal without records, or an empty store
abbrev pub IsBlank : List ℕ → Type 0
IsBlank file = (is_empty_store file ≡ true) ⊎ (file ≡ header ++ 0 ∷ [])

-- a file in which nothing was kept stays one, and a blank one stays blank
pub record KeepsBlank (old new : List ℕ) : Type 0 where
  pub empty : is_empty_store old ≡ true → is_empty_store new ≡ true
  pub blank : IsBlank old → IsBlank new

-- the file counts as an empty store
abbrev pub counts_empty : Stage → List ℕ → Bool
counts_empty Shut file = is_empty_store file
counts_empty Late file = true
counts_empty (Open gate in_doubt) file = false

-- the image keeps the rows that are told of this file, or those and what the record behind a gate in doubt sets
abbrev pub StillStands : Stage → List ℕ → List ℕ → Type 0
StillStands Shut file image = Unit {0}
StillStands Late file image = Unit {0}
StillStands (Open gate in_doubt) file image =
    (kept_in image ≡ seen_by (Open gate in_doubt) file)
    ⊎ ((entry : Entry) × (doubted_by (Open gate in_doubt) file ≡ Some entry) × (kept_in image ≡ effect entry (seen_by (Open gate in_doubt) file)))

-- or those and this entry
abbrev pub StandsOrGrew : Entry → Stage → List ℕ → List ℕ → Type 0
StandsOrGrew entry stage file image = StillStands stage file image ⊎ (kept_in image ≡ effect entry (seen_by stage file))

-- the image was possible before the call or, where nothing was kept, is a blank one
abbrev pub IsBegun : Stage → List ℕ → (List ℕ → Type 0) → List ℕ → Type 0
IsBegun Shut file leaves image = leaves image ⊎ ((is_empty_store file ≡ true) × IsBlank image)
IsBegun Late file leaves image = leaves image ⊎ IsBlank image
IsBegun (Open gate in_doubt) file leaves image = StillStands (Open gate in_doubt) file image

-- what a `begin` that answered Ok has found: the file is a journal, or is neither that nor an empty store
abbrev pub IsFound : Stage → List ℕ → Type 0
IsFound Shut file = (is_empty_store file ≡ false) × (journal_in file ≡ None)
IsFound Late file = ⊥
IsFound (Open gate in_doubt) file = Unit {0}

-- a put that is refused: no `begin` has found a journal or made one, or the file would be longer than 2^32 bytes
abbrev pub is_refused : Stage → Entry → Bool
is_refused Shut entry = true
is_refused Late entry = true
is_refused (Open gate in_doubt) entry = nat_lt 4294967296 (gate + 2 + length (record_of entry))
