-- What a keeper tells at each stage.
use Rattle.std.proofs.Common.{◌≡◌, inl, inr, ℕ, ◌+◌, Bool, true, false, List, [], ◌∷◌, ◌++◌, length, take, drop, Option, Some, refl, sym, ap, ◌∙◌, append_assoc, arith, length-append}
use Rattle.std.specs.Option.{option_map}
use Rattle.std.proofs.lemmas.List.{take_at, drop_at}
use Rattle.keeper.specs.Rows.{bare}
use Rattle.journal_keeper.specs.declared.stage.Stage.{Stage}
use Rattle.journal_keeper.specs.declared.stage.Stage.TheVariants.{Shut, Late, Open}
use Rattle.disk.specs.Disk.{WhereTold}
use Rattle.journal_keeper.specs.Record.{Entry, effect, record_in}
use Rattle.journal_keeper.specs.Journal.{kept_in, after, IsRecord}
use Rattle.journal_keeper.specs.Stage.{seen_by, doubted_by, StillStands}
use Rattle.journal_keeper.specs.Sound.{IsFront, IsInDoubt, IsOpen, IsSound}
use Rattle.journal_keeper.proofs.Fronts.{kept_closed, kept_in_doubt}

-- the rows up to the last gate
pub seen_front : (gate : ℕ) (in_doubt : Bool) (front rest : List ℕ) (entries : List Entry) (file : List ℕ) → IsFront front entries → gate ≡ length front → file ≡ front ++ rest
    → seen_by (Open gate in_doubt) file ≡ after entries (bare 2)
seen_front gate in_doubt front rest entries file is_front place file_is =
    let front_is : take gate file ≡ front = ap (take gate) file_is ∙ take_at front rest gate (sym place) in
    ap (λ l. kept_in (l ++ 0 ∷ [])) front_is
    ∙ kept_closed front entries (front ++ 0 ∷ []) is_front (record { gate = 0; rest = []; shut = λ e. absurd cc; file_is = refl })

pub doubted_entry : (gate : ℕ) (front bytes : List ℕ) (entry : Entry) (file : List ℕ) → gate ≡ length front → IsRecord bytes entry → IsInDoubt front bytes file
    → doubted_by (Open gate true) file ≡ Some entry
doubted_entry gate front bytes entry file place is doubt =
    let split : file ≡ (front ++ doubt.gate ∷ []) ++ (bytes ++ 0 ∷ doubt.rest) = doubt.file_is ∙ sym (append_assoc front (doubt.gate ∷ []) (bytes ++ 0 ∷ doubt.rest)) in
    let behind : drop (gate + 1) file ≡ bytes ++ 0 ∷ doubt.rest =
    ap (drop (gate + 1)) split ∙ drop_at (front ++ doubt.gate ∷ []) (bytes ++ 0 ∷ doubt.rest) (gate + 1) (length-append front (doubt.gate ∷ []) ∙ omega (arith, place)) in
    ap (λ l. option_map (λ read. read.0) (record_in l)) behind ∙ ap (option_map (λ read. read.0)) (is (0 ∷ doubt.rest))

pub open_seen : (gate : ℕ) (in_doubt : Bool) (file : List ℕ) (leaves : List ℕ → Type 0) → (o : IsOpen gate in_doubt file leaves) → seen_by (Open gate in_doubt) file ≡ after o.entries (bare 2)
open_seen gate false file leaves o = seen_front gate false o.front _ o.entries file o.is_front o.place o.ends.here.file_is
open_seen gate true file leaves o = seen_front gate true o.front _ o.entries file o.is_front o.place o.ends.here.file_is

pub open_stands : (gate : ℕ) (in_doubt : Bool) (file : List ℕ) (leaves : List ℕ → Type 0) → IsOpen gate in_doubt file leaves → (image : List ℕ) → leaves image → StillStands (Open gate in_doubt) file image
open_stands gate false file leaves o image left =
    inl (kept_closed o.front o.entries image o.is_front (o.ends.each image left) ∙ sym (open_seen gate false file leaves o))
open_stands gate true file leaves o image left =
    let seen = open_seen gate true file leaves o in
    elim (kept_in_doubt o.front o.ends.bytes o.entries o.ends.entry image o.is_front o.ends.is_record (o.ends.each image left)) [
      | inl old ↦ inl (old ∙ sym seen)
      | inr grown ↦ inr (o.ends.entry, doubted_entry gate o.front o.ends.bytes o.ends.entry file o.place o.ends.is_record o.ends.here, grown ∙ sym (ap (effect o.ends.entry) seen))
    ]

-- between two calls each image keeps the rows that are told, or those and what a record in doubt sets
pub sound_stands : (stage : Stage) (content : Option (List ℕ)) (leaves : List ℕ → Type 0) → IsSound stage content leaves
    → WhereTold content (λ file. (image : List ℕ) → leaves image → StillStands stage file image)
sound_stands Shut content leaves sound file told image left = tt
sound_stands Late content leaves sound file told image left = tt
sound_stands (Open gate in_doubt) content leaves sound file told image left = open_stands gate in_doubt file leaves (sound file told) image left
