-- What `begin` makes of what it found.
use Rattle.std.proofs.Common.{◌≡◌, inl, inr, ℕ, Bool, true, false, List, Option, Some, None, refl, sym, ap, subst, ◌∙◌}
use Rattle.std.specs.Option.{option_map}
use Rattle.keeper.specs.Rows.{Kept, bare, begun}
use Rattle.journal_keeper.specs.declared.stage.Stage.{Stage}
use Rattle.journal_keeper.specs.declared.stage.Stage.TheVariants.{Shut, Late, Open}
use Rattle.disk.specs.Disk.{WhereTold, Only}
use Rattle.journal_keeper.specs.Journal.{is_empty_store, journal_in, kept_in, after}
use Rattle.journal_keeper.specs.Stage.{seen_by, counts_empty, IsBlank, IsBegun, IsFound}
use Rattle.journal_keeper.specs.Sound.{IsClosed, IsOpen, IsSound, IsStageOf}
use Rattle.journal_keeper.proofs.Fronts.{begun_already, after_form, kept_closed}
use Rattle.journal_keeper.proofs.Stages.{open_seen, sound_stands}
use Rattle.journal_keeper.proofs.Blanks.{counted_seen}

-- ---- what counts as empty

pub told_empty : (stage : Stage) (content : Option (List ℕ)) → WhereTold content (λ file. counts_empty stage file ≡ true)
    → option_map (λ _. bare 0) content ≡ option_map (seen_by stage) content
told_empty stage None empty = refl
told_empty stage (Some file) empty = ap Some (sym (counted_seen stage file (empty file refl)))

pub begun_empty : (stage : Stage) (content : Option (List ℕ)) → WhereTold content (λ file. counts_empty stage file ≡ true)
    → option_map (λ _. bare 2) content ≡ option_map begun (option_map (seen_by stage) content)
begun_empty stage None empty = refl
begun_empty stage (Some file) empty = ap (λ k. Some (begun k)) (sym (counted_seen stage file (empty file refl)))

pub begun_blank : (stage : Stage) (file : List ℕ) (leaves : List ℕ → Type 0) (image : List ℕ) → counts_empty stage file ≡ true → IsBlank image → IsBegun stage file leaves image
begun_blank Shut file leaves image empty blank = inr (empty, blank)
begun_blank Late file leaves image empty blank = inr blank
begun_blank (Open gate in_doubt) file leaves image empty blank = absurd cc

-- ---- what does not

pub begun_left : (stage : Stage) (content : Option (List ℕ)) (leaves : List ℕ → Type 0) (file image : List ℕ) → IsSound stage content leaves → content ≡ Some file → leaves image → IsBegun stage file leaves image
begun_left Shut content leaves file image sound told left = inl left
begun_left Late content leaves file image sound told left = inl left
begun_left (Open gate in_doubt) content leaves file image sound told left = sound_stands (Open gate in_doubt) content leaves sound file told image left

open_begun : (gate : ℕ) (in_doubt : Bool) (file : List ℕ) (leaves : List ℕ → Type 0) → IsOpen gate in_doubt file leaves → begun (seen_by (Open gate in_doubt) file) ≡ seen_by (Open gate in_doubt) file
open_begun gate in_doubt file leaves o =
    let seen = open_seen gate in_doubt file leaves o in
    begun_already (seen_by (Open gate in_doubt) file) (ap (λ (k : Kept). k.form) seen ∙ after_form o.entries (bare 2))

-- a journal that was begun before
pub begun_open : (stage : Stage) (content : Option (List ℕ)) (leaves : List ℕ → Type 0) → IsSound stage content leaves → WhereTold content (λ file. counts_empty stage file ≡ false) → (stage ≡ Shut → ⊥)
    → option_map (seen_by stage) content ≡ option_map begun (option_map (seen_by stage) content)
begun_open stage None leaves sound full isnt = refl
begun_open Shut (Some file) leaves sound full isnt = absurd (isnt refl)
begun_open Late (Some file) leaves sound full isnt = absurd (not_false (full file refl))
  where
    not_false : true ≡ false → ⊥
    not_false e = cc
begun_open (Open gate in_doubt) (Some file) leaves sound full isnt = ap Some (sym (open_begun gate in_doubt file leaves (sound file refl)))

pub found_open_before : (stage : Stage) (content : Option (List ℕ)) → WhereTold content (λ file. counts_empty stage file ≡ false) → (stage ≡ Shut → ⊥) → WhereTold content (IsFound stage)
found_open_before Shut content full isnt file told = absurd (isnt refl)
found_open_before Late content full isnt file told = absurd (not_false (full file told))
  where
    not_false : true ≡ false → ⊥
    not_false e = cc
found_open_before (Open gate in_doubt) content full isnt file told = tt

-- a file that was read
module _ (read : List ℕ) (stage : Stage) (content : Option (List ℕ)) (leaves : List ℕ → Type 0) (found : IsStageOf read stage)
    (same : WhereTold content (λ file. read ≡ file)) (only : WhereTold content (λ file. Only file leaves)) where
  opened : (gate : ℕ) (file : List ℕ) → IsOpen gate false read (λ image. image ≡ read) → content ≡ Some file → IsOpen gate false file leaves
  opened gate file o told =
      let is = same file told in
      record {
        front = o.front;
        entries = o.entries;
        is_front = o.is_front;
        place = o.place;
        ends = record {
          here = subst (IsClosed o.front) is o.ends.here;
          each = λ image left. o.ends.each image (only file told image left ∙ sym is);
        };
      }

pub found_sound : (read : List ℕ) (stage : Stage) (content : Option (List ℕ)) (leaves : List ℕ → Type 0) → IsStageOf read stage
    → WhereTold content (λ file. read ≡ file) → WhereTold content (λ file. Only file leaves) → IsSound stage content leaves
found_sound read Shut content leaves found same only = tt
found_sound read Late content leaves found same only = absurd found
found_sound read (Open gate in_doubt) content leaves found same only =
    λ file told. subst (λ d. IsOpen gate d file leaves) (sym found.0) (opened read (Open gate in_doubt) content leaves found same only gate file found.1 told)

shut_seen : (file : List ℕ) → is_empty_store file ≡ false → journal_in file ≡ None → begun (kept_in file) ≡ kept_in file
shut_seen file full none = rw (full, none) refl

-- what is told stays as it was
pub found_told : (read : List ℕ) (stage : Stage) (content : Option (List ℕ)) → IsStageOf read stage → is_empty_store read ≡ false
    → WhereTold content (λ file. read ≡ file) → option_map (seen_by stage) content ≡ option_map begun (option_map (seen_by Shut) content)
found_told read stage None found full same = refl
found_told read Shut (Some file) found full same =
    let is = same file refl in
    ap Some (sym (shut_seen file (ap is_empty_store (sym is) ∙ full) (ap journal_in (sym is) ∙ found)))
found_told read Late (Some file) found full same = absurd found
found_told read (Open gate in_doubt) (Some file) found full same =
    let o = found.1 in
    let is = same file refl in
    let seen : seen_by (Open gate in_doubt) file ≡ after o.entries (bare 2) =
    ap (λ d. seen_by (Open gate d) file) found.0 ∙ ap (seen_by (Open gate false)) (sym is) ∙ open_seen gate false read (λ image. image ≡ read) o in
    let kept : kept_in file ≡ after o.entries (bare 2) = ap kept_in (sym is) ∙ kept_closed o.front o.entries read o.is_front o.ends.here in
    ap Some (seen ∙ sym (ap begun kept ∙ begun_already (after o.entries (bare 2)) (after_form o.entries (bare 2))))

pub found_found : (read : List ℕ) (stage : Stage) (content : Option (List ℕ)) → IsStageOf read stage → is_empty_store read ≡ false
    → WhereTold content (λ file. read ≡ file) → WhereTold content (IsFound stage)
found_found read Shut content found full same file told = let is = same file told in (ap is_empty_store (sym is) ∙ full, ap journal_in (sym is) ∙ found)
found_found read Late content found full same file told = absurd found
found_found read (Open gate in_doubt) content found full same file told = tt
