-- What a call of a disk in memory tells, by the call that it records.
use Rattle.std.proofs.Common.{◌≡◌, ℕ, ◌<◌, ◌≤◌, List, [], ◌∷◌, ◌++◌, length, refl, sym, ap, subst, ◌∙◌, arith}
use Rattle.std.specs.Prelude.{Result, Ok, Err, OnErr, is_ok, if◌then◌else◌}
use Rattle.disk.specs.Disk.{Overwrites, IsCut, Follows, Elapses}
use Rattle.disk.specs.Tape.{Done, Wrote, Cut, Synced, Tape, content_after, leaves_after, synced_after, content_of, BeginsWithin, AreWithin, left_now, left_synced, synced_within, LeftSince}
use Rattle.disk.specs.declared.memory_disk.Call.{Call}
use Rattle.disk.specs.declared.memory_disk.Call.TheVariants as call
use Rattle.disk.specs.declared.memory_disk.MemoryDisk.TheInside.{Inside}
use Rattle.disk.specs.Calls.{dones, total, IsQuiet, quiet}
use Rattle.disk.specs.MemoryDisk.{tape_of, HasMemory, IsKept}
use Rattle.disk.proofs.Tapes.{content_more, leaves_to, synced_to, time_of, dones_other, total_more}
use Rattle.disk.proofs.Replays.{keeps_call}

-- the calls grew by one
pub record Grew (first first' : List ℕ) (calls calls' : List Done) (c : Done) : Type 0 where
  pub first_is : first' ≡ first
  pub calls_are : calls' ≡ calls ++ c ∷ []

module _ (first first' : List ℕ) (calls calls' : List Done) (c : Done) (grew : Grew first first' calls calls' c) where
  abbrev First : List ℕ → Type 0
  First file = file ≡ first

  -- an image that may be left now comes by the call
  pub image_from : (image : List ℕ) → left_now first' calls' image → leaves_after (left_now first calls) (left_synced first calls) c image
  image_from image left =
      leaves_to First First calls c image (subst (λ cs. left_now first cs image) grew.calls_are (subst (λ f. left_now f calls' image) grew.first_is left))

  -- and so does one that a sync may make last
  pub synced_from_call : (image : List ℕ) → left_synced first' calls' image → synced_after (left_now first calls) (left_synced first calls) c image
  synced_from_call image left =
      synced_to First First calls c image (subst (λ cs. left_synced first cs image) grew.calls_are (subst (λ f. left_synced f calls' image) grew.first_is left))

  pub grew_time : Elapses (length calls) (length calls') (λ t image. LeftSince first calls t image) (λ t image. LeftSince first' calls' t image) (λ image. left_now first' calls' image)
  grew_time =
      subst (λ f. Elapses (length calls) (length calls') (λ t image. LeftSince first calls t image) (λ t image. LeftSince f calls' t image) (λ image. left_now f calls' image)) (sym grew.first_is)
      (time_of first calls calls' c grew.calls_are)

  -- the content after a call that is recorded
  pub content_grew : content_of first' calls' ≡ content_after (content_of first calls) c
  content_grew = ap (λ f. content_of f calls') grew.first_is ∙ ap (content_of first) grew.calls_are ∙ content_more first calls c

-- what a sync made last, a stop could leave before
pub sync_shrinks : (first first' : List ℕ) (calls calls' : List Done) → Grew first first' calls calls' Synced → (image : List ℕ) → left_now first' calls' image → left_now first calls image
sync_shrinks first first' calls calls' grew image left = synced_within (λ file. file ≡ first) (λ file. file ≡ first) calls (λ file is. is) image (image_from first first' calls calls' Synced grew image left)

-- what a sync makes last of a write and of a cut
pub write_synced : (first first' : List ℕ) (calls calls' : List Done) (at : ℕ) (bytes : List ℕ) → Grew first first' calls calls' (Wrote at bytes)
    → Follows (Overwrites at bytes) (λ image. left_synced first calls image) (λ image. left_synced first' calls' image)
write_synced first first' calls calls' at bytes grew image left =
    let made = (synced_from_call first first' calls calls' (Wrote at bytes) grew image left).1 in
    (made.0, made.1, λ within. made.2)

pub cut_synced : (first first' : List ℕ) (calls calls' : List Done) (len : ℕ) → Grew first first' calls calls' (Cut len)
    → Follows (IsCut len) (λ image. left_synced first calls image) (λ image. left_synced first' calls' image)
cut_synced first first' calls calls' len grew image left = (synced_from_call first first' calls calls' (Cut len) grew image left).1

-- what is kept is kept by a call that is recorded
pub keeps : {d' : Inside} (d : Inside) (c : Done) → IsKept d → d'.first.items ≡ d.first.items
    → dones d'.calls.items d'.written.items ≡ dones d.calls.items d.written.items ++ c ∷ [] → total d'.calls.items ≡ length d'.written.items
    → BeginsWithin d.content.items c → d'.content.items ≡ content_after d.content.items c → HasMemory d' → IsKept d'
keeps {d'} d c kept first_is more fits within is memory =
    let both = keeps_call d.first.items d.content.items d'.content.items (dones d.calls.items d.written.items) (dones d'.calls.items d'.written.items) c kept.content kept.within more within is in
    record {
      content = both.0 ∙ ap (λ f. content_of f (dones d'.calls.items d'.written.items)) (sym first_is);
      within = subst (λ f. AreWithin f (dones d'.calls.items d'.written.items)) (sym first_is) both.1;
      bytes = fits;
      memory = memory;
    }

-- the call is none that writes
abbrev pub Is : Call → Done → Type 0
Is c e = ((bytes : List ℕ) → dones (c ∷ []) bytes ≡ e ∷ []) × (total (c ∷ []) ≡ 0)

pub keeps_other : {d' : Inside} (d : Inside) (c : Call) (e : Done) → Is c e → IsKept d → d'.first.items ≡ d.first.items → d'.written.items ≡ d.written.items
    → d'.calls.items ≡ d.calls.items ++ c ∷ [] → BeginsWithin d.content.items e → d'.content.items ≡ content_after d.content.items e → HasMemory d' → IsKept d'
keeps_other {d'} d c e is kept first_is written_is more within content_is memory = keeps d e kept first_is
    (ap (dones d'.calls.items) written_is ∙ ap (λ cs. dones cs d.written.items) more ∙ dones_other d.calls.items d.written.items c e is.0)
    (omega (arith, ap total more, total_more d.calls.items c, is.1, kept.bytes, ap length written_is)) within content_is memory

pub recorded : (d : Inside) (tape : Tape) (calls' : List Call) (c : Call) (e : Done) → tape_of d ≡ tape → Is c e → calls' ≡ d.calls.items ++ c ∷ []
    → dones calls' d.written.items ≡ tape.calls ++ e ∷ []
recorded d tape calls' c e tape_is is more =
    let here : dones calls' d.written.items ≡ dones d.calls.items d.written.items ++ e ∷ [] = ap (λ cs. dones cs d.written.items) more ∙ dones_other d.calls.items d.written.items c e is.0 in
    subst (λ (t : Tape). dones calls' d.written.items ≡ t.calls ++ e ∷ []) tape_is here

-- what changes no byte of the file is none that writes
pub quiet_call : (c : Call) → IsQuiet c → Is c (quiet c) × ((file : List ℕ) → file ≡ content_after file (quiet c))
quiet_call (call.Wrote at len) h = absurd h
quiet_call (call.TriedWrite at len) h = (((λ bytes. refl), refl), (λ file. refl))
quiet_call (call.Cut len) h = absurd h
quiet_call (call.TriedCut len) h = (((λ bytes. refl), refl), (λ file. refl))
quiet_call call.Synced h = (((λ bytes. refl), refl), (λ file. refl))
quiet_call call.TriedSync h = (((λ bytes. refl), refl), (λ file. refl))

-- what begins within the file that is told
pub begins_file : (d : Inside) (tape : Tape) (e : Done) → IsKept d → tape_of d ≡ tape → BeginsWithin (content_of tape.first tape.calls) e → BeginsWithin d.content.items e
begins_file d tape e kept tape_is begins =
    let is : d.content.items ≡ content_of tape.first tape.calls = subst (λ (t : Tape). d.content.items ≡ content_of t.first t.calls) tape_is kept.content in
    subst (λ file. BeginsWithin file e) (sym is) begins

-- a place for one call more
pub has_place : (d : Inside) (tape : Tape) → tape_of d ≡ tape → 0 < tape.calls_left → 0 < d.calls_left
has_place d tape tape_is place = subst (λ (t : Tape). 0 < t.calls_left) (sym tape_is) place

-- room for so many bytes more
pub has_bytes : (d : Inside) (tape : Tape) (n : ℕ) → tape_of d ≡ tape → n ≤ tape.room_left → n ≤ d.room_left
has_bytes d tape n tape_is room = subst (λ (t : Tape). n ≤ t.room_left) (sym tape_is) room

-- what has room for what it is to hold does not fail
pub went : {T E X : Type 0} (result : Result T E) (new whole old : List X) (capacity long : ℕ) → OnErr result (capacity < long) → long ≤ capacity
    → new ≡ (if is_ok result then whole else old) → new ≡ whole
went (Ok x) new whole old capacity long full fits is = is
went (Err e) new whole old capacity long full fits is = let never : ⊥ = omega (arith, full, fits) in absurd never
