-- A disk in memory: the file as it was at first, and what each call did.
--     leaves_of    the images that may be left after some calls
--     synced_of    those that may be left once a sync has succeeded then
--     left_since   the images of some moment
use Rattle.std.specs.Prelude.{◌≡◌, ℕ, ◌+◌, ◌≤◌, Bool, true, false, ◌||◌, ◌&&◌, not, nat_lt, nat_le, List, [], ◌∷◌, ◌++◌, length, take, Option, Some, None, Result, OnOk, OnErr}
use Rattle.std.proofs.Common.{sym, ap, subst, refl, ◌∙◌, arith}
use Rattle.std.proofs.lemmas.Bool.{both_ways, or_parts}
use Rattle.std.proofs.lemmas.List.{take_all}
use Rattle.pb_outside.specs.Faults.{raised}
use Rattle.pb_outside.specs.FaultPlan.{Plan, is_to_fail}
use Rattle.pb_outside.specs.declared.error.OutError.{OutError}
use Rattle.disk.specs.Disk.{overwritten, Torn, IsCutOrNot, WhereTold, AfterStep, Only, Elapses}

-- What a call came to. A call that failed changed no byte, and a stop may leave it done in part. A sync that failed may have
-- lost what was written before it.
pub data Done : Type 0 where
  Wrote : (at : ℕ) (bytes : List ℕ) → Done
  TriedWrite : (at count : ℕ) → Done
  Cut : (len : ℕ) → Done
  TriedCut : (len : ℕ) → Done
  Synced : Done
  TriedSync : Done

-- the file after a call
abbrev pub content_after : List ℕ → Done → List ℕ
content_after file (Wrote at bytes) = overwritten at bytes file
content_after file (TriedWrite at count) = file
content_after file (Cut len) = take len file
content_after file (TriedCut len) = file
content_after file Synced = file
content_after file TriedSync = file

-- the images that may be left after it: `leaves` may be left before it, and `synced` after a sync then
abbrev pub leaves_after : (leaves synced : List ℕ → Type 0) → Done → List ℕ → Type 0
leaves_after leaves synced (Wrote at bytes) image = AfterStep (Torn at (length bytes)) leaves image
leaves_after leaves synced (TriedWrite at count) image = AfterStep (Torn at count) leaves image
leaves_after leaves synced (Cut len) image = AfterStep (IsCutOrNot len) leaves image
leaves_after leaves synced (TriedCut len) image = AfterStep (IsCutOrNot len) leaves image
leaves_after leaves synced Synced image = synced image
leaves_after leaves synced TriedSync image = leaves image

-- what a sync makes last: what was written, over what it would have made last before; behind one that failed, over any image
abbrev pub made_last : (leaves synced : List ℕ → Type 0) → Done → List ℕ → Type 0
made_last leaves synced (Wrote at bytes) image = AfterStep (λ earlier later. later ≡ overwritten at bytes earlier) synced image
made_last leaves synced (TriedWrite at count) image = synced image
made_last leaves synced (Cut len) image = AfterStep (λ earlier later. later ≡ take len earlier) synced image
made_last leaves synced (TriedCut len) image = synced image
made_last leaves synced Synced image = synced image
made_last leaves synced TriedSync image = leaves image

-- the images that may be left once a sync has succeeded after it
abbrev pub synced_after : (leaves synced : List ℕ → Type 0) → Done → List ℕ → Type 0
synced_after leaves synced call image = leaves_after leaves synced call image × made_last leaves synced call image

-- the same after several calls
abbrev pub content_of : List ℕ → List Done → List ℕ
content_of file [] = file
content_of file (call ∷ calls) = content_of (content_after file call) calls

abbrev pub leaves_of : (leaves synced : List ℕ → Type 0) → List Done → List ℕ → Type 0
leaves_of leaves synced [] image = leaves image
leaves_of leaves synced (call ∷ calls) image = leaves_of (leaves_after leaves synced call) (synced_after leaves synced call) calls image

abbrev pub synced_of : (leaves synced : List ℕ → Type 0) → List Done → List ℕ → Type 0
synced_of leaves synced [] image = synced image
synced_of leaves synced (call ∷ calls) image = synced_of (leaves_after leaves synced call) (synced_after leaves synced call) calls image

-- a sync has failed
abbrev pub is_failed_sync : Done → Bool
is_failed_sync (Wrote at bytes) = false
is_failed_sync (TriedWrite at count) = false
is_failed_sync (Cut len) = false
is_failed_sync (TriedCut len) = false
is_failed_sync Synced = false
is_failed_sync TriedSync = true

abbrev pub has_failed_sync : List Done → Bool
has_failed_sync [] = false
has_failed_sync (call ∷ calls) = is_failed_sync call || has_failed_sync calls

-- each write began within the file as it was then, also one that failed
abbrev pub BeginsWithin : List ℕ → Done → Type 0
BeginsWithin file (Wrote at bytes) = at ≤ length file
BeginsWithin file (TriedWrite at count) = at ≤ length file
BeginsWithin file (Cut len) = Unit {0}
BeginsWithin file (TriedCut len) = Unit {0}
BeginsWithin file Synced = Unit {0}
BeginsWithin file TriedSync = Unit {0}

abbrev pub AreWithin : List ℕ → List Done → Type 0
AreWithin file [] = Unit {0}
AreWithin file (call ∷ calls) = BeginsWithin file call × AreWithin (content_after file call) calls

-- what a contract sees: the file at first, the calls, and which calls are to fail, by their numbers and by what is left: for so
-- many calls that write, cut or sync, and for so many bytes of writes, and the call in which the disk stops, if it stops
pub record Tape : Type 0 where
  pub first : List ℕ
  pub calls : List Done
  pub plan : Plan
  pub calls_left : ℕ
  pub room_left : ℕ
  pub stop : Option ℕ

-- the disk stops in the call of this number, or stopped before it
abbrev pub is_stopped : Option ℕ → ℕ → Bool
is_stopped None number = false
is_stopped (Some last) number = nat_le last number

-- the next call is to fail: by its number, since the disk stops, or for want of room
abbrev pub is_due : Plan → Option ℕ → Bool → Bool
is_due plan stop has_room = is_to_fail plan || is_stopped stop plan.next_call || not has_room

-- the disk stopped in a call before the one of this number
abbrev pub has_stopped : Option ℕ → ℕ → Bool
has_stopped None number = false
has_stopped (Some last) number = nat_lt last number

-- The next call is to fail, and a stop may leave it done in part: it isn't want of room, the disk has not stopped before, and
-- there is a place for it.
abbrev pub is_tried : Plan → Option ℕ → Bool → Bool
is_tried plan stop has_place = (is_to_fail plan || is_stopped stop plan.next_call) && (has_place && not (has_stopped stop plan.next_call))

-- A call that was made is recorded whole, and one that failed is recorded just where a stop may leave it done in part.
pub record IsRecorded {T : Type 0} (result : Result T OutError) (whole part : Done) (is_partly : Bool) (before after : List Done) : Type 0 where
  pub made : OnOk result (after ≡ before ++ whole ∷ [])
  pub tried : OnErr result (is_partly ≡ true → after ≡ before ++ part ∷ [])
  pub untried : OnErr result (is_partly ≡ false → after ≡ before)

-- there is room for one call more that writes, cuts or syncs, and for the bytes that it writes
abbrev pub has_room : ℕ → ℕ → ℕ → Bool
has_room calls_left room_left bytes = nat_lt 0 calls_left && nat_le bytes room_left

-- A call was begun, and so counts as one. If it goes, it takes this much room.
pub record GoesOn {T : Type 0} (result : Result T OutError) (places bytes : ℕ) (before after : Tape) : Type 0 where
  pub fails : after.plan.fails ≡ before.plan.fails
  pub next_call : after.plan.next_call ≡ raised before.plan.next_call
  pub stop : after.stop ≡ before.stop
  pub calls_left : OnOk result (after.calls_left + places ≡ before.calls_left)
  pub room_left : OnOk result (after.room_left + bytes ≡ before.room_left)
  pub at_most_one : OnErr result (before.calls_left ≤ after.calls_left + 1)
  pub no_room : OnErr result (after.room_left ≡ before.room_left)

-- the images that a stop may leave now
abbrev pub left_now : List ℕ → List Done → List ℕ → Type 0
left_now first calls image = leaves_of (λ file. file ≡ first) (λ file. file ≡ first) calls image

-- the images that a stop may leave once a sync has succeeded
abbrev pub left_synced : List ℕ → List Done → List ℕ → Type 0
left_synced first calls image = synced_of (λ file. file ≡ first) (λ file. file ≡ first) calls image

-- the images that a stop could leave after the first t calls, or later
pub record LeftSince (first : List ℕ) (calls : List Done) (t : ℕ) (image : List ℕ) : Type 0 where
  pub moment : ℕ
  pub later : t ≤ moment
  pub so_far : moment ≤ length calls
  pub left : left_now first (take moment calls) image

-- the same by what a contract sees: the file as a read gives it, what a stop may leave, and what once a sync has succeeded
abbrev pub content_told : Tape → Option (List ℕ)
content_told d = Some (content_of d.first d.calls)

abbrev pub may_be_left : Tape → List ℕ → Type 0
may_be_left d image = left_now d.first d.calls image

abbrev pub may_be_synced : Tape → List ℕ → Type 0
may_be_synced d image = left_synced d.first d.calls image

-- the moments go on, and no other image may be left since them
abbrev pub TakesTime : Tape → Tape → Type 0
TakesTime old new =
    Elapses (length old.calls) (length new.calls) (λ t image. LeftSince old.first old.calls t image) (λ t image. LeftSince new.first new.calls t image) (may_be_left new)

pub counts_now : (tape : Tape) (t : ℕ) (image : List ℕ) → t ≤ length tape.calls → left_now tape.first tape.calls image → LeftSince tape.first tape.calls t image
counts_now tape t image earlier left = record {
  moment = length tape.calls;
  later = earlier;
  so_far = omega arith;
  left = subst (λ calls. left_now tape.first calls image) (sym (take_all (length tape.calls) tape.calls (omega arith))) left;
}

-- what a sync may make last, a stop may leave
pub synced_within : (leaves synced : List ℕ → Type 0) (calls : List Done) → ((image : List ℕ) → synced image → leaves image) → (image : List ℕ) → synced_of leaves synced calls image
    → leaves_of leaves synced calls image
synced_within leaves synced [] within image left = within image left
synced_within leaves synced (call ∷ calls) within image left =
    synced_within (leaves_after leaves synced call) (synced_after leaves synced call) calls (λ image both. both.0) image left

pub synced_now : (tape : Tape) (image : List ℕ) → left_synced tape.first tape.calls image → left_now tape.first tape.calls image
synced_now tape image left = synced_within (λ file. file ≡ tape.first) (λ file. file ≡ tape.first) tape.calls (λ image is. is) image left

only_after : (file : List ℕ) (leaves synced : List ℕ → Type 0) (call : Done) → is_failed_sync call ≡ false → Only file synced → Only (content_after file call) (synced_after leaves synced call)
only_after file leaves synced (Wrote at bytes) none only image left = left.1.2 ∙ ap (overwritten at bytes) (only left.1.0 left.1.1)
only_after file leaves synced (TriedWrite at count) none only image left = only image left.1
only_after file leaves synced (Cut len) none only image left = left.1.2 ∙ ap (take len) (only left.1.0 left.1.1)
only_after file leaves synced (TriedCut len) none only image left = only image left.1
only_after file leaves synced Synced none only image left = only image left.1
only_after file leaves synced TriedSync none only image left = absurd (both_ways true none refl)

-- where no sync has failed, one makes last what a read gives
only_synced : (file : List ℕ) (leaves synced : List ℕ → Type 0) (calls : List Done) → has_failed_sync calls ≡ false → Only file synced → Only (content_of file calls) (synced_of leaves synced calls)
only_synced file leaves synced [] none only = only
only_synced file leaves synced (call ∷ calls) none only =
    let both = or_parts (is_failed_sync call) (has_failed_sync calls) none in
    only_synced (content_after file call) (leaves_after leaves synced call) (synced_after leaves synced call) calls both.1 (only_after file leaves synced call both.0 only)

abbrev told_in : Option (List ℕ) → List ℕ
told_in None = []
told_in (Some file) = file

pub begins_sure : (tape : Tape) (name : List ℕ) → has_failed_sync tape.calls ≡ false → WhereTold (Some (content_of tape.first tape.calls)) (λ file. Only file (left_synced tape.first tape.calls))
begins_sure tape name none file told image left =
    only_synced tape.first (λ file. file ≡ tape.first) (λ file. file ≡ tape.first) tape.calls none (λ image is. is) image left ∙ ap told_in told

pub only_now : (tape : Tape) (image : List ℕ) → LeftSince tape.first tape.calls (length tape.calls) image → left_now tape.first tape.calls image
only_now tape image since = subst (λ calls. left_now tape.first calls image) (take_all since.moment tape.calls since.later) since.left
