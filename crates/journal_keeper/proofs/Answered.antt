-- What a keeper answers, by what its parts answer.
use Rattle.std.proofs.Common.{◌≡◌, inl, inr, ℕ, ◌+◌, ◌<◌, ◌≤◌, min, Bool, true, false, cond, List, [], ◌∷◌, ◌++◌, length, take, Option, Some, None, Result, Ok, Err, refl, sym, ap, subst, ◌∙◌, arith}
use Rattle.std.specs.Prelude.{IfSome, OnOk, OnErr, not, nat_lt}
use Rattle.std.specs.Option.{option_map}
use Rattle.std.proofs.lemmas.Bool.{cases_lt, ltb-true, ltb-false, lt-ltb, le-ltb, not-true, not-false}
use Rattle.pb_outside.specs.Faults.{Faults, Rose}
use Rattle.pb_outside.specs.declared.error.OutError.{OutError}
use Rattle.pb_outside.specs.declared.error.OutError.TheVariants.{Failed, Memory}
use Rattle.keeper.specs.Causes.{HasCause}
use Rattle.keeper.specs.Rows.{Kept, bare, migrated, IsInOrder}
use Rattle.journal_keeper.specs.declared.stage.Stage.{Stage}
use Rattle.journal_keeper.specs.declared.stage.Stage.TheVariants.{Shut, Late, Open}
use Rattle.disk.specs.Disk.{WhereTold, CountsFaults}
use Rattle.journal_keeper.specs.Record.{Entry, effect, payload_of, record_of}
use Rattle.journal_keeper.specs.Journal.{kept_in, is_empty_store, journal_in, rows_of, after}
use Rattle.journal_keeper.specs.Stage.{seen_by, settled, is_open, is_refused, StillStands, StandsOrGrew, IsBegun}
use Rattle.journal_keeper.specs.Sound.{IsSound}
use Rattle.journal_keeper.specs.Counts.{count_of}
use Rattle.journal_keeper.proofs.Fronts.{after_form, kept_closed}
use Rattle.journal_keeper.proofs.Stages.{open_seen}
use Rattle.journal_keeper.proofs.Written.{length_record}

-- ---- rows

migrated_two : (k : Kept) → k.form ≡ 2 → migrated k ≡ k
migrated_two k is = rw is refl

not_migrated : (b : Bool) (found : Option (List Entry)) → migrated (cond b (bare 0) (rows_of found)) ≡ cond b (bare 0) (rows_of found)
not_migrated true found = refl
not_migrated false None = refl
not_migrated false (Some entries) = migrated_two (after entries (bare 2)) (after_form entries (bare 2))

-- no journal has form 1
pub migrated_same : (stage : Stage) (file : List ℕ) → migrated (seen_by stage file) ≡ seen_by stage file
migrated_same Shut file = not_migrated (is_empty_store file) (journal_in file)
migrated_same Late file = refl
migrated_same (Open gate in_doubt) file = not_migrated (is_empty_store (take gate file ++ 0 ∷ [])) (journal_in (take gate file ++ 0 ∷ []))

pub migrated_told : (stage : Stage) (content : Option (List ℕ)) → option_map (seen_by stage) content ≡ option_map migrated (option_map (seen_by stage) content)
migrated_told stage None = refl
migrated_told stage (Some file) = ap Some (sym (migrated_same stage file))

-- the told rows are in order after a put
pub stays_in_order : {T E : Type 0} (result : Result T E) (old new : Option Kept) (f : Kept → Kept) → ((k : Kept) → IsInOrder k → IsInOrder (f k))
    → OnOk result (new ≡ option_map f old) → OnErr result (new ≡ old) → IfSome old IsInOrder → IfSome new IsInOrder
stays_in_order (Ok x) None new f keeps done unchanged was = subst (λ o. IfSome o IsInOrder) (sym done) tt
stays_in_order (Ok x) (Some k) new f keeps done unchanged was = subst (λ o. IfSome o IsInOrder) (sym done) (keeps k was)
stays_in_order (Err e) old new f keeps done unchanged was = subst (λ o. IfSome o IsInOrder) (sym unchanged) was

-- where it is told, the file that is read keeps what is told of it
pub loaded : (stage : Stage) (content : Option (List ℕ)) (leaves : List ℕ → Type 0) → (stage ≡ Late → ⊥) → IsSound (settled stage) content leaves
    → WhereTold content (λ file. kept_in file ≡ seen_by (settled stage) file)
loaded Shut content leaves isnt sound file told = refl
loaded Late content leaves isnt sound file told = absurd (isnt refl)
loaded (Open gate in_doubt) content leaves isnt sound file told =
    let o = sound file told in
    kept_closed o.front o.entries file o.is_front o.ends.here ∙ sym (open_seen gate false file leaves o)

pub if_told : (stage : Stage) (content : Option (List ℕ)) (P : Kept → Type 0) → WhereTold content (λ file. P (seen_by stage file)) → IfSome (option_map (seen_by stage) content) P
if_told stage None P each = tt
if_told stage (Some file) P each = each file refl

-- ---- counts

later_count : (d d' r r' : ℕ) → d ≤ d' → r ≤ r' → min (d + r) 18446744073709551615 ≤ min (d' + r') 18446744073709551615
later_count d d' r r' a b = omega arith

rose_from : (a b : ℕ) → a < b → Rose (min a 18446744073709551615) (min b 18446744073709551615)
rose_from a b less = elim (cases_lt b 18446744073709551615) [
  | inl small ↦ inl (omega arith)
  | inr full ↦ inr (omega arith)
]

disk_rose : (d d' r : ℕ) → Rose d d' → Rose (min (d + r) 18446744073709551615) (min (d' + r) 18446744073709551615)
disk_rose d d' r (inl more) = rose_from (d + r) (d' + r) (omega arith)
disk_rose d d' r (inr full) = inr (omega arith)

same_count : {T : Type 0} (result : Result T OutError) (d d' r : ℕ) → OnOk result (d' ≡ d) → OnOk result (min (d' + r) 18446744073709551615 ≡ min (d + r) 18446744073709551615)
same_count (Ok x) d d' r is = ap (λ n. min (n + r) 18446744073709551615) is
same_count (Err e) d d' r is = tt

pub counts_disk : {T : Type 0} (result : Result T OutError) (d d' r : ℕ) → CountsFaults result d d' → HasCause result (count_of d r) (count_of d' r)
counts_disk result d d' r c = record {
  stays = same_count result d d' r c.stays;
  cause = λ failed. record { rose = disk_rose d d' r (c.cause failed); possible = refl };
  later = record { never_falls = later_count d d' r r c.later (omega arith); kept = λ e. e };
}

-- a put that is refused, after the disk may have failed before
pub counts_refusal : {T : Type 0} (result : Result T OutError) (d d' r r' : ℕ) → result ≡ Err Failed → d ≤ d' → Rose r r' → r ≤ r' → HasCause result (count_of d r) (count_of d' r')
counts_refusal result d d' r r' failed later rose more = record {
  stays = subst (λ f. OnOk f (min (d' + r') 18446744073709551615 ≡ min (d + r) 18446744073709551615)) (sym failed) tt;
  cause = λ _. record { rose = refusal_rose d d' r r' later rose; possible = refl };
  later = record { never_falls = later_count d d' r r' later more; kept = λ e. e };
}
  where
    refusal_rose : (d d' r r' : ℕ) → d ≤ d' → Rose r r' → Rose (min (d + r) 18446744073709551615) (min (d' + r') 18446744073709551615)
    refusal_rose d d' r r' later (inl less) = rose_from (d + r) (d' + r') (omega arith)
    refusal_rose d d' r r' later (inr full) = inr (omega arith)

-- a refused put is one whether a gate is in doubt or not
pub refused_settled : (stage : Stage) (entry : Entry) → is_refused (settled stage) entry ≡ is_refused stage entry
refused_settled Shut entry = refl
refused_settled Late entry = refl
refused_settled (Open gate in_doubt) entry = refl

refused_by : (room gate len payload long : ℕ) → room ≡ 4294967296 → len ≡ min payload 18446744073709551615 → long ≡ 5 + payload → room < gate + 7 + len → room < gate + 2 + long
refused_by room gate len payload long is len_is long_is more = omega arith

-- a put that finds no room is refused
pub no_room : (gate : ℕ) (in_doubt : Bool) (entry : Entry) (len : ℕ) → len ≡ min (length (payload_of entry)) 18446744073709551615 → not (nat_lt 4294967296 (gate + 7 + len)) ≡ false
    → is_refused (Open gate in_doubt) entry ≡ true
no_room gate in_doubt entry len len_is full =
    let more = ltb-true 4294967296 (gate + 7 + len) (not-false (nat_lt 4294967296 (gate + 7 + len)) full) in
    lt-ltb 4294967296 (gate + 2 + length (record_of entry)) (refused_by 4294967296 gate len (length (payload_of entry)) (length (record_of entry)) refl len_is (length_record entry) more)

-- and one that finds room is not
pub room_for : (gate : ℕ) (in_doubt : Bool) (entry : Entry) (len : ℕ) → len ≡ min (length (payload_of entry)) 18446744073709551615 → not (nat_lt 4294967296 (gate + 7 + len)) ≡ true
    → (is_refused (Open gate in_doubt) entry ≡ false) × (length (payload_of entry) ≡ len) × (gate + 7 + len ≤ 4294967296)
room_for gate in_doubt entry len len_is room =
    let small : gate + 7 + len ≤ 4294967296 = ltb-false 4294967296 (gate + 7 + len) (not-true (nat_lt 4294967296 (gate + 7 + len)) room) in
    let same : length (payload_of entry) ≡ len = omega (arith, len_is, small) in
    (le-ltb 4294967296 (gate + 2 + length (record_of entry)) (omega (arith, length_record entry, same, small)), same, small)

-- what a put leaves after its gate was settled, by what was told before
pub stands_settled : (entry : Entry) (stage : Stage) (gate : ℕ) (mid file image : List ℕ) → seen_by (Open gate false) mid ≡ seen_by stage file → StandsOrGrew entry (Open gate false) mid image → StandsOrGrew entry stage file image
stands_settled entry Shut gate mid file image same stands = inl tt
stands_settled entry Late gate mid file image same stands = inl tt
stands_settled entry (Open g d) gate mid file image same (inl (inl kept)) = inl (inl (kept ∙ same))
stands_settled entry (Open g d) gate mid file image same (inl (inr doubted)) = absurd (none_some doubted.0 doubted.1)
  where
    none_some : (e : Entry) → None ≡ Some e → ⊥
    none_some e is = cc
stands_settled entry (Open g d) gate mid file image same (inr grown) = inr (grown ∙ ap (effect entry) same)

-- ---- steps that change nothing in the file

-- a file that stays, of which fewer images may be left
pub sound_stays : (stage : Stage) (content content' : Option (List ℕ)) (leaves leaves' : List ℕ → Type 0) → content' ≡ content → ((image : List ℕ) → leaves' image → leaves image)
    → IsSound stage content leaves → IsSound stage content' leaves'
sound_stays Shut content content' leaves leaves' same fewer sound = tt
sound_stays Late content content' leaves leaves' same fewer sound = λ file told. sound file (sym same ∙ told)
sound_stays (Open gate false) content content' leaves leaves' same fewer sound = λ file told.
    let o = sound file (sym same ∙ told) in
    record {
      front = o.front;
      entries = o.entries;
      is_front = o.is_front;
      place = o.place;
      ends = record { here = o.ends.here; each = λ image left. o.ends.each image (fewer image left) };
    }
sound_stays (Open gate true) content content' leaves leaves' same fewer sound = λ file told.
    let o = sound file (sym same ∙ told) in
    record {
      front = o.front;
      entries = o.entries;
      is_front = o.is_front;
      place = o.place;
      ends = record { bytes = o.ends.bytes; entry = o.ends.entry; is_record = o.ends.is_record; here = o.ends.here; each = λ image left. o.ends.each image (fewer image left) };
    }

pub begun_wider : (stage : Stage) (file : List ℕ) (leaves leaves' : List ℕ → Type 0) (image : List ℕ) → ((later : List ℕ) → leaves' later → leaves later) → IsBegun stage file leaves' image → IsBegun stage file leaves image
begun_wider Shut file leaves leaves' image fewer (inl left) = inl (fewer image left)
begun_wider Shut file leaves leaves' image fewer (inr blank) = inr blank
begun_wider Late file leaves leaves' image fewer (inl left) = inl (fewer image left)
begun_wider Late file leaves leaves' image fewer (inr blank) = inr blank
begun_wider (Open gate in_doubt) file leaves leaves' image fewer begun = begun

-- a told content is told as well where what is told of it is the same
pub told_file : {T : Type 0} (f g : List ℕ → T) (content content' : Option (List ℕ)) (file : List ℕ) → option_map f content' ≡ option_map g content → content ≡ Some file
    → (mid : List ℕ) × (content' ≡ Some mid) × (f mid ≡ g file)
told_file f g content (Some mid) file same told = (mid, refl, some_is (f mid) (g file) (same ∙ ap (option_map g) told))
  where
    some_is : {A : Type 0} (x y : A) → Some x ≡ Some y → x ≡ y
    some_is x y e = cc
told_file f g content None file same told = absurd (none_some (g file) (same ∙ ap (option_map g) told))
  where
    none_some : {A : Type 0} (x : A) → None ≡ Some x → ⊥
    none_some x e = cc

pub stands_back : (stage : Stage) (mid file image : List ℕ) → seen_by (settled stage) mid ≡ seen_by stage file → StillStands (settled stage) mid image → StillStands stage file image
stands_back Shut mid file image same stands = tt
stands_back Late mid file image same stands = tt
stands_back (Open g d) mid file image same (inl kept) = inl (kept ∙ same)
stands_back (Open g d) mid file image same (inr doubted) = absurd (none_some doubted.0 doubted.1)
  where
    none_some : (e : Entry) → None ≡ Some e → ⊥
    none_some e is = cc

-- ---- exits of a put

pub not_ok : {T E : Type 0} (P : Type 0) (r : Result T E) (e : E) → r ≡ Err e → OnOk r P
not_ok P r e is = rw is tt

pub ok_anyway : {T E P : Type 0} (r : Result T E) → P → OnOk r P
ok_anyway (Ok x) p = p
ok_anyway (Err e) p = tt

errors_differ : {T : Type 0} (r : Result T OutError) → r ≡ Err Memory → r ≡ Err Failed → ⊥
errors_differ r memory failed = cc

pub memory_is_no_failure : {T : Type 0} (r : Result T OutError) → r ≡ Err Memory → r ≡ Err Failed → ⊥
memory_is_no_failure r memory failed = errors_differ r memory failed

pub counts_nothing : {T : Type 0} (r : Result T OutError) (f : Faults) → (r ≡ Err Failed → ⊥) → HasCause r f f
counts_nothing r f never = record {
  stays = ok_anyway r refl;
  cause = λ failed. absurd (never failed);
  later = record { never_falls = omega arith; kept = λ e. e };
}

pub settled_open : (stage new : Stage) (gate : ℕ) (in_doubt : Bool) → new ≡ settled stage → new ≡ Open gate in_doubt → new ≡ Open gate false
settled_open Shut new gate in_doubt is opened = absurd (shut_open gate in_doubt (sym is ∙ opened))
  where
    shut_open : (g : ℕ) (d : Bool) → Shut ≡ Open g d → ⊥
    shut_open g d e = cc
settled_open Late new gate in_doubt is opened = absurd (late_open gate in_doubt (sym is ∙ opened))
  where
    late_open : (g : ℕ) (d : Bool) → Late ≡ Open g d → ⊥
    late_open g d e = cc
settled_open (Open g d) new gate in_doubt is opened = is ∙ ap (λ k. Open k false) (same g gate in_doubt (sym is ∙ opened))
  where
    same : (g h : ℕ) (e : Bool) → Open g false ≡ Open h e → g ≡ h
    same g h e is = cc

pub refused_shut : (stage new : Stage) (entry : Entry) → new ≡ settled stage → ((gate : ℕ) (in_doubt : Bool) → new ≡ Open gate in_doubt → ⊥) → is_refused stage entry ≡ true
refused_shut Shut new entry is isnt = refl
refused_shut Late new entry is isnt = refl
refused_shut (Open gate in_doubt) new entry is isnt = absurd (isnt gate false is)

pub ok_is_no_error : {T E : Type 0} (x : T) (e : E) → Ok x ≡ Err e → ⊥
ok_is_no_error x e is = cc

pub no_fault : {T : Type 0} (x : T) (faults : ℕ) → CountsFaults (Ok x) faults faults
no_fault x faults = record { stays = refl; cause = λ failed. absurd (ok_is_no_error x Failed failed); later = omega arith }

-- where a journal is open, nothing follows from its being shut
pub open_never : {X : Type 0} (stage : Stage) (gate : ℕ) (in_doubt : Bool) → stage ≡ Open gate in_doubt → is_open stage ≡ false → X
open_never stage gate in_doubt is shut = cc
