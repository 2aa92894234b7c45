-- What a stop leaves of a put.
use Rattle.std.proofs.Common.{◌≡◌, inl, inr, ℕ, true, false, List, Option, None, Some, Result, Ok, Err, refl, sym, ap, subst, ◌∙◌}
use Rattle.std.specs.Prelude.{OnErr, OnOk}
use Rattle.std.specs.Option.{option_map}
use Rattle.pb_outside.specs.declared.error.OutError.{OutError}
use Rattle.journal_keeper.specs.declared.stage.Stage.{Stage}
use Rattle.journal_keeper.specs.declared.stage.Stage.TheVariants.{Shut, Late, Open}
use Rattle.journal_keeper.specs.Journal.{kept_in}
use Rattle.journal_keeper.specs.Record.{Entry, Order}
use Rattle.journal_keeper.specs.Stage.{DoubtsOnly, StandsOrGrew, StillStands, doubted, doubted_by, is_open, is_refused, seen_by}
use Rattle.keeper.specs.Rows.{Kept, with_order}
use Rattle.keeper.specs.declared.rows.OrderRow.{OrderRow}
use Rattle.desk_guards.specs.Puts.{IsSure, IsWithOrWithout}

-- where no gate was in doubt, before it or with it
pub with_or_without : (row : OrderRow) (stage : Stage) (file image : List ℕ) → IsSure stage → StandsOrGrew (Order row) stage file image
    → IsWithOrWithout row (seen_by stage file) (kept_in image)
with_or_without row Shut file image sure left = let no : Shut ≡ Open sure.0 false = sure.1 in cc
with_or_without row Late file image sure left = let no : Late ≡ Open sure.0 false = sure.1 in cc
with_or_without row (Open gate true) file image sure left = let no : Open gate true ≡ Open sure.0 false = sure.1 in cc
with_or_without row (Open gate false) file image sure (inl (inl same)) = inl same
with_or_without row (Open gate false) file image sure (inl (inr late)) = let none : None ≡ Some late.0 = late.1 in cc
with_or_without row (Open gate false) file image sure (inr grew) = inr grew

-- what still stands is what is told, where no gate is in doubt
sure_stands : (stage : Stage) (file image : List ℕ) → is_open stage ≡ true → doubted stage (Some file) ≡ None → StillStands stage file image
    → kept_in image ≡ seen_by stage file
sure_stands Shut file image opened sure stands = cc
sure_stands Late file image opened sure stands = cc
sure_stands (Open gate in_doubt) file image opened sure (inl same) = same
sure_stands (Open gate false) file image opened sure (inr late) = let none : None ≡ Some late.0 = late.1 in cc
sure_stands (Open gate true) file image opened sure (inr late) =
    let none : doubted_by (Open gate true) file ≡ None = sure in let some : doubted_by (Open gate true) file ≡ Some late.0 = late.1 in cc

open_unless_refused : (stage : Stage) (entry : Entry) → is_refused stage entry ≡ false → is_open stage ≡ true
open_unless_refused Shut entry is = cc
open_unless_refused Late entry is = cc
open_unless_refused (Open gate in_doubt) entry is = refl

pub stands_after : (row : OrderRow) (old mid new : Stage) (file file' image : List ℕ) (before told : Option Kept)
    → before ≡ option_map (seen_by old) (Some file) → told ≡ option_map (with_order row) before → told ≡ option_map (seen_by new) (Some file')
    → is_refused mid (Order row) ≡ false → is_open new ≡ is_open mid → doubted new (Some file') ≡ None → StillStands new file' image
    → kept_in image ≡ with_order row (seen_by old file)
stands_after row old mid new file file' image before told was done now made stays sure stands =
    let opened : is_open new ≡ true = stays ∙ open_unless_refused mid (Order row) made in
    let rows : Some (seen_by new file') ≡ Some (with_order row (seen_by old file)) = sym now ∙ done ∙ ap (option_map (with_order row)) was in
    let same : seen_by new file' ≡ with_order row (seen_by old file) = cc in
    sure_stands new file' image opened sure stands ∙ same

-- ---- by what a put was answered

pub on_ok : {T E : Type 0} (P : Type 0) (r : Result T E) → ((done : T) → r ≡ Ok done → P) → OnOk r P
on_ok P (Ok done) f = f done refl
on_ok P (Err error) f = tt

pub on_err : {T E : Type 0} (P : Type 0) (r : Result T E) → ((error : E) → r ≡ Err error → P) → OnErr r P
on_err P (Ok done) f = tt
on_err P (Err error) f = f error refl

pub from_ok : {T E : Type 0} (P : Type 0) (r : Result T E) (done : T) → r ≡ Ok done → OnOk r P → P
from_ok {T} {E} P r done is h = subst (λ (q : Result T E). OnOk q P) is h

pub from_err : {T E : Type 0} (P : Type 0) (r : Result T E) (error : E) → r ≡ Err error → OnErr r P → P
from_err {T} {E} P r error is h = subst (λ (q : Result T E). OnErr q P) is h

pub none_doubted : {T : Type 0} (r : Result T OutError) (done : T) (row : OrderRow) (before after : Option Entry) → r ≡ Ok done → DoubtsOnly r (Order row) before after → after ≡ None
none_doubted {T} r done row before after is h = subst (λ (q : Result T OutError). DoubtsOnly q (Order row) before after) is h
