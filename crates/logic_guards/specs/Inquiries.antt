-- What is told of questions, whatever they are.
--     AllShown f told         each finding has a set that shows what its question asks for
--     EachTold f qs told      of each question that some set shows something is told
use Rattle.std.specs.Prelude.{◌≡◌, Bool, true, List, Contains, length}
use Rattle.std.specs.List.{AllByRecursion}
use Rattle.inquiry.specs.Form.{Form}
use Rattle.inquiry.specs.declared.told.Told.{Told}
use Rattle.inquiry.specs.declared.told.Told.TheVariants.{Finding, Undecided}

abbrev pub IsShown : {Q : Type 0} → Form Q → Told Q → Type 0
IsShown f (Finding question set) = f.shows question set ≡ true
IsShown f (Undecided question learnt) = Unit {0}

abbrev pub AllShown : {Q : Type 0} → Form Q → List (Told Q) → Type 0
AllShown f all = AllByRecursion (IsShown f) all

abbrev pub asked_of : {Q : Type 0} → Told Q → Q
asked_of (Finding question set) = question
asked_of (Undecided question learnt) = question

pub record SomethingTold {Q : Type 0} (all : List (Told Q)) (q : Q) : Type 0 where
  pub told : Told Q
  pub there : Contains all told
  pub its : asked_of told ≡ q

abbrev pub IsNotPassedOver : {Q : Type 0} → Form Q → List (Told Q) → Q → Type 0
IsNotPassedOver f all q = (x : List Bool) → length x ≡ f.codes → f.shows q x ≡ true → SomethingTold all q

abbrev pub EachTold : {Q : Type 0} → Form Q → List Q → List (Told Q) → Type 0
EachTold f qs all = AllByRecursion (IsNotPassedOver f all) qs
