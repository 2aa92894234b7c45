-- What is told of the first day of a run holds on all its days.
use Rattle.std.proofs.Common.{◌≡◌, ℕ, ◌+◌, ◌<◌, Bool, true, List, [], ◌∷◌, ◌++◌, Option, Some, length, take, get_or, sym, ap, subst, ◌∙◌}
use Rattle.shared_work.proofs.JoinLaws.{zip-append}
use Rattle.std.specs.List.{AllZip, IsDistinct}
use Rattle.std.specs.Option.{option_map, option_to_list}
use Rattle.std.specs.Prelude.{Ok, Err}
use Rattle.std.proofs.lemmas.List.{take_more}
use Rattle.pb_base.specs.NamedSet.{named, set_of_names}
use Rattle.pb_base.specs.Names.{same_name}
use Rattle.book_model.specs.Contents.{Contents}
use Rattle.book_model.specs.Good.{is_good}
use Rattle.book_model.specs.Sound.{IsReleasable}
use Rattle.book_model.specs.Slices.{IsSteady}
use Rattle.book_model.specs.declared.record.Slice.{Slice}
use Rattle.book_model.proofs.DaysAlike.{good_on_slice}
use Rattle.pb_base.specs.Results.{unless}
use Rattle.pb_base.specs.declared.named_set.NameFault.{NameFault}
use Rattle.pb_base.proofs.Faultless.{no_fault}
use Rattle.book_model.specs.declared.record.Variant.{Variant}
use Rattle.clausify.proofs.ItemLaws.{length_from_good}
use Rattle.chosen_parts.specs.Chosen.{use_of, AreFew}
use Rattle.chosen_parts.specs.declared.part_use.PartUse.{PartUse}
use Rattle.chosen_parts.proofs.FewLaws.{few_from_sound}
use Rattle.book_compare.specs.Common.{DiffersWith}
use Rattle.pb_base.specs.Picked.{AreNamed, picked}
use Rattle.lost_cars.specs.CommonCar.{IsCommonAnswer, IsCommonCar}
use Rattle.lost_cars.specs.Losses.{IsCar, KeepsCars}
use Rattle.lost_cars.proofs.NotedLaws.{car_of_set}
use Rattle.rules_met.specs.declared.answer.RuleAnswer.{RuleAnswer}
use Rattle.rules_met.specs.declared.answer.RuleAnswer.TheVariants.{Met, NotMet, Left}
use Rattle.book_changes.specs.Changes.{IsAnyCommon, KeepsThrough}
use Rattle.book_changes.specs.Searched.{common_by}
use Rattle.book_changes.specs.Days.{IsRunOf}

pub keeps_through : (own other : Contents) (r : Slice) → IsSteady own r → IsSteady other r → KeepsCars own other r.first → KeepsThrough own other r
keeps_through own other r steady others keeps = λ day within names car.
    let first : IsCar own r.first names = record {
      distinct = car.distinct;
      named_there = car.named_there;
      good = sym (good_on_slice own r day (named own.codes names) steady within) ∙ car.good;
    } in
    let kept = keeps names first in
    record {
      distinct = kept.distinct;
      named_there = kept.named_there;
      good = good_on_slice other r day (named other.codes names) others within ∙ kept.good;
    }

-- where no car is lost, some car is one of both
pub some_common : (first second : Contents) (r : Slice) → IsReleasable first → IsDistinct same_name first.codes → IsRunOf first r → KeepsCars first second r.first
    → (names : List (List ℕ)) × IsCommonCar first second r.first names
some_common first second r releasable apart run keeps =
    let found = releasable.not_void r.first run.from run.to in
    let car : IsCar first r.first (picked first.codes found.0) = car_of_set first r.first found.0 apart found.1 in
    (picked first.codes found.0, record { own_car = car; other_car = keeps (picked first.codes found.0) car })

-- what is said by a search for a car of both
pub any_common : (first second : Contents) (day budget : ℕ) (found : RuleAnswer) → IsCommonAnswer first second day budget found → IsAnyCommon first second day budget (common_by found)
any_common first second day budget (Met x) common = (picked first.codes x, common.1)
any_common first second day budget NotMet none = none
any_common first second day budget Left left = left

-- of the pair at one place more
pub zip_more : {X Y : Type 0} (R : X → Y → Type 0) (xs : List X) (i : ℕ) (d : X) (ys more : List Y) (y : Y) → i < length xs → AllZip R (take i xs) ys → R (get_or xs i d) y
    → more ≡ ys ++ y ∷ [] → AllZip R (take (i + 1) xs) more
zip_more {X} {Y} R xs i d ys more y within zip one is =
    rw (is, take_more xs i d within) (zip-append R (take i xs) (get_or xs i d ∷ []) ys (y ∷ []) zip (one, tt))

-- a car that gets other parts is one of both
pub first_car : (first second : Contents) (day : ℕ) (id : List ℕ) (names : List (List ℕ)) → DiffersWith first second day id names → IsCar first day names
first_car first second day id names h = record { distinct = h.common.distinct; named_there = h.common.in_first; good = h.common.good_in_first }

pub second_car : (first second : Contents) (day : ℕ) (id : List ℕ) (names : List (List ℕ)) → DiffersWith first second day id names → IsCar second day names
second_car first second day id names h = record { distinct = h.common.distinct; named_there = h.common.in_second; good = h.common.good_in_second }

pub few_on : (b : Contents) (r : Slice) (x : List Bool) → IsReleasable b → IsRunOf b r → is_good b r.first x ≡ true → AreFew b r.first x
few_on b r x releasable run good = few_from_sound b r.first x (releasable.sound r.first run.from run.to x good)

pub some_part : (o : Option Variant) (v : Variant) (uses : List PartUse) → o ≡ Some v → option_to_list (option_map use_of o) ≡ uses → option_to_list (Some (use_of v)) ≡ uses
some_part o v uses is are = rw is at are

-- the set of a car's names
pub names_made : (codes names : List (List ℕ)) → AreNamed codes names → IsDistinct same_name names → set_of_names codes names ≡ Ok (named codes names)
names_made codes names there apart = ap (λ o. unless o (Ok (named codes names))) (no_fault codes names there apart)

pub never_fault : (codes names : List (List ℕ)) (fault : NameFault) → AreNamed codes names → IsDistinct same_name names → set_of_names codes names ≡ Err fault → ⊥
never_fault codes names fault there apart is = let made = names_made codes names there apart in cc

pub set_made : (codes names : List (List ℕ)) (x : List Bool) → AreNamed codes names → IsDistinct same_name names → set_of_names codes names ≡ Ok x → x ≡ named codes names
set_made codes names x there apart is = let made = names_made codes names there apart in cc

pub good_counted : (b : Contents) (day : ℕ) (x : List Bool) → is_good b day x ≡ true → length x ≡ length b.codes
good_counted b day x good = length_from_good b day x good
