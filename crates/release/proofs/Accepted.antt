-- What the acceptance of an order hangs on: its day, its codes' names, and the constructibility rules.
use Rattle.std.proofs.Common.{◌≡◌, ℕ, Bool, true, false, List, [], Option, Some, None, length, refl, sym, ap, ◌∙◌}
use Rattle.std.specs.Prelude.{Ok, Err, is_none, is_some, not, if◌then◌else◌}
use Rattle.std.specs.List.{list_any}
use Rattle.std.specs.Option.{option_map}
use Rattle.std.proofs.lemmas.List.{length-map}
use Rattle.pb_base.specs.Names.{same_name}
use Rattle.pb_base.specs.NamedSet.{first_fault, named, set_of_names}
use Rattle.pb_base.specs.Results.{unless}
use Rattle.pb_base.specs.declared.named_set.NameFault.{NameFault}
use Rattle.book_model.specs.Activity.{is_within}
use Rattle.book_model.specs.Book.{IsBook}
use Rattle.book_model.specs.Contents.{Contents}
use Rattle.book_model.specs.Parts.{parts}
use Rattle.book_model.specs.Sound.{IsReleasable}
use Rattle.supplement.specs.Completion.{completion_of}
use Rattle.parts_usage.specs.Broken.{first_broken_of}
use Rattle.parts_usage.specs.Fault.{fault_of_name}
use Rattle.parts_usage.specs.Outcome.{judged, outcome_of_set}
use Rattle.parts_usage.specs.Unfit.{first_unfit_of}
use Rattle.parts_usage.specs.declared.fault.OrderFault.TheVariants.{DayOutsideTerm}
use Rattle.parts_usage.specs.declared.unfit.Unfit.{Unfit}
use Rattle.parts_usage.specs.declared.judgement.Outcome.TheVariants.{Accepted}
use Rattle.release.specs.Accepting.{accepts, is_accepted}
use Rattle.release.proofs.NeverUnfit.{completed, fits_when_unbroken, ok_behind}

-- what a call of `is_none` tells
pub is_none_told : (o : Option ℕ) (b : Bool) → is_some o ≡ not b → b ≡ is_none o
is_none_told None true h = refl
is_none_told None false h = absurd (cc)
is_none_told (Some place) true h = absurd (cc)
is_none_told (Some place) false h = refl

pub length-named : (codes names : List (List ℕ)) (ordered : List Bool) → set_of_names codes names ≡ Ok ordered → length ordered ≡ length codes
length-named codes names ordered is =
    ap length (sym (ok_behind (first_fault codes [] names) (named codes names) ordered is).1)
    ∙ length-map codes (λ code. list_any (same_name code) names)

module _ (b : Contents) (day : ℕ) (names : List (List ℕ)) where
  -- by whether the day is in the term, and by the first name at fault
  abbrev accepted_when : Bool → Option NameFault → Bool
  accepted_when within fault =
      is_accepted (unless (if within then option_map fault_of_name fault else Some DayOutsideTerm) (Ok (outcome_of_set b day (completed b day names))))

  by_tests : accepts b day names ≡ accepted_when (is_within b.first b.last day) (first_fault b.codes [] names)
  unfolding accepts
  by_tests = refl

  pub accepts_outside : is_within b.first b.last day ≡ false → accepts b day names ≡ false
  accepts_outside outside = by_tests ∙ ap (λ w. accepted_when w (first_fault b.codes [] names)) outside

  pub accepts_misnamed : (fault : NameFault) → set_of_names b.codes names ≡ Err fault → accepts b day names ≡ false
  accepts_misnamed fault misnamed = by_tests ∙ by (is_within b.first b.last day) (first_fault b.codes [] names) misnamed
    where
      by : (within : Bool) (found : Option NameFault) → unless found (Ok (named b.codes names)) ≡ Err fault → accepted_when within found ≡ false
      by within None h = absurd (cc)
      by true (Some f) h = refl
      by false (Some f) h = refl

  abbrev accepted_by : Option ℕ → Option Unfit → Bool
  accepted_by broken unfit =
      is_accepted (Ok (judged broken unfit (Accepted (completed b day names) (parts b day (completed b day names)))))

  -- the parts of an order that breaks no rule fit
  accepts_set : (broken : Option ℕ) → first_broken_of b day (completed b day names) ≡ broken → IsBook b → IsReleasable b
      → is_within b.first b.last day ≡ true → accepted_by broken (first_unfit_of b day (completed b day names)) ≡ is_none broken
  accepts_set (Some rule) is book releasable within = refl
  accepts_set None is book releasable within = ap (accepted_by None) (fits_when_unbroken b day names book releasable within is)

  pub accepts_named : (ordered : List Bool) → IsBook b → IsReleasable b → is_within b.first b.last day ≡ true → set_of_names b.codes names ≡ Ok ordered
      → accepts b day names ≡ is_none (first_broken_of b day (completion_of b day ordered).set)
  accepts_named ordered book releasable within is =
      let behind = ok_behind (first_fault b.codes [] names) (named b.codes names) ordered is in
      by_tests
      ∙ ap (λ w. accepted_when w (first_fault b.codes [] names)) within
      ∙ ap (accepted_when true) behind.0
      ∙ accepts_set (first_broken_of b day (completed b day names)) refl book releasable within
      ∙ ap (λ x. is_none (first_broken_of b day (completion_of b day x).set)) behind.1
