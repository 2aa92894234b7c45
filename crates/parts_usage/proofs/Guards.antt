-- A rule of a code is not broken where the code is absent.
use Rattle.std.proofs.Common.{◌≡◌, ℕ, ◌<◌, Bool, true, false, not, ◌&&◌, ◌||◌, List, Option, Some, None, map, refl, sym, ap, subst, ◌∙◌}
use Rattle.std.specs.List.{slice_get}
use Rattle.std.specs.Option.{option_map}
use Rattle.std.proofs.lemmas.Option.{none-some, same_Some, slice_get-map}
use Rattle.pb_base.specs.Rule.{holds}
use Rattle.pb_base.specs.Sets.{has}
use Rattle.book_model.specs.Activity.{is_within}
use Rattle.book_model.specs.Book.{ConstructFits, DemandFits}
use Rattle.book_model.specs.Good.{breaks, is_met}
use Rattle.book_model.specs.declared.demand.Demand.{Demand}
use Rattle.book_model.specs.declared.demand.Demand.TheVariants.{Rule, One, Most}
use Rattle.book_model.specs.declared.record.Construct.{Construct}
use Rattle.parts_usage.specs.Broken.{guard_in, guard_of}

guard_below : (codes : ℕ) (d : Demand) (code : ℕ) → DemandFits codes d → guard_in d ≡ Some code → code < codes
guard_below codes (Rule None f) code fits is = absurd (none-some code is)
guard_below codes (Rule (Some c) f) code fits is = subst (λ k. k < codes) (same_Some c code is) fits.on
guard_below codes (One group) code fits is = absurd (none-some code is)
guard_below codes (Most group) code fits is = absurd (none-some code is)

-- the code of a rule is one of the book
pub guard_within : (codes : ℕ) (c : Construct) (code : ℕ) → ConstructFits codes c → Some code ≡ guard_of c → code < codes
guard_within codes c code fits is = guard_below codes c.demand code fits.demand (sym is)

met_without : (x : List Bool) (d : Demand) (code : ℕ) → guard_in d ≡ Some code → has x code ≡ false → is_met x d ≡ true
met_without x (Rule None f) code is off = absurd (none-some code is)
met_without x (Rule (Some c) f) code is off = ap (λ b. not b || holds f x) (ap (has x) (same_Some c code is) ∙ off)
met_without x (One group) code is off = absurd (none-some code is)
met_without x (Most group) code is off = absurd (none-some code is)

and_off : (b : Bool) → (b && false) ≡ false
and_off true = refl
and_off false = refl

pub unbroken_without : (day : ℕ) (x : List Bool) (c : Construct) (code : ℕ) → Some code ≡ guard_of c → has x code ≡ false → breaks day x c ≡ false
unbroken_without day x c code is off =
    ap (λ met. is_within c.from c.until day && not met) (met_without x c.demand code (sym is) off) ∙ and_off (is_within c.from c.until day)

-- the guard at a place is that of the rule there
pub guard_at : (cs : List Construct) (gs : List (Option ℕ)) (place : ℕ) (c : Construct) (g : Option ℕ) → gs ≡ map guard_of cs → slice_get cs place ≡ Some c → slice_get gs place ≡ Some g → g ≡ guard_of c
guard_at cs gs place c g is at there =
    same_Some g (guard_of c) (sym there ∙ ap (λ (l : List (Option ℕ)). slice_get l place) is ∙ slice_get-map guard_of cs place ∙ ap (option_map guard_of) at)
