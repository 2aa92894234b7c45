-- What is told of requirements by small answers, which a wrong body would tell otherwise.
use Rattle.std.proofs.Common.{◌≡◌, ℕ, true, false, [], ◌∷◌, refl}
use Rattle.std.specs.Prelude.{codes}
use Rattle.pb_base.specs.Rule.{code}
use Rattle.requirements.specs.declared.requirement.Claim.TheVariants.{Meets, Uses}
use Rattle.requirements.specs.declared.requirement.Requirement.{Requirement}
use Rattle.rules_met.specs.declared.answer.RuleAnswer.{RuleAnswer}
use Rattle.rules_met.specs.declared.answer.RuleAnswer.TheVariants.{Met, NotMet}
use Rattle.kept_requirements.specs.Kept.{is_asked}
use Rattle.kept_requirements.specs.Notes.{lines_of}
use Rattle.kept_requirements.specs.declared.cells.Part.{Part}
use Rattle.kept_requirements.specs.declared.note.RequirementNote.TheVariants.{Fails, Idle}

-- of the days 1 to 30
abbrev about_a_code : Requirement
about_a_code = record { id = codes "R1"; claim = Meets (code 0); from = 1; until = 30 }

abbrev about_a_part : Requirement
about_a_part = record { id = codes "R2"; claim = Uses (codes "A100") (code 0); from = 1; until = 30 }

-- it is asked on each slice in which it has a day, and not on the first one alone
asked_on_the_first : is_asked about_a_code (record { first = 1; last = 10 }) ≡ true
asked_on_the_first = refl

asked_on_a_later_one : is_asked about_a_code (record { first = 11; last = 40 }) ≡ true
asked_on_a_later_one = refl

not_asked_behind_its_days : is_asked about_a_code (record { first = 31; last = 40 }) ≡ false
not_asked_behind_its_days = refl

abbrev part_on : ℕ → ℕ → RuleAnswer → RuleAnswer → Part
part_on first last broken meant = record { first = first; last = last; broken = broken; meant = meant }

-- what fails on the days 1 to 10 and 21 to 30, and not between, is told as two runs
two_runs : lines_of about_a_code (part_on 1 10 (Met (true ∷ [])) NotMet ∷ part_on 11 20 NotMet NotMet ∷ part_on 21 30 (Met (false ∷ [])) NotMet ∷ [])
    ≡ Fails (codes "R1") 1 10 (true ∷ []) ∷ Fails (codes "R1") 21 30 (false ∷ []) ∷ []
two_runs = refl

-- and on neighbouring days as one
one_run : lines_of about_a_code (part_on 1 10 (Met (true ∷ [])) NotMet ∷ part_on 11 30 (Met (false ∷ [])) NotMet ∷ [])
    ≡ Fails (codes "R1") 1 30 (true ∷ []) ∷ []
one_run = refl

-- no car of its days meets the rule of one about a part: it asks nothing, and that is told
idle : lines_of about_a_part (part_on 1 10 NotMet NotMet ∷ part_on 11 30 NotMet NotMet ∷ []) ≡ Idle (codes "R2") ∷ []
idle = refl
