-- What the verdict of a report says of its notes.
use Rattle.std.proofs.Common.{◌≡◌, ℕ, Bool, true, false, cond, List, refl}
use Rattle.std.specs.List.{list_any}
use Rattle.findings.specs.Notes.{is_fault, is_left}
use Rattle.findings.specs.declared.report.Verdict.{Verdict}
use Rattle.findings.specs.declared.report.Verdict.TheVariants as verdicts
use Rattle.release_check.specs.NotReleased.{IsRefusal}
use Rattle.release_check.specs.declared.not_released.NotReleased.{NotReleased}
use Rattle.release_check.specs.declared.not_released.NotReleased.TheVariants.{Text, Found, Undecided, Limit}
use Rattle.check_guards.specs.Refusals.{NamesWhy}

abbrev verdict_by : Bool → Bool → Verdict
verdict_by fault left = cond fault verdicts.Blocked (cond left verdicts.Undecided verdicts.Releasable)

blocked_by : (fault left : Bool) → verdict_by fault left ≡ verdicts.Blocked → fault ≡ true
blocked_by true left h = refl
blocked_by false true h = absurd (cc)
blocked_by false false h = absurd (cc)

undecided_by : (fault left : Bool) → verdict_by fault left ≡ verdicts.Undecided → left ≡ true
undecided_by true left h = absurd (cc)
undecided_by false true h = refl
undecided_by false false h = absurd (cc)

pub names_why : (text : List ℕ) (budget : ℕ) (why : NotReleased) → IsRefusal text budget why → NamesWhy why
names_why text budget (Text fault) h = tt
names_why text budget (Found book report) h = blocked_by (list_any is_fault report) (list_any is_left report) h.1
names_why text budget (Undecided book report) h = undecided_by (list_any is_fault report) (list_any is_left report) h.1
names_why text budget (Limit fault) h = tt
