use Rattle.std.proofs.Common.{◌≡◌, ◌++◌, drop, slice_get, option_and_then}
use Rattle.order_days.specs.DaysText.{built_by, runs_text, days_text}
use Rattle.order_days.proofs.text.days_text.Given as goal

-- the text so far and the lines of the runs that are left make the whole
abbrev pub invariant-loop-place : goal.invariant-loop-place
invariant-loop-place l =
    l.text ++ runs_text l.book (option_and_then built_by (option_and_then (slice_get l.runs) l.before)) (drop l.place l.runs) ≡ days_text l.book l.runs
