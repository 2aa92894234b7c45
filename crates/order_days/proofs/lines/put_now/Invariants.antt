use Rattle.std.proofs.Common.{◌≡◌, ◌++◌, drop}
use Rattle.std.specs.List.{flat_map}
use Rattle.order_days.specs.DaysText.{now_line}
use Rattle.order_days.proofs.lines.put_now.Given as goal

-- the text so far and the lines of the positions that are left make the whole
abbrev pub invariant-loop-place : goal.invariant-loop-place
invariant-loop-place l =
    l.text ++ flat_map (now_line l.book (record { day = l.day_before; set = l.set_before }) (record { day = l.day; set = l.set })) (drop l.place l.book.positions)
    ≡ l.initial.text ++ flat_map (now_line l.book (record { day = l.day_before; set = l.set_before }) (record { day = l.day; set = l.set })) l.book.positions
