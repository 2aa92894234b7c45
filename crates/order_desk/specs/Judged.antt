-- How a row of an order is judged when a desk is started, whoever judges it.
--     IsJudged releases row accepted    whether the release of the row's book accepts its order, where day and codes are right
use Rattle.std.specs.Prelude.{◌≡◌, ℕ, ◌≤◌, ◌-◌, ◌==◌, Bool, true, false, List, Option, None, Some, slice_get, if◌then◌else◌}
use Rattle.std.specs.List.{list_all}
use Rattle.keeper.specs.declared.rows.OrderRow.{OrderRow}
use Rattle.pb_base.specs.Names.{is_code_name}
use Rattle.pb_base.specs.declared.limits.TheConstants.{LAST_DAY}
use Rattle.release.specs.Release.{Release}
use Rattle.order_desk.specs.Judging.{accepts}
use Rattle.order_desk.specs.RightRows.{codes_in}

-- the release of the book that has this number, from 1
abbrev pub release_at : List Release → ℕ → Option Release
release_at releases number = if number == 0 then None else slice_get releases (number - 1)

abbrev pub accepts_order : Option Release → OrderRow → Bool
accepts_order None row = false
accepts_order (Some r) row = accepts r.book row.day (codes_in row.codes)

abbrev pub IsJudged : List Release → OrderRow → Bool → Type 0
IsJudged releases row accepted =
    row.day ≤ LAST_DAY → list_all is_code_name (codes_in row.codes) ≡ true
    → accepted ≡ accepts_order (release_at releases row.book) row
