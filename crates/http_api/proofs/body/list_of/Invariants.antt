use Rattle.std.proofs.Common.{◌≡◌, drop}
use Rattle.http_api.proofs.Codes.{with_left}
use Rattle.http_api.proofs.body.list_of.Given as goal

-- the codes so far and those that are left make the whole
abbrev pub invariant-loop-item : goal.invariant-loop-item
invariant-loop-item l = with_left l.list (drop l.item-index l.items) ≡ with_left l.initial.list l.items
