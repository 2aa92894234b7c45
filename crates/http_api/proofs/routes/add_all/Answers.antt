use Rattle.std.proofs.Common.{◌≡◌, Result, Ok, Err, Some, refl, subst}
use Rattle.std.specs.Result.{OnOk}
use Rattle.http_api.specs.Routes.{Knows, Routes}
use Rattle.http_api.proofs.Table.{table, knows}
use Rattle.matchit.proofs.OnLiterals.{matchit_on_literals}
use Rattle.http_api.proofs.routes.add_all.Goals as goal

pub add_each-requires : goal.add_each-requires
unfolding matchit_on_literals
add_each-requires c = rw (c.requires) refl

table_knows : {E : Type 0} (added : Result (Unit {0}) E) (new : Routes) → OnOk added (Some table ≡ Some new) → OnOk added (Knows new)
table_knows (Ok u) new is = let same : table ≡ new = cc in subst Knows same knows
table_knows (Err wanting) new is = tt

-- the rows are those of the table
pub returns : goal.returns
unfolding matchit_on_literals
returns c = table_knows c.add_each.result c.add_each.new.router (rw c.requires at c.add_each.ensures)
