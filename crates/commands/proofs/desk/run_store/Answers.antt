use Rattle.std.proofs.Common.{refl}
use Rattle.commands.proofs.desk.run_store.Goals as goal

pub returns : goal.returns
returns g c = record {
  how = _;
  middle = _;
  run = c.run_desk-how.ensures;
  told = c.tell_end-status.ensures;
  files = refl;
  door = refl;
}
