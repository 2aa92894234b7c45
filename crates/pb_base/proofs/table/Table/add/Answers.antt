use Rattle.pb_base.proofs.TableLemmas.{Adds-new, Adds-known, Adds-memory}
use Rattle.pb_base.proofs.table.Table.add.Goals as goal
use Rattle.pb_base.proofs.table.Table.add.Goals.{in-Ok-default-true, in-Ok-default-false, in-Err}

pub returns : goal.returns
returns g c = elim c.match-insert_full.branch [
  | in-Ok-default-true w ↦
      let put = w.in-Ok-default-true.ensures in
      rw (w.result-is, ← c.self.view_is) (Adds-new g.N.PartialEq.eq c.args.name c.self.inside.names.keys c.insert_full.new.self.keys w.in-Ok-default-true.place (rw w.in-Ok-default-true.field-0-1-test at put.added) put.index put.keys)
  | in-Ok-default-false w ↦
      let put = w.in-Ok-default-false.ensures in
      rw (w.result-is, ← c.self.view_is) (Adds-known g.N.PartialEq.eq c.args.name c.self.inside.names.keys c.insert_full.new.self.keys w.in-Ok-default-false.place (rw w.in-Ok-default-false.field-0-1-test at put.added) put.index put.keys)
  | in-Err w ↦
      let put = w.in-Err.ensures in
      rw (w.result-is, ← c.self.view_is) (Adds-memory g.N.PartialEq.eq c.args.name c.self.inside.names.keys c.insert_full.new.self.keys put.absent put.err)
]
