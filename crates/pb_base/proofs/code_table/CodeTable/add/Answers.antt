use Rattle.pb_base.proofs.code_table.CodeTable.add.Goals as goal

pub returns : goal.returns
returns c = rw (← c.self.view_is) c.add-added.ensures
