use Rattle.pb_base.proofs.TablePlaces.{place_where_it_stands}
use Rattle.pb_base.proofs.code_table.CodeTable.stands_at.Goals as goal

pub returns : goal.returns
returns c = λ same. rw (← c.self.view_is) (
    place_where_it_stands c.self.inside.names c.args.name.now c.name_of.result.now c.args.place c.len.ensures.distinct c.name_of.ensures
    (c.is.ensures same))
