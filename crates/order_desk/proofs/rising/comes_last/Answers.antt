use Rattle.std.proofs.Common.{◌-◌, length, sym, ◌∙◌}
use Rattle.std.specs.declared.cmp.Ordering.TheVariants.{Less}
use Rattle.order_desk.proofs.RisingKeys.{last_decides, not_less}
use Rattle.order_desk.proofs.rising.comes_last.Goals as goal

pub returns-in-Less : goal.returns-in-Less
returns-in-Less g c =
    last_decides g.met.K.Ord.total c.args.key.now c.args.map.now.entries (length c.args.map.now.entries - 1)
    (c.in-Some.last.now, c.in-Some.field-0-1.now) c.in-Some.ensures.last c.in-Some.ensures.all_up_to Less (sym c.cmp.ensures ∙ c.in-Less.is)

pub returns-in_default : goal.returns-in_default
returns-in_default g c =
    sym (not_less c.cmp.result c.in_default.not-Less)
    ∙ last_decides g.met.K.Ord.total c.args.key.now c.args.map.now.entries (length c.args.map.now.entries - 1)
    (c.in-Some.last.now, c.in-Some.field-0-1.now) c.in-Some.ensures.last c.in-Some.ensures.all_up_to c.cmp.result (sym c.cmp.ensures)
