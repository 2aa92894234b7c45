use Rattle.std.proofs.Common.{◌≡◌, ◌++◌, ◌∷◌, []}
use Rattle.std.specs.Prelude.{codes}
use Rattle.std.specs.List.{flat_map}
use Rattle.pb_base.specs.NamesText.{names_from}
use Rattle.order_text.specs.OutcomeText.{parts_line}
use Rattle.order_text.proofs.Texts.{four_pieces}
use Rattle.order_text.proofs.outcome.put_accepted.Goals as goal

pub returns : goal.returns
returns c =
    let names : c.put_names.new.text ≡ c.put.new.self ++ names_from 0 c.args.set.now c.args.book.now.codes = rw (← c.codes.ensures.value) c.in_ok-put_names.ensures in
    let list : c.put_parts.new.text ≡ c.put-2.new.self ++ flat_map (parts_line c.args.book.now) c.args.list.now = rw (← c.as_slice.ensures) c.in_ok-put_parts.ensures in
    four_pieces c.args.text.now c.put.new.self c.put_names.new.text c.put-2.new.self c.put_parts.new.text (codes "accepted\ncodes") (names_from 0 c.args.set.now c.args.book.now.codes) (10 ∷ []) (flat_map (parts_line c.args.book.now) c.args.list.now) c.in_ok-put.ensures.ok names c.in_ok-put-2.ensures.ok list
