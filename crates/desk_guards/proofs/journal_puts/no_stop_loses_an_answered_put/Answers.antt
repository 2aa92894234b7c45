use Rattle.std.proofs.Common.{ap, sym, ◌∙◌}
use Rattle.std.specs.Option.{option_map}
use Rattle.journal_keeper.specs.Stage.{doubted, seen_by}
use Rattle.desk_guards.proofs.PutLaws.{from_ok, none_doubted, on_ok, stands_after}
use Rattle.desk_guards.proofs.journal_puts.no_stop_loses_an_answered_put.Goals as goal

pub returns : goal.returns
returns g c =
    let old = c.args.keeper.now in
    let new = c.put_order.new.self in
    let put = c.put_order.ensures.put in
    on_ok _ c.put_order.result (λ done is file file' image was now left.
    stands_after c.args.row.now old.stage old.stage new.stage file file' image _ _ (ap (option_map (seen_by old.stage)) was) (from_ok _ _ done is c.put_order.ensures.done)
    (ap (option_map (seen_by new.stage)) now) (from_ok _ _ done is put.refuses.made) put.stays_open
    (sym (ap (doubted new.stage) now) ∙ none_doubted _ done c.args.row.now _ _ is put.doubt) (put.stands file' now image left))
