use Rattle.std.proofs.Common.{ap, sym, ◌∙◌}
use Rattle.std.specs.Option.{option_map}
use Rattle.journal_keeper.specs.Stage.{doubted, seen_by}
use Rattle.desk_guards.proofs.PutLaws.{from_err, from_ok, none_doubted, on_err, on_ok, stands_after}
use Rattle.desk_guards.proofs.journal_puts.no_failed_put_comes_back.Goals as goal

pub returns : goal.returns
returns g c =
    let old = c.args.keeper.now in
    let mid = c.put_order-first.new.self in
    let new = c.put_order-second.new.self in
    let put = c.put_order-second.ensures.put in
    on_err _ c.put_order-first.result (λ error failed. on_ok _ c.put_order-second.result (λ done is file file' image was now left.
    stands_after c.args.row.now old.stage mid.stage new.stage file file' image _ _
    (from_err _ _ error failed c.put_order-first.ensures.unchanged ∙ ap (option_map (seen_by old.stage)) was) (from_ok _ _ done is c.put_order-second.ensures.done)
    (ap (option_map (seen_by new.stage)) now) (from_ok _ _ done is put.refuses.made) put.stays_open
    (sym (ap (doubted new.stage) now) ∙ none_doubted _ done c.args.row.now _ _ is put.doubt) (put.stands file' now image left)))
