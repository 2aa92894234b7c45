use Rattle.std.proofs.Common.{◌*◌, ◌<◌, ◌≤◌, length, sym, ◌∙◌, arith}
use Rattle.std.proofs.lemmas.Bool.{eqb-false}
use Rattle.shared_work.proofs.JoinLaws.{covered, some_items, some_size, through}
use Rattle.shared_work.proofs.shared.make_all.Goals as goal

pub runs_made-requires-clause-size : goal.runs_made-requires-clause-size
runs_made-requires-clause-size g c κs lives =
    let count = length c.args.items.now in
    let filled : 0 < count = some_items count (eqb-false count 0 (sym c.is_empty.ensures ∙ c.if-is_empty.false)) in
    some_size count c.args.workers c.div_ceil-size.result filled c.requires.some c.div_ceil-size.ensures

pub returns : goal.returns
returns g c =
    let items = c.args.items.now in
    let runs = c.in_ok-runs.runs in
    let size = c.div_ceil-size.result in
    let filled : 0 < length items = some_items (length items) (eqb-false (length items) 0 (sym c.is_empty.ensures ∙ c.if-is_empty.false)) in
    let some : 0 < size = some_size (length items) c.args.workers size filled c.requires.some c.div_ceil-size.ensures in
    let all : length items ≤ length runs.items * size = covered (length runs.items) (length items) size some (omega (arith, c.in_ok-runs.ensures.count, runs.ok.0)) in
    through (g.W.Work.IsMade c.args.work.now) (λ v. v.items) size items runs.items c.joined.result all
    (λ n d low. c.in_ok-runs.ensures.each n d (omega (arith, low, runs.ok.0))) c.joined.ensures
