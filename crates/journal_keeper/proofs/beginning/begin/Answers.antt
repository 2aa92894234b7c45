use Rattle.std.proofs.Common.{sym, ap, subst, ◌∙◌}
use Rattle.std.specs.Option.{option_map}
use Rattle.std.proofs.lemmas.Result.{on_ok_weaker, on_err_weaker}
use Rattle.keeper.specs.Rows.{begun}
use Rattle.journal_keeper.specs.Stage.{seen_by, doubted, counts_empty, IsBegun}
use Rattle.journal_keeper.specs.Held.{Holds}
use Rattle.disk.proofs.Moments.{and_then, widened}
use Rattle.journal_keeper.proofs.Told.{at_err}
use Rattle.journal_keeper.proofs.Begins.{begun_left}
use Rattle.journal_keeper.proofs.Answered.{sound_stays, begun_wider}
use Rattle.journal_keeper.proofs.Held.{held_as_read}
use Rattle.journal_keeper.proofs.beginning.begin.Goals as goal

pub returns-in_err-file-clause-sound : goal.returns-in_err-file-clause-sound
returns-in_err-file-clause-sound g c =
    sound_stays c.args.stage.now (g.D.Disk.content c.args.disk.now) (g.D.Disk.content c.read_synced.new.disk) (g.D.Disk.may_leave c.args.disk.now) (g.D.Disk.may_leave c.read_synced.new.disk)
    c.read_synced.ensures.kept c.read_synced.ensures.crash c.requires.sound

pub returns-in_err-file-clause-unchanged : goal.returns-in_err-file-clause-unchanged
returns-in_err-file-clause-unchanged g c = at_err c.from_residual.result (ap (option_map (seen_by c.args.stage.now)) c.read_synced.ensures.kept)

pub returns-in_err-file-clause-any_moment : goal.returns-in_err-file-clause-any_moment
returns-in_err-file-clause-any_moment g c = λ file told.
    let leaves = g.D.Disk.may_leave c.args.disk.now in
    widened g.D.Disk.moment g.D.Disk.left_since c.args.disk.now c.read_synced.new.disk (IsBegun c.args.stage.now file leaves) leaves c.read_synced.ensures.any_moment
    (λ image left. begun_left c.args.stage.now (g.D.Disk.content c.args.disk.now) leaves file image c.requires.sound told left)

pub begin_with-done-requires-clause-sound : goal.begin_with-done-requires-clause-sound
begin_with-done-requires-clause-sound g c =
    sound_stays c.args.stage.now (g.D.Disk.content c.args.disk.now) (g.D.Disk.content c.read_synced.new.disk) (g.D.Disk.may_leave c.args.disk.now) (g.D.Disk.may_leave c.read_synced.new.disk)
    c.read_synced.ensures.kept c.read_synced.ensures.crash c.requires.sound

pub returns-clause-done : goal.returns-clause-done
returns-clause-done g c =
    on_ok_weaker c.begin_with-done.result (λ e. e ∙ ap (λ content. option_map begun (option_map (seen_by c.args.stage.now) content)) c.read_synced.ensures.kept) c.begin_with-done.ensures.done

pub returns-clause-unchanged : goal.returns-clause-unchanged
returns-clause-unchanged g c =
    on_err_weaker c.begin_with-done.result (λ e. e ∙ ap (option_map (seen_by c.args.stage.now)) c.read_synced.ensures.kept) c.begin_with-done.ensures.unchanged

pub returns-clause-any_moment : goal.returns-clause-any_moment
returns-clause-any_moment g c = λ file told.
    let leaves = g.D.Disk.may_leave c.args.disk.now in
    let leaves' = g.D.Disk.may_leave c.read_synced.new.disk in
    let P = IsBegun c.args.stage.now file leaves in
    let first = widened g.D.Disk.moment g.D.Disk.left_since c.args.disk.now c.read_synced.new.disk P leaves c.read_synced.ensures.any_moment
    (λ image left. begun_left c.args.stage.now (g.D.Disk.content c.args.disk.now) leaves file image c.requires.sound told left) in
    and_then g.D.Disk.moment g.D.Disk.left_since c.args.disk.now c.read_synced.new.disk c.begin_with-done.new.disk P (IsBegun c.args.stage.now file leaves') first
    (c.begin_with-done.ensures.any_moment file (c.read_synced.ensures.kept ∙ told))
    (λ image begun. begun_wider c.args.stage.now file leaves leaves' image c.read_synced.ensures.crash begun)

pub returns-in_err-file-clause-doubt : goal.returns-in_err-file-clause-doubt
returns-in_err-file-clause-doubt g c = ap (doubted c.args.stage.now) c.read_synced.ensures.kept

pub returns-clause-doubt : goal.returns-clause-doubt
returns-clause-doubt g c = c.begin_with-done.ensures.doubt ∙ ap (doubted c.args.stage.now) c.read_synced.ensures.kept

pub read_synced-requires : goal.read_synced-requires
read_synced-requires g c = c.requires.sure

pub returns-clause-holds : goal.returns-clause-holds
returns-clause-holds g c =
    let same = ap (counts_empty c.args.stage.now) c.deref.ensures.value in
    held_as_read c.held_of.result c.in_ok-file.file c.args.stage.now c.begin_with-done.new.stage (g.D.Disk.content c.read_synced.new.disk) (g.D.Disk.content c.begin_with-done.new.disk)
    c.held_of.ensures c.in_ok-file.ensures.bytes (λ full. ap g.D.Disk.content (c.begin_with-done.ensures.same_disk (same ∙ full))) (λ shut full. c.begin_with-done.ensures.sure shut (same ∙ full))

pub returns-in_err-file-clause-holds : goal.returns-in_err-file-clause-holds
returns-in_err-file-clause-holds g c = subst (λ held. Holds held c.args.stage.now (g.D.Disk.content c.read_synced.new.disk)) (sym c.requires.none) tt
