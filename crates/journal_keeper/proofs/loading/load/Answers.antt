use Rattle.std.proofs.Common.{◌≡◌, inl, sym, ap, subst, ◌∙◌}
use Rattle.std.specs.Prelude.{IfSome}
use Rattle.std.specs.Option.{option_map}
use Rattle.std.proofs.lemmas.Result.{IfOk-weaker}
use Rattle.keeper.specs.Rows.{Kept, kept_of}
use Rattle.journal_keeper.specs.Stage.{seen_by, settled, doubted, is_open, StillStands}
use Rattle.journal_keeper.specs.Sound.{IsSound}
use Rattle.disk.proofs.Moments.{and_then}
use Rattle.journal_keeper.proofs.Stages.{sound_stands}
use Rattle.journal_keeper.proofs.Doubts.{settled_undoubted, settled_open_still}
use Rattle.journal_keeper.proofs.Answered.{sound_stays, loaded, if_told, told_file, stands_back}
use Rattle.journal_keeper.proofs.Held.{held_still}
use Rattle.journal_keeper.proofs.loading.load.Goals as goal

pub returns-clause-sound : goal.returns-clause-sound
returns-clause-sound g c =
    sound_stays c.settle.new.stage (g.D.Disk.content c.settle.new.disk) (g.D.Disk.content c.read_rows.new.disk) (g.D.Disk.may_leave c.settle.new.disk) (g.D.Disk.may_leave c.read_rows.new.disk)
    c.read_rows.ensures.kept c.read_rows.ensures.crash c.settle.ensures.sound

pub returns-clause-told : goal.returns-clause-told
returns-clause-told g c = ap (option_map (seen_by c.settle.new.stage)) c.read_rows.ensures.kept ∙ c.settle.ensures.told

pub returns-clause-any_moment : goal.returns-clause-any_moment
returns-clause-any_moment g c = λ file told.
    let content = g.D.Disk.content c.args.disk.now in
    let content' = g.D.Disk.content c.settle.new.disk in
    let leaves' = g.D.Disk.may_leave c.settle.new.disk in
    let mid = told_file (seen_by c.settle.new.stage) (seen_by c.args.stage.now) content content' file c.settle.ensures.told told in
    let sure = c.in_ok-settle.ensures.sure in
    let same : seen_by (settled c.args.stage.now) mid.0 ≡ seen_by c.args.stage.now file = ap (λ s. seen_by s mid.0) (sym sure) ∙ mid.2 in
    let sound = subst (λ s. IsSound s content' leaves') sure c.settle.ensures.sound in
    and_then g.D.Disk.moment g.D.Disk.left_since c.args.disk.now c.settle.new.disk c.read_rows.new.disk (StillStands c.args.stage.now file) leaves' (c.settle.ensures.any_moment file told) c.read_rows.ensures.any_moment
    (λ image left. stands_back c.args.stage.now mid.0 file image same (sound_stands (settled c.args.stage.now) content' leaves' sound mid.0 mid.1 image left))

pub returns-clause-rows : goal.returns-clause-rows
returns-clause-rows g c =
    let content' = g.D.Disk.content c.settle.new.disk in
    let leaves' = g.D.Disk.may_leave c.settle.new.disk in
    let sure = c.in_ok-settle.ensures.sure in
    let sound = subst (λ s. IsSound s content' leaves') sure c.settle.ensures.sound in
    IfOk-weaker c.read_rows.result _ _
    (λ rows read. subst (λ t. IfSome t (λ (kept : Kept). kept_of rows ≡ kept)) c.settle.ensures.told
    (if_told c.settle.new.stage content' (λ kept. kept_of rows ≡ kept)
    (λ file told. read file told ∙ loaded c.args.stage.now content' leaves' c.in_default.not-Late sound file told ∙ ap (λ s. seen_by s file) (sym sure))))
    c.read_rows.ensures.rows

pub returns-clause-doubt : goal.returns-clause-doubt
returns-clause-doubt g c =
    let content = g.D.Disk.content c.read_rows.new.disk in
    inl (ap (λ s. doubted s content) c.in_ok-settle.ensures.sure ∙ settled_undoubted c.args.stage.now content)

pub returns-clause-stays_open : goal.returns-clause-stays_open
returns-clause-stays_open g c = ap is_open c.in_ok-settle.ensures.sure ∙ settled_open_still c.args.stage.now

pub read_rows-requires : goal.read_rows-requires
read_rows-requires g c =
    held_still c.args.held c.args.stage.now (g.D.Disk.content c.args.disk.now) (g.D.Disk.content c.settle.new.disk) c.requires.holds
    (λ settled. ap g.D.Disk.content (c.settle.ensures.same settled))
