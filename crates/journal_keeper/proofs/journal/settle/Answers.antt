use Rattle.std.proofs.Common.{◌≡◌, true, false, [], ◌∷◌, sym, ap, subst, ◌∙◌, arith}
use Rattle.std.specs.Option.{option_map}
use Rattle.journal_keeper.specs.declared.stage.Stage.TheVariants.{Open}
use Rattle.disk.specs.Disk.{overwritten, Torn, AfterStep}
use Rattle.journal_keeper.specs.Stage.{seen_by, doubted, doubted_by, StillStands}
use Rattle.journal_keeper.specs.Sound.{IsSound}
use Rattle.disk.proofs.Moments.{started, widened}
use Rattle.journal_keeper.proofs.Told.{came_from, mapped, told_by, at_err}
use Rattle.journal_keeper.proofs.Stages.{sound_stands}
use Rattle.journal_keeper.proofs.Gates.{gate_within, still_doubted, shut_again, seen_still, seen_again, doubt_still, doubted_step}
use Rattle.journal_keeper.proofs.Doubts.{bound_by}
use Rattle.journal_keeper.proofs.Answered.{open_never}
use Rattle.journal_keeper.proofs.journal.settle.Goals as goal

pub write_through-requires : goal.write_through-requires
write_through-requires g c =
    let stage_is : c.args.stage.now ≡ Open c.in-Open.gate true = cc in
    let sound = subst (λ s. IsSound s (g.D.Disk.content c.args.disk.now) (g.D.Disk.may_leave c.args.disk.now)) stage_is c.requires in
    λ file told. omega (arith, gate_within c.in-Open.gate true file (g.D.Disk.may_leave c.args.disk.now) (sound file told))

pub returns-in_err-write_through-clause-sound : goal.returns-in_err-write_through-clause-sound
returns-in_err-write_through-clause-sound g c =
    let stage_is : c.args.stage.now ≡ Open c.in-Open.gate true = cc in
    let leaves = g.D.Disk.may_leave c.args.disk.now in
    let content = g.D.Disk.content c.args.disk.now in
    let leaves' = g.D.Disk.may_leave c.write_through.new.disk in
    let content' = g.D.Disk.content c.write_through.new.disk in
    let sound = subst (λ s. IsSound s content leaves) stage_is c.requires in
    subst (λ s. IsSound s content' leaves') (sym stage_is) (λ file' told.
    let from = came_from (Torn c.in-Open.gate 1) content content' file' c.in_err-write_through.ensures.torn told in
    still_doubted c.in-Open.gate from.0 leaves (sound from.0 from.1) file' leaves' from.2 c.write_through.ensures.crash)

pub returns-in_err-write_through-clause-told : goal.returns-in_err-write_through-clause-told
returns-in_err-write_through-clause-told g c =
    let stage_is : c.args.stage.now ≡ Open c.in-Open.gate true = cc in
    let leaves = g.D.Disk.may_leave c.args.disk.now in
    let content = g.D.Disk.content c.args.disk.now in
    let content' = g.D.Disk.content c.write_through.new.disk in
    let sound = subst (λ s. IsSound s content leaves) stage_is c.requires in
    subst (λ s. option_map (seen_by s) content' ≡ option_map (seen_by s) content) (sym stage_is)
    (told_by (Torn c.in-Open.gate 1) (seen_by (Open c.in-Open.gate true)) (seen_by (Open c.in-Open.gate true)) content content' c.in_err-write_through.ensures.torn
    (λ file file' told torn. seen_still c.in-Open.gate file leaves (sound file told) file' torn))

pub returns-in_err-write_through-clause-doubt : goal.returns-in_err-write_through-clause-doubt
returns-in_err-write_through-clause-doubt g c =
    let stage_is : c.args.stage.now ≡ Open c.in-Open.gate true = cc in
    let leaves = g.D.Disk.may_leave c.args.disk.now in
    let content = g.D.Disk.content c.args.disk.now in
    let content' = g.D.Disk.content c.write_through.new.disk in
    let sound = subst (λ s. IsSound s content leaves) stage_is c.requires in
    at_err c.from_residual.result (subst (λ s. doubted s content' ≡ doubted s content) (sym stage_is)
    (bound_by (Torn c.in-Open.gate 1) (doubted_by (Open c.in-Open.gate true)) (doubted_by (Open c.in-Open.gate true)) content content' c.in_err-write_through.ensures.torn
    (λ file file' told torn. doubt_still c.in-Open.gate file leaves (sound file told) file' torn)))

pub returns-in_err-write_through-clause-any_moment : goal.returns-in_err-write_through-clause-any_moment
returns-in_err-write_through-clause-any_moment g c =
    let stage_is : c.args.stage.now ≡ Open c.in-Open.gate true = cc in
    let leaves = g.D.Disk.may_leave c.args.disk.now in
    let content = g.D.Disk.content c.args.disk.now in
    let sound = subst (λ s. IsSound s content leaves) stage_is c.requires in
    λ file told. widened g.D.Disk.moment g.D.Disk.left_since c.args.disk.now c.write_through.new.disk (StillStands c.args.stage.now file)
    (AfterStep (Torn c.in-Open.gate 1) leaves) c.write_through.ensures.any_moment
    (λ image from. subst (λ s. StillStands s file image) (sym stage_is) (doubted_step c.in-Open.gate file leaves (sound file told) image from))

pub returns-in_ok-write_through-clause-sound : goal.returns-in_ok-write_through-clause-sound
returns-in_ok-write_through-clause-sound g c =
    let stage_is : c.args.stage.now ≡ Open c.in-Open.gate true = cc in
    let leaves = g.D.Disk.may_leave c.args.disk.now in
    let content = g.D.Disk.content c.args.disk.now in
    let leaves' = g.D.Disk.may_leave c.write_through.new.disk in
    let content' = g.D.Disk.content c.write_through.new.disk in
    let sound = subst (λ s. IsSound s content leaves) stage_is c.requires in
    λ file' told.
    let from = came_from (λ file file'. file' ≡ overwritten c.in-Open.gate (0 ∷ []) file) content content' file'
    (mapped (overwritten c.in-Open.gate (0 ∷ [])) content content' c.in_ok-write_through.ensures.written) told in
    shut_again c.in-Open.gate from.0 leaves (sound from.0 from.1) file' leaves' from.2 c.in_ok-write_through.ensures.durable

pub returns-in_ok-write_through-clause-told : goal.returns-in_ok-write_through-clause-told
returns-in_ok-write_through-clause-told g c =
    let stage_is : c.args.stage.now ≡ Open c.in-Open.gate true = cc in
    let leaves = g.D.Disk.may_leave c.args.disk.now in
    let content = g.D.Disk.content c.args.disk.now in
    let content' = g.D.Disk.content c.write_through.new.disk in
    let sound = subst (λ s. IsSound s content leaves) stage_is c.requires in
    told_by (λ file file'. file' ≡ overwritten c.in-Open.gate (0 ∷ []) file) (seen_by (Open c.in-Open.gate true)) (seen_by (Open c.in-Open.gate false)) content content'
    (mapped (overwritten c.in-Open.gate (0 ∷ [])) content content' c.in_ok-write_through.ensures.written)
    (λ file file' told is. seen_again c.in-Open.gate file leaves (sound file told) file' is)
    ∙ ap (λ s. option_map (seen_by s) content) (sym stage_is)

pub returns-in_ok-write_through-clause-any_moment : goal.returns-in_ok-write_through-clause-any_moment
returns-in_ok-write_through-clause-any_moment g c =
    let stage_is : c.args.stage.now ≡ Open c.in-Open.gate true = cc in
    let leaves = g.D.Disk.may_leave c.args.disk.now in
    let content = g.D.Disk.content c.args.disk.now in
    let sound = subst (λ s. IsSound s content leaves) stage_is c.requires in
    λ file told. widened g.D.Disk.moment g.D.Disk.left_since c.args.disk.now c.write_through.new.disk (StillStands c.args.stage.now file)
    (AfterStep (Torn c.in-Open.gate 1) leaves) c.write_through.ensures.any_moment
    (λ image from. subst (λ s. StillStands s file image) (sym stage_is) (doubted_step c.in-Open.gate file leaves (sound file told) image from))

pub returns-else-in_doubt-clause-any_moment : goal.returns-else-in_doubt-clause-any_moment
returns-else-in_doubt-clause-any_moment g c = λ file told.
    started g.D.Disk.moment g.D.Disk.left_since c.args.disk.now (StillStands c.args.stage.now file)
    (λ image left. sound_stands c.args.stage.now (g.D.Disk.content c.args.disk.now) (g.D.Disk.may_leave c.args.disk.now) c.requires file told image
    (g.met.D.Disk.only_now c.args.disk.now image left))

-- ---- a gate is there

pub returns-in_err-write_through-clause-untouched : goal.returns-in_err-write_through-clause-untouched
returns-in_err-write_through-clause-untouched g c =
    let stage_is : c.args.stage.now ≡ Open c.in-Open.gate true = cc in
    open_never c.args.stage.now c.in-Open.gate true stage_is

pub returns-in_ok-write_through-clause-untouched : goal.returns-in_ok-write_through-clause-untouched
returns-in_ok-write_through-clause-untouched g c =
    let stage_is : c.args.stage.now ≡ Open c.in-Open.gate true = cc in
    open_never c.args.stage.now c.in-Open.gate true stage_is
