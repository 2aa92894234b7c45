use Rattle.std.proofs.Common.{◌≡◌, ℕ, ◌+◌, true, false, List, [], ◌∷◌, length, Some, None, inl, inr, refl, sym, ap, subst, ◌∙◌}
use Rattle.std.specs.Option.{option_map}
use Rattle.std.proofs.lemmas.Result.{err_from_is_err_and}
use Rattle.journal_keeper.specs.declared.stage.Stage.TheVariants.{Open}
use Rattle.disk.specs.Disk.{overwritten, Torn, WhereTold, AfterStep}
use Rattle.journal_keeper.specs.Record.{effect, ◌>>=◌}
use Rattle.journal_keeper.specs.Stage.{seen_by, doubted, doubted_by, is_open, StandsOrGrew}
use Rattle.journal_keeper.specs.Sound.{IsSound}
use Rattle.disk.proofs.Moments.{and_then, widened}
use Rattle.journal_keeper.proofs.Told.{came_from, mapped, told_by, map_map, Both, both, at_err}
use Rattle.journal_keeper.proofs.Gates.{gate_within, still_shut, seen_shut, shut_step, staged, staged_within, staged_step, now_doubted, seen_doubted, doubt_own, now_open, seen_grown}
use Rattle.journal_keeper.proofs.Doubts.{none_or, doubts_none, doubts_failed, failed_again}
use Rattle.journal_keeper.proofs.journal.append.Goals as goal

pub write_through-requires : goal.write_through-requires
write_through-requires g c =
    let sound = subst (λ s. IsSound s (g.D.Disk.content c.args.disk.now) (g.D.Disk.may_leave c.args.disk.now)) c.requires.at c.requires.sound in
    λ file told. gate_within c.args.gate false file (g.D.Disk.may_leave c.args.disk.now) (sound file told)

-- ---- the record was not written

pub returns-in_err-write_through-clause-sound : goal.returns-in_err-write_through-clause-sound
returns-in_err-write_through-clause-sound g c =
    let n = length c.args.bytes.now in
    let leaves = g.D.Disk.may_leave c.args.disk.now in
    let content = g.D.Disk.content c.args.disk.now in
    let leaves' = g.D.Disk.may_leave c.write_through.new.disk in
    let content' = g.D.Disk.content c.write_through.new.disk in
    let sound = subst (λ s. IsSound s content leaves) c.requires.at c.requires.sound in
    subst (λ s. IsSound s content' leaves') (sym c.requires.at) (λ file' told.
    let from = came_from (Torn (c.args.gate + 1) n) content content' file' c.in_err-write_through.ensures.torn told in
    still_shut c.args.gate n from.0 leaves (sound from.0 from.1) file' leaves' from.2 c.write_through.ensures.crash)

pub returns-in_err-write_through-clause-unchanged : goal.returns-in_err-write_through-clause-unchanged
returns-in_err-write_through-clause-unchanged g c =
    let n = length c.args.bytes.now in
    let leaves = g.D.Disk.may_leave c.args.disk.now in
    let content = g.D.Disk.content c.args.disk.now in
    let content' = g.D.Disk.content c.write_through.new.disk in
    let sound = subst (λ s. IsSound s content leaves) c.requires.at c.requires.sound in
    at_err c.from_residual.result (subst (λ s. option_map (seen_by s) content' ≡ option_map (seen_by s) content) (sym c.requires.at)
    (told_by (Torn (c.args.gate + 1) n) (seen_by (Open c.args.gate false)) (seen_by (Open c.args.gate false)) content content' c.in_err-write_through.ensures.torn
    (λ file file' told torn. seen_shut c.args.gate n file leaves (sound file told) file' torn)))

pub returns-in_err-write_through-clause-any_moment : goal.returns-in_err-write_through-clause-any_moment
returns-in_err-write_through-clause-any_moment g c =
    let n = length c.args.bytes.now in
    let leaves = g.D.Disk.may_leave c.args.disk.now in
    let content = g.D.Disk.content c.args.disk.now in
    let sound = subst (λ s. IsSound s content leaves) c.requires.at c.requires.sound in
    λ entry made file told. widened g.D.Disk.moment g.D.Disk.left_since c.args.disk.now c.write_through.new.disk (StandsOrGrew entry c.args.stage.now file)
    (AfterStep (Torn (c.args.gate + 1) n) leaves) c.write_through.ensures.any_moment
    (λ image from. subst (λ s. StandsOrGrew entry s file image) (sym c.requires.at) (inl (shut_step c.args.gate n file leaves (sound file told) image from)))

pub returns-in_err-write_through-clause-doubt : goal.returns-in_err-write_through-clause-doubt
returns-in_err-write_through-clause-doubt g c = λ entry made.
    let content' = g.D.Disk.content c.write_through.new.disk in
    doubts_none c.from_residual.result entry None _ (ap (λ s. doubted s content') c.requires.at)

pub returns-in_err-write_through-clause-stays_open : goal.returns-in_err-write_through-clause-stays_open
returns-in_err-write_through-clause-stays_open g c = ap is_open c.requires.at

-- ---- the record is on the disk

pub write_through-requires-2 : goal.write_through-requires-2
write_through-requires-2 g c =
    let bytes = c.args.bytes.now in
    let leaves = g.D.Disk.may_leave c.args.disk.now in
    let content = g.D.Disk.content c.args.disk.now in
    let leaves' = g.D.Disk.may_leave c.write_through.new.disk in
    let content' = g.D.Disk.content c.write_through.new.disk in
    let sound = subst (λ s. IsSound s content leaves) c.requires.at c.requires.sound in
    λ file' told.
    let from = came_from (λ file file'. file' ≡ overwritten (c.args.gate + 1) bytes file) content content' file' (mapped (overwritten (c.args.gate + 1) bytes) content content' c.in_ok-write_through.ensures.written) told in
    staged_within c.args.gate c.requires.made.0 bytes from.0 file' leaves'
    (staged c.args.gate c.requires.made.0 bytes from.0 file' leaves leaves' (sound from.0 from.1) c.requires.made.1 from.2 c.in_ok-write_through.ensures.durable)

pub returns-in_err-write_through-2-clause-sound : goal.returns-in_err-write_through-2-clause-sound
returns-in_err-write_through-2-clause-sound g c =
    let bytes = c.args.bytes.now in
    let leaves = g.D.Disk.may_leave c.args.disk.now in
    let content = g.D.Disk.content c.args.disk.now in
    let leaves' = g.D.Disk.may_leave c.write_through.new.disk in
    let content' = g.D.Disk.content c.write_through.new.disk in
    let leaves'' = g.D.Disk.may_leave c.write_through-2.new.disk in
    let content'' = g.D.Disk.content c.write_through-2.new.disk in
    let sound = subst (λ s. IsSound s content leaves) c.requires.at c.requires.sound in
    λ file'' told.
    let torn = came_from (Torn c.args.gate 1) content' content'' file'' c.in_err-write_through-2.ensures.torn told in
    let from = came_from (λ file file'. file' ≡ overwritten (c.args.gate + 1) bytes file) content content' torn.0 (mapped (overwritten (c.args.gate + 1) bytes) content content' c.in_ok-write_through.ensures.written) torn.1 in
    let s = staged c.args.gate c.requires.made.0 bytes from.0 torn.0 leaves leaves' (sound from.0 from.1) c.requires.made.1 from.2 c.in_ok-write_through.ensures.durable in
    now_doubted c.args.gate c.requires.made.0 bytes from.0 torn.0 leaves' s file'' leaves'' torn.2 c.write_through-2.ensures.crash

pub returns-in_err-write_through-2-clause-unchanged : goal.returns-in_err-write_through-2-clause-unchanged
returns-in_err-write_through-2-clause-unchanged g c =
    let bytes = c.args.bytes.now in
    let leaves = g.D.Disk.may_leave c.args.disk.now in
    let content = g.D.Disk.content c.args.disk.now in
    let leaves' = g.D.Disk.may_leave c.write_through.new.disk in
    let content' = g.D.Disk.content c.write_through.new.disk in
    let content'' = g.D.Disk.content c.write_through-2.new.disk in
    let sound = subst (λ s. IsSound s content leaves) c.requires.at c.requires.sound in
    let one : List ℕ → List ℕ → Type 0 = λ file file'. file' ≡ overwritten (c.args.gate + 1) bytes file in
    at_err c.from_residual-in_err-write_through-2.result
    (told_by (Both one (Torn c.args.gate 1) content') (seen_by (Open c.args.gate false)) (seen_by (Open c.args.gate true)) content content''
    (both one (Torn c.args.gate 1) content content' content'' (mapped (overwritten (c.args.gate + 1) bytes) content content' c.in_ok-write_through.ensures.written) c.in_err-write_through-2.ensures.torn)
    (λ file file'' told steps.
    let s = staged c.args.gate c.requires.made.0 bytes file steps.0 leaves leaves' (sound file told) c.requires.made.1 steps.2 c.in_ok-write_through.ensures.durable in
    seen_doubted c.args.gate c.requires.made.0 bytes file steps.0 leaves' s file'' steps.3)
    ∙ ap (λ s. option_map (seen_by s) content) (sym c.requires.at))

pub returns-in_err-write_through-2-clause-any_moment : goal.returns-in_err-write_through-2-clause-any_moment
returns-in_err-write_through-2-clause-any_moment g c =
    let n = length c.args.bytes.now in
    let bytes = c.args.bytes.now in
    let leaves = g.D.Disk.may_leave c.args.disk.now in
    let content = g.D.Disk.content c.args.disk.now in
    let leaves' = g.D.Disk.may_leave c.write_through.new.disk in
    let content' = g.D.Disk.content c.write_through.new.disk in
    let sound = subst (λ s. IsSound s content leaves) c.requires.at c.requires.sound in
    λ entry made file told.
    let P = StandsOrGrew entry c.args.stage.now file in
    let s = staged c.args.gate entry bytes file (overwritten (c.args.gate + 1) bytes file) leaves leaves' (sound file told) made refl c.in_ok-write_through.ensures.durable in
    let first = widened g.D.Disk.moment g.D.Disk.left_since c.args.disk.now c.write_through.new.disk P
    (AfterStep (Torn (c.args.gate + 1) n) leaves) c.write_through.ensures.any_moment
    (λ image from. subst (λ s. StandsOrGrew entry s file image) (sym c.requires.at) (inl (shut_step c.args.gate n file leaves (sound file told) image from))) in
    and_then g.D.Disk.moment g.D.Disk.left_since c.args.disk.now c.write_through.new.disk c.write_through-2.new.disk P (AfterStep (Torn c.args.gate 1) leaves') first c.write_through-2.ensures.any_moment
    (λ image from. subst (λ s. StandsOrGrew entry s file image) (sym c.requires.at) (staged_step c.args.gate entry bytes file (overwritten (c.args.gate + 1) bytes file) leaves' s image from))

pub returns-in_err-write_through-2-clause-doubt : goal.returns-in_err-write_through-2-clause-doubt
returns-in_err-write_through-2-clause-doubt g c =
    let bytes = c.args.bytes.now in
    let leaves = g.D.Disk.may_leave c.args.disk.now in
    let content = g.D.Disk.content c.args.disk.now in
    let leaves' = g.D.Disk.may_leave c.write_through.new.disk in
    let content' = g.D.Disk.content c.write_through.new.disk in
    let content'' = g.D.Disk.content c.write_through-2.new.disk in
    let sound = subst (λ s. IsSound s content leaves) c.requires.at c.requires.sound in
    λ entry made.
    let own : WhereTold content'' (λ file''. doubted_by (Open c.args.gate true) file'' ≡ Some entry) = λ file'' told.
    let torn = came_from (Torn c.args.gate 1) content' content'' file'' c.in_err-write_through-2.ensures.torn told in
    let from = came_from (λ file file'. file' ≡ overwritten (c.args.gate + 1) bytes file) content content' torn.0 (mapped (overwritten (c.args.gate + 1) bytes) content content' c.in_ok-write_through.ensures.written) torn.1 in
    let s = staged c.args.gate entry bytes from.0 torn.0 leaves leaves' (sound from.0 from.1) made from.2 c.in_ok-write_through.ensures.durable in
    doubt_own c.args.gate entry bytes from.0 torn.0 leaves' s file'' torn.2 in
    let given = err_from_is_err_and c.from_residual-in_err-write_through-2.result c.from_residual-in_err-write_through-2.ensures.1 in
    let failed = failed_again c.from_residual-in_err-write_through-2.result c.write_through-2.result given.0 c.in_err-write_through-2.field-0.0 given.1 given.2
    c.in_err-write_through-2.was c.write_through-2.ensures.no_memory in
    doubts_failed c.from_residual-in_err-write_through-2.result entry None (content'' >>= doubted_by (Open c.args.gate true)) failed
    (elim (none_or content'' (doubted_by (Open c.args.gate true)) entry own) [ inl none ↦ inl none | inr some ↦ inr (inr some) ])

-- ---- the gate is open

pub returns-clause-sound : goal.returns-clause-sound
returns-clause-sound g c =
    let bytes = c.args.bytes.now in
    let leaves = g.D.Disk.may_leave c.args.disk.now in
    let content = g.D.Disk.content c.args.disk.now in
    let leaves' = g.D.Disk.may_leave c.write_through.new.disk in
    let content' = g.D.Disk.content c.write_through.new.disk in
    let leaves'' = g.D.Disk.may_leave c.write_through-2.new.disk in
    let content'' = g.D.Disk.content c.write_through-2.new.disk in
    let sound = subst (λ s. IsSound s content leaves) c.requires.at c.requires.sound in
    λ file'' told.
    let opened = came_from (λ file file'. file' ≡ overwritten c.args.gate (1 ∷ []) file) content' content'' file'' (mapped (overwritten c.args.gate (1 ∷ [])) content' content'' c.in_ok-write_through-2.ensures.written) told in
    let from = came_from (λ file file'. file' ≡ overwritten (c.args.gate + 1) bytes file) content content' opened.0 (mapped (overwritten (c.args.gate + 1) bytes) content content' c.in_ok-write_through.ensures.written) opened.1 in
    let s = staged c.args.gate c.requires.made.0 bytes from.0 opened.0 leaves leaves' (sound from.0 from.1) c.requires.made.1 from.2 c.in_ok-write_through.ensures.durable in
    now_open c.args.gate c.requires.made.0 bytes from.0 opened.0 leaves' s file'' leaves'' opened.2 c.in_ok-write_through-2.ensures.durable

pub returns-clause-done : goal.returns-clause-done
returns-clause-done g c =
    let bytes = c.args.bytes.now in
    let leaves = g.D.Disk.may_leave c.args.disk.now in
    let content = g.D.Disk.content c.args.disk.now in
    let leaves' = g.D.Disk.may_leave c.write_through.new.disk in
    let content' = g.D.Disk.content c.write_through.new.disk in
    let content'' = g.D.Disk.content c.write_through-2.new.disk in
    let sound = subst (λ s. IsSound s content leaves) c.requires.at c.requires.sound in
    let one : List ℕ → List ℕ → Type 0 = λ file file'. file' ≡ overwritten (c.args.gate + 1) bytes file in
    let two : List ℕ → List ℕ → Type 0 = λ file file'. file' ≡ overwritten c.args.gate (1 ∷ []) file in
    λ entry made.
    told_by (Both one two content') (λ file. effect entry (seen_by (Open c.args.gate false) file)) (seen_by (Open (c.args.gate + length bytes) false)) content content''
    (both one two content content' content'' (mapped (overwritten (c.args.gate + 1) bytes) content content' c.in_ok-write_through.ensures.written)
    (mapped (overwritten c.args.gate (1 ∷ [])) content' content'' c.in_ok-write_through-2.ensures.written))
    (λ file file'' told steps.
    let s = staged c.args.gate entry bytes file steps.0 leaves leaves' (sound file told) made steps.2 c.in_ok-write_through.ensures.durable in
    seen_grown c.args.gate entry bytes file steps.0 leaves' s file'' steps.3)
    ∙ sym (map_map (seen_by (Open c.args.gate false)) (effect entry) content)
    ∙ ap (λ s. option_map (effect entry) (option_map (seen_by s) content)) (sym c.requires.at)

pub returns-clause-any_moment : goal.returns-clause-any_moment
returns-clause-any_moment g c =
    let n = length c.args.bytes.now in
    let bytes = c.args.bytes.now in
    let leaves = g.D.Disk.may_leave c.args.disk.now in
    let content = g.D.Disk.content c.args.disk.now in
    let leaves' = g.D.Disk.may_leave c.write_through.new.disk in
    let content' = g.D.Disk.content c.write_through.new.disk in
    let sound = subst (λ s. IsSound s content leaves) c.requires.at c.requires.sound in
    λ entry made file told.
    let P = StandsOrGrew entry c.args.stage.now file in
    let s = staged c.args.gate entry bytes file (overwritten (c.args.gate + 1) bytes file) leaves leaves' (sound file told) made refl c.in_ok-write_through.ensures.durable in
    let first = widened g.D.Disk.moment g.D.Disk.left_since c.args.disk.now c.write_through.new.disk P
    (AfterStep (Torn (c.args.gate + 1) n) leaves) c.write_through.ensures.any_moment
    (λ image from. subst (λ s. StandsOrGrew entry s file image) (sym c.requires.at) (inl (shut_step c.args.gate n file leaves (sound file told) image from))) in
    and_then g.D.Disk.moment g.D.Disk.left_since c.args.disk.now c.write_through.new.disk c.write_through-2.new.disk P (AfterStep (Torn c.args.gate 1) leaves') first c.write_through-2.ensures.any_moment
    (λ image from. subst (λ s. StandsOrGrew entry s file image) (sym c.requires.at) (staged_step c.args.gate entry bytes file (overwritten (c.args.gate + 1) bytes file) leaves' s image from))
