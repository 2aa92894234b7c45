use Rattle.std.proofs.Common.{take, length, replicate, refl, ap, ◌∙◌, arith}
use Rattle.std.proofs.lemmas.List.{length-replicate}
use Rattle.disk.specs.declared.memory_disk.Call.TheVariants as call
use Rattle.disk.specs.Disk.{overwritten}
use Rattle.disk.proofs.Replays.{replayed_as, replayed_at, write_within, try_within, replay_write, replay_try, replay_cut, replay_no_cut, replay_sync, replay_try_sync}
use Rattle.disk.proofs.memory_disk.image_of.Goals.{in-Wrote+in_ok-overwrite-in-Wrote+in_ok-image-in-Wrote, in-TriedWrite+in_ok-image-in-TriedWrite, in-Cut, in-TriedCut, in-Synced+in_ok-image-in-Synced, in-TriedSync+in_ok-kept-in-TriedSync}
use Rattle.disk.proofs.memory_disk.image_of.Goals as goal

pub overwrite-requires : goal.overwrite-requires
overwrite-requires c =
    let here = replayed_at _ _ c.args.calls.now c.loop-call.call-index _ (call.Wrote c.in-Wrote.at c.in-Wrote.len) _ _ _ c.loop-call-test.true c.in-Wrote.is c.loop-call.invariant in
    let fits = write_within _ _ c.requires.within _ _ _ _ c.in-Wrote.at c.in-Wrote.len here in
    omega (arith, fits.0, here.kept_reaches, ap length c.deref-in-Wrote.ensures.value)

pub with_ones-requires : goal.with_ones-requires
with_ones-requires c =
    let here = replayed_at _ _ c.args.calls.now c.loop-call.call-index _ (call.Wrote c.in-Wrote.at c.in-Wrote.len) _ _ _ c.loop-call-test.true c.in-Wrote.is c.loop-call.invariant in
    let fits = write_within _ _ c.requires.within _ _ _ _ c.in-Wrote.at c.in-Wrote.len here in
    omega (arith, fits.0, here.reaches, ap length c.deref-in-Wrote-2.ensures.value)

pub with_ones-requires-in-TriedWrite : goal.with_ones-requires-in-TriedWrite
with_ones-requires-in-TriedWrite c =
    let here = replayed_at _ _ c.args.calls.now c.loop-call.call-index _ (call.TriedWrite c.in-TriedWrite.at c.in-TriedWrite.len) _ _ _ c.loop-call-test.true c.in-TriedWrite.is c.loop-call.invariant in
    omega (arith, try_within _ _ c.requires.within _ _ _ _ c.in-TriedWrite.at c.in-TriedWrite.len here, here.reaches, ap length c.deref-in-TriedWrite.ensures.value)

pub loop-call-preserved : goal.loop-call-preserved
loop-call-preserved c =
    let calls = c.args.calls.now in
    let i = c.loop-call.call-index in
    elim c.match-call.branch [
      | in-Wrote+in_ok-overwrite-in-Wrote+in_ok-image-in-Wrote w ↦
          let at = w.in-Wrote.at in
          let n = w.in-Wrote.len in
          let here = replayed_at _ _ calls i _ (call.Wrote at n) _ _ _ c.loop-call-test.true w.in-Wrote.is c.loop-call.invariant in
          rw (w.kept-is, w.image-is, w.bytes-is)
          (replayed_as _ _ _ _ _ _ _ _ _ (replay_write _ _ c.requires.within _ _ _ _ at n (replicate n 1) (length-replicate n 1) here) w.split_at.ensures.back
          (w.in_ok-overwrite-in-Wrote.ensures.done ∙ ap (λ bytes. overwritten at bytes w.deref-in-Wrote.result.now) w.split_at.ensures.front ∙ ap (overwritten at (take n c.loop-call.bytes.now)) w.deref-in-Wrote.ensures.value)
          (w.in_ok-image-in-Wrote.ensures ∙ ap (overwritten at (replicate n 1)) w.deref-in-Wrote-2.ensures.value))
      | in-TriedWrite+in_ok-image-in-TriedWrite w ↦
          let at = w.in-TriedWrite.at in
          let n = w.in-TriedWrite.len in
          let here = replayed_at _ _ calls i _ (call.TriedWrite at n) _ _ _ c.loop-call-test.true w.in-TriedWrite.is c.loop-call.invariant in
          rw (w.kept-is, w.image-is, w.bytes-is)
          (replayed_as _ _ _ _ _ _ _ _ _ (replay_try _ _ c.requires.within _ _ _ _ at n (replicate n 1) (length-replicate n 1) here) refl refl
          (w.in_ok-image-in-TriedWrite.ensures ∙ ap (overwritten at (replicate n 1)) w.deref-in-TriedWrite.ensures.value))
      | in-Cut w ↦
          let here = replayed_at _ _ calls i _ (call.Cut w.in-Cut.len) _ _ _ c.loop-call-test.true w.in-Cut.is c.loop-call.invariant in
          rw (w.kept-is, w.image-is, w.bytes-is)
          (replayed_as _ _ _ _ _ _ _ _ _ (replay_cut _ _ c.requires.within _ _ _ _ w.in-Cut.len here) refl w.truncate.ensures.items refl)
      | in-TriedCut w ↦
          let here = replayed_at _ _ calls i _ (call.TriedCut _) _ _ _ c.loop-call-test.true w.in-TriedCut.is c.loop-call.invariant in
          rw (w.kept-is, w.image-is, w.bytes-is) (replay_no_cut _ _ c.requires.within _ _ _ _ _ here)
      | in-Synced+in_ok-image-in-Synced w ↦
          let here = replayed_at _ _ calls i _ call.Synced _ _ _ c.loop-call-test.true w.in-Synced.is c.loop-call.invariant in
          rw (w.kept-is, w.image-is, w.bytes-is)
          (replayed_as _ _ _ _ _ _ _ _ _ (replay_sync _ _ c.requires.within _ _ _ _ here) refl refl (w.in_ok-image-in-Synced.ensures.items ∙ w.deref-in-Synced.ensures.value))
      | in-TriedSync+in_ok-kept-in-TriedSync w ↦
          let here = replayed_at _ _ calls i _ call.TriedSync _ _ _ c.loop-call-test.true w.in-TriedSync.is c.loop-call.invariant in
          rw (w.kept-is, w.image-is, w.bytes-is)
          (replayed_as _ _ _ _ _ _ _ _ _ (replay_try_sync _ _ c.requires.within _ _ _ _ here) refl (w.in_ok-kept-in-TriedSync.ensures.items ∙ w.deref-in-TriedSync.ensures.value) refl)
    ]
