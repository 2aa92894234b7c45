use Rattle.std.proofs.Common.{◌++◌}
use Rattle.pb_outside.proofs.Written.{Refuses-written, Appends-kept}
use Rattle.pb_outside.proofs.streams.StreamSinkSink.write_both.Goals as goal

pub returns-in-Ok-eq0-clause-cause : goal.returns-in-Ok-eq0-clause-cause
returns-in-Ok-eq0-clause-cause g c =
    let rose = rw c.loop-front.invariant.count at c.fail.ensures.rose in
    let never_falls = rw c.loop-front.invariant.count at c.fail.ensures.never_falls in
    let nothing = rw c.in-Ok-eq0.field-0-test at c.in-Ok-eq0.ensures.bytes in
    rw c.fail.ensures.failed (Refuses-written (c.args.first.now ++ c.args.second.now) (c.loop-front.front.now ++ c.loop-front.rest.now) _ _ _ _ _ c.loop-front.invariant.written nothing rose never_falls)

pub returns-in-Err-clause-cause : goal.returns-in-Err-clause-cause
returns-in-Err-clause-cause g c =
    let rose = rw c.loop-front.invariant.count at c.fail-in-Err.ensures.rose in
    let never_falls = rw c.loop-front.invariant.count at c.fail-in-Err.ensures.never_falls in
    rw c.fail-in-Err.ensures.failed
    (Refuses-written (c.args.first.now ++ c.args.second.now) (c.loop-front.front.now ++ c.loop-front.rest.now) _ _ _ _ _ c.loop-front.invariant.written (Appends-kept _ _ c.in-Err.ensures.bytes) rose never_falls)

pub returns-then-is_err-clause-cause : goal.returns-then-is_err-clause-cause
returns-then-is_err-clause-cause g c =
    let rose = rw c.loop-front.invariant.count at c.fail-then-is_err.ensures.rose in
    let never_falls = rw c.loop-front.invariant.count at c.fail-then-is_err.ensures.never_falls in
    rw c.fail-then-is_err.ensures.failed
    (Refuses-written (c.args.first.now ++ c.args.second.now) (c.loop-front.front.now ++ c.loop-front.rest.now) _ _ _ _ _ c.loop-front.invariant.written (Appends-kept _ _ c.flush.ensures.bytes) rose never_falls)
