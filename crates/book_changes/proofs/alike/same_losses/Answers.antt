use Rattle.std.proofs.Common.{◌≡◌, true, get_or, sym, ap, ◌∙◌, arith}
use Rattle.firing_sequence.proofs.SequenceLaws.{zip_passed, zip_ended}
use Rattle.lost_cars.specs.declared.note.LossNote.{LossNote}
use Rattle.book_changes.specs.Alike.{same_loss}
use Rattle.book_changes.proofs.alike.same_losses.Goals as goal

pub loop-at-preserved : goal.loop-at-preserved
loop-at-preserved c =
    let own = c.args.own.now in
    let other = c.args.other.now in
    let a = c.index-own-at.result in
    let b = c.index-other-at.result in
    let passes : same_loss (get_or own c.loop-at.at a) (get_or other c.loop-at.at b) ≡ true =
    sym (c.same_loss.ensures ∙ ap (λ (n : LossNote). same_loss n b) c.index-own-at.is ∙ ap (same_loss (get_or own c.loop-at.at a)) c.index-other-at.is) ∙ c.if-not-same_loss.false in
    zip_passed same_loss own other c.loop-at.at a b (omega arith) (omega (arith, c.if-own-other.false)) passes c.loop-at.invariant

pub returns : goal.returns
returns c =
    zip_ended same_loss c.args.own.now c.args.other.now c.loop-at.at (omega (arith, c.loop-at-test.false)) (omega (arith, c.loop-at-test.false, c.if-own-other.false)) c.loop-at.invariant
