use Rattle.std.proofs.Common.{◌∙◌, sym}
use Rattle.book_sample.proofs.Drawn.{picks_taken, picks_passed, picks_end, behind_picks_more, behind_picks_end}
use Rattle.book_sample.proofs.sampler.draw_codes.Goals as goal
use Rattle.book_sample.proofs.sampler.draw_codes.Goals.{then-code-lt4+in_ok-push, else-code-lt4}

pub loop-group-preserved : goal.loop-group-preserved
loop-group-preserved c = record {
  codes = elim c.if-code-lt4.branch [
    | then-code-lt4+in_ok-push w ↦
        rw (w.codes-is, w.in_ok-push.ensures.ok, w.code_name.ensures, c.draw-code.ensures.number, c.draw-code.ensures.state)
        (picks_taken _ _ _ _ c.loop-group-test.true (rw c.draw-code.ensures.number at w.if-code-lt4.true) ∙ c.loop-group.invariant.codes)
    | else-code-lt4 w ↦
        rw (w.codes-is, c.draw-code.ensures.state)
        (picks_passed _ _ _ _ c.loop-group-test.true (rw c.draw-code.ensures.number at w.if-code-lt4.false) ∙ c.loop-group.invariant.codes)
  ];
  state = rw c.draw-code.ensures.state (behind_picks_more _ _ _ c.loop-group-test.true ∙ c.loop-group.invariant.state);
}

pub returns-clause-codes : goal.returns-clause-codes
returns-clause-codes c = sym (picks_end _ _ _ _ c.loop-group-test.false) ∙ c.loop-group.invariant.codes

pub returns-clause-state : goal.returns-clause-state
returns-clause-state c = sym (behind_picks_end _ _ _ c.loop-group-test.false) ∙ c.loop-group.invariant.state
