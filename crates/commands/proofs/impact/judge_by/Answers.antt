use Rattle.std.proofs.Common.{refl}
use Rattle.commands.specs.Rejudged.{unjudged, judged}
use Rattle.commands.proofs.impact.judge_by.Goals as goal

pub returns-in-Ok : goal.returns-in-Ok
returns-in-Ok g c = record {
  how = judged;
  runs = record {
    old = c.in-Ok.desk;
    started = record { right = c.in-Ok.ensures.right; tables = c.in-Ok.ensures.rows; valid = c.in-Ok.ensures.valid; count = c.in-Ok.ensures.count; later = c.in-Ok.ensures.later };
    judges = c.tell_impact.ensures _;
  };
}

pub returns-in-Err : goal.returns-in-Err
returns-in-Err g c = record {
  how = unjudged c.in-Err.field-0.why;
  runs = record {
    run = record { cause = c.in-Err.ensures.cause; left = c.in-Err.ensures.left; link = refl; later = c.in-Err.ensures.later_count };
    told = c.tell_start-status.ensures;
    untouched = refl;
    door = refl;
  };
}
