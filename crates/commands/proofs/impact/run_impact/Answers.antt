use Rattle.std.proofs.Common.{refl}
use Rattle.commands.specs.Impacted.{kept_back, judged_by}
use Rattle.commands.proofs.impact.run_impact.Goals as goal

pub returns-in-Released : goal.returns-in-Released
returns-in-Released g c = record {
  how = judged_by c.judge_by.ensures.how;
  runs = record { book = _; files = _; has = rw c.file.ensures at c.in-Released.ensures.book; files_kept = c.in-Released.ensures.kept; runs = c.judge_by.ensures.runs };
}

pub returns-in-KeptBack : goal.returns-in-KeptBack
returns-in-KeptBack g c = record {
  how = kept_back;
  runs = record {
    reply = _;
    due = rw c.file.ensures at c.in-KeptBack.ensures.book;
    told = c.tell_made-status.ensures;
    files_kept = c.in-KeptBack.ensures.kept;
    source = refl;
    kept = refl;
    door = refl;
  };
}
