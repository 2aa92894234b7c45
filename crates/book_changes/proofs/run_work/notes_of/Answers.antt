use Rattle.std.proofs.Common.{refl}
use Rattle.book_changes.proofs.DifferLaws.{same_on_day}
use Rattle.book_changes.proofs.PartsAlike.{same_through}
use Rattle.book_changes.proofs.RunLaws.{keeps_through}
use Rattle.book_changes.proofs.run_work.notes_of.Goals as goal

pub returns-clause-notes : goal.returns-clause-notes
returns-clause-notes c =
    let one = c.args.first.now.book in
    let other = c.args.second.now.book in
    let run = c.args.run in
    record {
      days = refl;
      common = c.in_ok-common.ensures.common;
      lost = c.in_ok-lost.ensures.notes;
      won = c.in_ok-won.ensures.notes;
      added = c.in_ok-added.ensures;
      differ = c.in_ok-differs.ensures;
      keeps = λ empty. keeps_through one other run c.requires.run.one.steady c.requires.run.other.steady (c.in_ok-lost.ensures.keeps empty);
      wins_none = λ empty. keeps_through other one run c.requires.run.other.steady c.requires.run.one.steady (c.in_ok-won.ensures.keeps empty);
      same_parts = λ empty alike.
          same_through one other run c.requires.run.one.steady c.requires.run.other.steady
          (same_on_day one other run.first c.args.budget c.in_ok-differs.differs.items c.in_ok-differs.ensures (c.in_ok-lost.ensures.keeps empty) alike);
    }
