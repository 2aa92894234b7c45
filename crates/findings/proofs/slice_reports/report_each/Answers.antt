use Rattle.std.proofs.Common.{◌≡◌, List, [], ◌∷◌, ◌++◌, ◌+◌, ◌<◌, get_or, length, take, sym, subst, arith}
use Rattle.std.specs.List.{AllZip}
use Rattle.std.proofs.lemmas.List.{take_more}
use Rattle.std.proofs.lemmas.Slice.Zip.{all_zipped_more}
use Rattle.book_model.specs.declared.record.Slice.{Slice}
use Rattle.findings.specs.Answering.{inquiry}
use Rattle.findings.specs.Notes.{SliceNotes}
use Rattle.findings.proofs.slice_reports.report_each.Goals as goal

pub periods_on-requires : goal.periods_on-requires
periods_on-requires c = omega (arith, c.vars.ensures, c.requires.over.periods)

pub loop-slice-preserved : goal.loop-slice-preserved
loop-slice-preserved c =
    let slices = c.args.slices.now in
    let k = c.loop-slice.slice-index in
    let i = inquiry c.args.book.now c.args.effort in
    let none : Slice = record { first = 0; last = 0 } in
    let s : Slice = get_or slices k none in
    let below : k < length slices = omega arith in
    let next : take (k + 1) slices ≡ take k slices ++ s ∷ [] = take_more slices k none below in
    let known = c.in_ok-notes.ensures.known in
    record {
      notes =
          subst (λ (ss : List Slice). AllZip (SliceNotes i) ss c.push.new.self.items) (sym next)
          (subst (AllZip (SliceNotes i) (take k slices ++ s ∷ [])) (sym c.in_ok-push.ensures.items)
          (all_zipped_more (SliceNotes i) (take k slices) c.loop-slice.reports.items s c.of.result c.loop-slice.invariant.notes
          (subst (SliceNotes i s) (sym c.of.ensures) c.in_ok-notes.ensures.notes)));
      over = known.over;
      usages = known.usages;
      found = known.found;
    }
