use Rattle.std.proofs.Common.{◌≡◌, ◌<◌, length, ap, ◌∙◌, arith}
use Rattle.inquiry.proofs.PartLaws.{part_noted}
use Rattle.kept_requirements.specs.Notes.{OwnNotes, lines_of, parts_at}
use Rattle.kept_requirements.proofs.CellLaws.{own_notes}
use Rattle.kept_requirements.proofs.notes.notes_of.Goals as goal

pub loop-place-preserved : goal.loop-place-preserved
loop-place-preserved c =
    let b = c.args.book.now in
    let budget = c.args.budget in
    let rs = c.args.requirements.now in
    let slices = c.args.slices.now in
    let rows = c.args.rows.now in
    let place = c.loop-place.place in
    let d = c.index-requirements-place.result in
    let below : place < length rs = omega arith in
    let parts : c.deref.result.now ≡ parts_at rows place = c.deref.ensures.value ∙ c.in_ok-parts.ensures in
    let own : c.in_ok-own.own.items ≡ lines_of d (parts_at rows place) = c.in_ok-own.ensures ∙ ap (lines_of d) parts in
    let same = own ∙ ap (λ r. lines_of r (parts_at rows place)) c.index-requirements-place.is in
    part_noted (OwnNotes b budget slices) rs place d c.loop-place.notes.items c.append.new.self.items c.in_ok-own.own.items below c.loop-place.invariant
    (own_notes b budget rs place d below slices rows c.in_ok-own.own.items c.requires.rows same) c.in_ok-append.ensures.items
