use Rattle.std.proofs.Common.{◌≡◌, List, [], ◌∷◌, ◌++◌, ◌+◌, ◌<◌, ◌≤◌, get_or, length, take, sym, ap, subst, ◌∙◌, arith}
use Rattle.std.proofs.lemmas.List.{take_all, take_more, length-take-le}
use Rattle.std.specs.List.{list_any}
use Rattle.pb_base.specs.InParts.{InParts}
use Rattle.book_model.specs.declared.record.Slice.{Slice}
use Rattle.findings.specs.Notes.{SliceNotes}
use Rattle.findings.specs.Answering.{IsShownIn, inquiry, stops}
use Rattle.findings.proofs.BookLaws.{stopped_more, codes_shown, shown_none}
use Rattle.findings.proofs.ToldLaws.{parts_more}
use Rattle.findings.proofs.check.check_each.Goals as goal

pub loop-number-init : goal.loop-number-init
loop-number-init c = record {
  notes = c.requires.notes;
  stopped = c.requires.stopped ∙ sym (ap (list_any stops) c.requires.notes);
  shown = λ free. shown_none c.args.book.now c.args.all.now.text (length c.args.slices.now) c.requires.text;
  earlier = c.requires.earlier;
}

pub put-requires : goal.put-requires
put-requires c =
    let s : Slice = get_or c.args.slices.now c.loop-number.number (record { first = 0; last = 0 }) in
    let own = c.in_ok-checked.checked in
    codes_shown c.args.book.now s own.notes.items own.proof c.in_ok-checked.ensures.checked.shown

pub loop-number-preserved : goal.loop-number-preserved
loop-number-preserved c =
    let b = c.args.book.now in
    let slices = c.args.slices.now in
    let k = c.loop-number.number in
    let i = inquiry b c.args.effort in
    let none : Slice = record { first = 0; last = 0 } in
    let s : Slice = get_or slices k none in
    let below : k < length slices = omega arith in
    let next : take (k + 1) slices ≡ take k slices ++ s ∷ [] = take_more slices k none below in
    let all = c.loop-number.all in
    let own = c.in_ok-checked.checked in
    let so_far = c.loop-number.invariant in
    let count : k ≡ length (take k slices) = sym (length-take-le k slices (omega arith)) in
    record {
      notes =
          subst (λ (ss : List Slice). InParts (SliceNotes i) ss c.put.new.self.notes.items) (sym next)
          (subst (InParts (SliceNotes i) (take k slices ++ s ∷ [])) (sym c.in_ok-put.ensures.notes)
          (parts_more (SliceNotes i) (take k slices) s all.notes.items own.notes.items so_far.notes c.in_ok-checked.ensures.checked.notes));
      stopped = c.in_ok-put.ensures.stopped ∙ stopped_more b s all.notes.items own.notes.items all.stopped own.proof so_far.stopped c.in_ok-checked.ensures.checked.shown ∙ ap (list_any stops) (sym c.in_ok-put.ensures.notes);
      shown = λ free.
          subst (λ (ss : List Slice). IsShownIn b ss (length slices) c.put.new.self.text) (sym next)
          (c.in_ok-put.ensures.shown (take k slices) s (length slices) count c.in_ok-checked.ensures.checked.shown so_far.shown free);
      earlier = c.in_ok-checked.ensures.earlier;
    }

pub returns : goal.returns
returns c =
    let b = c.args.book.now in
    let slices = c.args.slices.now in
    let i = inquiry b c.args.effort in
    let all = c.loop-number.all in
    let done : length slices ≤ c.loop-number.number = omega arith in
    let whole = take_all c.loop-number.number slices done in
    record {
      notes = subst (λ (ss : List Slice). InParts (SliceNotes i) ss all.notes.items) whole c.loop-number.invariant.notes;
      stopped = c.loop-number.invariant.stopped;
      shown = λ free. subst (λ (ss : List Slice). IsShownIn b ss (length slices) all.text) whole (c.loop-number.invariant.shown free);
    }
