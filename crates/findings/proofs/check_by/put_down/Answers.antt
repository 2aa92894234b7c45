use Rattle.std.proofs.Common.{◌≡◌, ℕ, List, [], ◌∷◌, ◌++◌, ◌+◌, ◌<◌, get_or, length, take, map-id, refl, rules, sym, ap, subst, ◌∙◌, arith, length-append}
use Rattle.std.specs.List.{list_any}
use Rattle.std.proofs.lemmas.List.{take_all, take_more, length-take-le}
use Rattle.std.proofs.lemmas.Slice.Zip.{AllZip-long}
use Rattle.std.proofs.lemmas.Iterator.Adapters.{YieldsList-from_vec}
use Rattle.std.proofs.lemmas.Iterator.Consumers.{YieldsList-end, YieldsList-turn}
use Rattle.pb_base.specs.InParts.{InParts}
use Rattle.book_model.specs.declared.record.Slice.{Slice}
use Rattle.findings.specs.Answering.{IsShownIn, stops}
use Rattle.findings.specs.Checked.{IsShownBy}
use Rattle.findings.specs.declared.report.Note.{Note}
use Rattle.findings.specs.declared.slice.SliceCheck.{SliceCheck}
use Rattle.findings.proofs.BookLaws.{stopped_more, codes_shown, shown_none}
use Rattle.findings.proofs.CheckLaws.{zip_at}
use Rattle.findings.proofs.ToldLaws.{parts_more}
use Rattle.findings.proofs.check_by.put_down.Goals as goal

pub loop-checked-init : goal.loop-checked-init
loop-checked-init c = record {
  number = refl;
  notes = c.in_ok-all.ensures.notes;
  stopped = c.in_ok-all.ensures.stopped ∙ sym (ap (list_any stops) c.in_ok-all.ensures.notes);
  shown = λ free. shown_none c.args.book.now c.in_ok-all.all.text (length c.args.slices.now) c.in_ok-all.ensures.text;
}

pub put-requires : goal.put-requires
put-requires c =
    let checks = c.args.checks.items in
    let k = length c.loop-checked.yielded in
    let own = c.in-Some.checked in
    let s : Slice = get_or c.args.slices.now k (record { first = 0; last = 0 }) in
    let turn = YieldsList-turn (YieldsList-from_vec {s = c.into_iter-checked-iterator.result} checks (search rules) (search rules))
    c.loop-checked.yielded c.loop-checked.checked-iterator c.loop-checked.yielded_by c.next.result c.next.new.self own c.in-Some.is c.next.ensures.steps in
    codes_shown c.args.book.now s own.notes.items own.proof
    (subst (IsShownBy c.args.book.now s) (sym turn.1) (zip_at (IsShownBy c.args.book.now) c.args.slices.now checks k (record { first = 0; last = 0 }) own turn.0 c.requires.shown))

pub loop-checked-preserved : goal.loop-checked-preserved
loop-checked-preserved c =
    let b = c.args.book.now in
    let slices = c.args.slices.now in
    let checks = c.args.checks.items in
    let done = c.loop-checked.yielded in
    let k = c.loop-checked.number in
    let own = c.in-Some.checked in
    let none : Slice = record { first = 0; last = 0 } in
    let s : Slice = get_or slices k none in
    let all = c.loop-checked.all in
    let so_far = c.loop-checked.invariant in
    let turn = YieldsList-turn (YieldsList-from_vec {s = c.into_iter-checked-iterator.result} checks (search rules) (search rules))
    done c.loop-checked.checked-iterator c.loop-checked.yielded_by c.next.result c.next.new.self own c.in-Some.is c.next.ensures.steps in
    let shown : IsShownBy b s own =
    subst (IsShownBy b s) (sym turn.1)
    (subst (λ (n : ℕ). IsShownBy b (get_or slices n none) (get_or checks (length done) own)) (sym so_far.number) (zip_at (IsShownBy b) slices checks (length done) none own turn.0 c.requires.shown)) in
    let below : k < length slices = omega (arith, so_far.number, turn.0, AllZip-long (IsShownBy b) slices checks c.requires.shown) in
    let next : take (k + 1) slices ≡ take k slices ++ s ∷ [] = take_more slices k none below in
    let count : k ≡ length (take k slices) = sym (length-take-le k slices (omega (arith, below))) in
    record {
      number = omega (arith, so_far.number, length-append done (own ∷ []));
      notes =
          subst (InParts (λ (checked : SliceCheck) (part : List Note). checked.notes.items ≡ part) (done ++ own ∷ [])) (sym c.in_ok-put.ensures.notes)
          (parts_more (λ (checked : SliceCheck) (part : List Note). checked.notes.items ≡ part) done own all.notes.items own.notes.items so_far.notes refl);
      stopped = c.in_ok-put.ensures.stopped ∙ stopped_more b s all.notes.items own.notes.items all.stopped own.proof so_far.stopped shown ∙ ap (list_any stops) (sym c.in_ok-put.ensures.notes);
      shown = λ free.
          subst (λ (ss : List Slice). IsShownIn b ss (length slices) c.put.new.self.text) (sym next)
          (c.in_ok-put.ensures.shown (take k slices) s (length slices) count shown so_far.shown free);
    }

pub returns : goal.returns
returns c =
    let b = c.args.book.now in
    let slices = c.args.slices.now in
    let checks = c.args.checks.items in
    let done = c.loop-checked.yielded in
    let all = c.loop-checked.all in
    let end = YieldsList-end (YieldsList-from_vec {s = c.into_iter-checked-iterator.result} checks (search rules) (search rules))
    done c.loop-checked.checked-iterator c.loop-checked.yielded_by c.next.result c.next.new.self c.in-None.is c.next.ensures.steps in
    let whole = take_all c.loop-checked.number slices (omega (arith, c.loop-checked.invariant.number, end.1, AllZip-long (IsShownBy b) slices checks c.requires.shown)) in
    record {
      notes =
          subst (λ (cs : List SliceCheck). InParts (λ (checked : SliceCheck) (part : List Note). checked.notes.items ≡ part) cs all.notes.items) (sym (map-id done) ∙ end.0)
          c.loop-checked.invariant.notes;
      stopped = c.loop-checked.invariant.stopped;
      shown = λ free. subst (λ (ss : List Slice). IsShownIn b ss (length slices) all.text) whole (c.loop-checked.invariant.shown free);
    }
