use Rattle.std.proofs.Common.{◌≡◌, ℕ, ◌<◌, List, length, get_or, map, sym, ap, ◌∙◌, arith}
use Rattle.std.specs.List.{filter, slice_get}
use Rattle.book_model.specs.Parts.{is_selected_at}
use Rattle.book_model.specs.declared.record.Variant.{Variant}
use Rattle.chosen_parts.specs.Chosen.{part_use}
use Rattle.chosen_parts.proofs.FirstLaws.{first_taken, passed_over}
use Rattle.chosen_parts.proofs.chosen.first_selected.Goals as goal

pub returns-then-is_selected : goal.returns-then-is_selected
returns-then-is_selected c =
    let places = c.variants_of-at-items.result.now in
    let v = c.index-variants-at.result in
    let inside : c.loop-at.at-index < length places = omega arith in
    let within : get_or places c.loop-at.at-index 0 < length c.args.book.now.variants = c.variants_of-at-items.ensures.in_range c.loop-at.at-index 0 inside in
    sym (first_taken c.args.book.now c.args.day c.args.set.now places c.loop-at.at-index v inside within
    (c.index-variants-at.is ∙ ap (λ (vs : List Variant). get_or vs (get_or places c.loop-at.at-index 0) v) c.variants.ensures.value)
    (sym c.is_selected.ensures ∙ c.if-is_selected.true))
    ∙ c.loop-at.invariant
    ∙ ap (λ (ps : List ℕ). slice_get (map (part_use c.args.book.now) (filter (is_selected_at c.args.book.now c.args.day c.args.set.now) ps)) 0) c.variants_of-at-items.ensures.value

pub loop-at-preserved : goal.loop-at-preserved
loop-at-preserved c =
    let places = c.variants_of-at-items.result.now in
    let v = c.index-variants-at.result in
    let inside : c.loop-at.at-index < length places = omega arith in
    let within : get_or places c.loop-at.at-index 0 < length c.args.book.now.variants = c.variants_of-at-items.ensures.in_range c.loop-at.at-index 0 inside in
    ap (λ (ps : List ℕ). slice_get (map (part_use c.args.book.now) ps) 0)
    (sym (passed_over c.args.book.now c.args.day c.args.set.now places c.loop-at.at-index v inside within
    (c.index-variants-at.is ∙ ap (λ (vs : List Variant). get_or vs (get_or places c.loop-at.at-index 0) v) c.variants.ensures.value)
    (sym c.is_selected.ensures ∙ c.if-is_selected.false)))
    ∙ c.loop-at.invariant
