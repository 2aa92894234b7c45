use Rattle.std.proofs.Common.{length, length-drop, sym, ap, subst, ◌∙◌, arith}
use Rattle.book_text.specs.Plain.{HasNoQuote}
use Rattle.book_text.proofs.PlainLemmas.{first_skipped, no_quote_behind}
use Rattle.book_text.proofs.plain_rows.from_next_row.Goals as goal

pub blank-preserved : goal.blank-preserved
blank-preserved c =
    let at = c.begins_with_line_end.ensures.line_end c.blank-test.true in
    let behind = c.behind_first-rest.ensures in
    record {
      rows = first_skipped c.blank.rest.now c.behind_first-rest.result.now at.0 at.1 behind ∙ c.blank.invariant.rows;
      plain = subst HasNoQuote (sym behind) (no_quote_behind c.blank.rest.now 1 c.blank.invariant.plain);
      within = omega (arith, c.blank.invariant.within, length-drop 1 c.blank.rest.now, ap length behind);
    }

pub blank-smaller : goal.blank-smaller
blank-smaller c =
    let at = c.begins_with_line_end.ensures.line_end c.blank-test.true in
    omega (arith, at.0, length-drop 1 c.blank.rest.now, ap length c.behind_first-rest.ensures)
