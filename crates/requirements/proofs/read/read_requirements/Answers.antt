use Rattle.std.proofs.Common.{refl, sym, ◌∙◌}
use Rattle.requirements.proofs.ReadLemmas.{of-large, of-not_utf8, of-rows}
use Rattle.requirements.proofs.read.read_requirements.Goals as goal

pub returns-then-text-gt-MOST_TEXT_BYTES-clause-requirements : goal.returns-then-text-gt-MOST_TEXT_BYTES-clause-requirements
returns-then-text-gt-MOST_TEXT_BYTES-clause-requirements c =
    rw (c.text_fault.ensures, of-large c.args.book.now c.args.text.now c.if-text-gt-MOST_TEXT_BYTES.true) refl

pub returns-then-not-is_text-clause-requirements : goal.returns-then-not-is_text-clause-requirements
returns-then-not-is_text-clause-requirements c =
    rw (c.text_fault-then-not-is_text.ensures, of-not_utf8 c.args.book.now c.args.text.now c.if-text-gt-MOST_TEXT_BYTES.false (sym c.is_text.ensures ∙ c.if-not-is_text.true)) refl

pub returns-clause-requirements : goal.returns-clause-requirements
returns-clause-requirements c =
    rw (of-rows c.args.book.now c.args.text.now c.if-text-gt-MOST_TEXT_BYTES.false (sym c.is_text.ensures ∙ c.if-not-is_text.false))
    (rw c.of-rows.ensures.rows at c.requirements_of_rows.ensures.requirements)
