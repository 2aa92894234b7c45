use Rattle.std.proofs.Common.{◌∙◌, ℕ, ap, sym}
use Rattle.std.specs.Prelude.{Option}
use Rattle.std.proofs.lemmas.List.{take_rest}
use Rattle.http_wire.specs.Front.{block_length}
use Rattle.http_wire.proofs.BlockEnds.{further, resume_from}
use Rattle.http_wire.proofs.block.block_length_from.Goals as goal

pub returns-in-Some-clause-length : goal.returns-in-Some-clause-length
returns-in-Some-clause-length c =
    ap (λ (p : Option ℕ). further c.saturating_sub-from.result p)
    (sym c.in-Some.is ∙ c.block_length.ensures.length ∙ ap block_length (take_rest c.args.bytes.now c.saturating_sub-from.result))
    ∙ resume_from c.args.seen c.saturating_sub-from.result c.args.bytes.now c.saturating_sub-from.ensures c.requires.seen

pub returns-in-None-clause-length : goal.returns-in-None-clause-length
returns-in-None-clause-length c =
    ap (λ (p : Option ℕ). further c.saturating_sub-from.result p)
    (sym c.in-None.is ∙ c.block_length.ensures.length ∙ ap block_length (take_rest c.args.bytes.now c.saturating_sub-from.result))
    ∙ resume_from c.args.seen c.saturating_sub-from.result c.args.bytes.now c.saturating_sub-from.ensures c.requires.seen
