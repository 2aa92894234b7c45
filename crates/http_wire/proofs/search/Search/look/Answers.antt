use Rattle.std.proofs.Common.{◌∙◌, ap, sym}
use Rattle.std.proofs.lemmas.List.{take_rest}
use Rattle.http_wire.specs.Front.{block_length}
use Rattle.http_wire.proofs.FrontLaws.{found_front, full_front}
use Rattle.http_wire.proofs.search.Search.look.Goals as goal

pub returns-in-Some-clause-found : goal.returns-in-Some-clause-found
returns-in-Some-clause-found c =
    found_front c.args.held.now c.skipped_in-skipped.result c.in-Some.length c.requires.small c.skipped_in-skipped.ensures.skipped
    (ap block_length (sym (take_rest c.args.held.now c.skipped_in-skipped.result)) ∙ sym c.block_length_from.ensures.length ∙ c.in-Some.is)

pub returns-in-None-clause-found : goal.returns-in-None-clause-found
returns-in-None-clause-found c =
    full_front c.args.held.now c.skipped_in-skipped.result c.if-held-eq-MOST_HEAD_BYTES.true c.skipped_in-skipped.ensures.skipped
    (ap block_length (sym (take_rest c.args.held.now c.skipped_in-skipped.result)) ∙ sym c.block_length_from.ensures.length ∙ c.in-None.is)
