use Rattle.std.proofs.Common.{◌≡◌, Some, ◌∷◌, rules}
use Rattle.journal_keeper.specs.Record.{text_in, entry_in}
use Rattle.journal_keeper.specs.Reading.{entry_of}
use Rattle.journal_keeper.proofs.Records.{ends_record}
use Rattle.journal_keeper.proofs.reading.record_at.Goals as goal

pub returns : goal.returns
returns c =
    let first : c.args.bytes.now ≡ c.in_ok-kind.kind.now ∷ c.in_ok-kind.rest.now = search rules in
    let is_text : text_in c.in_ok-kind.rest.now ≡ Some (c.in_ok-payload.payload.now, c.in_ok-payload.rest.now) = search rules in
    let is_entry : entry_in c.in_ok-kind.kind.now c.in_ok-payload.payload.now ≡ Some (entry_of c.in_ok-read.read) = search rules in
    ends_record _ _ _ _ _ _ first is_text is_entry
