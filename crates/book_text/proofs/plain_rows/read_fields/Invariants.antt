use Rattle.std.proofs.Common.{length}
use Rattle.book_text.proofs.PlainLemmas.{IsBegun}
use Rattle.book_text.proofs.plain_rows.read_fields.Given as goal

abbrev pub invariant-fields : goal.invariant-fields
invariant-fields l = IsBegun l.text l.fields.items l.rest l.end

-- each field takes a byte or more
abbrev pub decreases-fields : goal.decreases-fields
decreases-fields l = length l.rest
