use Rattle.std.proofs.Common.{append_assoc}
use Rattle.book_sample.proofs.lines.put_variant.Goals as goal

pub returns : goal.returns
returns c =
    simp append_assoc at (rw (
      c.in_ok-put_usage.ensures,
      c.in_ok-put_all.ensures,
      c.name-id.ensures,
      c.name-position.ensures,
      c.name-part.ensures,
      c.as_bytes-quantity.ensures.value,
      c.format.ensures.text,
    ) at c.put.ensures.ok)
