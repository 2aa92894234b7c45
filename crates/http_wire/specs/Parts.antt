-- What counts of a head: the start line, and the fields.
use Rattle.std.specs.Prelude.{ℕ, List, map}
use Rattle.httparse.specs.Grammar.{RequestHead}
use Rattle.httparse.specs.Spans.{name_and_value}
use Rattle.http_wire.specs.Fields.{Field}

pub record HeadParts : Type 0 where
  pub method : List ℕ
  pub target : List ℕ
  pub minor : ℕ
  pub fields : List Field

abbrev pub parts_of : RequestHead → HeadParts
parts_of h = record { method = h.method; target = h.target; minor = h.minor; fields = map name_and_value h.fields }
