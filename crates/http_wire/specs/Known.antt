-- What is known of the fields of a head.
use Rattle.std.specs.Prelude.{◌≡◌, List, codes}
use Rattle.std.specs.List.{list_any}
use Rattle.http_wire.specs.Fields.{Field, values_of, says_close, is_continue}
use Rattle.http_wire.specs.Few.{IsFew}
use Rattle.http_wire.specs.declared.known.KnownFields.{KnownFields}

-- this is what the fields say
pub record AreKnown (fields : List Field) (known : KnownFields) : Type 0 where
  pub host : IsFew (values_of (codes "Host") fields) known.host
  pub coding : IsFew (values_of (codes "Transfer-Encoding") fields) known.coding
  pub length : IsFew (values_of (codes "Content-Length") fields) known.length
  pub caller : IsFew (values_of (codes "X-Caller") fields) known.caller
  pub close : known.close ≡ list_any says_close (values_of (codes "Connection") fields)
  pub expect : known.expect ≡ list_any is_continue (values_of (codes "Expect") fields)
