use Rattle.std.proofs.Common.{codes}
use Rattle.http_wire.specs.Fields.{says_close, is_continue}
use Rattle.http_wire.proofs.KnownFields.{any_field}
use Rattle.http_wire.proofs.known.KnownFields.put.Goals as goal

pub returns : goal.returns
returns c fields are = record {
  host = c.with_field-self.ensures fields are.host;
  coding = c.with_field-self-4.ensures fields are.coding;
  length = c.with_field-self-2.ensures fields are.length;
  caller = c.with_field-self-3.ensures fields are.caller;
  close = any_field says_close (codes "Connection") fields c.args.name.now c.args.value.now c.args.self.now.close c.asks_to_close.result are.close c.asks_to_close.ensures;
  expect = any_field is_continue (codes "Expect") fields c.args.name.now c.args.value.now c.args.self.now.expect c.awaits_continue.result are.expect c.awaits_continue.ensures;
}
