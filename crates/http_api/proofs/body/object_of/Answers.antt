use Rattle.std.proofs.Common.{ap, sym, ◌∙◌}
use Rattle.serde_json.specs.View.{view}
use Rattle.http_api.specs.Call.{or_denied}
use Rattle.http_api.specs.declared.denied.Denied.TheVariants.{BadBody}
use Rattle.http_api.proofs.Reading.{is_object_read, none_read}
use Rattle.http_api.proofs.body.object_of.Goals as goal

pub returns-then-is_object : goal.returns-then-is_object
returns-then-is_object c =
    ap (or_denied BadBody) (is_object_read c.args.body.now (view c.in-Ok.value) c.in-Ok.ensures.ok.0 c.in-Ok.ensures.ok.1 (sym c.is_object.ensures ∙ c.if-is_object.true))

pub returns-else-is_memory : goal.returns-else-is_memory
returns-else-is_memory c =
    ap (or_denied BadBody) (none_read c.args.body.now (c.in-Err.ensures.err (λ memory. let told = c.if-is_memory.ensures.1 memory in cc)))
