use Rattle.std.proofs.Common.{sym}
use Rattle.std.proofs.lemmas.Bool.{true≢false}
use Rattle.http_api.proofs.Methods.{other_of}
use Rattle.http_api.proofs.request.Verb.of.Goals as goal

pub returns-in-Err : goal.returns-in-Err
returns-in-Err c =
    let none = rw c.in-Err.is at c.from_bytes.ensures.no_memory_needed in
    sym (other_of c.args.method.now (λ token short. true≢false (sym (none token short))))
