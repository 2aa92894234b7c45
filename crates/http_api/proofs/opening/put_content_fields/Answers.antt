use Rattle.std.proofs.Common.{◌++◌, ℕ, List, codes, ap, ◌∙◌}
use Rattle.std.specs.Fmt.{decimal}
use Rattle.http_api.specs.Response.{type_of}
use Rattle.http_api.proofs.Pieces.{five_pieces}
use Rattle.http_api.proofs.opening.put_content_fields.Goals as goal

pub returns : goal.returns
returns c =
    five_pieces c.args.text.now c.put.new.self c.put-2.new.self c.put-3.new.self c.put_number.new.self c.put-4.new.self
    (codes "Content-Type: ") (type_of c.args.raw) (codes "\r\nContent-Length: ") (decimal c.args.bytes) (codes "\r\n")
    c.in_ok-put.ensures.ok
    (c.in_ok-put-2.ensures.ok ∙ ap (λ (t : List ℕ). c.put.new.self ++ t) c.type_of.ensures)
    c.in_ok-put-3.ensures.ok
    c.in_ok-put_number.ensures.ok
    c.in_ok-put-4.ensures.ok
