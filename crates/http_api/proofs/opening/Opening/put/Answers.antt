use Rattle.std.proofs.Common.{◌++◌, ℕ, List, codes, ap, ◌∙◌}
use Rattle.http_api.specs.Response.{status_line, content_fields, allow_line, close_line}
use Rattle.http_api.proofs.Pieces.{five_pieces}
use Rattle.http_api.proofs.opening.Opening.put.Goals as goal

pub returns : goal.returns
returns c =
    five_pieces c.args.text.now c.put_status_line.new.text c.put_content_fields.new.text c.put.new.self c.put-2.new.self c.put-3.new.self
    (status_line c.args.self.status) (content_fields c.args.self.raw c.args.bytes) (allow_line c.args.self.methods) (close_line c.args.self.close) (codes "\r\n")
    c.in_ok-put_status_line.ensures
    c.in_ok-put_content_fields.ensures
    (c.in_ok-put.ensures.ok ∙ ap (λ (t : List ℕ). c.put_content_fields.new.text ++ t) c.allow_line.ensures)
    (c.in_ok-put-2.ensures.ok ∙ ap (λ (t : List ℕ). c.put.new.self ++ t) c.close_line.ensures)
    c.in_ok-put-3.ensures.ok
