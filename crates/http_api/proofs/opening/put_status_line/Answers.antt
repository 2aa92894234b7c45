use Rattle.std.proofs.Common.{◌≡◌, ◌++◌, ℕ, List, codes, ap, ◌∙◌}
use Rattle.http.specs.StatusCode.{code_digits}
use Rattle.http_api.specs.Status.{code_of, phrase_of}
use Rattle.http_api.proofs.Pieces.{five_pieces}
use Rattle.http_api.proofs.opening.put_status_line.Goals as goal

pub returns : goal.returns
returns c =
    let digits : c.as_bytes.result.now ≡ code_digits (code_of c.args.status) = c.as_bytes.ensures.value ∙ c.as_str.ensures ∙ ap code_digits c.code.ensures in
    five_pieces c.args.text.now c.put.new.self c.put-2.new.self c.put-3.new.self c.put-4.new.self c.put-5.new.self
    (codes "HTTP/1.1 ") (code_digits (code_of c.args.status)) (codes " ") (phrase_of c.args.status) (codes "\r\n")
    c.in_ok-put.ensures.ok
    (c.in_ok-put-2.ensures.ok ∙ ap (λ (t : List ℕ). c.put.new.self ++ t) digits)
    c.in_ok-put-3.ensures.ok
    (c.in_ok-put-4.ensures.ok ∙ ap (λ (t : List ℕ). c.put-3.new.self ++ t) c.phrase.ensures)
    c.in_ok-put-5.ensures.ok
