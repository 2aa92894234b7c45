use Rattle.std.proofs.Common.{Bool, List, ℕ, [], ◌++◌, length, sym, ap, ◌∙◌, append-nil}
use Rattle.std.specs.Prelude.{if◌then◌else◌}
use Rattle.http_api.specs.Response.{head_of}
use Rattle.http_api.proofs.HeadFirst.{head_put}
use Rattle.http_api.proofs.response.front.Goals as goal

pub returns-then-bare : goal.returns-then-bare
returns-then-bare c =
    let head = head_of c.args.opening (length (c.args.line.now ++ c.args.rest.now)) in
    c.into_body.ensures
    ∙ head_put c.args.opening c.args.line.now c.args.rest.now c.in_ok-text.text c.put.new.text c.in_ok-text.ensures c.in_ok-put.ensures
    ∙ sym (append-nil head)
    ∙ ap (λ (b : Bool). head ++ (if b then [] else c.args.line.now)) (sym c.if-bare.true)

pub returns : goal.returns
returns c =
    let head = head_of c.args.opening (length (c.args.line.now ++ c.args.rest.now)) in
    c.into_body-2.ensures
    ∙ c.in_ok-put-2.ensures.ok
    ∙ ap (λ (t : List ℕ). t ++ c.args.line.now)
    (head_put c.args.opening c.args.line.now c.args.rest.now c.in_ok-text.text c.put.new.text c.in_ok-text.ensures c.in_ok-put.ensures)
    ∙ ap (λ (b : Bool). head ++ (if b then [] else c.args.line.now)) (sym c.if-bare.false)
