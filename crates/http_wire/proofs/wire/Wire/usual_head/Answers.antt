use Rattle.std.proofs.Common.{◌≡◌, ◌≤◌, ◌+◌, ◌∙◌, ℕ, List, length, drop, ap, sym, subst}
use Rattle.std.proofs.lemmas.List.{take_rest}
use Rattle.http_wire.specs.FirstHeads.{ReadsHeld}
use Rattle.http_wire.specs.Front.{skipped_bytes}
use Rattle.http_wire.specs.Items.{behind}
use Rattle.http_wire.proofs.FrontLaws.{skipped_once}
use Rattle.http_wire.proofs.FirstHeads.{next_of}
use Rattle.http_wire.proofs.wire.Wire.usual_head.Goals as goal

pub first_head-requires : goal.first_head-requires
first_head-requires c =
    ap skipped_bytes (take_rest c.held-held.result.now c.line_bytes-skipped.result ∙ ap (λ (n : ℕ). drop n c.held-held.result.now) c.line_bytes-skipped.ensures.skipped)
    ∙ skipped_once c.held-held.result.now

pub returns-clause-step : goal.returns-clause-step
returns-clause-step c =
    let first = rw c.in-Some.is at c.in_ok-first.ensures in
    let held : List ℕ = c.held-held.result.now in
    let skipped : ℕ = c.line_bytes-skipped.result in
    let same : held ≡ c.args.self.now = c.held-held.ensures.value in
    subst (λ (s : List ℕ). ReadsHeld c.in-Some.first.step s c.pass.new.self) same
    (next_of held c.pass.new.self skipped c.in-Some.first.length c.in-Some.first.step (subst (λ (s : List ℕ). length s ≤ 16384) (sym same) c.held-held.ensures.small)
    c.line_bytes-skipped.ensures.skipped (rw (take_rest held skipped) at first.head) (rw (take_rest held skipped) at first.within)
    (c.pass.ensures ∙ ap (λ (s : List ℕ). behind c.in-Some.first.step (skipped + c.in-Some.first.length) s) (sym same)))
