use Rattle.std.proofs.Common.{◌≡◌, ◌+◌, ◌-◌, ℕ, List, take, drop, sym, subst, arith}
use Rattle.http_wire.specs.Items.{ReadsFront}
use Rattle.http_wire.specs.Reading.{ReadsBlock}
use Rattle.http_wire.specs.declared.front.Front.{Front}
use Rattle.http_wire.proofs.wire.Wire.step.Goals as goal

pub returns-in_ok-step-in-Block-clause-step : goal.returns-in_ok-step-in-Block-clause-step
returns-in_ok-step-in-Block-clause-step c =
    let step = c.in_ok-step-in-Block.step in
    let held : List ℕ = c.held.result.now in
    let skipped : ℕ = c.in-Block.skipped in
    let n : ℕ = c.in-Block.length in
    let same : held ≡ c.args.self.now = c.held.ensures.value in
    let width : skipped + n - skipped ≡ n = omega arith in
    let read : ReadsBlock (take n (drop skipped held)) step =
    subst (λ (k : ℕ). ReadsBlock (take k (drop skipped held)) step) width c.in_ok-step-in-Block.ensures.step in
    subst (λ (f : Front). ReadsFront f step c.args.self.now c.pass.new.self) (sym c.in-Block.is)
    (subst (λ (s : List ℕ). ReadsBlock (take n (drop skipped s)) step) same read, c.pass.ensures)
