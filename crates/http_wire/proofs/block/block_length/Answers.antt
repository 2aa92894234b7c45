use Rattle.std.proofs.Common.{◌≡◌, ◌+◌, ◌∙◌, ℕ, drop, length, length-drop, ap, sym, arith}
use Rattle.std.specs.Prelude.{Option, Some, None}
use Rattle.std.specs.Option.{option_or}
use Rattle.std.proofs.lemmas.List.{take_rest}
use Rattle.http_wire.specs.Front.{empty_line, block_length}
use Rattle.http_wire.proofs.BlockEnds.{further}
use Rattle.http_wire.proofs.LineFeeds.{no_block, advance}
use Rattle.http_wire.proofs.block.block_length.Goals as goal

pub returns-in-Some-empty_line-clause-length : goal.returns-in-Some-empty_line-clause-length
returns-in-Some-empty_line-clause-length c =
    let at = c.loop-place.at + (c.in-Some.place + 1) in
    let line : Some c.in-Some-empty_line.length ≡ empty_line (drop at c.args.bytes.now) = sym c.in-Some-empty_line.is ∙ c.empty_line.ensures.line ∙ ap empty_line (take_rest c.args.bytes.now at) in
    ap (λ (p : Option ℕ). further at (option_or p (block_length (drop at c.args.bytes.now)))) line
    ∙ advance c.args.bytes.now _ c.loop-place.at c.in-Some.place (take_rest c.args.bytes.now c.loop-place.at) c.loop-place.invariant.rest c.in-Some.ensures.0.high c.in-Some.ensures.0.before c.in-Some.ensures.1

pub loop-place-preserved : goal.loop-place-preserved
loop-place-preserved c =
    let at = c.loop-place.at + (c.in-Some.place + 1) in
    let line : None ≡ empty_line (drop at c.args.bytes.now) = sym c.in_default-empty_line.is ∙ c.empty_line.ensures.line ∙ ap empty_line (take_rest c.args.bytes.now at) in
    record {
      within = omega (arith, c.in-Some.ensures.0.high, ap length (take_rest c.args.bytes.now c.loop-place.at), length-drop c.loop-place.at c.args.bytes.now);
      rest = ap (λ (p : Option ℕ). further at (option_or p (block_length (drop at c.args.bytes.now)))) line
          ∙ advance c.args.bytes.now _ c.loop-place.at c.in-Some.place (take_rest c.args.bytes.now c.loop-place.at) c.loop-place.invariant.rest c.in-Some.ensures.0.high c.in-Some.ensures.0.before c.in-Some.ensures.1;
    }

pub returns-clause-length : goal.returns-clause-length
returns-clause-length c =
    ap (λ (p : Option ℕ). further c.loop-place.at p) (sym (no_block _ c.in_default.ensures) ∙ ap block_length (take_rest c.args.bytes.now c.loop-place.at)) ∙ c.loop-place.invariant.rest
