use Rattle.std.proofs.Common.{◌∙◌, ap, arith}
use Rattle.std.proofs.lemmas.List.{take_rest}
use Rattle.http_wire.specs.Front.{skipped_bytes}
use Rattle.http_wire.proofs.FrontLaws.{more_skipped, no_more_skipped, none_seen, skipped_within}
use Rattle.http_wire.proofs.search.Search.skipped_in.Goals as goal

pub returns-then-self-clause-skipped : goal.returns-then-self-clause-skipped
returns-then-self-clause-skipped c = no_more_skipped c.args.self.skipped c.args.self.seen c.args.held.now c.requires c.if-self.true

pub returns-then-self-clause-no_end : goal.returns-then-self-clause-no_end
returns-then-self-clause-no_end c = none_seen c.args.self.skipped c.args.self.seen c.args.held.now c.requires

pub returns-else-self-clause-skipped : goal.returns-else-self-clause-skipped
returns-else-self-clause-skipped c =
    more_skipped c.args.self.skipped c.args.self.seen c.line_bytes.result c.args.held.now c.requires c.if-self.false
    (c.line_bytes.ensures.skipped ∙ ap skipped_bytes (take_rest c.args.held.now c.args.self.seen))

pub returns-else-self-clause-within : goal.returns-else-self-clause-within
returns-else-self-clause-within c =
    let all = more_skipped c.args.self.skipped c.args.self.seen c.line_bytes.result c.args.held.now c.requires c.if-self.false
    (c.line_bytes.ensures.skipped ∙ ap skipped_bytes (take_rest c.args.held.now c.args.self.seen)) in
    omega (arith, all, skipped_within c.args.held.now)

pub overflow_add-result : goal.overflow_add-result
overflow_add-result c =
    let all = more_skipped c.args.self.skipped c.args.self.seen c.line_bytes.result c.args.held.now c.requires c.if-self.false
    (c.line_bytes.ensures.skipped ∙ ap skipped_bytes (take_rest c.args.held.now c.args.self.seen)) in
    omega (arith, all, skipped_within c.args.held.now)
