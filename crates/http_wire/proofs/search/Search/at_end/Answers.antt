use Rattle.std.proofs.Common.{◌∙◌, Bool, sym, ap, cond}
use Rattle.std.proofs.lemmas.Bool.{eq-eqb, ne_eqb}
use Rattle.http_wire.specs.declared.front.Front.TheVariants.{End, Bad}
use Rattle.http_wire.specs.declared.refusal.Refusal.TheVariants.{Malformed}
use Rattle.http_wire.proofs.FrontLaws.{all_searched, end_front}
use Rattle.http_wire.proofs.search.Search.at_end.Goals as goal

pub returns-then-self-held-clause-front : goal.returns-then-self-held-clause-front
returns-then-self-held-clause-front c =
    let known = all_searched c.args.self.skipped c.args.self.seen c.args.held.now c.requires.all c.requires.searched in
    sym (end_front c.args.held.now c.args.self.skipped c.requires.short known.0 known.1 ∙ ap (λ (b : Bool). cond b End (Bad Malformed)) (eq-eqb _ _ c.if-self-held.true))

pub returns-else-self-held-clause-front : goal.returns-else-self-held-clause-front
returns-else-self-held-clause-front c =
    let known = all_searched c.args.self.skipped c.args.self.seen c.args.held.now c.requires.all c.requires.searched in
    sym (end_front c.args.held.now c.args.self.skipped c.requires.short known.0 known.1 ∙ ap (λ (b : Bool). cond b End (Bad Malformed)) (ne_eqb _ _ c.if-self-held.false))
