use Rattle.std.proofs.Common.{List, ℕ, [], ◌∷◌, sym, subst, ◌∙◌}
use Rattle.clause_pool.specs.Clause.{clause_of}
use Rattle.clausify.specs.Encoding.{EncodesAlone}
use Rattle.clausify.specs.Items.{rule_item}
use Rattle.clausify.specs.declared.encoder.Encoder.{Encoder}
use Rattle.blame.specs.Plain.{plain_rule, AddsPlain}
use Rattle.blame.proofs.PlainLaws.{plain_added, plain_none}
use Rattle.blame.proofs.plain.add_plain_rule.Goals as goal
use Rattle.blame.proofs.plain.add_plain_rule.Goals.{then-branch+in_ok-clause, else-branch}

pub returns : goal.returns
returns c =
    elim c.if-branch.branch [
      | then-branch+in_ok-clause w ↦
          subst (λ (e : Encoder). AddsPlain (plain_rule c.args.rule.now) c.args.guard (rule_item c.args.on c.args.rule.now) c.args.encoder.now e) (sym w.encoder-is)
          (plain_added (plain_rule c.args.rule.now) c.args.guard c.args.on c.args.rule.now c.in_ok-lits.lits.items c.push_literals.new.lits.items c.args.encoder.now w.clause.new.self c.in_ok-lits.ensures
          (c.in_ok-push_literals.ensures.plain w.if-branch.true)
          (subst (λ (ls : List ℕ). EncodesAlone c.args.encoder.now w.clause.new.self (clause_of ls ∷ [])) w.deref.ensures.value w.in_ok-clause.ensures))
      | else-branch w ↦
          subst (λ (e : Encoder). AddsPlain (plain_rule c.args.rule.now) c.args.guard (rule_item c.args.on c.args.rule.now) c.args.encoder.now e) (sym w.encoder-is)
          (plain_none (plain_rule c.args.rule.now) c.args.guard (rule_item c.args.on c.args.rule.now) c.args.encoder.now (sym c.in_ok-push_literals.ensures.is ∙ w.if-branch.false))
    ]
