use Rattle.std.proofs.Common.{ℕ, length, ap, subst, ◌∙◌, arith, rules}
use Rattle.guarded_rules.proofs.MadeLaws.{guarded_none}
use Rattle.blame.specs.Absent.{IsDenied}
use Rattle.blame.proofs.CodeLaws.{entry_at}
use Rattle.blame.proofs.GuardLaws.{guarding_none, guarding_more, guarding_all, guarded_room, guarded_rule_room}
use Rattle.blame.proofs.guarding.guarded.Goals as goal

pub loop-place-init : goal.loop-place-init
loop-place-init c =
    guarding_none c.args.book.now c.args.entries.now c.in_ok-encoder.encoder
    (guarded_none _ c.in_ok-encoder.encoder c.in_ok-encoder.ensures.clauses c.in_ok-encoder.ensures.truth c.in_ok-encoder.ensures.next)
    (c.in_ok-encoder.ensures.truth ∙ first_of (omega (arith, c.len-codes.ensures.value, ap length c.codes.ensures.value), search rules))

pub add_unless_plain-requires-clause-there : goal.add_unless_plain-requires-clause-there
add_unless_plain-requires-clause-there c = (entry_at c.args.book.now c.args.day c.args.entries.now c.loop-place.place _ c.requires.fit (omega arith)).there

pub add_unless_plain-requires-clause-room : goal.add_unless_plain-requires-clause-room
add_unless_plain-requires-clause-room c =
    guarded_room c.args.book.now c.args.day c.codes.ensures.book c.args.entries.now c.loop-place.place _ c.loop-place.encoder c.requires.fit
    (omega arith) c.requires.few c.loop-place.invariant

pub loop-place-preserved : goal.loop-place-preserved
loop-place-preserved c =
    guarding_more c.args.book.now c.args.day c.codes.ensures.book c.args.entries.now c.loop-place.place _ _ c.loop-place.encoder c.add_unless_plain.new.encoder
    c.requires.fit (omega arith) (first_of (omega (arith, c.len-codes.ensures.value, ap length c.codes.ensures.value), search rules)) c.loop-place.invariant
    c.in_ok-add_unless_plain.ensures

pub rule_on-requires : goal.rule_on-requires
rule_on-requires c =
    guarded_rule_room c.args.book.now c.args.day c.codes.ensures.book c.args.entries.now c.args.rule.now c.loop-place.place c.loop-place.encoder c.requires.rule
    c.requires.few (omega arith) c.loop-place.invariant

pub returns-clause-truth : goal.returns-clause-truth
returns-clause-truth c =
    c.in_ok-deny_unused.ensures.made.truth ∙ c.in_ok-add_plain_entries.ensures.made.truth ∙ c.in_ok-rule_on.ensures.truth ∙ c.loop-place.invariant.truth

pub returns-clause-made : goal.returns-clause-made
returns-clause-made c = record {
  first = c.rule_on.new.self;
  items =
      guarding_all c.args.book.now c.args.day c.codes.ensures.book c.args.entries.now c.args.rule.now c.loop-place.place c.loop-place.encoder c.rule_on.new.self
      c.requires.rule (omega arith) c.loop-place.invariant c.in_ok-rule_on.ensures;
  second = c.add_plain_entries.new.encoder;
  further = c.in_ok-add_plain_entries.ensures;
  denied =
      subst (λ (n : ℕ). IsDenied n c.add_plain_entries.new.encoder c.deny_unused.new.encoder) (c.len-codes.ensures.value ∙ ap length c.codes.ensures.value) c.in_ok-deny_unused.ensures;
}
