use Rattle.std.proofs.Common.{◌≡◌, false, Err, length, drop, [], sym, ap, subst, ◌∙◌, arith}
use Rattle.std.proofs.Math.Seq.{drop-length}
use Rattle.std.proofs.lemmas.Result.{err_from_is_err_and}
use Rattle.pb_base.specs.Answers.{Answers}
use Rattle.pb_base.specs.declared.answer.Fail.TheVariants.{Refused}
use Rattle.rule_text.specs.Token.{tokens_from, token_at, token_len}
use Rattle.rule_text.specs.Reading.{rule_of}
use Rattle.rule_text.specs.Steps.{finish}
use Rattle.rule_text.specs.Views.{state_of, token_of}
use Rattle.rule_text.proofs.TokenLemmas.{token_len-within}
use Rattle.rule_text.proofs.StepLemmas.{read_from, reads_on, refuses, rule_of-read, rule_of-empty}
use Rattle.rule_text.proofs.AnswerLemmas.{keeps_codes, is_fault, is_spelled, is_read, refuses_for_limit}
use Rattle.rule_text.specs.declared.fault.RuleFault.TheVariants.{Empty}
use Rattle.rule_text.proofs.read.read_rule.Goals as goal

pub returns-then-is_all_blank-clause-answer : goal.returns-then-is_all_blank-clause-answer
returns-then-is_all_blank-clause-answer c = rule_of-empty c.args.codes.now c.args.text.now (sym c.is_all_blank.ensures ∙ c.if-is_all_blank.true)

pub returns-then-is_all_blank-clause-fault : goal.returns-then-is_all_blank-clause-fault
returns-then-is_all_blank-clause-fault c = is_fault c.args.codes.now c.args.text.now (Err (Refused Empty)) (returns-then-is_all_blank-clause-answer c)

pub returns-then-is_all_blank-clause-read : goal.returns-then-is_all_blank-clause-read
returns-then-is_all_blank-clause-read c = is_read c.args.codes.now c.args.text.now (Err (Refused Empty)) (returns-then-is_all_blank-clause-answer c)

pub returns-then-is_all_blank-clause-limits : goal.returns-then-is_all_blank-clause-limits
returns-then-is_all_blank-clause-limits c = refuses_for_limit c.args.codes.now c.args.text.now (Err (Refused Empty)) (returns-then-is_all_blank-clause-answer c)

pub returns-in_err-take-clause-answer : goal.returns-in_err-take-clause-answer
returns-in_err-take-clause-answer c =
    let text = c.args.text.now in
    let p = err_from_is_err_and c.from_residual-in_err-take.result c.from_residual-in_err-take.ensures.1 in
    let whole = rule_of-read c.args.codes.now text (sym c.is_all_blank.ensures ∙ c.if-is_all_blank.false) in
    rw (p.1, p.2)
    (refuses c.args.codes.now (length text) text c.loop-at.at (state_of c.loop-at.reader) (token_of c.token_at-token.result) _ _ (state_of c.take.new.self)
    c.loop-at-test.true (sym c.is_blank.ensures ∙ c.if-is_blank.false) c.token_at-token.ensures.token (c.loop-at.invariant.same ∙ whole) c.in_err-take.ensures)

pub returns-in_err-take-clause-fault : goal.returns-in_err-take-clause-fault
returns-in_err-take-clause-fault c = is_fault c.args.codes.now c.args.text.now c.from_residual-in_err-take.result (returns-in_err-take-clause-answer c)

pub returns-in_err-take-clause-spelled : goal.returns-in_err-take-clause-spelled
returns-in_err-take-clause-spelled c = is_spelled c.args.codes.now c.args.text.now c.from_residual-in_err-take.result (returns-in_err-take-clause-answer c)

pub returns-in_err-take-clause-read : goal.returns-in_err-take-clause-read
returns-in_err-take-clause-read c = is_read c.args.codes.now c.args.text.now c.from_residual-in_err-take.result (returns-in_err-take-clause-answer c)

pub returns-in_err-take-clause-limits : goal.returns-in_err-take-clause-limits
returns-in_err-take-clause-limits c = refuses_for_limit c.args.codes.now c.args.text.now c.from_residual-in_err-take.result (returns-in_err-take-clause-answer c)

pub returns-in_err-take-clause-codes : goal.returns-in_err-take-clause-codes
returns-in_err-take-clause-codes c = keeps_codes c.args.codes.now c.args.text.now c.from_residual-in_err-take.result (returns-in_err-take-clause-answer c)

pub loop-at-preserved : goal.loop-at-preserved
loop-at-preserved c =
    let text = c.args.text.now in
    let at = c.loop-at.at in
    let len : c.len-at.result ≡ token_len (token_at (drop at text)) = c.len-at.ensures ∙ ap token_len c.token_at-token.ensures.token in
    let within = token_len-within text at c.loop-at-test.true in
    let on = reads_on c.args.codes.now (length text) text at c.len-at.result (state_of c.loop-at.reader) (state_of c.take.new.self) (token_of c.token_at-token.result)
    c.loop-at-test.true (sym c.is_blank.ensures ∙ c.if-is_blank.false) c.token_at-token.ensures.token c.len-at.ensures c.in_ok-take.ensures in
    record { within = omega (arith, within.1, len); same = sym on ∙ c.loop-at.invariant.same }

pub returns-clause-answer : goal.returns-clause-answer
returns-clause-answer c =
    let text = c.args.text.now in
    let whole = rule_of-read c.args.codes.now text (sym c.is_all_blank.ensures ∙ c.if-is_all_blank.false) in
    let ended : c.loop-at.at ≡ length text = omega arith in
    let nothing_left : drop c.loop-at.at text ≡ [] = ap (λ at. drop at text) ended ∙ drop-length text in
    let same : finish (length text) (state_of c.loop-at.reader) ≡ rule_of c.args.codes.now text =
    sym (ap (λ bytes. read_from c.args.codes.now (length text) (state_of c.loop-at.reader) (tokens_from false c.loop-at.at bytes)) nothing_left)
    ∙ c.loop-at.invariant.same ∙ whole in
    subst (λ answer. Answers c.finish.result answer) same c.finish.ensures

pub returns-clause-fault : goal.returns-clause-fault
returns-clause-fault c = is_fault c.args.codes.now c.args.text.now c.finish.result (returns-clause-answer c)

pub returns-clause-spelled : goal.returns-clause-spelled
returns-clause-spelled c = is_spelled c.args.codes.now c.args.text.now c.finish.result (returns-clause-answer c)

pub returns-clause-read : goal.returns-clause-read
returns-clause-read c = is_read c.args.codes.now c.args.text.now c.finish.result (returns-clause-answer c)

pub returns-clause-limits : goal.returns-clause-limits
returns-clause-limits c = refuses_for_limit c.args.codes.now c.args.text.now c.finish.result (returns-clause-answer c)

pub returns-clause-codes : goal.returns-clause-codes
returns-clause-codes c = keeps_codes c.args.codes.now c.args.text.now c.finish.result (returns-clause-answer c)
