-- What an answer is that reads a text as its definition says.
use Rattle.std.proofs.Common.{◌≡◌, ℕ, inl, inr, List, [], Option, Some, None, Result, Ok, Err, length, sym, ◌∙◌, arith}
use Rattle.std.specs.Prelude.{IfOk, IsTrue}
use Rattle.pb_base.specs.Answers.{Answers}
use Rattle.pb_base.specs.Results.{unless}
use Rattle.pb_base.specs.Rule.{Rule, nodes, codes_below}
use Rattle.pb_base.specs.declared.answer.Fail.{Fail}
use Rattle.pb_base.specs.declared.answer.Fail.TheVariants.{Refused, Memory}
use Rattle.rule_text.specs.Token.{tokens}
use Rattle.rule_text.specs.Grammar.{IsText}
use Rattle.rule_text.specs.FirstFault.{first_fault}
use Rattle.rule_text.specs.Reading.{outside, rule_from, rule_of}
use Rattle.rule_text.specs.Laws.{IsShortText, AnswersFault, RefusesForLimit}
use Rattle.rule_text.specs.declared.fault.RuleFault.{RuleFault}
use Rattle.rule_text.specs.declared.fault.RuleFault.TheVariants.{Empty, BadByte, UnknownCode, Expected, TooDeep, TooLong}
use Rattle.rule_text.proofs.Sound.{in_grammar}
use Rattle.rule_text.proofs.Whole.{MeetsLimit, complete, reads}
use Rattle.rule_text.proofs.Counts.{rule_of-codes, rule_of-nodes}

no_fault : (fault : Option RuleFault) (value rule : Rule) → unless fault (Ok value) ≡ Ok rule → fault ≡ None
no_fault None value rule same = sym cc
no_fault (Some fault) value rule same = cc

the_fault : (fault : Option RuleFault) (value : Rule) (found : RuleFault) → unless fault (Ok value) ≡ Err found → fault ≡ Some found
the_fault None value found same = cc
the_fault (Some fault) value found same = cc

pub is_fault : (names : List (List ℕ)) (text : List ℕ) (result : Result Rule (Fail RuleFault)) → Answers result (rule_of names text) → AnswersFault result (first_fault names text)
unfolding rule_of
is_fault names text (Ok rule) answer = no_fault (first_fault names text) (rule_from names [] (outside []) (tokens text)) rule answer
is_fault names text (Err (Refused fault)) answer = the_fault (first_fault names text) (rule_from names [] (outside []) (tokens text)) fault answer
is_fault names text (Err Memory) answer = tt

pub is_spelled : (names : List (List ℕ)) (text : List ℕ) (result : Result Rule (Fail RuleFault)) → Answers result (rule_of names text)
    → IfOk result (λ rule. IsShortText names text rule)
is_spelled names text (Ok rule) answer = (in_grammar names text rule answer, rule_of-nodes names text rule answer)
is_spelled names text (Err error) answer = tt

pub is_read : (names : List (List ℕ)) (text : List ℕ) (result : Result Rule (Fail RuleFault)) → Answers result (rule_of names text)
    → (rule : Rule) → IsShortText names text rule → Answers result (Ok rule)
is_read names text (Ok value) answer rule short = sym (reads names text 64 rule short.0 (omega arith) short.1) ∙ answer
is_read names text (Err (Refused fault)) answer rule short = sym (reads names text 64 rule short.0 (omega arith) short.1) ∙ answer
is_read names text (Err Memory) answer rule short = tt

limit_named : (answer : Result Rule RuleFault) (fault : RuleFault) (depth count : ℕ) → MeetsLimit depth count answer → answer ≡ Err fault
    → RefusesForLimit {A = Rule} (Err (Refused fault)) depth count
limit_named answer (TooDeep at) depth count (inl deep) same = deep.2
limit_named answer (TooLong at) depth count (inl deep) same = let e = deep.1 in cc
limit_named answer Empty depth count (inl deep) same = let e = deep.1 in cc
limit_named answer (BadByte at) depth count (inl deep) same = let e = deep.1 in cc
limit_named answer (UnknownCode at) depth count (inl deep) same = let e = deep.1 in cc
limit_named answer (Expected at) depth count (inl deep) same = let e = deep.1 in cc
limit_named answer (TooLong at) depth count (inr long) same = long.2
limit_named answer (TooDeep at) depth count (inr long) same = let e = long.1 in cc
limit_named answer Empty depth count (inr long) same = let e = long.1 in cc
limit_named answer (BadByte at) depth count (inr long) same = let e = long.1 in cc
limit_named answer (UnknownCode at) depth count (inr long) same = let e = long.1 in cc
limit_named answer (Expected at) depth count (inr long) same = let e = long.1 in cc

pub refuses_for_limit : (names : List (List ℕ)) (text : List ℕ) (result : Result Rule (Fail RuleFault)) → Answers result (rule_of names text)
    → (depth : ℕ) (rule : Rule) → IsText names depth (tokens text) rule → RefusesForLimit result depth (nodes rule)
refuses_for_limit names text (Ok value) answer depth rule is_text = tt
refuses_for_limit names text (Err (Refused fault)) answer depth rule is_text =
    elim (complete names text depth rule is_text) [
      | inl same ↦ absurd (no_rule (sym same ∙ answer))
      | inr limit ↦ limit_named (rule_of names text) fault depth (nodes rule) limit answer
    ]
  where
    no_rule : {rule : Rule} {fault : RuleFault} → Ok rule ≡ Err fault → ⊥
    no_rule same = cc
refuses_for_limit names text (Err Memory) answer depth rule is_text = tt

pub keeps_codes : (names : List (List ℕ)) (text : List ℕ) (result : Result Rule (Fail RuleFault)) → Answers result (rule_of names text)
    → IfOk result (λ rule. IsTrue (codes_below (length names) rule))
keeps_codes names text (Ok rule) answer = rule_of-codes names text rule answer
keeps_codes names text (Err error) answer = tt
