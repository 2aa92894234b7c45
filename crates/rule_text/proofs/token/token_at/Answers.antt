use Rattle.std.proofs.Common.{length, drop, take, ◌-◌}
use Rattle.rule_text.proofs.TokenLemmas.{word_bytes}
use Rattle.rule_text.proofs.token.token_at.Goals as goal

pub returns-then-is_name_byte-clause-lexed : goal.returns-then-is_name_byte-clause-lexed
returns-then-is_name_byte-clause-lexed c = rw c.word_len.ensures.value (word_bytes (take (length c.args.text.now - c.args.at) (drop c.args.at c.args.text.now)))
