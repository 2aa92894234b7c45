use Rattle.std.proofs.Common.{sym}
use Rattle.http_wire.proofs.KnownFields.{few_with, few_without}
use Rattle.http_wire.proofs.few.Few.with_field.Goals as goal

pub returns-then-same_word : goal.returns-then-same_word
returns-then-same_word c fields are = few_with _ fields _ _ _ (sym c.if-same_word.ensures) (c.and.ensures _ are)

pub returns-else-same_word : goal.returns-else-same_word
returns-else-same_word c fields are = few_without _ fields _ _ _ (sym c.if-same_word.ensures) are
