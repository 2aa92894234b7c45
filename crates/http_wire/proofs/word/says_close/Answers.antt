use Rattle.std.proofs.Common.{◌==◌, ℕ, List, codes, rules, tests}
use Rattle.std.proofs.lemmas.Iterator.Search.{any_from_yields_List}
use Rattle.std.proofs.lemmas.Iterator.Splits.{YieldsList-from_slice_split}
use Rattle.httparse.specs.Grammar.{trim_ows}
use Rattle.http_wire.specs.Fields.{same_word}
use Rattle.http_wire.proofs.word.says_close.Goals as goal

pub returns : goal.returns
returns c =
    any_from_yields_List (λ (word : List ℕ). same_word (trim_ows word) (codes "close")) _ _ c.any.result c.any.ensures.ran
    (YieldsList-from_slice_split _ (λ (b : ℕ). b == 44) c.args.value.now c.split.ensures.rest c.split.ensures.done c.split.ensures.closure (λ x b q called. search (rules, tests)))
    (λ x b q called. search (rules, tests))
