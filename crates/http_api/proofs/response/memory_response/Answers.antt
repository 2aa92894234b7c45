use Rattle.std.proofs.Common.{sym, ap₂, ◌∙◌}
use Rattle.http_api.proofs.MemoryText.{memory_text, is_memory_response}
use Rattle.http_api.proofs.response.memory_response.Goals as goal

pub returns-in-true-true : goal.returns-in-true-true
returns-in-true-true c =
    c.as_bytes.ensures.value ∙ ap₂ memory_text (sym c.in-true-true.is-0) (sym c.in-true-true.is-1) ∙ is_memory_response c.args.close c.args.bare

pub returns-in-true-false : goal.returns-in-true-false
returns-in-true-false c =
    c.as_bytes-in-true-false.ensures.value ∙ ap₂ memory_text (sym c.in-true-false.is-0) (sym c.in-true-false.is-1) ∙ is_memory_response c.args.close c.args.bare

pub returns-in-false-true : goal.returns-in-false-true
returns-in-false-true c =
    c.as_bytes-in-false-true.ensures.value ∙ ap₂ memory_text (sym c.in-false-true.is-0) (sym c.in-false-true.is-1) ∙ is_memory_response c.args.close c.args.bare

pub returns-in-false-false : goal.returns-in-false-false
returns-in-false-false c =
    c.as_bytes-in-false-false.ensures.value ∙ ap₂ memory_text (sym c.in-false-false.is-0) (sym c.in-false-false.is-1) ∙ is_memory_response c.args.close c.args.bare
