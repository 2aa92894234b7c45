use Rattle.std.proofs.Common.{sym, ◌∙◌}
use Rattle.std.specs.Cmp.Lexicographic.{bytes_decides}
use Rattle.std.proofs.lemmas.Slice.Eq.{slice_eq-Decides}
use Rattle.desk_words.proofs.order_words.same_codes.Goals as goal

pub returns : goal.returns
returns c =
    let decides = slice_eq-Decides bytes_decides c.as_slice.result.now c.as_slice-2.result.now c.eq.result c.eq.ensures in
    (λ equal. sym c.as_slice.ensures ∙ decides.0 equal ∙ c.as_slice-2.ensures, λ same. decides.1 (c.as_slice.ensures ∙ same ∙ sym c.as_slice-2.ensures))
