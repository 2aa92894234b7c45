use Rattle.std.proofs.Common.{◌≡◌, ◌∙◌, ◌==◌, ap, sym, length}
use Rattle.std.proofs.lemmas.List.{length-map}
use Rattle.command_words.specs.Prepared.{lent, texts_of}
use Rattle.command_words.proofs.Fronts.{last_done}
use Rattle.command_words.proofs.prepare.take_last.Goals as goal

pub returns : goal.returns
returns c =
    let same : length (texts_of c.in_ok-behind.behind.now) ≡ length c.in_ok-behind.behind.now = length-map _ _ in
    last_done (lent c.args.kept.now.items) _ (texts_of c.args.words.now) _ _ (c.is_empty.ensures ∙ ap (λ n. n == 0) (sym same)) c.in_ok-behind.ensures.kept c.in_ok-behind.ensures.behind
