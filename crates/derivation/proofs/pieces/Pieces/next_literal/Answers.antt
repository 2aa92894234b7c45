use Rattle.std.proofs.lemmas.List.{take_rest}
use Rattle.derivation.specs.Kept.{literal_kept}
use Rattle.derivation.proofs.FrontLaws.{word_first, word_last}
use Rattle.derivation.proofs.pieces.Pieces.next_literal.Goals as goal

pub returns-then-front-text : goal.returns-then-front-text
returns-then-front-text c =
    word_last literal_kept _ _ _ _ c.in-Some.front.end c.in-Some.front.lit c.self.view_is c.if-self.false c.if-front-text.true c.in-Some.ensures.end c.in-Some.ensures.literal

pub returns : goal.returns
returns c =
    rw take_rest (word_first literal_kept _ _ _ _ c.in-Some.front.end c.in-Some.front.lit c.self.view_is c.if-self.false c.if-front-text.false c.in-Some.ensures.end c.in-Some.ensures.literal)
