use Rattle.std.proofs.lemmas.List.{take_rest}
use Rattle.derivation.proofs.PieceLaws.{first_piece, last_piece}
use Rattle.derivation.proofs.pieces.Pieces.next.Goals as goal

pub returns-then-end-text : goal.returns-then-end-text
returns-then-end-text c = last_piece _ _ _ _ _ c.self.view_is c.if-self.false c.if-end-text.true c.piece_end-end.ensures

pub returns : goal.returns
returns c = rw take_rest (first_piece _ _ _ _ _ c.self.view_is c.if-self.false c.if-end-text.false c.piece_end-end.ensures)
