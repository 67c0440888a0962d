use Rattle.std.proofs.Common.{sym}
use Rattle.log_text.proofs.PieceLaws.{cut_first, cut_last}
use Rattle.log_text.proofs.pieces.Pieces.next_piece.Goals as goal

pub returns-in-Some : goal.returns-in-Some
returns-in-Some c = cut_first _ _ _ _ _ c.self.view_is c.if-self.false (sym c.in-Some.ensures.first)

pub returns-in-None : goal.returns-in-None
returns-in-None c = cut_last _ _ _ _ c.self.view_is c.if-self.false (sym c.in-None.ensures.first)
