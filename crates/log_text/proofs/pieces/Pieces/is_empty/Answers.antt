use Rattle.log_text.proofs.PieceLaws.{done_is_empty}
use Rattle.log_text.proofs.pieces.Pieces.is_empty.Goals as goal

pub returns : goal.returns
returns c = done_is_empty c.self.inside.separator _ c.self.inside.rest.now _ c.self.view_is
