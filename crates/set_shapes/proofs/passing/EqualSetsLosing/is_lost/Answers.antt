use Rattle.set_shapes.proofs.LostEqualities.{equality_lost}
use Rattle.set_shapes.proofs.passing.EqualSetsLosing.is_lost.Goals as goal

pub returns : goal.returns
returns c h = equality_lost c.args.self.now.places.items c.args.self.now.table.constants.items c.args.self.now.table.entries.items c.args._at c.args.state h
