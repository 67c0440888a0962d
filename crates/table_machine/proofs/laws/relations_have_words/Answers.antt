use Rattle.std.proofs.Common.{◌&&◌}
use Rattle.table_machine.proofs.Fitting.{relation_words}
use Rattle.table_machine.proofs.laws.relations_have_words.Goals as goal

pub returns : goal.returns
returns g c condition l scope bits initial relation ok first second =
    relation_words (g.C.Condition.holds condition) l scope bits initial relation ok (λ w. c.side_by_side_accepts.ensures ◌&&◌ initial relation bits w) first second
