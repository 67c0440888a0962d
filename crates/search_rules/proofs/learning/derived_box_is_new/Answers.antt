use Rattle.search_rules.proofs.LearnLemmas.{stop_of, derived_leaves, derived_apart}
use Rattle.search_rules.proofs.learning.derived_box_is_new.Goals as goal

pub returns-clause-sides : goal.returns-clause-sides
returns-clause-sides g c boxes es f b l v trail derives d learned =
    let (u, x, before, in_side, out) = derived_leaves (stop_of trail derives) d learned in
    (u, (x, in_side, out))

pub returns-clause-assignments : goal.returns-clause-assignments
returns-clause-assignments g c boxes es f b l v trail derives values d learned =
    derived_apart trail.replays (stop_of trail derives) values d learned
