use Rattle.std.proofs.Common.{◌≡◌, []}
use Rattle.std.proofs.lemmas.List.Elements.{recursion_from_All}
use Rattle.search_rules.specs.Trail.{ByBox}
use Rattle.search_moves.proofs.Starts.{steps_to, none_by_box}
use Rattle.search_moves.proofs.levels.level_0_is_steps.Goals as goal

pub returns-clause-constraints : goal.returns-clause-constraints
returns-clause-constraints g c boxes es f trail root none =
    steps_to (g.P.Rules.problem c.args.problem.now) boxes es f c.parts_of_steps.ensures.narrowed trail.replays trail.reasons root
    (recursion_from_All (λ e. (b : _) → e.reason ≡ ByBox b → ⊥) es none)

pub returns-clause-no_boxes : goal.returns-clause-no_boxes
returns-clause-no_boxes g c es f trail root =
    let p = g.P.Rules.problem c.args.problem.now in
    steps_to p [] es f c.parts_of_steps.ensures.narrowed trail.replays trail.reasons root (none_by_box p es f trail.reasons)
