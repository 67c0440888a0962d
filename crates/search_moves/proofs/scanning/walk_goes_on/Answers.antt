use Rattle.std.proofs.Common.{◌∷◌}
use Rattle.std.proofs.lemmas.List.Elements.{recursion_from_All}
use Rattle.search_rules.specs.Family.{Lies}
use Rattle.search_moves.proofs.Seeking.{on_more, replays_rest, two_go_on, root_goes_on}
use Rattle.search_moves.proofs.scanning.walk_goes_on.Goals as goal

pub returns-clause-two : goal.returns-clause-two
returns-clause-two g c boxes e passed rest f b v trail none matters some apart =
    let p = g.P.Rules.problem c.args.problem.now in
    let (h, replays) = replays_rest p passed (e ∷ rest) f trail.replays in
    on_more passed (e ∷ rest) b (recursion_from_All (λ e. Lies e.before (b e.var)) passed none)
    (two_go_on p e rest h b v replays matters some apart)

pub returns-clause-root : goal.returns-clause-root
returns-clause-root g c boxes e passed rest f b trail none level =
    let p = g.P.Rules.problem c.args.problem.now in
    let (h, replays) = replays_rest p passed (e ∷ rest) f trail.replays in
    on_more passed (e ∷ rest) b (recursion_from_All (λ e. Lies e.before (b e.var)) passed none)
    (root_goes_on p e rest h b replays level)
