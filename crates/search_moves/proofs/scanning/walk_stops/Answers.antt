use Rattle.std.proofs.Common.{◌≡◌, ◌≢◌, ◌∷◌}
use Rattle.std.proofs.lemmas.List.Elements.{recursion_from_All}
use Rattle.search_rules.specs.Family.{Lies}
use Rattle.search_rules.proofs.LearnLemmas.{some_level}
use Rattle.search_moves.proofs.Seeking.{stops_more, replays_rest, stops_here}
use Rattle.search_moves.proofs.scanning.walk_stops.Goals as goal

pub returns-clause-here : goal.returns-clause-here
returns-clause-here g c boxes e passed rest f b trail none matters above others =
    let p = g.P.Rules.problem c.args.problem.now in
    let (h, replays) = replays_rest p passed (e ∷ rest) f trail.replays in
    stops_more passed (e ∷ rest) b e.level e.var (recursion_from_All (λ e. Lies e.before (b e.var)) passed none)
    (stops_here p e rest h b replays matters above
    (recursion_from_All (λ d. d.level ≡ e.level → d.var ≢ e.var → Lies d.before (b d.var)) rest others))

pub returns-clause-level : goal.returns-clause-level
returns-clause-level g c boxes es f b l v trail stops =
    some_level (g.P.Rules.problem c.args.problem.now) es f b l v trail.replays stops.some
