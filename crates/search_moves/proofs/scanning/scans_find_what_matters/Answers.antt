use Rattle.std.proofs.Common.{◌≡◌, ◌≢◌, ◌∷◌, refl, inl}
use Rattle.std.proofs.lemmas.List.Elements.{All-append, All-from_recursion}
use Rattle.search_rules.specs.Family.{Lies}
use Rattle.search_moves.proofs.Seeking.{some_more, replays_rest, below_others}
use Rattle.search_moves.proofs.scanning.scans_find_what_matters.Goals as goal

pub returns-clause-found : goal.returns-clause-found
returns-clause-found g c seen rest e b matters = some_more seen (e ∷ rest) b e.level e.var (inl (refl, refl, matters))

pub returns-clause-below : goal.returns-clause-below
returns-clause-below g c boxes seen rest f b l v trail lt none =
    let p = g.P.Rules.problem c.args.problem.now in
    let (h, replays) = replays_rest p seen rest f trail.replays in
    All-append (λ e. e.level ≡ l → e.var ≢ v → Lies e.before (b e.var)) seen rest none
    (All-from_recursion (λ e. e.level ≡ l → e.var ≢ v → Lies e.before (b e.var)) rest (below_others p rest h b l v replays lt))
