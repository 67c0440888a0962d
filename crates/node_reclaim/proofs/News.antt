-- The sets of new nodes over several calls.
use Rattle.std.proofs.Common.{◌≡◌, None, Some, refl, sym, subst}
use Rattle.std.specs.Prelude.{IsSome}
use mathlib.Core.Path.{fun_ext}
use Rattle.diagram_arena.specs.declared.nodes.Ref.TheVariants.{Node}
use Rattle.diagram_arena.specs.declared.nodes.Triple.{Triple}
use Rattle.diagram_arena.specs.Table.{Words, Table, has, IsLive}
use Rattle.diagram_arena.specs.Arena.{Grows}
use Rattle.diagram_arena.proofs.Meaning.{live_from}
use Rattle.node_reclaim.specs.Growth.{NewAre}

-- in one table there is no new node
pub no_news : (t : Table) (P : Words → Type 0) → NewAre t t P
no_news t P i none live = let no : IsSome {T = Triple} None = subst IsSome none live in absurd (cc)

-- new nodes of one call after another
pub news_then : (t u v : Table) (P : Words → Type 0) → Grows u v → NewAre t u P → NewAre u v P → NewAre t v P
news_then t u v P grown first second i none live =
    elim (u i) as (λ o. u i ≡ o → P (has v (Node i))) [
      | None ↦ λ e. second i e live
      | Some n ↦ λ e.
          let there : IsLive u (Node i) = live_from u i n e in
          subst P (sym (fun_ext (grown.words (Node i) there))) (first i none there)
    ] refl
