use Rattle.std.proofs.Common.{◌≡◌, ◌≢◌, List, Option, Some, None, sym, ◌∙◌, IfSome, IfNone}
use Rattle.std.specs.Map.{lookup}
use Rattle.diagram_arena.specs.declared.nodes.NodeId.{NodeId}
use Rattle.diagram_arena.specs.declared.nodes.Triple.{Triple}
use Rattle.diagram_arena.specs.Table.{Table}
use Rattle.diagram_arena.specs.Body.{IsIndex}
use Rattle.diagram_arena.proofs.Index.{derived, lookup-derived}
use Rattle.diagram_arena.proofs.hash_consing.Arena.find.Goals as goal

found_in : (t : Table) (es : List (Triple × NodeId)) (n : Triple) (o : Option NodeId) → IsIndex t es → o ≡ lookup (derived n) es → IfSome o (λ i. t i ≡ Some n)
found_in t es n None index is = tt
found_in t es n (Some i) index is = index.sound n i (sym (lookup-derived n es) ∙ sym is)

absent_from : (t : Table) (es : List (Triple × NodeId)) (n : Triple) (o : Option NodeId) → IsIndex t es → o ≡ lookup (derived n) es → IfNone o ((i : NodeId) → t i ≢ Some n)
absent_from t es n None index is = λ i at.
    let no : None ≡ Some i = is ∙ lookup-derived n es ∙ index.complete i n at in cc
absent_from t es n (Some i) index is = tt

pub returns-clause-found : goal.returns-clause-found
returns-clause-found c =
    rw (← c.self.view_is) (found_in _ c.self.inside.ids.entries c.args.triple c.copied.result c.self.invariant.indexed (c.copied.ensures ∙ c.get.ensures.value))

pub returns-clause-absent : goal.returns-clause-absent
returns-clause-absent c =
    rw (← c.self.view_is) (absent_from _ c.self.inside.ids.entries c.args.triple c.copied.result c.self.invariant.indexed (c.copied.ensures ∙ c.get.ensures.value))
