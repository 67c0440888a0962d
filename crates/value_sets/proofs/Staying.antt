-- Value sets in another table where their refs have the same words.
use Rattle.std.proofs.Common.{◌≡◌, true, ◌∷◌, [], sym, subst}
use Rattle.set_meaning.specs.declared.problems.VarId.{VarId}
use Rattle.bit_layout.specs.Order.{LayoutState}
use Rattle.diagram_arena.specs.declared.nodes.Ref.{Ref}
use Rattle.diagram_arena.specs.Table.{Word, Table, has, IsLive}
use Rattle.scope_words.specs.Words.{IsDiagramOf}
use Rattle.exact_steps.specs.Domains.{AtVariable, values_in}
use Rattle.exact_steps.proofs.Wanted.{diagram_same, values_same}
use Rattle.value_sets.specs.Sets.{IsValueSet}

pub set_same : (l : LayoutState) (t u : Table) (v : VarId) (r : Ref) → IsLive u r → ((w : Word) → has u r w ≡ has t r w) → IsValueSet l t v r → IsValueSet l u v r
set_same l t u v r live same is =
    subst (λ s. IsDiagramOf l (v ∷ []) (AtVariable v (λ x. s x ≡ true)) u r) (sym (values_same l t u v r same))
    (diagram_same l (v ∷ []) (AtVariable v (λ x. values_in l t v r x ≡ true)) t u r live same is)
