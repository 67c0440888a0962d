-- What is known of value sets: laws of that crate, as one record. Words of private helpers.
use Rattle.std.specs.Prelude.{◌≡◌, ◌↔◌, ◌⊎◌, true, false}
use Rattle.set_meaning.specs.declared.kinds.Value.{Value}
use Rattle.set_meaning.specs.declared.problems.VarId.{VarId}
use Rattle.bit_layout.specs.Order.{LayoutState, IsLayout}
use Rattle.diagram_arena.specs.declared.nodes.Ref.{Ref}
use Rattle.diagram_arena.specs.Table.{Table, IsReduced}
use Rattle.diagram_arena.specs.Arena.{Grows}
use Rattle.search_rules.specs.Family.{HasValue, Meets}
use Rattle.exact_steps.specs.Domains.{values_in, IsDomain}
use Rattle.value_sets.specs.Sets.{IsValueSet, AreApart}

pub record SetLaws : Type 0 where
  pub domains : (l : LayoutState) (t : Table) (v : VarId) (r : Ref)
      → IsDomain l t v r ↔ (IsValueSet l t v r × HasValue (values_in l t v r))
  pub grown : (l : LayoutState) (t u : Table) (v : VarId) (r : Ref) → Grows t u → IsValueSet l t v r
      → IsValueSet l u v r × (values_in l u v r ≡ values_in l t v r)
  pub meet : (l : LayoutState) (t : Table) (v : VarId) (f g : Ref)
      → Meets (values_in l t v f) (values_in l t v g) ⊎ AreApart (values_in l t v f) (values_in l t v g)
  pub one : (l : LayoutState) (t : Table) (v : VarId) (f g : Ref) → IsLayout l → IsReduced t → IsValueSet l t v f
      → IsValueSet l t v g
      → ((x : Value) → values_in l t v f x ≡ values_in l t v g x) → f ≡ g
