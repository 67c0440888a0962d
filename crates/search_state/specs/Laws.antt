-- What is known of value sets: laws of that crate, as one record. Words of private helpers.
use Rattle.std.specs.Prelude.{◌≡◌, ◌↔◌}
use Rattle.set_meaning.specs.declared.problems.VarId.{VarId}
use Rattle.bit_layout.specs.Order.{LayoutState}
use Rattle.diagram_arena.specs.declared.nodes.Ref.{Ref}
use Rattle.diagram_arena.specs.Table.{Word, Table, has, IsLive}
use Rattle.search_rules.specs.Family.{HasValue}
use Rattle.exact_steps.specs.Domains.{values_in, IsDomain}
use Rattle.value_sets.specs.Sets.{IsValueSet}

pub record SetLaws : Type 0 where
  pub domains : (l : LayoutState) (t : Table) (v : VarId) (r : Ref)
      → IsDomain l t v r ↔ (IsValueSet l t v r × HasValue (values_in l t v r))
  pub set : (l : LayoutState) (t u : Table) (v : VarId) (r : Ref) → IsLive u r → ((w : Word) → has u r w ≡ has t r w)
      → IsValueSet l t v r → IsValueSet l u v r
  pub values : (l : LayoutState) (t u : Table) (v : VarId) (r : Ref) → ((w : Word) → has u r w ≡ has t r w)
      → values_in l u v r ≡ values_in l t v r
