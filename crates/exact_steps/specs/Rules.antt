-- When a constraint is one of a problem of search_rules. This project's own.
use Rattle.std.specs.Prelude.{◌≡◌, ℕ, ◌↔◌, true, List, map, length, Contains}
use Rattle.std.specs.List.{range_with_len}
use Rattle.set_meaning.specs.declared.kinds.Value.{Value}
use Rattle.set_meaning.specs.declared.problems.VarId.{VarId}
use Rattle.bit_layout.specs.Order.{LayoutState}
use Rattle.search_rules.specs.Problem.{Problem}
use Rattle.exact_steps.specs.Domains.{variable}

-- the first `count` values
abbrev pub listed : ℕ → (ℕ → Value) → List Value
listed count a = map a (range_with_len 0 count)

-- constraint number c of the problem speaks of the variables of the scope, and says C of the values of all variables
pub record IsConstraintOf (p : Problem Value) (c : ℕ) (l : LayoutState) (scope : List VarId) (C : List Value → Type 0) : Type 0 where
  pub scoped : (v : ℕ) → (p.scope c v ≡ true) ↔ Contains scope (variable v)
  pub holds : (a : ℕ → Value) → p.holds c a ↔ C (listed (length l.kinds) a)
