-- A constraint in which a variable has been given a value. This project's own.
use Rattle.std.specs.Prelude.{◌≡◌, ℕ, ◌==◌, Bool, true, not, cond, List, map}
use Rattle.std.specs.List.{filter}
use Rattle.std.specs.Option.{option_map}
use Rattle.set_meaning.specs.declared.kinds.Kind.{Kind}
use Rattle.set_meaning.specs.declared.kinds.Value.{Value}
use Rattle.set_meaning.specs.declared.problems.VarId.{VarId}
use Rattle.set_meaning.specs.declared.problems.Term.{Term}
use Rattle.set_meaning.specs.declared.problems.Term.TheVariants.{Const, Var}
use Rattle.set_meaning.specs.declared.problems.Arg.{Arg}
use Rattle.set_meaning.specs.declared.problems.Arg.TheVariants.{One, Many}
use Rattle.set_meaning.specs.declared.problems.Constraint.{Constraint}
use Rattle.log_rules.specs.declared.nodes.Node.{Node}
use Rattle.log_rules.specs.Boxes.{Sides, IsInitial, side_of, SomeSatisfy}

-- the value in the place of the variable
abbrev pub fixed_term : VarId → Value → Term → Term
fixed_term v x (Const own) = Const own
fixed_term v x (Var u) = cond (u.0 == v.0) (Const x) (Var u)

abbrev pub fixed_arg : VarId → Value → Arg → Arg
fixed_arg v x (One t) = One (fixed_term v x t)
fixed_arg v x (Many ts) = Many (map (fixed_term v x) ts)

abbrev pub fixed : VarId → Value → Constraint → Constraint
fixed v x c = record { relation = c.relation; args = map (fixed_arg v x) c.args; reif = option_map (fixed_term v x) c.reif }

-- the side is of another variable
abbrev pub is_other : ℕ → ℕ × ℕ → Bool
is_other v side = not (side.0 == v)

-- the sides of the other variables
abbrev pub others : ℕ → Sides → Sides
others v sides = filter (is_other v) sides

-- for some initial value of the variable in its side, others satisfy the constraint that has the value in place
pub record SomeFixed (kinds : List Kind) (table : List Node) (sides : Sides) (c : Constraint) (v : VarId) : Type 0 where
  pub value : Value
  pub initial : IsInitial kinds v.0 value
  pub inside : side_of kinds table sides v.0 value ≡ true
  pub satisfied : SomeSatisfy kinds table (others v.0 sides) (fixed v value c)
