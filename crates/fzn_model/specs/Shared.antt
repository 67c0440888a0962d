-- What stands for terms while a text is read: constant sets are shared, and nothing is copied where a name is used.
-- Words of private helpers.
use Rattle.std.specs.Prelude.{List, map, option_to_list, ℤ}
use Rattle.std.specs.List.{flat_map}
use Rattle.std.specs.Option.{option_map}
use Rattle.set_meaning.specs.declared.kinds.Value.TheVariants as value
use Rattle.set_meaning.specs.declared.problems.VarId.{VarId}
use Rattle.set_meaning.specs.declared.problems.Term.{Term}
use Rattle.set_meaning.specs.declared.problems.Term.TheVariants as term
use Rattle.set_meaning.specs.declared.problems.Arg.{Arg}
use Rattle.set_meaning.specs.declared.problems.Arg.TheVariants as arg
use Rattle.set_meaning.specs.declared.problems.Constraint.{Constraint}
use Rattle.set_meaning.specs.Sets.{integers_between}
use Rattle.set_meaning.specs.Relations.{variable_of}
use Rattle.fzn_model.specs.declared.shared.SharedSet.{SharedSet}
use Rattle.fzn_model.specs.declared.shared.SharedSet.TheVariants as sets
use Rattle.fzn_model.specs.declared.shared.SharedTerm.{SharedTerm}
use Rattle.fzn_model.specs.declared.shared.SharedTerm.TheVariants as shared
use Rattle.fzn_model.specs.declared.shared.SharedArg.{SharedArg}
use Rattle.fzn_model.specs.declared.shared.SharedArg.TheVariants as args
use Rattle.fzn_model.specs.declared.shared.SharedConstraint.{SharedConstraint}
use Rattle.fzn_model.specs.declared.entities.SharedEntity.{SharedEntity}
use Rattle.fzn_model.specs.Entities.{Entity}

-- the elements of the set
abbrev pub set_in : SharedSet → List ℤ
set_in (sets.Range range) = integers_between range.low range.high
set_in (sets.List set) = set.value

-- the term that is meant
abbrev pub term_in : SharedTerm → Term
term_in (shared.Bool truth) = term.Const (value.Bool truth)
term_in (shared.Int x) = term.Const (value.Int x)
term_in (shared.Set set) = term.Const (value.Set (set_in set))
term_in (shared.Var variable) = term.Var variable

-- the argument that is meant
abbrev pub arg_in : SharedArg → Arg
arg_in (args.One t) = arg.One (term_in t)
arg_in (args.Many terms) = arg.Many (map term_in terms.value.items)

-- the constraint that is meant
abbrev pub constraint_in : SharedConstraint → Constraint
constraint_in c = record { relation = c.relation; args = map arg_in c.args.items; reif = option_map term_in c.reif }

-- what the name stands for
abbrev pub entity_in : SharedEntity → Entity
entity_in e = record { sort = e.sort; arg = arg_in e.arg }

-- the variable that the term is, if it is one
abbrev pub variables_in : SharedTerm → List VarId
variables_in t = option_to_list (variable_of (term_in t))

-- the variables of an argument, in order
abbrev pub variables_in_arg : SharedArg → List VarId
variables_in_arg (args.One t) = variables_in t
variables_in_arg (args.Many terms) = flat_map variables_in terms.value.items
