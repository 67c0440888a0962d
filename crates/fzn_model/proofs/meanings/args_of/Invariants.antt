use Rattle.std.specs.Prelude.{◌≡◌, drop, map}
use Rattle.fzn_model.specs.Lists.{behind, each_of}
use Rattle.fzn_model.specs.Entities.{arg_of}
use Rattle.fzn_model.specs.State.{naming_of}
use Rattle.fzn_model.specs.Shared.{arg_in}
use Rattle.fzn_model.proofs.meanings.args_of.Given as goal

-- the arguments so far, and those of the expressions that are left, are all
abbrev pub invariant-loop-expression : goal.invariant-loop-expression
invariant-loop-expression l =
    behind (map arg_in l.args.items) (each_of (arg_of (naming_of l.declared)) (drop l.expression-index l.expressions))
    ≡ each_of (arg_of (naming_of l.declared)) l.expressions
