use Rattle.std.proofs.Common.{◌≡◌, drop}
use Rattle.std.specs.Prelude.{map}
use Rattle.std.specs.List.{list_all}
use Rattle.fzn_model.specs.Shapes.{is_constant}
use Rattle.fzn_model.specs.Shared.{term_in}
use Rattle.fzn_model.proofs.typing.are_constant.Given as goal

-- all are constants where those that are left are
abbrev pub invariant-loop-term : goal.invariant-loop-term
invariant-loop-term l = list_all is_constant (map term_in (drop l.term-index l.terms)) ≡ list_all is_constant (map term_in l.terms)
