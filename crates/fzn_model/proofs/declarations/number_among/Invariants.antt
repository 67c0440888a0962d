use Rattle.std.proofs.Common.{take}
use Rattle.fzn_model.specs.FirstFault.{IsFirstOf}
use Rattle.fzn_model.specs.DeclarationRules.{HasNumberFault}
use Rattle.fzn_model.proofs.declarations.number_among.Given as goal

-- the first fault of the numbers so far
abbrev pub invariant-loop-number : goal.invariant-loop-number
invariant-loop-number l = IsFirstOf (HasNumberFault (take l.number-index l.numbers)) l.first
