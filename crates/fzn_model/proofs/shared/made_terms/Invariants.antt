use Rattle.std.proofs.Common.{◌≡◌, take}
use Rattle.std.specs.Prelude.{map}
use Rattle.fzn_model.specs.Shared.{term_in}
use Rattle.fzn_model.proofs.shared.made_terms.Given as goal

abbrev pub invariant-loop-term : goal.invariant-loop-term
invariant-loop-term l = l.made.items ≡ map term_in (take l.term-index l.terms)
