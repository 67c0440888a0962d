use Rattle.std.proofs.Common.{◌≡◌, drop}
use Rattle.std.specs.Prelude.{is_some}
use Rattle.fzn_model.specs.Entities.{term_of_part}
use Rattle.fzn_model.specs.Lists.{each_of}
use Rattle.fzn_model.specs.State.{naming_of}
use Rattle.fzn_model.proofs.term_counts.are_single.Given as goal

-- all are single terms where those that are left are
abbrev pub invariant-loop-item : goal.invariant-loop-item
invariant-loop-item l =
    is_some (each_of (term_of_part (naming_of l.declared)) (drop l.item-index l.items)) ≡ is_some (each_of (term_of_part (naming_of l.declared)) l.items)
