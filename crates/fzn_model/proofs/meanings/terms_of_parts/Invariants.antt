use Rattle.std.specs.Prelude.{◌≡◌, drop, map}
use Rattle.fzn_model.specs.Lists.{behind, each_of}
use Rattle.fzn_model.specs.Entities.{term_of_part}
use Rattle.fzn_model.specs.State.{naming_of}
use Rattle.fzn_model.specs.Shared.{term_in}
use Rattle.fzn_model.proofs.meanings.terms_of_parts.Given as goal

-- the terms so far, and those of the items that are left, are all
abbrev pub invariant-loop-item : goal.invariant-loop-item
invariant-loop-item l =
    behind (map term_in l.terms.items) (each_of (term_of_part (naming_of l.declared)) (drop l.item-index l.items))
    ≡ each_of (term_of_part (naming_of l.declared)) l.items
