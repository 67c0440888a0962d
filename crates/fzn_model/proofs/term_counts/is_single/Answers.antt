use Rattle.fzn_model.specs.State.{known_of, naming_of}
use Rattle.fzn_model.proofs.Parts.{entity_known}
use Rattle.fzn_model.proofs.term_counts.is_single.Goals as goal

pub returns-in-Name : goal.returns-in-Name
returns-in-Name c =
    rw c.in-Name.is
    (c.names_single.ensures (naming_of c.args.declared.now) c.in-Name.name
    (entity_known c.known.result (known_of c.args.declared.now c.in-Name.name) (rw c.items.ensures at c.known.ensures)))
