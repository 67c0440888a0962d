use Rattle.std.proofs.lemmas.Result.{IfOk-weaker}
use Rattle.fzn_model.specs.State.{known_of, naming_of}
use Rattle.fzn_model.proofs.Parts.{entity_known, number_elements}
use Rattle.fzn_model.proofs.expressions.seen_in.Goals as goal

pub returns-in-Num : goal.returns-in-Num
returns-in-Num c =
    let naming = naming_of c.args.declared.now in
    rw c.in-Num.is (record { fault = c.fault_of_number.ensures naming; elements = number_elements naming c.in-Num.num })

pub returns-in-Set : goal.returns-in-Set
returns-in-Set c =
    let naming = naming_of c.args.declared.now in
    IfOk-weaker c.seen_in_set.result _ _ (λ seen h. rw c.in-Set.is (h naming)) c.seen_in_set.ensures

pub returns-in-Name : goal.returns-in-Name
returns-in-Name c =
    let naming = naming_of c.args.declared.now in
    rw c.in-Name.is
    (c.seen_in_name.ensures naming c.in-Name.name
    (entity_known c.known.result (known_of c.args.declared.now c.in-Name.name) (rw c.items.ensures at c.known.ensures)))
