use Rattle.std.proofs.Common.{◌≡◌, ◌+◌, ℕ, List, length, drop, ap, ◌∙◌}
use Rattle.std.proofs.lemmas.List.{take_rest}
use Rattle.element_machine.specs.declared.marks.Entry.{Entry}
use Rattle.element_machine.specs.Reading.{first_element, no_entry}
use Rattle.element_machine.proofs.Elements.{next_within}
use Rattle.element_machine.proofs.reading.ByElementsMachine.step.Goals as goal

pub between-ended-requires-clause-order : goal.between-ended-requires-clause-order
between-ended-requires-clause-order g c =
    let entries : List Entry = c.args.self.now.entries.now in
    let end : ℕ = length c.args.self.now.constants.now in
    let next : c.first_element-next.result ≡ first_element end (drop (c.args.at + 1) entries) = c.first_element-next.ensures ∙ ap (first_element end) (take_rest entries (c.args.at + 1)) in
    rw next (next_within end entries c.args.at no_entry c.requires.valid c.requires.within).0

pub between-ended-requires-clause-within : goal.between-ended-requires-clause-within
between-ended-requires-clause-within g c =
    let entries : List Entry = c.args.self.now.entries.now in
    let end : ℕ = length c.args.self.now.constants.now in
    let next : c.first_element-next.result ≡ first_element end (drop (c.args.at + 1) entries) = c.first_element-next.ensures ∙ ap (first_element end) (take_rest entries (c.args.at + 1)) in
    rw next (next_within end entries c.args.at no_entry c.requires.valid c.requires.within).1
