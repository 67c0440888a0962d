use Rattle.std.proofs.Common.{◌≡◌, ◌+◌, ◌<◌, ℕ, List, length, drop, sym, ap, ◌∙◌, subst}
use Rattle.std.proofs.lemmas.List.{take_rest}
use Rattle.sweep_sets.specs.declared.marks.Marks.{Marks}
use Rattle.sweep_sets.specs.declared.reading.Entry.{Entry}
use Rattle.sweep_sets.specs.Reading.{AreGrouped, first_element, no_entry}
use Rattle.sweep_sets.proofs.ReadElements.{next_within}
use Rattle.sweep_sets.proofs.shapes.SetShapeShape.step.Goals as goal

pub between-requires-clause-order : goal.between-requires-clause-order
between-requires-clause-order c =
    let own = c.args.self.now in
    let entries : List Entry = c.items-entries.result.now in
    let end : ℕ = length c.items-constants.result.now in
    let grouped : AreGrouped end entries = subst (AreGrouped end) (sym c.items-entries.ensures) (subst (λ (ms : List Marks). AreGrouped (length ms) own.entries) (sym c.items-constants.ensures) c.requires.valid) in
    let within : c.args.at < length entries = subst (λ (es : List Entry). c.args.at < length es) (sym c.items-entries.ensures) c.requires.within in
    let next : c.first_element-next.result ≡ first_element end (drop (c.args.at + 1) entries) = c.first_element-next.ensures ∙ ap (first_element end) (take_rest entries (c.args.at + 1)) in
    rw next (next_within end entries c.args.at no_entry grouped within).0

pub between-requires-clause-within : goal.between-requires-clause-within
between-requires-clause-within c =
    let own = c.args.self.now in
    let entries : List Entry = c.items-entries.result.now in
    let end : ℕ = length c.items-constants.result.now in
    let grouped : AreGrouped end entries = subst (AreGrouped end) (sym c.items-entries.ensures) (subst (λ (ms : List Marks). AreGrouped (length ms) own.entries) (sym c.items-constants.ensures) c.requires.valid) in
    let within : c.args.at < length entries = subst (λ (es : List Entry). c.args.at < length es) (sym c.items-entries.ensures) c.requires.within in
    let next : c.first_element-next.result ≡ first_element end (drop (c.args.at + 1) entries) = c.first_element-next.ensures ∙ ap (first_element end) (take_rest entries (c.args.at + 1)) in
    rw next (next_within end entries c.args.at no_entry grouped within).1
