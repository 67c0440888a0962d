use Rattle.std.proofs.Common.{◌-◌, ◌∙◌, List, ap, get_or, arith}
use Rattle.sweep_table.specs.declared.table.Entry.{Entry}
use Rattle.sweep_table.proofs.Deepening.{deepest_here}
use Rattle.sweep_table.proofs.table.Table.deepest.Goals as goal

pub returns-clause-some : goal.returns-clause-some
returns-clause-some c =
    let entry = c.entry_at-entry.result in
    deepest_here c.self.inside c.args.self.now c.args.n entry c.self.view_is c.self.invariant (omega arith) c.requires
    (c.entry_at-entry.ensures ∙ ap (λ (es : List Entry). get_or es (c.args.n - 2) entry) c.as_slice.ensures.value)
