use Rattle.std.proofs.Common.{◌≡◌, true, rules, sym, ◌∙◌}
use Rattle.diagram_arena.specs.Arena.{unmarked}
use Rattle.diagram_arena.proofs.Marks.{retained, cleared, kept_cleared, table_cleared, get_cleared, len_cleared}
use Rattle.diagram_arena.proofs.Kept.{limit-state_of}
use Rattle.diagram_arena.proofs.hash_consing.Arena.clear_marks.Goals as goal

now : (c : goal.After-retain) → c.retain.new.self.slots ≡ cleared c.self.inside.nodes.slots
now c = retained _ (λ n. true) unmarked _ (λ key shown keep left next step. search rules) 0 c.self.inside.nodes.slots c.retain.new.self.slots c.retain.ensures.retained

pub invariant_of-self : goal.invariant_of-self
invariant_of-self c = rw (now c) (kept_cleared c.self.inside.nodes.slots c.self.inside.limit c.self.inside.ids.entries c.self.invariant)

pub returns-clause-cleared : goal.returns-clause-cleared
returns-clause-cleared c = rw (← c.self.view_is, now c) (get_cleared c.self.inside.nodes.slots c.self.inside.limit)

pub returns-clause-table : goal.returns-clause-table
returns-clause-table c = rw (← c.self.view_is, now c) (table_cleared c.self.inside.nodes.slots c.self.inside.limit)

pub returns-clause-count : goal.returns-clause-count
returns-clause-count c = rw (← c.self.view_is, now c) (len_cleared c.self.inside.nodes.slots c.self.inside.limit)

pub returns-clause-limit : goal.returns-clause-limit
returns-clause-limit c =
    rw (← c.self.view_is) (limit-state_of c.retain.new.self.slots c.self.inside.limit ∙ sym (limit-state_of c.self.inside.nodes.slots c.self.inside.limit))
