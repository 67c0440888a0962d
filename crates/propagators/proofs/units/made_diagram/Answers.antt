use Rattle.std.proofs.Common.{[], ◌∷◌, refl, sym, subst, ◌∙◌, append-nil}
use Rattle.diagram_arena.specs.Arena.{ArenaState, table}
use Rattle.propagators.specs.Compiled.{IsDiagramOfConstraint}
use Rattle.propagators.proofs.Holding.{on_err, adds, adds_none, constraint_units}
use Rattle.propagators.proofs.Reaching.{same_arena}
use Rattle.propagators.proofs.units.made_diagram.Goals as goal

pub hold-requires : goal.hold-requires
hold-requires c = c.in_ok-diagram.ensures.diagram.live

pub returns-clause-diagram : goal.returns-clause-diagram
returns-clause-diagram c =
    subst (λ (a : ArenaState). IsDiagramOfConstraint c.args.layout.now (table a) c.args.c.now c.in_ok-diagram.diagram) (sym (same_arena c.constraint_diagram.new.ops c.hold.new.ops c.hold.ensures.only)) c.in_ok-diagram.ensures.diagram

pub returns-clause-held : goal.returns-clause-held
returns-clause-held c =
    adds c.args.layout.now c.args.p.now c.args.ops.now c.begin_unit.new.self c.constraint_diagram.new.ops c.hold.new.ops c.args.pins.now c.hold.new.self (c.in_ok-diagram.diagram ∷ []) c.pool.ensures.pinned_live c.begin_unit.ensures.only c.constraint_diagram.ensures.leaves.stays
    (constraint_units c.args.layout.now c.args.p.now c.args.c.now (table c.begin_unit.new.self.arena) (table c.constraint_diagram.new.ops.arena) c.requires.listed c.constraint_diagram.ensures.leaves.parts)
    (same_arena c.constraint_diagram.new.ops c.hold.new.ops c.hold.ensures.only) c.in_ok-hold.ensures.gained c.in_ok-hold.ensures.listed

pub returns-in_err-diagram-clause-refused : goal.returns-in_err-diagram-clause-refused
returns-in_err-diagram-clause-refused c = on_err c.from_residual.result _ (
    adds_none c.args.layout.now c.args.p.now c.args.ops.now c.begin_unit.new.self c.constraint_diagram.new.ops c.args.pins.now c.args.pins.now c.pool.ensures.pinned_live c.begin_unit.ensures.only c.constraint_diagram.ensures.leaves.stays
    (constraint_units c.args.layout.now c.args.p.now c.args.c.now (table c.begin_unit.new.self.arena) (table c.constraint_diagram.new.ops.arena) c.requires.listed c.constraint_diagram.ensures.leaves.parts) refl)

pub returns-in_err-hold-clause-refused : goal.returns-in_err-hold-clause-refused
returns-in_err-hold-clause-refused c = on_err c.from_residual-in_err-hold.result _ (
    adds c.args.layout.now c.args.p.now c.args.ops.now c.begin_unit.new.self c.constraint_diagram.new.ops c.hold.new.ops c.args.pins.now c.hold.new.self [] c.pool.ensures.pinned_live c.begin_unit.ensures.only c.constraint_diagram.ensures.leaves.stays
    (constraint_units c.args.layout.now c.args.p.now c.args.c.now (table c.begin_unit.new.self.arena) (table c.constraint_diagram.new.ops.arena) c.requires.listed c.constraint_diagram.ensures.leaves.parts)
    (same_arena c.constraint_diagram.new.ops c.hold.new.ops c.hold.ensures.only) c.in_err-hold.ensures.ungained (c.in_err-hold.ensures.same ∙ sym (append-nil c.args.pins.now)))
