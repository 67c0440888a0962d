use Rattle.std.proofs.Common.{[], ◌∷◌, refl, sym, subst, ◌∙◌, append-nil}
use Rattle.diagram_arena.specs.Arena.{ArenaState, table}
use Rattle.propagators.specs.Compiled.{IsInitialDomain}
use Rattle.propagators.proofs.Holding.{on_err, adds, adds_none, variable_units}
use Rattle.propagators.proofs.Reaching.{same_arena}
use Rattle.propagators.proofs.units.made_domain.Goals as goal

pub hold-requires : goal.hold-requires
hold-requires c = c.in_ok-r.ensures.domain.domain.diagram.live

pub returns-clause-domain : goal.returns-clause-domain
returns-clause-domain c =
    subst (λ (a : ArenaState). IsInitialDomain c.args.layout.now (table a) c.args.v c.in_ok-r.r) (sym (same_arena c.initial_domain.new.ops c.hold.new.ops c.hold.ensures.only)) c.in_ok-r.ensures.domain

pub returns-clause-held : goal.returns-clause-held
returns-clause-held c =
    adds c.args.layout.now c.args.p.now c.args.ops.now c.begin_unit.new.self c.initial_domain.new.ops c.hold.new.ops c.args.pins.now c.hold.new.self (c.in_ok-r.r ∷ []) c.pool.ensures.pinned_live c.begin_unit.ensures.only c.initial_domain.ensures.stays
    (variable_units c.args.layout.now c.args.p.now c.args.v c.args.kind.now (table c.begin_unit.new.self.arena) (table c.initial_domain.new.ops.arena) c.requires.layout c.requires.kind c.initial_domain.ensures.parts)
    (same_arena c.initial_domain.new.ops c.hold.new.ops c.hold.ensures.only) c.in_ok-hold.ensures.gained c.in_ok-hold.ensures.listed

pub returns-in_err-r-clause-refused : goal.returns-in_err-r-clause-refused
returns-in_err-r-clause-refused c = on_err c.from_residual.result _ (
    adds_none c.args.layout.now c.args.p.now c.args.ops.now c.begin_unit.new.self c.initial_domain.new.ops c.args.pins.now c.args.pins.now c.pool.ensures.pinned_live c.begin_unit.ensures.only c.initial_domain.ensures.stays
    (variable_units c.args.layout.now c.args.p.now c.args.v c.args.kind.now (table c.begin_unit.new.self.arena) (table c.initial_domain.new.ops.arena) c.requires.layout c.requires.kind c.initial_domain.ensures.parts) refl)

pub returns-in_err-hold-clause-refused : goal.returns-in_err-hold-clause-refused
returns-in_err-hold-clause-refused c = on_err c.from_residual-in_err-hold.result _ (
    adds c.args.layout.now c.args.p.now c.args.ops.now c.begin_unit.new.self c.initial_domain.new.ops c.hold.new.ops c.args.pins.now c.hold.new.self [] c.pool.ensures.pinned_live c.begin_unit.ensures.only c.initial_domain.ensures.stays
    (variable_units c.args.layout.now c.args.p.now c.args.v c.args.kind.now (table c.begin_unit.new.self.arena) (table c.initial_domain.new.ops.arena) c.requires.layout c.requires.kind c.initial_domain.ensures.parts)
    (same_arena c.initial_domain.new.ops c.hold.new.ops c.hold.ensures.only) c.in_err-hold.ensures.ungained (c.in_err-hold.ensures.same ∙ sym (append-nil c.args.pins.now)))
