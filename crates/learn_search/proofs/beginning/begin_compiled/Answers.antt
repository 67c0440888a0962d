use Rattle.diagram_arena.specs.Arena.{table}
use Rattle.learn_search.proofs.Starting.{start_live}
use Rattle.learn_search.proofs.Begins.{is_begun}
use Rattle.learn_search.proofs.beginning.begin_compiled.Goals as goal

pub new-requires : goal.new-requires
new-requires c = start_live c.args.p.now c.args.layout (table c.args.ops.now.arena) c.args.compiled c.start.result.now c.requires.compiled c.start.ensures

pub returns-clause-begun : goal.returns-clause-begun
returns-clause-begun c =
    is_begun c.args.p.now c.args.ops.now c.new.new.ops _ c.start.result.now c.requires.compiled c.requires.held c.in-Ok-new.ensures.only c.in-Ok-new.ensures.gained c.start.ensures
    c.first_states_are_legal.ensures c.legal_states_have_trails.ensures c.in-Ok-new.ensures.begun c.new-2.ensures c.in-Ok.ensures
