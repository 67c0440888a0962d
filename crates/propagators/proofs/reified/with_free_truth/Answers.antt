use Rattle.diagram_arena.specs.Arena.{table}
use Rattle.exact_steps.proofs.Wanted.{diagram_grows}
use Rattle.scope_words.specs.Words.{variables_in}
use Rattle.propagators.specs.Units.{Relates}
use Rattle.propagators.proofs.Leaving.{leaves_then}
use Rattle.propagators.proofs.Building.{truth_kind}
use Rattle.propagators.proofs.reified.with_free_truth.Goals as goal

pub cases_joined-requires-clause-boolean : goal.cases_joined-requires-clause-boolean
cases_joined-requires-clause-boolean c = truth_kind c.args.layout.now c.args.p.now.kinds c.args.c.now c.args.v c.requires.layout c.requires.fits c.requires.truth

pub cases_joined-requires-clause-holding : goal.cases_joined-requires-clause-holding
cases_joined-requires-clause-holding c =
    diagram_grows c.args.layout.now (variables_in c.args.c.now.args) (Relates c.args.c.now) (table c.args.ops.now.arena) (table c.failing.new.ops.arena) c.args.holding c.failing.ensures.leaves.stays.grows c.requires.holding

pub returns-clause-leaves : goal.returns-clause-leaves
returns-clause-leaves c = leaves_then c.args.layout.now c.args.c.now c.args.ops.now c.failing.new.ops c.cases_joined.new.ops c.failing.ensures.leaves c.cases_joined.ensures.leaves
