use Rattle.plain_steps.specs.Sets.{family}
use Rattle.plain_search.specs.State.{entries_of}
use Rattle.plain_search.proofs.StandingLemmas.{nowhere_goes_on, root_goes_on, several_go_on}
use Rattle.plain_search.proofs.standing.stop.Goals as goal

pub returns-then-level-eq0 : goal.returns-then-level-eq0
returns-then-level-eq0 c =
    root_goes_on (entries_of c.args.changes.now) (family c.args.sides.now) c.in-One.level c.in-One.var c.if-level-eq0.true
    c.in-One.ensures.1

pub returns-in-Nowhere : goal.returns-in-Nowhere
returns-in-Nowhere c = nowhere_goes_on (entries_of c.args.changes.now) (family c.args.sides.now) c.in-Nowhere.ensures

pub returns-in-Several : goal.returns-in-Several
returns-in-Several c =
    several_go_on (entries_of c.args.changes.now) (family c.args.sides.now) c.in-Several.field-0 c.in-Several.ensures
