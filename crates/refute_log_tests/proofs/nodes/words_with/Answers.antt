use Rattle.std.proofs.lemmas.Result.{IfOk-weaker}
use Rattle.diagram_arena.specs.Arena.{table}
use Rattle.diagram_arena.specs.Reach.{ReachesOnly}
use Rattle.refute_log.specs.Naming.{bits_of, IsOfOneVariable}
use Rattle.refute_log_tests.proofs.Ones.{own_bit, of_one}
use Rattle.refute_log_tests.proofs.nodes.words_with.Goals as goal

pub returns-clause-one : goal.returns-clause-one
returns-clause-one c =
    let l = c.args.layout.now in
    let t = table c.literal.new.self.arena in
    IfOk-weaker c.literal.result (ReachesOnly t (bits_of l c.args.v)) (IsOfOneVariable l t) (λ r reaches. of_one l t c.args.v r reaches)
    (c.literal.ensures.asks (bits_of l c.args.v) (own_bit l c.args.v c.bit.result c.args.position c.bit.ensures.place))
