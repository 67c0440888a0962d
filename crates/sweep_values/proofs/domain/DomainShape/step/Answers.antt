use Rattle.sweep_values.proofs.Making.{ready, step_occurs}
use Rattle.sweep_values.proofs.domain.DomainShape.step.Goals as goal

pub settle-requires-clause-short : goal.settle-requires-clause-short
settle-requires-clause-short c =
    (ready c.args.self.now.width c.args.at c.in-Partly.prefix c.from.result c.args.state c.args.value c.requires.within c.in-Partly.is c.from.ensures c.requires.from).short

pub settle-requires-clause-small : goal.settle-requires-clause-small
settle-requires-clause-small c =
    (ready c.args.self.now.width c.args.at c.in-Partly.prefix c.from.result c.args.state c.args.value c.requires.within c.in-Partly.is c.from.ensures c.requires.from).small

pub returns-in-Partly-clause-to : goal.returns-in-Partly-clause-to
returns-in-Partly-clause-to c =
    step_occurs c.as_slice.result.now c.args.self.now.width c.args.at c.in-Partly.prefix c.from.result c.settle.result
    (ready c.args.self.now.width c.args.at c.in-Partly.prefix c.from.result c.args.state c.args.value c.requires.within c.in-Partly.is c.from.ensures c.requires.from) c.settle.ensures
