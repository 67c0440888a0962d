use Rattle.sweep_values.proofs.Making.{small_at_start, start_occurs}
use Rattle.sweep_values.proofs.domain.DomainShape.start.Goals as goal

pub settle-requires-clause-small : goal.settle-requires-clause-small
settle-requires-clause-small c = small_at_start c.args.self.now.width c.args.self.now.free c.requires.1 c.if-self.false

pub returns-clause-first : goal.returns-clause-first
returns-clause-first c =
    start_occurs c.args.self.now.offsets.items c.as_slice.result.now c.args.self.now.width c.args.self.now.free c.settle.result c.requires.1 c.if-self.false c.settle.ensures
