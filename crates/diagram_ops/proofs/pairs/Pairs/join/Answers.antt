use Rattle.std.proofs.Common.{◌∙◌, min}
use Rattle.diagram_ops.proofs.Moves.{joins_pair}
use Rattle.diagram_ops.proofs.pairs.Pairs.join.Goals as goal

pub returns-in-Some-clause-joined : goal.returns-in-Some-clause-joined
returns-in-Some-clause-joined c = c.in-Some.ensures.found _ _

pub returns-in_ok-id-in-None-clause-joined : goal.returns-in_ok-id-in-None-clause-joined
returns-in_ok-id-in-None-clause-joined c =
    joins_pair _ c.args.self.now.pairs.items c.numbered.new.self.pairs.items (record { bit = c.lesser-bit.result; left = c.args.left; right = c.args.right }) c.in_ok-id-in-None.id
    c.requires.left_there c.requires.right_there c.in_ok-id-in-None.ensures.extends c.in_ok-id-in-None.ensures.at
    (c.lesser-bit.ensures ∙ (λ k. min (c.first_bit.ensures k) (c.first_bit-in-None.ensures k)))
