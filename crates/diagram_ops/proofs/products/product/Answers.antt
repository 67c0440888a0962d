use Rattle.std.proofs.lemmas.Result.{IfOk-weaker}
use Rattle.diagram_ops.specs.Meanings.{of_ref}
use Rattle.diagram_ops.proofs.Moves.{product_is}
use Rattle.diagram_ops.proofs.products.product.Goals as goal

pub join-requires-clause-left_there : goal.join-requires-clause-left_there
join-requires-clause-left_there c = (_, of_ref c.args.f c.requires.f_live)

pub returns-clause-product : goal.returns-clause-product
returns-clause-product c =
    IfOk-weaker c.join.result _ _ (λ p is. product_is _ c.len.ensures.reduced c.all.new.self.pairs.items c.join.new.self.pairs.items c.args.f c.args.gs.now c.in_ok-rest.rest p c.requires.f_live
    c.in_ok-rest.ensures.all is) c.join.ensures.joined
